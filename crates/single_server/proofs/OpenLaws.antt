-- An empty log is made where the disk is blank.
use Rattle.std.proofs.Common.{◌≡◌, ◌≢◌, ◌⊎◌, inl, inr, ℕ, ◌+◌, ◌<◌, ◌≤◌, List, [], ◌∷◌, Result, Ok, Err, replicate, refl, sym, subst, arith}
use Rattle.std.specs.Prelude.{IsTrue}
use Rattle.causes.specs.Counts.{Rose}
use Rattle.disk_core.specs.Calls.{Made, SameDisk, claim, sync}
use Rattle.disk_core.specs.Images.{EachImage}
use Rattle.disk_core.specs.Views.{DiskView, Passes}
use Rattle.context_handles.specs.Table as handles
use Rattle.quorum_log.specs.declared.fault.OpenFault.TheVariants as open_faults
use Rattle.quorum_log.specs.declared.found.Found.{Found}
use Rattle.quorum_log.specs.Formats.{FormatCalls, IsFormatted, IsInFormat}
use Rattle.quorum_log.specs.Opening.{IsBlank, IsInOpen, OpenCalls}
use Rattle.registry_defs.proofs.Held.{root_text}
use Rattle.record_log.specs.declared.fault.RecordFault.{RecordFault}
use Rattle.record_log.specs.declared.fault.RecordFault.TheVariants as records
use Rattle.record_log.specs.Opening.{OpensTo}
use Rattle.cluster_rules.specs.declared.effect.Effect.{Effect}
use Rattle.cluster_rules.specs.declared.effect.Effect.TheVariants.{Halted}
use Rattle.cluster_rules.specs.declared.effect.HaltCause.{HaltCause}
use Rattle.cluster_rules.specs.declared.effect.HaltCause.TheVariants as halt
use Rattle.single_items.specs.Alone.{begins_alone}
use Rattle.single_node.specs.declared.fault.StartFault.{StartFault}
use Rattle.single_node.specs.declared.fault.StartFault.TheVariants as start
use Rattle.single_node.specs.Opening.{OnlyClaims, cause_for, opened_with}
use Rattle.single_node.specs.Singles.{Opens, SingleState}
use Rattle.single_server.specs.declared.ended.Ended.{Ended}
use Rattle.single_server.specs.declared.ended.Ended.TheVariants.{BadLog, DiskFault, Done, Fenced, NoMemory, ReadFault, WriteFault}
use Rattle.single_server.specs.Begins.{Counts, Holds, IsBegun, MakesLog, NotBegun, WasMade, new_cap, new_state}
use Rattle.single_server.specs.Endings.{ended_at, ended_by}
use Rattle.single_server.proofs.Tokens.{rose_from}
use Rattle.single_server.proofs.Written.{same_then}

pub zeros : replicate 16 0 ≡ new_state
unfolding new_state
zeros = root_text

pub made_of : (state : List ℕ) (v w : DiskView) → state ≡ new_state → v.current.held ≤ 1 → w.current.held ≡ 1 → (IsTrue v.tells → IsFormatted new_cap state w) → FormatCalls 1 new_cap state v (Ok tt) w
    → (IsTrue v.tells → Passes (EachImage (IsInFormat v.current new_cap state)) v w) → WasMade v w
made_of state v w is before held formatted calls moments = record {
  held_before = before;
  held = held;
  formatted = λ told. subst (λ (s : List ℕ). IsFormatted new_cap s w) is (formatted told);
  calls = subst (λ (s : List ℕ). FormatCalls 1 new_cap s v (Ok tt) w) is calls;
  any_moment = λ told. subst (λ (s : List ℕ). Passes (EachImage (IsInFormat v.current new_cap s)) v w) is (moments told);
}

-- ---- the records were counted

-- The claim was taken, so the disk held no greater token.
claimed : (v u : DiskView) → Made (claim 1 ∷ sync 1 ∷ []) v (Ok tt) u → v.current.held ≤ 1
unfolding Made
claimed v u (inl (at, (ok, step), more)) = step.answer.0
claimed v u (inr (fault, step, other)) = absurd (cc)

held_at_most : (v w : DiskView) (found : Found) → OpenCalls 1 v (Ok found) w → v.current.held ≤ 1
held_at_most v w found (inl (u, made, reads)) = claimed v u made
held_at_most v w found (inr (fault, made, other)) = absurd (cc)

module _ (count : ℕ) (v ready : DiskView) where
  held_before : Holds count v ready → v.current.held ≤ 1
  held_before (inl (found, has, is)) = held_at_most v ready found has.calls
  held_before (inr (blank, is)) = blank.blank.held_before

  held_now : Holds count v ready → ready.current.held ≡ 1
  held_now (inl (found, has, is)) = has.held
  held_now (inr (blank, is)) = blank.made.held

pub counts_made : (v u w : DiskView) (r : Result ℕ Ended) → IsBlank 1 v u → OpenCalls 1 v (Err open_faults.Blank) u → (IsTrue v.tells → Passes (IsInOpen v.current 1) v u) → SameDisk v u → MakesLog u r w → Counts v r w
counts_made v u w (Ok count) blank looked moments same (made, is) = inr (record { between = u; same_disk = same; blank = blank; looked = looked; any_moment = moments; made = made }, is)
counts_made v u w (Err DiskFault) blank looked moments same (held, rose) = (blank.held_before, rose_from v.faults u.faults w.faults same.faults rose)
counts_made v u w (Err (Fenced h)) blank looked moments same (later, is) = (let e = blank.held in absurd (omega (arith, later, e)))
counts_made v u w (Err Done) blank looked moments same made = absurd made
counts_made v u w (Err ReadFault) blank looked moments same made = absurd made
counts_made v u w (Err WriteFault) blank looked moments same made = absurd made
counts_made v u w (Err NoMemory) blank looked moments same made = absurd made
counts_made v u w (Err (BadLog place)) blank looked moments same made = absurd made

-- ---- the node opens

pub begun : (stamp count : ℕ) (v ready w : DiskView) (s : SingleState) → Holds count v ready → Opens (count + 1) stamp ready (Ok s) w → SameDisk v ready → SameDisk ready w → IsBegun stamp v s w
begun stamp count v ready w s holds (y, es, is, o) before after = record {
  first = begins_alone (opened_with 1 (count + 1) 1 stamp o.recovered) (handles.fresh 1) 0;
  inc = count + 1;
  node = y;
  runs = is;
  begins = record {
    count = count;
    ready = ready;
    same_before = before;
    holds = holds;
    log = o.log;
    recovered = o.recovered;
    opened = o.opened;
    claims = o.claims;
    same_disk = same_then v ready w before after;
    has = o.has;
    is = refl;
    node = y;
    kept = refl;
    unconnected = o.unconnected;
  };
  unconnected = o.unconnected;
}

module _ (stamp count inc : ℕ) (v ready w : DiskView) (holds : Holds count v ready) (same : SameDisk v ready) where
  by_fault : (fault : RecordFault) (cause : HaltCause) → fault ≢ records.Memory → OpensTo 1 ready (Err fault) w → OnlyClaims 1 ready w
      → ◌≡◌ {A = List Effect} (Halted cause ∷ []) (Halted (cause_for fault) ∷ []) → NotBegun (ended_by cause) v w
  by_fault records.Failed cause had (held, rose) claims e =
      let is : cause ≡ halt.Disk = cc in subst (λ (k : HaltCause). NotBegun (ended_by k) v w) (sym is) (held_before count v ready holds, rose_from v.faults ready.faults w.faults same.faults rose)
  by_fault (records.Fenced h) cause had (later, is) claims e = (let n = held_now count v ready holds in absurd (omega (arith, later, n)))
  by_fault (records.Image place) cause had (held, bad) claims e =
      let is : cause ≡ halt.Image place = cc in subst (λ (k : HaltCause). NotBegun (ended_by k) v w) (sym is) (held_before count v ready holds, inr (count, ready, holds, same, bad, claims))
  by_fault records.Memory cause had opens claims e = absurd (had refl)

  pub not_begun : (fault : StartFault) → Opens inc stamp ready (Err fault) w → NotBegun (ended_at fault) v w
  not_begun start.Memory h = held_before count v ready holds
  not_begun (start.Halted cause) h = by_fault h.fault cause h.had_memory h.opens h.claims h.effects
