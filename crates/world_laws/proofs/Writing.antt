-- What the calls of the owner of the log come to.
use Rattle.std.proofs.Common.{◌≡◌, ℕ, Bool, true, false, IsTrue, List, length, Option, Some, None, Result, Ok, Err, refl, sym, ap, ◌∙◌, subst}
use Rattle.std.specs.List.{AllByRecursion}
use Rattle.update_records.specs.Entry.{Entry, IsRecord, record_text}
use Rattle.registry_defs.specs.Contents.{IsCap}
use Rattle.registry_defs.specs.Spelling.{registry_text}
use Rattle.disk_core.specs.Views.{DiskView, Passes}
use Rattle.quorum_log.specs.Logs.{LogValue, begun}
use Rattle.quorum_log.proofs.Moments.{passes_here, passes_weaken}
use Rattle.cluster_rules.specs.Joins.{last_of}
use Rattle.cluster_rules.specs.Machines.{registry_at}
use Rattle.cluster_rules.specs.Nodes.{Replica}
use Rattle.cluster_rules.specs.Worlds.{Log, append, leave}
use Rattle.registry_machine.specs.Machine.{ReplicatedRegistry, registry_machine}
use Rattle.log_order.specs.OrderLaws.{IsNext, state_text}
use Rattle.log_order.specs.Orders.{last_text}
use Rattle.log_order.specs.Refinement.{MomentOf, Owns, Refines}
use Rattle.log_order.proofs.Behind.{keys_behind, within}
use Rattle.log_order.proofs.Crashes.{now_refines}
use Rattle.log_order.proofs.Writes.{add_moments, append_moments, append_refines, checkpoint_moments, checkpoint_refines, doubt_weakens}
use Rattle.record_log.specs.declared.fault.AddFault.{AddFault}
use Rattle.record_log.specs.declared.fault.AddFault.TheVariants as add
use Rattle.record_log.specs.Adding.{Adds, AddsBehind, AppendsTo, Checkpoints, CheckpointsTo}
use Rattle.cluster_member.specs.Logging.{replica_bytes}

still_tells : (v w : DiskView) → w.tells ≡ v.tells → IsTrue v.tells → IsTrue w.tells
still_tells v w same told = subst (λ (b : Bool). IsTrue b) (sym same) told

-- ---- a record

-- what the log and the disk are behind the calls
abbrev pub AddedTo : Log → Entry → ℕ → LogValue → DiskView → Result LogValue AddFault → Type 0
AddedTo l e view old d (Ok new) = Refines (append (Some e) view l) d × Owns (append (Some e) view l) d new × (new.claim ≡ old.claim)
AddedTo l e view old d (Err (add.Append fault)) = Refines (leave (Some e) view l) d
AddedTo l e view old d (Err (add.Checkpoint fault)) = Refines l d
AddedTo l e view old d (Err add.Memory) = Unit {0}

pub record Added (l : Log) (e : Entry) (view : ℕ) (old : LogValue) (v d : DiskView) (added : Result LogValue AddFault) : Type 0 where
  pub comes : AddedTo l e view old d added
  pub moments : Passes (MomentOf (leave (Some e) view l)) v d
  pub tells : IsTrue d.tells

append_part : (l : Log) (e : Entry) (view : ℕ) (log : LogValue) (v d : DiskView) (r : Result LogValue AddFault) → Refines l v → Owns l v log → log.version ≡ 2 → IsNext l.order e
    → AppendsTo log (record_text e) v r d → Added l e view log v d r
append_part l e view log v d (Ok new) refines o version next a =
    let claim : new.claim ≡ log.claim = ap (λ (g : LogValue). g.claim) a.value in
    let both = append_refines l v d log new e view refines o version next (a.stands o.found o.stands) claim a.held in
    record {
      comes = (both.0, both.1, claim);
      moments = append_moments l v d log e view refines o version next (a.any_moment o.found o.stands);
      tells = still_tells v d a.same.tells refines.tells;
    }
append_part l e view log v d (Err (add.Append fault)) refines o version next a =
    let moments = append_moments l v d log e view refines o version next (a.any_moment o.found o.stands) in
    let tells = still_tells v d a.same.tells refines.tells in
    record { comes = now_refines (leave (Some e) view l) v d tells moments; moments = moments; tells = tells }
append_part l e view log v d (Err (add.Checkpoint fault)) refines o version next a = absurd a
append_part l e view log v d (Err add.Memory) refines o version next a = absurd a

no_call : (l : Log) (e : Entry) (view : ℕ) (old : LogValue) (v d : DiskView) → Refines l v → l.doubtful ≡ None → d ≡ v → Added l e view old v d (Err add.Memory)
no_call l e view old v d refines sure same = record {
  comes = tt;
  moments = subst (λ (u : DiskView). Passes (MomentOf (leave (Some e) view l)) v u) (sym same) (passes_here (MomentOf (leave (Some e) view l)) v (doubt_weakens l v.current e view sure refines.now));
  tells = subst (λ (u : DiskView). IsTrue u.tells) (sym same) refines.tells;
}

pub record Begun (l : Log) (old new : LogValue) (v u : DiskView) : Type 0 where
  pub refines : Refines l u
  pub owns : Owns l u new
  pub moments : Passes (MomentOf l) v u

begins : (l : Log) (log new : LogValue) (v u : DiskView) → Refines l v → Owns l v log → AllByRecursion IsRecord l.order
    → Checkpoints log (state_text l.cap l.order) (last_text (last_of l.order)) v (Ok new) u → Begun l log new v u
begins l log new v u refines o all c =
    let claim : new.claim ≡ log.claim = ap (λ (g : LogValue). g.claim) c.value in
    let both = checkpoint_refines l v u log new refines o all (c.stands o.found o.stands) claim c.held in
    record { refines = both.0; owns = both.1; moments = checkpoint_moments l v u log refines o all (c.any_moment o.found o.stands) }

behind : (l : Log) (e : Entry) (view : ℕ) (log : LogValue) (v d : DiskView) (r : Result LogValue AddFault) → Refines l v → Owns l v log → AllByRecursion IsRecord l.order → IsNext l.order e
    → AddsBehind log (state_text l.cap l.order) (last_text (last_of l.order)) (record_text e) v r d → Added l e view log v d r
behind l e view log v d r refines o all next a =
    let u = a.0 in
    let mid : LogValue = begun log (length (state_text l.cap l.order)) (length (last_text (last_of l.order))) in
    let b = begins l log mid v u refines o all a.1 in
    let p = append_part l e view mid u d r b.refines b.owns refl next a.2 in
    record { comes = claims r p.comes; moments = add_moments l v u d e view o.sure b.moments p.moments; tells = p.tells }
  where
    claims : (r : Result LogValue AddFault) → AddedTo l e view (begun log (length (state_text l.cap l.order)) (length (last_text (last_of l.order)))) d r → AddedTo l e view log d r
    claims (Ok new) c = c
    claims (Err (add.Append fault)) c = c
    claims (Err (add.Checkpoint fault)) c = c
    claims (Err add.Memory) c = tt

pub adds : (due : Bool) (l : Log) (e : Entry) (view : ℕ) (log : LogValue) (v d : DiskView) (r : Result LogValue AddFault) → Refines l v → Owns l v log → AllByRecursion IsRecord l.order → IsNext l.order e
    → (due ≡ false → log.version ≡ 2) → Adds due log (state_text l.cap l.order) (last_text (last_of l.order)) (record_text e) v r d → Added l e view log v d r
adds due l e view log v d (Err add.Memory) refines o all next version a = no_call l e view log v d refines o.sure a
adds true l e view log v d (Err (add.Checkpoint fault)) refines o all next version a =
    let moments = checkpoint_moments l v d log refines o all (a.any_moment o.found o.stands) in
    let tells = still_tells v d a.same.tells refines.tells in
    record {
      comes = now_refines l v d tells moments;
      moments = passes_weaken (MomentOf l) (MomentOf (leave (Some e) view l)) v d (λ m is. doubt_weakens l m e view o.sure is) moments;
      tells = tells;
    }
adds true l e view log v d (Ok new) refines o all next version a = behind l e view log v d (Ok new) refines o all next a
adds true l e view log v d (Err (add.Append fault)) refines o all next version a = behind l e view log v d (Err (add.Append fault)) refines o all next a
adds false l e view log v d (Ok new) refines o all next version a = append_part l e view log v d (Ok new) refines o (version refl) next a
adds false l e view log v d (Err (add.Append fault)) refines o all next version a = append_part l e view log v d (Err (add.Append fault)) refines o (version refl) next a
adds false l e view log v d (Err (add.Checkpoint fault)) refines o all next version a = append_part l e view log v d (Err (add.Checkpoint fault)) refines o (version refl) next a

-- ---- a checkpoint

abbrev pub SavedTo : Log → LogValue → DiskView → Result LogValue AddFault → Type 0
SavedTo l old d (Ok new) = Owns l d new × (new.claim ≡ old.claim)
SavedTo l old d (Err fault) = Unit {0}

pub record Saved (l : Log) (old : LogValue) (v d : DiskView) (written : Result LogValue AddFault) : Type 0 where
  pub comes : SavedTo l old d written
  pub refines : Refines l d
  pub moments : Passes (MomentOf l) v d

pub saves : (l : Log) (log : LogValue) (v d : DiskView) (r : Result LogValue AddFault) → Refines l v → Owns l v log → AllByRecursion IsRecord l.order
    → CheckpointsTo log (state_text l.cap l.order) (last_text (last_of l.order)) v r d → Saved l log v d r
saves l log v d (Ok new) refines o all c =
    let b = begins l log new v d refines o all c in
    record { comes = (b.owns, ap (λ (g : LogValue). g.claim) c.value); refines = b.refines; moments = b.moments }
saves l log v d (Err (add.Checkpoint fault)) refines o all c =
    let moments = checkpoint_moments l v d log refines o all (c.any_moment o.found o.stands) in
    record { comes = tt; refines = now_refines l v d (still_tells v d c.same.tells refines.tells) moments; moments = moments }
saves l log v d (Err (add.Append fault)) refines o all c = absurd c
saves l log v d (Err add.Memory) refines o all c = record {
  comes = tt;
  refines = subst (λ (u : DiskView). Refines l u) (sym c) refines;
  moments = subst (λ (u : DiskView). Passes (MomentOf l) v u) (sym c) (passes_here (MomentOf l) v refines.now);
}

-- ---- the bytes of a checkpoint

pub state_is : (cap : ℕ) (order : List Entry) (replica : Option (Replica registry_machine)) (r : Replica registry_machine) → replica ≡ Some r → r.registry ≡ registry_at registry_machine cap order r.done → r.done ≡ length order
    → IsCap cap → AllByRecursion IsRecord order → replica_bytes replica ≡ state_text cap order
state_is cap order replica r some registry done range all =
    let keys = keys_behind cap order (length order) (within cap order (length order) range all) in
    ap replica_bytes some ∙ ap (λ (g : ReplicatedRegistry). registry_text g.keys) (registry ∙ ap (registry_at registry_machine cap order) done) ∙ ap registry_text (sym keys)
