-- How a session ends: what the node told and logged is what Alone says.
use Rattle.std.proofs.Common.{◌≡◌, inl, inr, ℕ, List, [], ◌++◌, Option, refl, sym, ap, ◌∙◌, subst, arith}
use Rattle.std.proofs.lemmas.List.{append-nil}
use Rattle.std.specs.Map.{keys_of}
use Rattle.causes.specs.Counts.{Rose}
use Rattle.disk_core.specs.Views.{DiskView}
use Rattle.quorum_log.specs.Logs.{LogValue}
use Rattle.rpc_calls.specs.declared.intake_fault.IntakeFault.{IntakeFault}
use Rattle.rpc_calls.specs.declared.item.Item.{Item}
use Rattle.rpc_calls.specs.declared.side.Side.TheVariants.{Server}
use Rattle.rpc_calls.specs.Streams.{Items}
use Rattle.cluster_rules.specs.declared.effect.Effect.{Effect}
use Rattle.cluster_rules.specs.declared.effect.HaltCause.{HaltCause}
use Rattle.cluster_rules.specs.declared.effect.HaltCause.TheVariants as halt
use Rattle.cluster_member.specs.Logging.{answer_to}
use Rattle.single_items.specs.Alone.{AloneRun, alone}
use Rattle.single_items.specs.Events.{told_to}
use Rattle.single_items.specs.Promises.{BeginsWith, IsAlone, IsReason}
use Rattle.single_items.proofs.AllTaken.{tells_alone}
use Rattle.single_items.proofs.Fronts.{tells_first}
use Rattle.single_items.proofs.Telling.{told_both}
use Rattle.single_node.specs.Singles.{SingleState}
use Rattle.single_node.specs.Standing.{alone_node}
use Rattle.single_server.specs.declared.ended.Ended.{Ended}
use Rattle.single_server.specs.declared.ended.Ended.TheVariants.{BadLog, DiskFault, Done, Fenced, NoMemory, ReadFault, WriteFault}
use Rattle.single_server.specs.Begins.{BeginsOn}
use Rattle.single_server.specs.Hearing.{Beginning, CutOff, HaltsFor, Heard}
use Rattle.single_server.specs.Session.{IsCutOff, IsDone, IsHeardOut, IsInPart, Serves}
use Rattle.single_server.proofs.Heards.{tells_nothing}
use Rattle.single_server.proofs.Tokens.{Owns, logs_fail, logs_keep, rose_from}

module _ (c : ℕ) (b : Beginning) (stream : List ℕ) (told : List Effect) where
  -- With none of its messages under way it told and logged all of Alone.
  pub is_alone : (s : SingleState) (w : DiskView) (h : Heard c b stream told s w) → s.left ≡ [] → (given : List Item) (fault : Option IntakeFault) → Items Server stream given fault
      → IsAlone c b.first given (told_to c told) h.under_way.added
  is_alone s w h quiet given fault items =
      tells_alone c b.first stream (alone_node h.now s.left) (told_to c told) h.under_way.added h.under_way.stands quiet given fault items

  abbrev IsFront : Type 0
  IsFront = (given : List Item) (fault : Option IntakeFault) → Items Server stream given fault → BeginsWith (alone c b.first given).output (told_to c told)

  front_of : (s : SingleState) (w : DiskView) → Heard c b stream told s w → IsFront
  front_of s w h given fault items = (tells_first c b.first stream (alone_node h.now s.left) (told_to c told) h.under_way.added h.under_way.stands given fault items).told

  -- The halt itself tells the connection nothing.
  front_at_halt : (cause : HaltCause) (w : DiskView) → HaltsFor cause c b stream told w → IsFront
  front_at_halt cause w (at, is, answered) given fault items =
      subst (λ (l : List ℕ). BeginsWith (alone c b.first given).output l)
      (sym (ap (told_to c) at.whole ∙ told_both c at.said at.last ∙ ap (λ (l : List ℕ). told_to c at.said ++ l) (ap (told_to c) at.halted.effects ∙ tells_nothing c (keys_of at.before.clients.conns)) ∙ append-nil (told_to c at.said)))
      (at.halted.first_of given fault items).told

  pub cut_is_front : (ended : Ended) (w : DiskView) → CutOff ended c b stream told w → IsFront
  cut_is_front Done w off = absurd off
  cut_is_front ReadFault w off = front_of off.0 w off.1
  cut_is_front WriteFault w off = front_of off.0 w off.1
  cut_is_front DiskFault w off = front_at_halt halt.Disk w off
  cut_is_front (Fenced held) w off = front_at_halt (halt.Fenced held) w off
  cut_is_front (BadLog place) w off = front_at_halt (halt.Image place) w off
  cut_is_front NoMemory w (inl at) = front_of at.0 at.1 at.2
  cut_is_front NoMemory w (inr (nothing, silent, still)) = λ given fault items.
      ((alone c b.first given).output, sym (ap (λ (l : List ℕ). l ++ (alone c b.first given).output) (ap (told_to c) silent)))

-- A node that owns its log halts for a failed call of the disk alone.
module _ (c : ℕ) (b : Beginning) (w : DiskView) (owns : Owns 1 b.member b.disk) (view : b.first.single.view ≡ 1) where
  pub halts_owning : (stream : List ℕ) (told : List Effect) (cause : HaltCause) → HaltsFor cause c b stream told w → (cause ≡ halt.Disk) × Rose b.disk.faults w.faults
  halts_owning stream told cause (at, is, answered) = let r = by_why at.halted.cause at.halted.why in (sym is ∙ r.0, r.1)
    where
      by_why : (k : HaltCause) → IsReason k b.first.single.view at.disk.current.held (answer_to at.halted.added) → (k ≡ halt.Disk) × Rose b.disk.faults w.faults
      by_why halt.Disk why =
          let kept = logs_keep 1 at.added b.member at.before.member b.disk at.disk at.logs owns in
          (refl, rose_from b.disk.faults at.disk.faults w.faults kept.1 (logs_fail 1 _ at.before.member at.disk w at.halted.added at.halted.logs kept.0 why at.halted.had_memory))
      by_why (halt.Fenced h) (later, same) =
          let kept = logs_keep 1 at.added b.member at.before.member b.disk at.disk at.logs owns in
          let held = kept.0.held in absurd (omega (arith, later, view, held))
      by_why (halt.Image place) why = absurd why

-- ---- the whole

module _ (stamp : ℕ) (left now written holds : Option (List ℕ)) (v w : DiskView) (b : Beginning) (begins : BeginsOn stamp v b.first b.member b.disk) where
  pub is_done : (s : SingleState) → IsHeardOut 1 b left now written holds s w → IsDone stamp left now written holds v w
  is_done s out = record {
    start = b;
    begins = begins;
    state = s;
    out = out;
    records = out.heard.under_way.added;
    member = out.heard.now.member;
    logs = out.heard.under_way.logs;
    alone = is_alone 1 b out.stream out.told s w out.heard out.quiet;
  }

  pub is_in_part : (ended : Ended) → IsCutOff ended 1 b left now written holds w → IsInPart ended stamp left now written holds v w
  is_in_part ended off = record { start = b; begins = begins; off = off; first_of = cut_is_front 1 b off.stream off.told ended w off.cut }

  -- ---- causes

  pub owns_first : Owns 1 b.member b.disk
  owns_first = record { log = begins.log; has = begins.has; claim = ap (λ (l : LogValue). l.claim) begins.opened.value; held = begins.opened.held }

  -- The node halts for a failed call of the disk alone.
  halts_disk : (stream : List ℕ) (told : List Effect) (cause : HaltCause) → HaltsFor cause 1 b stream told w → (cause ≡ halt.Disk) × Rose v.faults w.faults
  halts_disk stream told cause off =
      let f = halts_owning 1 b w owns_first (ap (λ (r : AloneRun). r.single.view) begins.is) stream told cause off in (f.0, rose_from v.faults b.disk.faults w.faults begins.same_disk.faults f.1)

  pub serves_part : (ended : Ended) → IsCutOff ended 1 b left now written holds w → Serves ended stamp left now written holds v w
  serves_part Done off = absurd off.cut
  serves_part ReadFault off = is_in_part ReadFault off
  serves_part WriteFault off = is_in_part WriteFault off
  serves_part DiskFault off = inr (is_in_part DiskFault off)
  serves_part NoMemory off = inr (is_in_part NoMemory off)
  serves_part (BadLog place) off = let no : halt.Image place ≡ halt.Disk = (halts_disk off.stream off.told (halt.Image place) off.cut).0 in absurd (cc)
  serves_part (Fenced held) off = let no : halt.Fenced held ≡ halt.Disk = (halts_disk off.stream off.told (halt.Fenced held) off.cut).0 in absurd (cc)

  pub disk_rose : IsCutOff DiskFault 1 b left now written holds w → Rose v.faults w.faults
  disk_rose off = (halts_disk off.stream off.told halt.Disk off.cut).1

pub disk_failed : (stamp : ℕ) (left now written holds : Option (List ℕ)) (v w : DiskView) → Serves DiskFault stamp left now written holds v w → Rose v.faults w.faults
disk_failed stamp left now written holds v w (inl u) = u.fault.1
disk_failed stamp left now written holds v w (inr p) = disk_rose stamp left now written holds v w p.start p.begins p.off

pub disk_cause : (ended : Ended) (stamp : ℕ) (left now written holds : Option (List ℕ)) (v w : DiskView) → Serves ended stamp left now written holds v w → ended ≡ DiskFault → Rose v.faults w.faults
disk_cause ended stamp left now written holds v w h e = disk_failed stamp left now written holds v w (subst (λ (r : Ended). Serves r stamp left now written holds v w) e h)
