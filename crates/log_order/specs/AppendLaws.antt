-- What an append comes to for the log of the protocol.
use Rattle.std.specs.Prelude.{◌≡◌, ℕ, Some, None}
use Rattle.update_records.specs.Entry.{Entry, record_text}
use Rattle.disk_core.specs.Images.{Moment}
use Rattle.disk_core.specs.Views.{DiskView, Passes}
use Rattle.quorum_log.specs.Changes.{with_record, IsInChange}
use Rattle.quorum_log.specs.Logs.{LogValue, StandsFor}
use Rattle.cluster_rules.specs.Worlds.{Log, append, leave}
use Rattle.log_order.specs.OrderLaws.{IsNext}
use Rattle.log_order.specs.Refinement.{MomentOf, Owns, Refines}

-- At each moment meanwhile the record is in doubt.
abbrev pub AppendMoments : Type 0
AppendMoments =
    (l : Log) (v w : DiskView) (log : LogValue) (e : Entry) (view : ℕ)
    → Refines l v → (o : Owns l v log) → log.version ≡ 2 → IsNext l.order e
    → Passes (IsInChange v.current.held o.found (with_record o.found (record_text e))) v w
    → Passes (MomentOf (leave (Some e) view l)) v w

-- Behind it the record is the last one of the order.
abbrev pub AppendRefines : Type 0
AppendRefines =
    (l : Log) (v w : DiskView) (log new : LogValue) (e : Entry) (view : ℕ)
    → Refines l v → (o : Owns l v log) → log.version ≡ 2 → IsNext l.order e
    → StandsFor new w (with_record o.found (record_text e)) → new.claim ≡ log.claim → w.current.held ≡ v.current.held
    → Refines (append (Some e) view l) w × Owns (append (Some e) view l) w new

-- A moment at which nothing is in doubt is also one of the log with a record in doubt.
abbrev pub DoubtWeakens : Type 0
DoubtWeakens = (l : Log) (m : Moment) (e : Entry) (view : ℕ) → l.doubtful ≡ None → MomentOf l m → MomentOf (leave (Some e) view l) m

-- A checkpoint and an append behind it, at whose moments the record is in doubt.
abbrev pub AddMoments : Type 0
AddMoments =
    (l : Log) (v u w : DiskView) (e : Entry) (view : ℕ) → l.doubtful ≡ None
    → Passes (MomentOf l) v u → Passes (MomentOf (leave (Some e) view l)) u w
    → Passes (MomentOf (leave (Some e) view l)) v w
