-- What a checkpoint comes to for the log of the protocol: nothing. And how the first log comes about.
use Rattle.std.specs.Prelude.{◌≡◌, IsTrue, []}
use Rattle.std.specs.List.{AllByRecursion}
use Rattle.update_records.specs.Entry.{IsRecord}
use Rattle.registry_defs.specs.Contents.{IsCap}
use Rattle.registry_defs.specs.Keys.{root_alone}
use Rattle.registry_defs.specs.Spelling.{registry_text}
use Rattle.disk_core.specs.Views.{DiskView, Passes}
use Rattle.quorum_log.specs.declared.found.Found.{Found}
use Rattle.quorum_log.specs.Changes.{with_checkpoint, IsInChange}
use Rattle.quorum_log.specs.Formats.{IsFormatted}
use Rattle.quorum_log.specs.Logs.{LogValue, StandsFor}
use Rattle.cluster_rules.specs.Joins.{last_of}
use Rattle.cluster_rules.specs.Worlds.{Log}
use Rattle.log_order.specs.OrderLaws.{state_text}
use Rattle.log_order.specs.Orders.{last_text}
use Rattle.log_order.specs.Refinement.{MomentOf, Owns, Refines}

-- The log behind a checkpoint with the registry and the last record of the whole order.
abbrev pub begun_anew : Log → Found → Found
begun_anew l x = with_checkpoint x (state_text l.cap l.order) (last_text (last_of l.order))

abbrev pub CheckpointMoments : Type 0
CheckpointMoments =
    (l : Log) (v w : DiskView) (log : LogValue)
    → Refines l v → (o : Owns l v log) → AllByRecursion IsRecord l.order
    → Passes (IsInChange v.current.held o.found (begun_anew l o.found)) v w
    → Passes (MomentOf l) v w

abbrev pub CheckpointRefines : Type 0
CheckpointRefines =
    (l : Log) (v w : DiskView) (log new : LogValue)
    → Refines l v → (o : Owns l v log) → AllByRecursion IsRecord l.order
    → StandsFor new w (begun_anew l o.found) → new.claim ≡ log.claim → w.current.held ≡ v.current.held
    → Refines l w × Owns l w new

-- A disk on which a log was made holds the empty order.
abbrev pub FormatRefines : Type 0
FormatRefines =
    (l : Log) (v : DiskView) → IsCap l.cap → l.order ≡ [] → l.held ≡ v.current.held
    → IsTrue v.tells → IsFormatted l.cap (registry_text root_alone) v → Refines l v
