-- What becomes of the order of a log, without a disk.
use Rattle.std.specs.Prelude.{◌≡◌, ℕ, ◌+◌, List, [], ◌∷◌, ◌++◌, length}
use Rattle.std.specs.List.{AllByRecursion}
use Rattle.update_records.specs.Entry.{Entry, IsRecord, record_text}
use Rattle.registry_defs.specs.Contents.{IsCap, keys_in}
use Rattle.registry_defs.specs.Keys.{root_alone}
use Rattle.registry_defs.specs.Spelling.{registry_text}
use Rattle.quorum_log.specs.declared.found.Found.{Found}
use Rattle.quorum_log.specs.Changes.{with_record, with_checkpoint}
use Rattle.quorum_log.specs.Formats.{empty_log}
use Rattle.log_contents.specs.declared.contents.LogContents.{LogContents}
use Rattle.log_contents.specs.Contents.{IsContents}
use Rattle.cluster_rules.specs.Joins.{last_of}
use Rattle.cluster_rules.specs.Machines.{registry_at, replay}
use Rattle.registry_machine.specs.Machine.{registry_machine, replicated}
use Rattle.log_order.specs.Orders.{IsOrderOf, last_behind, last_text, registry_behind}

-- The record that comes next in the order.
pub record IsNext (order : List Entry) (e : Entry) : Type 0 where
  pub valid : IsRecord e
  pub place_is : e.place ≡ length order + 1

-- A record behind a log of version 2 is one behind its order.
abbrev pub OrderPush : Type 0
OrderPush =
    (cap : ℕ) (order : List Entry) (x : Found) (e : Entry) → IsOrderOf cap order x → x.version ≡ 2 → IsNext order e
    → IsOrderOf cap (order ++ e ∷ []) (with_record x (record_text e))

-- The bytes of the registry behind the whole order.
abbrev pub state_text : ℕ → List Entry → List ℕ
state_text cap order = registry_text (keys_in (registry_behind cap order (length order)))

-- A checkpoint with the registry and the last record of the whole order leaves the order.
abbrev pub OrderBegun : Type 0
OrderBegun =
    (cap : ℕ) (order : List Entry) (x : Found) → AllByRecursion IsRecord order → IsOrderOf cap order x
    → IsOrderOf cap order (with_checkpoint x (state_text cap order) (last_text (last_of order)))

-- The log that `format` makes of the empty registry has the empty order.
abbrev pub OrderEmpty : Type 0
OrderEmpty = (cap : ℕ) → IsCap cap → IsOrderOf cap [] (empty_log cap (registry_text root_alone))

-- What is decoded from a log is its order's: the last record, and, with the records behind the base, the registry.
pub record IsRecoveredOrder (cap : ℕ) (order : List Entry) (held : LogContents) : Type 0 where
  pub last : last_behind held.last held.records ≡ last_of order
  pub registry : replay registry_machine held.records (replicated held.registry) ≡ registry_at registry_machine cap order (length order)

abbrev pub OrderRecovered : Type 0
OrderRecovered =
    (cap : ℕ) (order : List Entry) (x : Found) (held : LogContents) → AllByRecursion IsRecord order → IsOrderOf cap order x → IsContents x held
    → IsRecoveredOrder cap order held
