-- What a log says of an update order.
use Rattle.std.specs.Prelude.{◌≡◌, ℕ, ◌+◌, List, [], ◌∷◌, length, take, drop, Option, Some, None}
use Rattle.std.specs.FinMap.{from_sorted}
use Rattle.update_records.specs.Entry.{Entry, record_text}
use Rattle.registry_defs.specs.Contents.{Contents}
use Rattle.quorum_log.specs.declared.found.Found.{Found}
use Rattle.log_contents.specs.declared.contents.LogContents.{LogContents}
use Rattle.log_contents.specs.Contents.{IsContents}
use Rattle.cluster_rules.specs.Joins.{last_of}
use Rattle.cluster_rules.specs.Machines.{registry_at}
use Rattle.registry_machine.specs.Machine.{ReplicatedRegistry, registry_machine}

-- The machine's registry, as the contracts of a registry see it.
abbrev pub contents_of : ReplicatedRegistry → Contents
contents_of registry = record { cap = registry.cap; keys = from_sorted registry.keys }

-- The registry behind the first records of an order.
abbrev pub registry_behind : ℕ → List Entry → ℕ → Contents
registry_behind cap order count = contents_of (registry_at registry_machine cap order count)

-- All that a log of this order says whose base is that one.
abbrev pub contents_at : ℕ → List Entry → ℕ → LogContents
contents_at cap order base = record {
  registry = registry_behind cap order base;
  last = last_of (take base order);
  records = drop base order;
}

-- The last of these records, or where there are none the one before them.
abbrev pub last_behind : Option Entry → List Entry → Option Entry
last_behind last [] = last
last_behind last (e ∷ es) = last_behind (Some e) es

-- The bytes of a last record, none where there is no record.
abbrev pub last_text : Option Entry → List ℕ
last_text None = []
last_text (Some e) = record_text e

-- The log that was found is one of this order, with the cap of its registry.
pub record IsOrderOf (cap : ℕ) (order : List Entry) (x : Found) : Type 0 where
  pub cap_is : x.cap ≡ cap
  pub counted : x.base + length x.records ≡ length order
  pub decodes : IsContents x (contents_at cap order x.base)
