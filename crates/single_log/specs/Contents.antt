-- What a log holds that was found with these contents and has further records behind those found.
use Rattle.std.specs.Prelude.{◌≡◌, ℕ, ◌+◌, ◌-◌, List, [], ◌++◌, length, take, drop, Option, None, nat_eq, if◌then◌else◌}
use Rattle.update_records.specs.Entry.{Entry}
use Rattle.registry_defs.specs.Keys.{root_alone}
use Rattle.registry_defs.specs.Spelling.{registry_text}
use Rattle.quorum_log.specs.declared.found.Found.{Found}
use Rattle.quorum_log.specs.Formats.{empty_log}
use Rattle.log_contents.specs.declared.contents.LogContents.{LogContents}
use Rattle.log_contents.specs.Contents.{IsContents}
use Rattle.cluster_rules.specs.Machines.{replay}
use Rattle.registry_machine.specs.Machine.{ReplicatedRegistry, empty_registry, registry_machine, replicated}
use Rattle.log_order.specs.Orders.{contents_of, last_behind}

-- ---- what was found

abbrev pub count_found : Found → ℕ
count_found found = found.base + length found.records

-- The registry behind all records found, and the last of them.
abbrev pub registry_found : LogContents → ReplicatedRegistry
registry_found contents = replay registry_machine contents.records (replicated contents.registry)

abbrev pub last_found : LogContents → Option Entry
last_found contents = last_behind contents.last contents.records

-- The log that is made on a blank disk, of the empty registry, and what it holds.
abbrev pub first_log : ℕ → Found
first_log cap = empty_log cap (registry_text root_alone)

abbrev pub first_contents : ℕ → LogContents
first_contents cap = record { registry = contents_of (empty_registry cap); last = None; records = [] }

-- ---- with further records

-- As it was found, with the further records behind its own.
abbrev pub as_found : LogContents → List Entry → LogContents
as_found contents q = record { registry = contents.registry; last = contents.last; records = contents.records ++ q }

-- Begun anew by a checkpoint behind so many of the further records.
abbrev pub begun_behind : LogContents → List Entry → ℕ → LogContents
begun_behind contents q count = record {
  registry = contents_of (replay registry_machine (take count q) (registry_found contents));
  last = last_behind (last_found contents) (take count q);
  records = drop count q;
}

-- All that the log says where its base is that one. A checkpoint comes behind all records found.
abbrev pub contents_behind : Found → LogContents → List Entry → ℕ → LogContents
contents_behind found contents q base =
    if nat_eq base found.base then as_found contents q else begun_behind contents q (base - count_found found)

-- The log holds the records found and these further ones.
pub record IsFurther (found : Found) (contents : LogContents) (q : List Entry) (x : Found) : Type 0 where
  pub same_cap : x.cap ≡ found.cap
  pub counted : x.base + length x.records ≡ count_found found + length q
  pub decodes : IsContents x (contents_behind found contents q x.base)
