-- What the log value of a node alone stands for, and what a node has to write to keep that so.
use Rattle.std.specs.Prelude.{◌≡◌, ℕ, ◌+◌, List, [], ◌∷◌}
use Rattle.update_records.specs.Entry.{Entry, IsRecord}
use Rattle.registry_defs.specs.Spelling.{registry_text}
use Rattle.disk_core.specs.Views.{DiskView}
use Rattle.quorum_log.specs.declared.found.Found.{Found}
use Rattle.quorum_log.specs.Logs.{LogValue, StandsFor}
use Rattle.log_contents.specs.declared.contents.LogContents.{LogContents}
use Rattle.log_contents.specs.Contents.{IsContents}
use Rattle.cluster_rules.specs.Machines.{replay}
use Rattle.registry_machine.specs.Machine.{registry_machine}
use Rattle.log_order.specs.Orders.{last_behind, last_text}
use Rattle.single_log.specs.Contents.{IsFurther, count_found, last_found, registry_found}

-- These are the next records behind so many: each is valid and stands at its place.
abbrev pub AreNext : ℕ → List Entry → Type 0
AreNext count [] = Unit {0}
AreNext count (e ∷ es) = IsRecord e × (e.place ≡ count + 1) × AreNext (count + 1) es

-- The disk holds the records found and these further ones, and the log value stands for that. No later one has claimed the disk.
pub record KeepsLog (found : Found) (contents : LogContents) (q : List Entry) (log : LogValue) (v : DiskView) : Type 0 where
  pub found_is : IsContents found contents
  pub next : AreNext (count_found found) q
  pub now : Found
  pub stands : StandsFor log v now
  pub is : IsFurther found contents q now
  pub claimed : v.current.held ≡ log.claim

-- The bytes of the registry and of the last record behind the records found and these further ones.
abbrev pub state_behind : LogContents → List Entry → List ℕ
state_behind contents q = registry_text (replay registry_machine q (registry_found contents)).keys

abbrev pub last_text_behind : LogContents → List Entry → List ℕ
last_text_behind contents q = last_text (last_behind (last_found contents) q)
