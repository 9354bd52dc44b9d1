-- What an event changes of a world at a node. Only proofs cite it.
use Rattle.std.specs.Prelude.{List, Option}
use Rattle.disk_core.specs.Views.{DiskView}
use Rattle.cluster_node.specs.States.{NodeValue}
use Rattle.cluster_worlds.specs.Worlds.{WorldState}
use Rattle.cluster_replay.specs.Journals.{JournalState}

abbrev pub journal_of : WorldState → JournalState
journal_of w = record { pool = w.pool; order = w.order; acks = w.acks }

abbrev pub moved : List (Option NodeValue) → JournalState → DiskView → WorldState → WorldState
moved nodes j disk w = record w { nodes = nodes; pool = j.pool; order = j.order; acks = j.acks; disk = disk }
