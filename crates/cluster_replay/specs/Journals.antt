-- What a world keeps of what its nodes have done. Only private clauses cite it.
use Rattle.std.specs.Prelude.{ℕ, List, ◌++◌, length}
use Rattle.update_records.specs.Entry.{Entry}
use Rattle.gum_messages.specs.Messages.{Sent}
use Rattle.cluster_rules.specs.declared.effect.Effect.{Effect}
use Rattle.cluster_rules.specs.Worlds.{acked, sent}
use Rattle.cluster_node.specs.States.{NodeValue}
use Rattle.cluster_worlds.specs.declared.told.Told.{Told}
use Rattle.cluster_worlds.specs.Telling.{joined, told_effects, told_order}

pub record JournalState : Type 0 where
  pub pool : List Sent
  pub order : List Entry
  pub acks : List (ℕ × ℕ)

-- The order grows by these records.
abbrev pub ordered : List Entry → JournalState → JournalState
ordered records j = record j { order = j.order ++ records }

-- Effects are taken in.
abbrev pub noted : List Effect → JournalState → JournalState
noted effects j = record j { pool = j.pool ++ sent effects; acks = j.acks ++ acked effects }

-- What a node has done is taken in, and told: the order first.
abbrev pub taken_in : List Effect → NodeValue → JournalState → JournalState
taken_in effects n j = noted effects (ordered (joined j.order n) j)

abbrev pub told_in : List Effect → NodeValue → JournalState → List Told
told_in effects n j = told_order (joined j.order n) ++ told_effects n.number (length j.pool) effects
