use Rattle.std.proofs.Common.{◌≡◌, ◌++◌, length, drop}
use Rattle.cluster_worlds.specs.Telling.{told_effects}
use Rattle.cluster_replay.specs.Journals.{noted}
use Rattle.cluster_replay.proofs.journal.Journal.note.Given as goal

abbrev pub invariant-effects : goal.invariant-effects
invariant-effects l = record {
  told : l.told.items ++ told_effects l.node (length l.self.pool) (drop l.effect-index l.effects) ≡ l.initial.told.items ++ told_effects l.node (length l.initial.self.pool) l.effects;
  noted : noted (drop l.effect-index l.effects) l.self ≡ noted l.effects l.initial.self;
}
