use Rattle.std.proofs.Common.{take}
use Rattle.registry_tree.specs.Values.{entries_of}
use Rattle.hive_text.specs.Batching.{Takes}
use Rattle.hive_text.specs.Changes.{settings}
use Rattle.hive_text.proofs.batching.take_values.Given as goal

abbrev pub invariant-values : goal.invariant-values
invariant-values l = Takes l.initial.batcher (settings l.path (entries_of (take l.value-index l.values))) l.batcher
