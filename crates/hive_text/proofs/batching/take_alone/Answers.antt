use Rattle.std.proofs.Common.{sym}
use Rattle.registry_tree.proofs.Entries.{values_fit}
use Rattle.hive_text.proofs.batching.take_alone.Goals as goal

pub take_values-requires-clause-short : goal.take_values-requires-clause-short
take_values-requires-clause-short c = (values_fit c.args.key.now.here c.values.result.now (sym c.values.ensures.entries) c.requires.fields).1
