use Rattle.single_node.proofs.Applied.{records_applied, records_named}
use Rattle.single_node.proofs.recording.records_are_applied.Goals as goal

pub returns-clause-applied : goal.returns-clause-applied
returns-clause-applied c = records_applied

pub returns-clause-named : goal.returns-clause-named
returns-clause-named c = records_named
