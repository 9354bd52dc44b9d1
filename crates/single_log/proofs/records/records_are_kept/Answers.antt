use Rattle.single_log.proofs.Running.{records_keep}
use Rattle.single_log.proofs.records.records_are_kept.Goals as goal

pub returns : goal.returns
returns c = records_keep
