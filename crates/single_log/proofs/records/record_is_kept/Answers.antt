use Rattle.single_log.proofs.Adding.{adding_keeps}
use Rattle.single_log.proofs.records.record_is_kept.Goals as goal

pub returns : goal.returns
returns c = adding_keeps
