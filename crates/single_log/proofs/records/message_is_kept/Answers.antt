use Rattle.single_log.proofs.Running.{message_keeps}
use Rattle.single_log.proofs.records.message_is_kept.Goals as goal

pub returns : goal.returns
returns c = message_keeps
