use Rattle.single_log.proofs.Adding.{checkpoint_keeps}
use Rattle.single_log.proofs.records.checkpoint_is_kept.Goals as goal

pub returns : goal.returns
returns c = checkpoint_keeps
