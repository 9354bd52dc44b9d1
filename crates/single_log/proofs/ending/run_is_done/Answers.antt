use Rattle.single_log.proofs.Leaving.{run_is_done}
use Rattle.single_log.proofs.ending.run_is_done.Goals as goal

pub returns : goal.returns
returns c = run_is_done
