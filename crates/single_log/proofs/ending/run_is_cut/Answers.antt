use Rattle.single_log.proofs.Leaving.{doubt_is_alones, run_is_cut}
use Rattle.single_log.proofs.ending.run_is_cut.Goals as goal

pub returns-clause-images : goal.returns-clause-images
returns-clause-images c = run_is_cut

pub returns-clause-doubtful : goal.returns-clause-doubtful
returns-clause-doubtful c = doubt_is_alones
