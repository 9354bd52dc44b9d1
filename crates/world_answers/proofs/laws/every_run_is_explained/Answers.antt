use Rattle.world_answers.proofs.Explaining.{run_explained}
use Rattle.world_answers.proofs.Floors.{run_never_falls}
use Rattle.world_answers.proofs.laws.every_run_is_explained.Goals as goal

pub returns-clause-explained : goal.returns-clause-explained
returns-clause-explained c = run_explained

pub returns-clause-points : goal.returns-clause-points
returns-clause-points c = run_never_falls
