use Rattle.registry_machine.proofs.Folds.{replay_is_fold, outcome_is_of_fold}
use Rattle.registry_machine.proofs.laws.replay_is_the_fold.Goals as goal

pub returns-clause-registry : goal.returns-clause-registry
returns-clause-registry c = replay_is_fold

pub returns-clause-outcome : goal.returns-clause-outcome
returns-clause-outcome c = outcome_is_of_fold
