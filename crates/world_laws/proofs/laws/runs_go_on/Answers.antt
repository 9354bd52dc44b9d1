use Rattle.world_laws.proofs.Lengthening.{run_begins, run_goes_on}
use Rattle.world_laws.proofs.laws.runs_go_on.Goals as goal

pub returns-clause-begins : goal.returns-clause-begins
returns-clause-begins c = run_begins

pub returns-clause-goes_on : goal.returns-clause-goes_on
returns-clause-goes_on c first w last events tolds e t = run_goes_on events first w last tolds e t
