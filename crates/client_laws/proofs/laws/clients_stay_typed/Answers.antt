use Rattle.client_laws.proofs.Events.{connected_typed, hears_typed, hung_up_typed, resumes_typed}
use Rattle.client_laws.proofs.laws.clients_stay_typed.Goals as goal

pub returns-clause-hears : goal.returns-clause-hears
returns-clause-hears c = hears_typed

pub returns-clause-resumes : goal.returns-clause-resumes
returns-clause-resumes c = resumes_typed

pub returns-clause-connects : goal.returns-clause-connects
returns-clause-connects c = connected_typed

pub returns-clause-hangs_up : goal.returns-clause-hangs_up
returns-clause-hangs_up c = hung_up_typed
