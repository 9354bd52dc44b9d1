use Rattle.client_results.proofs.Requests.{answered_over_bytes}
use Rattle.client_results.proofs.laws.requests_are_answered.Goals as goal

pub returns : goal.returns
returns c = answered_over_bytes
