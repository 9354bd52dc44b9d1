use Rattle.std.proofs.Common.{◌∙◌}
use Rattle.client_exchange.proofs.RequestSizes.{short_stub}
use Rattle.client_exchange.proofs.requests.request_text.Goals as goal

pub cut_request-requires-clause-size : goal.cut_request-requires-clause-size
cut_request-requires-clause-size c = short_stub c.args.request.now c.deref.result.now c.requires.fits (c.deref.ensures.value ∙ c.in_ok-stub.ensures)
