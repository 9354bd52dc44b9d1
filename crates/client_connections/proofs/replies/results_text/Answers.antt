use Rattle.std.proofs.Common.{◌∙◌}
use Rattle.clusapi_methods.proofs.StubSizes.{short_stub}
use Rattle.client_connections.proofs.replies.results_text.Goals as goal

pub cut-requires-clause-size : goal.cut-requires-clause-size
cut-requires-clause-size c = short_stub c.args.out.now c.deref.result.now c.requires.short (c.deref.ensures.value ∙ c.in_ok-stub.ensures)
