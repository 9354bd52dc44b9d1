use Rattle.std.proofs.Common.{◌∙◌}
use Rattle.rpc_assoc.proofs.ReplyLaws.{fault_on_spells}
use Rattle.clusapi_methods.proofs.StubSizes.{short_stub}
use Rattle.registry_server.proofs.replies.reply.Goals as goal

pub encode-requires : goal.encode-requires
encode-requires c = rw c.fault.ensures (fault_on_spells _ _ _)

pub cut-requires-clause-size : goal.cut-requires-clause-size
cut-requires-clause-size c = short_stub c.in-Results.out c.deref.result.now (rw c.in-Results.is at c.requires.short) (c.deref.ensures.value ∙ c.in_ok-stub-in-Results.ensures)
