use Rattle.rpc_assoc.proofs.ReplyLaws.{fault_on_spells}
use Rattle.client_connections.proofs.replies.fault_text.Goals as goal

pub encoded-requires : goal.encoded-requires
encoded-requires c = rw c.fault.ensures (fault_on_spells _ _ _)
