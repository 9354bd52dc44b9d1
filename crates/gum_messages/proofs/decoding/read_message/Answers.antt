use Rattle.std.proofs.Common.{arith}
use Rattle.gum_messages.specs.Grammar.{sent_of}
use Rattle.gum_messages.proofs.MessageLaws.{message_kept}
use Rattle.gum_messages.proofs.decoding.read_message.Goals as goal

pub invariant_of-result : goal.invariant_of-result
invariant_of-result c =
    let read = rw c.new-fields.ensures at c.in_ok-head.ensures in
    message_kept c.args.bytes.now (sent_of c.in_ok-head.head c.in_ok-head.body, c.message.new.fields) (λ i. omega (arith, c.type_inv.bytes i)) read
