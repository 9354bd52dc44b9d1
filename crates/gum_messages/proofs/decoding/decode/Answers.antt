use Rattle.std.proofs.Common.{ap, ◌∙◌, subst, arith}
use Rattle.gum_messages.specs.Faults.{Decodes}
use Rattle.gum_messages.specs.Grammar.{message_of}
use Rattle.gum_messages.proofs.MessageLaws.{whole_message_read, message_is_found, message_fits}
use Rattle.gum_messages.proofs.decoding.decode.Goals as goal

pub returns-clause-found : goal.returns-clause-found
returns-clause-found c = message_is_found c.args.bytes.now c.read.result (λ i. omega (arith, c.type_inv.bytes i)) c.read.ensures

pub returns-clause-fits : goal.returns-clause-fits
returns-clause-fits c = message_fits c.args.bytes.now c.read.result (λ i. omega (arith, c.type_inv.bytes i)) c.read.ensures

pub returns-clause-only : goal.returns-clause-only
returns-clause-only c = λ message is e. subst (λ read. Decodes c.read.result read) (ap message_of e ∙ whole_message_read message is) c.read.ensures
