use Rattle.std.proofs.Common.{refl}
use Rattle.rpc_assoc.specs.declared.assoc.AssocOut.TheVariants.{Call, Nothing, Reply}
use Rattle.registry_server.proofs.AnswerLaws.{answer_is, whatever}
use Rattle.registry_server.proofs.server.Server.answer.Goals as goal

pub returns-in-Reply-clause-replies : goal.returns-in-Reply-clause-replies
returns-in-Reply-clause-replies c =
    let is = answer_is c.args.self.now c.step.new.self c.args.item (Reply c.in-Reply.pdu) (rw c.in-Reply.is at c.in_ok-pdu.ensures.step) in
    rw is c.encoded.ensures

pub returns-in-Reply-clause-state : goal.returns-in-Reply-clause-state
returns-in-Reply-clause-state c =
    let is = answer_is c.args.self.now c.step.new.self c.args.item (Reply c.in-Reply.pdu) (rw c.in-Reply.is at c.in_ok-pdu.ensures.step) in
    rw is (whatever c.encoded.result c.step.new.self c.step.new.self refl)

pub returns-in-Call-clause-replies : goal.returns-in-Call-clause-replies
returns-in-Call-clause-replies c =
    let is = answer_is c.args.self.now c.step.new.self c.args.item (Call c.in-Call.call) (rw c.in-Call.is at c.in_ok-pdu.ensures.step) in
    rw is c.answer_call.ensures.replies

pub returns-in-Call-clause-state : goal.returns-in-Call-clause-state
returns-in-Call-clause-state c =
    let is = answer_is c.args.self.now c.step.new.self c.args.item (Call c.in-Call.call) (rw c.in-Call.is at c.in_ok-pdu.ensures.step) in
    rw is c.answer_call.ensures.state

pub returns-in-Nothing-clause-replies : goal.returns-in-Nothing-clause-replies
returns-in-Nothing-clause-replies c =
    let is = answer_is c.args.self.now c.step.new.self c.args.item Nothing (rw c.in-Nothing.is at c.in_ok-pdu.ensures.step) in
    rw is c.new.ensures.items

pub returns-in-Nothing-clause-state : goal.returns-in-Nothing-clause-state
returns-in-Nothing-clause-state c =
    let is = answer_is c.args.self.now c.step.new.self c.args.item Nothing (rw c.in-Nothing.is at c.in_ok-pdu.ensures.step) in
    rw is refl
