use Rattle.std.proofs.Common.{refl, option_map}
use Rattle.registry_defs.specs.Contents.{keys_in}
use Rattle.rpc_assoc.specs.declared.assoc.AssocOut.TheVariants.{Call, Nothing, Reply}
use Rattle.client_connections.specs.Items.{state}
use Rattle.client_connections.proofs.ItemLaws.{item_is}
use Rattle.client_connections.proofs.items.item.Goals as goal

pub returns-in_ok-encoded-in-Reply-clause-took : goal.returns-in_ok-encoded-in-Reply-clause-took
returns-in_ok-encoded-in-Reply-clause-took c =
    let is = item_is (option_map (λ kept. keys_in kept.now) c.args.registry) c.args.conn (state c.args.handles.now c.args.association.now) (state c.step.new.handles c.step.new.association) c.args.item (Reply c.in-Reply.pdu) (rw c.in-Reply.is at c.in_ok-pdu.ensures.step) in
    rw (is, c.in_ok-encoded-in-Reply.ensures) refl

pub returns-in-Call-clause-took : goal.returns-in-Call-clause-took
returns-in-Call-clause-took c =
    let is = item_is (option_map (λ kept. keys_in kept.now) c.args.registry) c.args.conn (state c.args.handles.now c.args.association.now) (state c.step.new.handles c.step.new.association) c.args.item (Call c.in-Call.call) (rw c.in-Call.is at c.in_ok-pdu.ensures.step) in
    rw is c.answer_call.ensures.took

pub returns-in-Nothing-clause-took : goal.returns-in-Nothing-clause-took
returns-in-Nothing-clause-took c =
    let is = item_is (option_map (λ kept. keys_in kept.now) c.args.registry) c.args.conn (state c.args.handles.now c.args.association.now) (state c.step.new.handles c.step.new.association) c.args.item Nothing (rw c.in-Nothing.is at c.in_ok-pdu.ensures.step) in
    rw is refl
