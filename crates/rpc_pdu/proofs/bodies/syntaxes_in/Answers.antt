use Rattle.std.proofs.lemmas.Result.{err_from_is_err_and}
use Rattle.wire_fields.specs.Reading.{times}
use Rattle.wire_fields.proofs.ListLaws.{goes_on, is_done}
use Rattle.rpc_pdu.specs.Reading.{syntax_at}
use Rattle.rpc_pdu.proofs.Loops.{fails_on}
use Rattle.rpc_pdu.proofs.bodies.syntaxes_in.Goals as goal

pub returns-in_err-syntax : goal.returns-in_err-syntax
returns-in_err-syntax c =
    let p = err_from_is_err_and c.from_residual.result c.from_residual.ensures.1 in
    let total = times c.args.count syntax_at c.args.fields.now in
    rw (p.1, p.2) (fails_on syntax_at c.in_err-syntax.field-0.0 c.loop.items.items c.args.count c.loop.counter c.loop.fields total c.loop-test.true c.in_err-syntax.ensures c.loop.invariant)

pub loop-preserved : goal.loop-preserved
loop-preserved c =
    let total = times c.args.count syntax_at c.args.fields.now in
    rw c.in_ok-push.ensures.items (goes_on syntax_at c.loop.items.items c.args.count c.loop.counter c.loop.fields c.in_ok-syntax.field-0 c.syntax.new.fields total c.loop-test.true c.in_ok-syntax.ensures c.loop.invariant)

pub returns : goal.returns
returns c = is_done syntax_at c.loop.items.items c.args.count c.loop.counter c.loop.fields (times c.args.count syntax_at c.args.fields.now) c.loop-test.false c.loop.invariant
