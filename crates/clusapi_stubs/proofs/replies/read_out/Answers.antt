use Rattle.std.proofs.Common.{arith}
use Rattle.wire_fields.specs.Numbers.{IsBytes}
use Rattle.clusapi_stubs.proofs.OutputLaws.{fault, found, is_read, only, texts}
use Rattle.clusapi_stubs.proofs.replies.read_out.Goals as goal

pub returns-clause-read : goal.returns-clause-read
returns-clause-read c = is_read c.args.opnum c.args.endian c.args.stub.now c.output.result c.output.new.from (rw (← c.new-from.ensures) c.output.ensures)

pub returns-clause-found : goal.returns-clause-found
returns-clause-found c =
    let bytes : IsBytes c.args.stub.now = λ i. omega (arith, c.type_inv.stub i) in
    found c.args.opnum c.args.endian c.args.stub.now c.output.result c.output.new.from bytes (rw (← c.new-from.ensures) c.output.ensures)

pub returns-clause-texts : goal.returns-clause-texts
returns-clause-texts c =
    let bytes : IsBytes c.args.stub.now = λ i. omega (arith, c.type_inv.stub i) in
    texts c.args.opnum c.args.endian c.args.stub.now c.output.result c.output.new.from bytes (rw (← c.new-from.ensures) c.output.ensures)

pub returns-clause-only : goal.returns-clause-only
returns-clause-only c = only c.args.opnum c.args.endian c.args.stub.now c.output.result c.output.new.from (rw (← c.new-from.ensures) c.output.ensures)

pub returns-clause-fault : goal.returns-clause-fault
returns-clause-fault c = fault c.args.opnum c.args.endian c.args.stub.now c.output.result c.output.new.from (rw (← c.new-from.ensures) c.output.ensures)
