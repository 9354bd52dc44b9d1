use Rattle.std.proofs.Common.{arith}
use Rattle.std.proofs.lemmas.Result.{err_from_is_err_and}
use Rattle.wire_fields.specs.Numbers.{IsBytes}
use Rattle.clusapi_stubs.proofs.Sizes.{fault, found, only, reads_fault, reads_sized, refused, texts}
use Rattle.clusapi_stubs.proofs.reading.read_in.Goals as goal

pub returns-in_err-input-clause-only : goal.returns-in_err-input-clause-only
returns-in_err-input-clause-only c =
    let p = err_from_is_err_and c.from_residual.result c.from_residual.ensures.1 in
    rw (p.1, p.2) (refused c.args.opnum c.args.endian c.args.stub.now c.in_err-input.field-0.0 c.input.new.from (rw (← c.new-from.ensures) c.in_err-input.ensures))

pub returns-clause-found : goal.returns-clause-found
returns-clause-found c =
    let bytes : IsBytes c.args.stub.now = λ i. omega (arith, c.type_inv.stub i) in
    rw (c.sized.ensures, c.place.ensures) (found c.args.opnum c.args.endian c.args.stub.now c.in_ok-input.input c.input.new.from bytes (rw (← c.new-from.ensures) c.in_ok-input.ensures))

pub returns-clause-only : goal.returns-clause-only
returns-clause-only c =
    rw (c.sized.ensures, c.place.ensures) (only c.args.opnum c.args.endian c.args.stub.now c.in_ok-input.input c.input.new.from (rw (← c.new-from.ensures) c.in_ok-input.ensures))

pub returns-clause-fault : goal.returns-clause-fault
returns-clause-fault c =
    let bytes : IsBytes c.args.stub.now = λ i. omega (arith, c.type_inv.stub i) in
    rw (c.sized.ensures, c.place.ensures) (fault c.args.opnum c.args.endian c.args.stub.now c.in_ok-input.input c.input.new.from bytes (rw (← c.new-from.ensures) c.in_ok-input.ensures))

pub returns-clause-texts : goal.returns-clause-texts
returns-clause-texts c =
    let bytes : IsBytes c.args.stub.now = λ i. omega (arith, c.type_inv.stub i) in
    rw (c.sized.ensures, c.place.ensures) (texts c.args.opnum c.args.endian c.args.stub.now c.in_ok-input.input c.input.new.from bytes (rw (← c.new-from.ensures) c.in_ok-input.ensures))

pub returns-in_err-input-clause-read : goal.returns-in_err-input-clause-read
returns-in_err-input-clause-read c =
    let p = err_from_is_err_and c.from_residual.result c.from_residual.ensures.1 in
    rw (p.1, p.2) (reads_fault c.args.opnum c.args.endian c.args.stub.now c.in_err-input.field-0.0 c.input.new.from (rw (← c.new-from.ensures) c.in_err-input.ensures))

pub returns-clause-read : goal.returns-clause-read
returns-clause-read c =
    rw (c.sized.ensures, c.place.ensures) (reads_sized c.args.opnum c.args.endian c.args.stub.now c.in_ok-input.input c.input.new.from (rw (← c.new-from.ensures) c.in_ok-input.ensures))
