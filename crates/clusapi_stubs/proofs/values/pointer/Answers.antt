use Rattle.ndr_values.specs.Reading.{pointer}
use Rattle.ndr_values.specs.Spelling.{Reads, Pointer}
use Rattle.ndr_values.proofs.ValueLaws.{pointer_only}
use Rattle.clusapi_stubs.proofs.Taking.{taken}
use Rattle.clusapi_stubs.proofs.values.pointer.Goals as goal

pub returns : goal.returns
returns c =
    taken (λ x. x) (λ x. Reads (Pointer x) c.args.from.now c.read_pointer.new.from) (pointer c.args.from.now) c.read_pointer.new.from
    (λ x found. pointer_only c.args.from.now x c.read_pointer.new.from found) c.read_pointer.result c.read_pointer.ensures.found c.read_pointer.ensures.fault
