use Rattle.ndr_values.specs.Reading.{number}
use Rattle.ndr_values.specs.Spelling.{Reads, Number}
use Rattle.ndr_values.proofs.ValueLaws.{number_only}
use Rattle.clusapi_stubs.proofs.Taking.{taken}
use Rattle.clusapi_stubs.proofs.values.number.Goals as goal

pub returns : goal.returns
returns c =
    taken (λ x. x) (λ x. Reads (Number x) c.args.from.now c.read_number.new.from) (number c.args.from.now) c.read_number.new.from
    (λ x found. number_only c.args.from.now x c.read_number.new.from found) c.read_number.result c.read_number.ensures.found c.read_number.ensures.fault
