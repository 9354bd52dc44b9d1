use Rattle.ndr_values.specs.Reading.{time}
use Rattle.ndr_values.specs.Spelling.{Reads, Time}
use Rattle.ndr_values.proofs.ValueLaws.{time_only}
use Rattle.clusapi_stubs.proofs.Taking.{taken}
use Rattle.clusapi_stubs.proofs.values.time.Goals as goal

pub returns : goal.returns
returns c =
    taken (λ x. x) (λ x. Reads (Time x) c.args.from.now c.read_time.new.from) (time c.args.from.now) c.read_time.new.from
    (λ x found. time_only c.args.from.now x c.read_time.new.from found) c.read_time.result c.read_time.ensures.found c.read_time.ensures.fault
