use Rattle.std.proofs.Common.{subst}
use Rattle.ndr_values.specs.Reading.{Takes, time}
use Rattle.ndr_values.specs.Spelling.{Reads, Time}
use Rattle.ndr_values.proofs.Steps.{found}
use Rattle.ndr_values.proofs.ValueLaws.{time_reads, time_only}
use Rattle.ndr_values.proofs.reading.read_time.Goals as goal

pub returns-clause-found : goal.returns-clause-found
returns-clause-found c =
    found (λ x. x) (λ value. Reads (Time value) c.args.from.now c.low_and_high.new.from) c.low_and_high.result (time c.args.from.now) c.low_and_high.new.from
    (λ value read. time_reads c.args.from.now value c.low_and_high.new.from c.low_and_high.ensures.bytes read) c.low_and_high.ensures.read

pub returns-clause-only : goal.returns-clause-only
returns-clause-only c =
    λ value now spelled. subst (λ read. Takes (λ x. x) c.low_and_high.result read c.low_and_high.new.from) (time_only c.args.from.now value now spelled) c.low_and_high.ensures.read
