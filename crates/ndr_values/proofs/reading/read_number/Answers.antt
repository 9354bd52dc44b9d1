use Rattle.std.proofs.Common.{subst}
use Rattle.ndr_values.specs.Reading.{Takes, number}
use Rattle.ndr_values.specs.Spelling.{Reads, Number}
use Rattle.ndr_values.proofs.Steps.{found}
use Rattle.ndr_values.proofs.ValueLaws.{number_reads, number_only}
use Rattle.ndr_values.proofs.reading.read_number.Goals as goal

pub returns-clause-found : goal.returns-clause-found
returns-clause-found c =
    found (λ x. x) (λ value. Reads (Number value) c.args.from.now c.word.new.from) c.word.result (number c.args.from.now) c.word.new.from
    (λ value read. number_reads c.args.from.now value c.word.new.from c.word.ensures.bytes read) c.word.ensures.read

pub returns-clause-only : goal.returns-clause-only
returns-clause-only c =
    λ value now spelled. subst (λ read. Takes (λ x. x) c.word.result read c.word.new.from) (number_only c.args.from.now value now spelled) c.word.ensures.read
