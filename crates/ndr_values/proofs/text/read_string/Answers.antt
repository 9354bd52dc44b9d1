use Rattle.std.proofs.Common.{subst}
use Rattle.ndr_values.specs.Reading.{TakesIn, string}
use Rattle.ndr_values.specs.Spelling.{Reads, Text}
use Rattle.ndr_values.proofs.Steps.{found_in}
use Rattle.ndr_values.proofs.StringLaws.{string_reads, string_only}
use Rattle.ndr_values.proofs.text.read_string.Goals as goal

pub returns-clause-found : goal.returns-clause-found
returns-clause-found c =
    found_in (λ x. x.items) (λ value. Reads (Text value) c.args.from.now c.whole_string.new.from) c.whole_string.result (string c.args.from.now) c.whole_string.new.from
    (λ value read. string_reads c.args.from.now value c.whole_string.new.from c.whole_string.ensures.bytes read) c.whole_string.ensures.read

pub returns-clause-only : goal.returns-clause-only
returns-clause-only c =
    λ value now spelled. subst (λ read. TakesIn (λ x. x.items) c.whole_string.result read c.whole_string.new.from) (string_only c.args.from.now value now spelled) c.whole_string.ensures.read
