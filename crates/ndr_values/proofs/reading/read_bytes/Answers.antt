use Rattle.std.proofs.Common.{subst}
use Rattle.ndr_values.specs.Reading.{TakesIn, byte_array}
use Rattle.ndr_values.specs.Spelling.{Reads, Bytes}
use Rattle.ndr_values.proofs.Steps.{found_in}
use Rattle.ndr_values.proofs.ValueLaws.{bytes_reads, bytes_only}
use Rattle.ndr_values.proofs.reading.read_bytes.Goals as goal

pub returns-clause-found : goal.returns-clause-found
returns-clause-found c =
    found_in (λ x. x.items) (λ value. Reads (Bytes value) c.args.from.now c.bytes.new.from) c.bytes.result (byte_array c.args.from.now) c.bytes.new.from
    (λ value read. bytes_reads c.args.from.now value c.bytes.new.from c.bytes.ensures.bytes read) c.bytes.ensures.read

pub returns-clause-only : goal.returns-clause-only
returns-clause-only c =
    λ value now spelled. subst (λ read. TakesIn (λ x. x.items) c.bytes.result read c.bytes.new.from) (bytes_only c.args.from.now value now spelled) c.bytes.ensures.read
