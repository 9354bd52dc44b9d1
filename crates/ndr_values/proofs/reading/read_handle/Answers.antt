use Rattle.std.proofs.Common.{subst}
use Rattle.ndr_values.specs.Reading.{Takes, handle}
use Rattle.ndr_values.specs.Spelling.{Reads, Handle}
use Rattle.ndr_values.proofs.Steps.{found}
use Rattle.ndr_values.proofs.ValueLaws.{handle_reads, handle_only}
use Rattle.ndr_values.proofs.reading.read_handle.Goals as goal

pub returns-clause-found : goal.returns-clause-found
returns-clause-found c =
    found (λ x. x) (λ value. Reads (Handle value) c.args.from.now c.whole_handle.new.from) c.whole_handle.result (handle c.args.from.now) c.whole_handle.new.from
    (λ value read. handle_reads c.args.from.now value c.whole_handle.new.from c.whole_handle.ensures.bytes read) c.whole_handle.ensures.read

pub returns-clause-only : goal.returns-clause-only
returns-clause-only c =
    λ value now spelled. subst (λ read. Takes (λ x. x) c.whole_handle.result read c.whole_handle.new.from) (handle_only c.args.from.now value now spelled) c.whole_handle.ensures.read
