use Rattle.std.proofs.Common.{subst}
use Rattle.ndr_values.specs.Reading.{Takes, pointer}
use Rattle.ndr_values.specs.Spelling.{Reads, Pointer}
use Rattle.ndr_values.proofs.Steps.{found}
use Rattle.ndr_values.proofs.ValueLaws.{pointer_reads, pointer_only}
use Rattle.ndr_values.proofs.reading.read_pointer.Goals as goal

pub returns-clause-found : goal.returns-clause-found
returns-clause-found c =
    found (λ x. x) (λ value. Reads (Pointer value) c.args.from.now c.present.new.from) c.present.result (pointer c.args.from.now) c.present.new.from
    (λ value read. pointer_reads c.args.from.now value c.present.new.from c.present.ensures.bytes read) c.present.ensures.read

pub returns-clause-only : goal.returns-clause-only
returns-clause-only c =
    λ value now spelled. subst (λ read. Takes (λ x. x) c.present.result read c.present.new.from) (pointer_only c.args.from.now value now spelled) c.present.ensures.read
