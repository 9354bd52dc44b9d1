use Rattle.ndr_values.specs.Reading.{handle}
use Rattle.ndr_values.specs.Spelling.{Reads, Handle}
use Rattle.ndr_values.proofs.ValueLaws.{handle_only}
use Rattle.clusapi_stubs.proofs.Taking.{taken}
use Rattle.clusapi_stubs.proofs.values.handle.Goals as goal

pub returns : goal.returns
returns c =
    taken (λ x. x) (λ x. Reads (Handle x) c.args.from.now c.read_handle.new.from) (handle c.args.from.now) c.read_handle.new.from
    (λ x found. handle_only c.args.from.now x c.read_handle.new.from found) c.read_handle.result c.read_handle.ensures.found c.read_handle.ensures.fault
