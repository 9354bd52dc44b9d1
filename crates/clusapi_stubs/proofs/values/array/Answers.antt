use Rattle.ndr_values.proofs.ValueLaws.{bytes_only}
use Rattle.clusapi_stubs.proofs.values.array.Goals as goal

pub returns : goal.returns
returns c = rw c.new.ensures (bytes_only c.args.from.now _ _ c.in_ok-read_bytes.ensures.found)
