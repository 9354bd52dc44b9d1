use Rattle.ndr_values.proofs.StringLaws.{string_only}
use Rattle.clusapi_stubs.proofs.values.text.Goals as goal

pub returns : goal.returns
returns c = rw c.new.ensures (string_only c.args.from.now _ _ c.in_ok-read_string.ensures.found)
