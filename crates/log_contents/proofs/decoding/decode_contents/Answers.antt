use Rattle.log_contents.proofs.Exact.{gives_contents}
use Rattle.log_contents.proofs.decoding.decode_contents.Goals as goal

pub returns-clause-only : goal.returns-clause-only
returns-clause-only c = λ held is. gives_contents c.args.found.now c.read_contents.result held c.read_contents.ensures.found c.read_contents.ensures.fault is
