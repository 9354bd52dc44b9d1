use Rattle.cluster_script.proofs.LineLaws.{is_fault, is_found, is_only}
use Rattle.cluster_script.proofs.parsing.parse_line.Goals as goal

pub returns-clause-found : goal.returns-clause-found
returns-clause-found c = is_found c.args.text.now c.read_text.result c.read_text.ensures.line

pub returns-clause-only : goal.returns-clause-only
returns-clause-only c = λ line is. is_only c.args.text.now c.read_text.result line c.read_text.ensures.line is

pub returns-clause-fault : goal.returns-clause-fault
returns-clause-fault c = is_fault c.args.text.now c.read_text.result c.read_text.ensures.line
