use Rattle.std.proofs.Common.{sym}
use Rattle.text_lines.proofs.LineLaws.{at_feed, without_feed}
use Rattle.text_lines.proofs.cutting.line_length.Goals as goal

pub returns-in-Some-clause-length : goal.returns-in-Some-clause-length
returns-in-Some-clause-length c = at_feed c.args.text.now c.in-Some.place (sym c.in-Some.ensures.first)

pub returns-in-None-clause-length : goal.returns-in-None-clause-length
returns-in-None-clause-length c = without_feed c.args.text.now (sym c.in-None.ensures.first)
