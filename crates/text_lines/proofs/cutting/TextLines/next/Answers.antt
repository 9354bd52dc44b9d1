use Rattle.std.proofs.Common.{sym, ap, ◌∙◌, arith}
use Rattle.text_lines.specs.Lines.{lines_in}
use Rattle.text_lines.proofs.LineLaws.{cut_line, last_line}
use Rattle.text_lines.proofs.cutting.TextLines.next.Goals as goal

pub returns-then-size-text-clause-line : goal.returns-then-size-text-clause-line
returns-then-size-text-clause-line c =
    sym c.self.view_is ∙ ap lines_in c.in_ok-text.was ∙ last_line c.in_ok-text.text.now (sym c.line_length-size.ensures.length ∙ c.if-size-text.true)

pub returns-clause-line : goal.returns-clause-line
returns-clause-line c =
    sym c.self.view_is ∙ ap lines_in c.in_ok-text.was
    ∙ cut_line c.in_ok-text.text.now _ c.split_at.result.1.now c.line_length-size.result c.line_length-size.ensures.length (omega (arith, c.line_length-size.ensures.within, c.if-size-text.false)) c.split_at.ensures.front c.split_at.ensures.back
