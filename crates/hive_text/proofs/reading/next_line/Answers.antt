use Rattle.std.proofs.Common.{ℕ, Option, sym, subst}
use Rattle.hive_text.specs.Told.{NextIs}
use Rattle.hive_text.specs.declared.line.Line.{Line}
use Rattle.hive_text.proofs.TextReads.{next_is, no_next}
use Rattle.hive_text.proofs.reading.next_line.Goals as goal

pub returns-in-None : goal.returns-in-None
returns-in-None c = no_next c.args.rest.now c.in-None.ensures

pub returns-in_ok-read_line-in-Some : goal.returns-in_ok-read_line-in-Some
returns-in_ok-read_line-in-Some c =
    subst (λ (o : Option (Line × ℕ)). NextIs c.args.rest.now o) (sym c.sized.ensures)
    (next_is c.args.rest.now c.in-Some.front.now c.in-Some.field-0-1.now c.in_ok-read_line-in-Some.field-0 c.in-Some.ensures c.in_ok-read_line-in-Some.ensures)
