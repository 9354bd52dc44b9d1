use Rattle.std.proofs.Common.{Option, sym, subst}
use Rattle.std.specs.Prelude.{codes}
use Rattle.hive_text.specs.LineWords.{IsLine, Spells, bare, joined}
use Rattle.hive_text.specs.declared.line.Line.{Line}
use Rattle.hive_text.proofs.LineReads.{key_read}
use Rattle.hive_text.proofs.parsing.read_key.Goals as goal

pub returns : goal.returns
returns c =
    subst (λ (line : Option Line). Spells IsLine bare (joined (codes "key") c.args.part.now c.args.birth.now c.args.written.now) line) (sym c.key_of.ensures)
    (key_read c.args.part.now c.args.birth.now c.args.written.now c.in_ok-part.part c.read_number.result c.read_number-2.result c.requires.part c.requires.birth c.in_ok-part.ensures c.read_number.ensures c.read_number-2.ensures)
