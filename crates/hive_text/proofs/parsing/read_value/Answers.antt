use Rattle.std.proofs.Common.{Option, sym, subst}
use Rattle.std.specs.Prelude.{codes}
use Rattle.hive_text.specs.LineWords.{IsLine, Spells, bare, joined}
use Rattle.hive_text.specs.declared.line.Line.{Line}
use Rattle.hive_text.proofs.LineReads.{value_read}
use Rattle.hive_text.proofs.parsing.read_value.Goals as goal

pub returns : goal.returns
returns c =
    subst (λ (line : Option Line). Spells IsLine bare (joined (codes "value") c.args.name.now c.args.kind.now c.args.bytes.now) line) (sym c.value_of.ensures)
    (value_read c.args.name.now c.args.kind.now c.args.bytes.now c.in_ok-name.name c.read_kind.result c.in_ok-bytes.bytes c.requires.name c.requires.kind c.in_ok-name.ensures c.read_kind.ensures c.in_ok-bytes.ensures)
