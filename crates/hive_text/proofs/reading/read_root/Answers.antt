use Rattle.std.proofs.Common.{ℕ, List, Option, drop, subst}
use Rattle.std.proofs.lemmas.List.{take_rest}
use Rattle.hive_text.specs.Told.{NextIs}
use Rattle.hive_text.specs.declared.line.Line.{Line}
use Rattle.hive_text.proofs.TextReads.{root_missing}
use Rattle.hive_text.proofs.reading.read_root.Goals as goal

pub returns-in-None-clause-fault : goal.returns-in-None-clause-fault
returns-in-None-clause-fault c =
    let next = subst (λ (rest : List ℕ). NextIs rest c.in_ok-line.field-0) (take_rest c.args.text.now 7) c.in_ok-line.ensures in
    let none = subst (λ (line : Option (Line × ℕ)). NextIs (drop 7 c.args.text.now) line) c.in-None.is next in
    root_missing c.args.cap c.args.text.now c.requires.range c.requires.head none
