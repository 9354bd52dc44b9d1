use Rattle.std.proofs.Common.{◌≡◌}
use Rattle.std.specs.Prelude.{codes}
use Rattle.hive_text.proofs.LineReads.{other_verb}
use Rattle.hive_text.proofs.parsing.read_four.Goals as goal

pub returns : goal.returns
returns c =
    let no_key : c.args.verb.now ≡ codes "key" → ⊥ = λ is. absurd (cc (c.is_key.ensures.1 is, c.if-is_key.false)) in
    let no_value : c.args.verb.now ≡ codes "value" → ⊥ = λ is. absurd (cc (c.is_value.ensures.1 is, c.if-is_value.false)) in
    other_verb c.args.verb.now c.args.first.now c.args.second.now c.args.third.now no_key no_value c.requires.verb c.requires.first c.requires.second
