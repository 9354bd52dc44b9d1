use Rattle.std.proofs.Common.{List, ℕ, Option, sym, subst, ◌∙◌}
use Rattle.std.specs.Fmt.{decimal}
use Rattle.std.specs.Str.Parse.{ParsesUnsigned}
use Rattle.hive_text.specs.LineWords.{IsWord64, Spells}
use Rattle.hive_text.proofs.WordReads.{is_text, none_read, number_read}
use Rattle.hive_text.proofs.words.read_number.Goals as goal

pub returns-then-not-is_decimal : goal.returns-then-not-is_decimal
returns-then-not-is_decimal c = none_read c.args.word.now (sym c.is_decimal.ensures ∙ c.if-not-is_decimal.true)

pub returns-in-Ok : goal.returns-in-Ok
returns-in-Ok c =
    let P : List ℕ → Type 0 = λ word. ParsesUnsigned 64 10 word c.parse.result in
    let reads : P c.args.word.now = subst P c.in-Ok.ensures.cases.0 c.parse.ensures.value.0 in
    subst (λ (o : Option ℕ). Spells IsWord64 decimal c.args.word.now o) (sym c.ok.ensures.value)
    (number_read c.args.word.now c.parse.result (sym c.is_decimal.ensures ∙ c.if-not-is_decimal.false) reads)

pub returns-in-Err : goal.returns-in-Err
returns-in-Err c = absurd (c.in-Err.ensures.cases.0 (is_text c.args.word.now (sym c.is_decimal.ensures ∙ c.if-not-is_decimal.false)))
