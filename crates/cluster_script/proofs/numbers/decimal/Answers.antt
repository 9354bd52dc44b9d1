use Rattle.std.proofs.Common.{List, ℕ, sym, subst, ◌∙◌}
use Rattle.std.specs.Str.Parse.{ParsesUnsigned}
use Rattle.cluster_script.proofs.NumbersRead.{is_text, none_read, number_read}
use Rattle.cluster_script.proofs.numbers.decimal.Goals as goal

pub returns-then-not-is_decimal : goal.returns-then-not-is_decimal
returns-then-not-is_decimal c = none_read c.args.word.now (sym c.is_decimal.ensures ∙ c.if-not-is_decimal.true)

pub returns-in-Ok : goal.returns-in-Ok
returns-in-Ok c =
    let P : List ℕ → Type 0 = λ word. ParsesUnsigned 64 10 word c.parse.result in
    let reads : P c.args.word.now = subst P c.in-Ok.ensures.cases.0 c.parse.ensures.value.0 in
    c.ok.ensures.value ∙ number_read c.args.word.now c.parse.result (sym c.is_decimal.ensures ∙ c.if-not-is_decimal.false) reads

pub returns-in-Err : goal.returns-in-Err
returns-in-Err c = absurd (c.in-Err.ensures.cases.0 (is_text c.args.word.now (sym c.is_decimal.ensures ∙ c.if-not-is_decimal.false)))
