use Rattle.std.proofs.Common.{◌≡◌, ◌≢◌, ◌<◌, [], ◌∷◌, length, sym, ◌∙◌, arith}
use Rattle.std.proofs.lemmas.Bool.Decides.{nat_tests}
use Rattle.hive_text.proofs.WordReads.{by_lower_case, not_decoded, nothing_read}
use Rattle.hive_text.proofs.words.read_data.Goals as goal

pub returns-then-is_empty : goal.returns-then-is_empty
returns-then-is_empty c =
    let none : length c.args.word.now ≡ 0 = grind (arith, nat_tests) in
    nothing_read c.args.word.now none

pub returns-in-Some : goal.returns-in-Some
returns-in-Some c =
    let other : c.args.word.now ≢ 45 ∷ [] = λ is. absurd (cc (c.is_dash.ensures.1 is, c.if-is_dash.false)) in
    let positive : 0 < length c.args.word.now = grind (arith, nat_tests) in
    let some : length c.args.word.now ≡ 0 → ⊥ = λ none. omega (arith, none, positive) in
    by_lower_case c.args.word.now other some c.in-Some.bytes c.lower_case.result (sym c.in_ok-bytes.ensures ∙ c.in-Some.is) c.lower_case.ensures

pub returns-in-None : goal.returns-in-None
returns-in-None c =
    let other : c.args.word.now ≢ 45 ∷ [] = λ is. absurd (cc (c.is_dash.ensures.1 is, c.if-is_dash.false)) in
    let positive : 0 < length c.args.word.now = grind (arith, nat_tests) in
    let some : length c.args.word.now ≡ 0 → ⊥ = λ none. omega (arith, none, positive) in
    not_decoded c.args.word.now other some (sym c.in_ok-bytes.ensures ∙ c.in-None.is)
