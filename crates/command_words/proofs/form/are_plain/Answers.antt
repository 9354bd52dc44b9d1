use Rattle.std.proofs.Common.{◌≡◌, ◌<◌, ◌∷◌, ℕ, List, [], String, Global, arith, ap, get_or, length, map, rules, sym, string_bytes, subst, suc, take_all, zero}
use Rattle.std.specs.List.{All}
use Rattle.std.proofs.lemmas.List.Elements.{All-map, All-more}
use Rattle.command_words.specs.Forms.{IsPlain}
use Rattle.command_words.proofs.form.are_plain.Goals as goal

abbrev IsPlainWord : String Global → Type 0
IsPlainWord word = IsPlain (string_bytes word)

-- each word of a plain list is plain
each : {X : Type 0} (f : X → List ℕ) (xs : List X) (k : ℕ) (x : X) → All IsPlain (map f xs) → k < length xs → x ≡ get_or xs k x → IsPlain (f x)
each f [] k x plain inside is = absurd (omega arith)
each f (y ∷ ys) zero x plain inside is = subst IsPlain (sym (ap f is)) (plain 0 (f y) (omega arith))
each f (y ∷ ys) (suc k) x plain inside is = each f ys k x (λ i d below. plain (suc i) d (omega arith)) (omega arith) is

pub loop-word-preserved : goal.loop-word-preserved
loop-word-preserved c =
    let one : IsPlain (string_bytes c.word-item.result) = subst IsPlain c.as_str.ensures.value (c.is_plain.ensures.0 (search rules)) in
    All-more IsPlainWord c.args.words.now c.loop-word.word-index c.word-item.result (omega arith) c.loop-word.invariant (subst IsPlainWord c.word-item.is one)

pub returns : goal.returns
returns c =
    let whole = subst (All IsPlainWord) (take_all c.loop-word.word-index c.args.words.now (omega arith)) c.loop-word.invariant in
    (λ _. All-map IsPlain string_bytes c.args.words.now whole, λ _. search rules)

pub returns-then-not-is_plain : goal.returns-then-not-is_plain
returns-then-not-is_plain c = (
  λ no. absurd (search rules),
  λ plain.
      let one : IsPlain (string_bytes c.word-item.result) = each string_bytes c.args.words.now c.loop-word.word-index c.word-item.result plain (omega arith) c.word-item.is in
      rw (← c.if-not-is_plain.true) (c.is_plain.ensures.1 (subst IsPlain (sym c.as_str.ensures.value) one)),
)
