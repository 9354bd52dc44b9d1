-- The form of the words that ask for a command.
use Rattle.std.proofs.Common.{◌≡◌, ◌<◌, ◌^◌, ℕ, zero, suc, ◌⊎◌, inl, inr, List, [], ◌∷◌, get_or, Option, Some, None, option_map}
use Rattle.std.proofs.Common.{refl, sym, ap, ◌∙◌, subst, arith}
use Rattle.std.specs.Fmt.{decimal}
use Rattle.std.specs.List.{All}
use Rattle.std.proofs.lemmas.Fmt.{first_decimal}
use Rattle.command_words.specs.Commands.{Asked, Asks, Says, ask, drill, export, format, replay, serve, session, showlog}
use Rattle.command_words.specs.Forms.{HasForm, IsPlain, Texts, words_of}
use Rattle.command_words.specs.Forms as texts
use Rattle.command_words.proofs.FormLaws.{PlainEach}
use Rattle.command_words.proofs.Numbers.{zero_word}

abbrev pub texts_for : Asked → Texts
texts_for (session stamp) = texts.session (option_map decimal stamp)
texts_for (serve address count stamp) = texts.serve address (decimal count) (option_map decimal stamp)
texts_for replay = texts.replay
texts_for (drill number events) = texts.drill (decimal number) (decimal events)
texts_for (format cap) = texts.format (decimal cap)
texts_for showlog = texts.showlog
texts_for export = texts.export
texts_for (ask address) = texts.ask address

all_plain : (words : List (List ℕ)) → PlainEach words → All IsPlain words
all_plain [] plain k d inside = absurd (omega (arith, inside))
all_plain (w ∷ ws) plain zero d inside = plain.0
all_plain (w ∷ ws) plain (suc k) d inside = all_plain ws plain.1 k d (omega (arith, inside))

none_or_some : (n : ℕ) → (n ≡ 0) ⊎ (0 < n)
none_or_some zero = inl refl
none_or_some (suc n) = inr (omega arith)

zero_plain : IsPlain (decimal 0)
zero_plain = λ dash. let first : get_or (decimal 0) 0 0 ≡ 48 = ap (λ xs. get_or xs 0 0) zero_word in absurd (omega (arith, first, dash))

positive_plain : (n : ℕ) → 0 < n → n < 2 ^ 64 → IsPlain (decimal n)
positive_plain n some fits = λ dash. let first = first_decimal n some (omega arith) in absurd (omega (arith, first, dash))

decimal_plain : (n : ℕ) → n < 2 ^ 64 → IsPlain (decimal n)
decimal_plain n fits = elim (none_or_some n) [ inl none ↦ subst (λ m. IsPlain (decimal m)) (sym none) zero_plain | inr some ↦ positive_plain n some fits ]

asked_form : (words : List (List ℕ)) (asked : Asked) → Asks words asked → words ≡ words_of (texts_for asked)
asked_form words (session None) asks = asks
asked_form words (session (Some stamp)) asks = asks.0
asked_form words (serve address count None) asks = asks.0
asked_form words (serve address count (Some stamp)) asks = asks.0
asked_form words replay asks = asks
asked_form words (drill number events) asks = asks.0
asked_form words (format cap) asks = asks.0
asked_form words showlog asks = asks
asked_form words export asks = asks
asked_form words (ask address) asks = asks.0

asked_plain : (words : List (List ℕ)) (asked : Asked) → Asks words asked → PlainEach (words_of (texts_for asked))
asked_plain words (session None) asks = (λ dash. absurd (omega (arith, dash)), tt)
asked_plain words (session (Some stamp)) asks = (λ dash. absurd (omega (arith, dash)), (decimal_plain stamp asks.1, tt))
asked_plain words (serve address count None) asks = (λ dash. absurd (omega (arith, dash)), (asks.1, (decimal_plain count (omega (arith, asks.2)), tt)))
asked_plain words (serve address count (Some stamp)) asks =
    (λ dash. absurd (omega (arith, dash)), (asks.1, (decimal_plain count (omega (arith, asks.2)), (decimal_plain stamp asks.3, tt))))
asked_plain words replay asks = (λ dash. absurd (omega (arith, dash)), tt)
asked_plain words (drill number events) asks =
    (λ dash. absurd (omega (arith, dash)), (decimal_plain number asks.1, (decimal_plain events (omega (arith, asks.2)), tt)))
asked_plain words (format cap) asks = (λ dash. absurd (omega (arith, dash)), (decimal_plain cap (omega (arith, asks.1)), tt))
asked_plain words showlog asks = (λ dash. absurd (omega (arith, dash)), tt)
asked_plain words export asks = (λ dash. absurd (omega (arith, dash)), tt)
asked_plain words (ask address) asks = (λ dash. absurd (omega (arith, dash)), (asks.1, tt))

pub has_form : (words : List (List ℕ)) (asked : Asked) → Asks words asked → HasForm words (texts_for asked)
has_form words asked asks =
    let is = asked_form words asked asks in
    record { same = is; plain = subst (All IsPlain) (sym is) (all_plain _ (asked_plain words asked asks)) }

pub says : (words : List (List ℕ)) (asked : Asked) → Asks words asked → Says (texts_for asked) asked
says words (session None) asks = (refl, tt)
says words (session (Some stamp)) asks = (refl, asks.1)
says words (serve address count None) asks = (refl, asks.2, tt)
says words (serve address count (Some stamp)) asks = (refl, asks.2, asks.3)
says words replay asks = refl
says words (drill number events) asks = (refl, asks.1, asks.2)
says words (format cap) asks = (refl, asks.1)
says words showlog asks = refl
says words export asks = refl
says words (ask address) asks = refl

-- What was found, by what its map gives.
pub mapped : {A B : Type 0} (f : A → B) (found : Option A) (a : A) (b : B) → found ≡ Some a → option_map f found ≡ Some b → f a ≡ b
mapped f found a b is gives = let e : Some (f a) ≡ Some b = sym (ap (option_map f) is) ∙ gives in cc (e)

pub not_mapped : {A B C : Type 0} (f : A → B) (found : Option A) (b : B) → found ≡ None → option_map f found ≡ Some b → C
not_mapped {A} {B} f found b is gives = let e : ◌≡◌ {A = Option B} None (Some b) = sym (ap (option_map f) is) ∙ gives in absurd (cc (e))
