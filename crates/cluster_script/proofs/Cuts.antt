-- A text cut at the first of some bytes.
use Rattle.std.proofs.Common.{◌≡◌, ℕ, ◌+◌, ◌-◌, ◌<◌, ◌≤◌, Bool, true, false, ltb, List, [], ◌∷◌, length, Option, Some, None, Ok, Err, refl, sym, ap, ◌∙◌, arith, length-drop}
use Rattle.std.specs.Prelude.{◌↔◌, IsTrue, MatchOption, is_some, not, option_and_then, position}
use Rattle.std.specs.Borrow.{Bor}
use Rattle.std.specs.List.{after_first, before_first, position_or_len}
use Rattle.std.proofs.lemmas.Bool.{ltb-false}
use Rattle.std.proofs.lemmas.List.{length-take-le, take_all, drop_all}
use Rattle.std.proofs.lemmas.List.Splits.{length-slice_split, slice_split_first, slice_split_none}
use Rattle.std.proofs.lemmas.List.Sums.{fails_before_first, prefix_len-le-length}
use Rattle.clus_names.proofs.Pieces.{none_at, some_at}
use Rattle.cluster_script.specs.declared.line_fault.LineFault.TheVariants.{Column}
use Rattle.cluster_script.specs.Values.{decimal_of, member_of, member_with, number_of}
use Rattle.cluster_script.specs.Words.{IsWithinLine, end_at, is_byte, most, word_at, words_in, words_of}

pub at_first : (byte : ℕ) (text : List ℕ) (place : ℕ) → position (is_byte byte) text ≡ Some place → place ≡ position_or_len (is_byte byte) text
at_first byte text place e = sym (some_at (ltb (position_or_len (is_byte byte) text) (length text)) (position_or_len (is_byte byte) text) place e).1

pub at_none : (byte : ℕ) (text : List ℕ) → position (is_byte byte) text ≡ None → position_or_len (is_byte byte) text ≡ length text
at_none byte text e =
    let past : length text ≤ position_or_len (is_byte byte) text = ltb-false _ _ (none_at (ltb (position_or_len (is_byte byte) text) (length text)) (position_or_len (is_byte byte) text) e) in
    let within = prefix_len-le-length (λ b. not (is_byte byte b)) text in
    omega arith

pub uncut : (byte : ℕ) (text : List ℕ) → position_or_len (is_byte byte) text ≡ length text → text ≡ before_first (is_byte byte) text
uncut byte text e = rw e (sym (take_all (length text) text (omega arith)))

-- What is left behind a word.
abbrev pub Behind : ℕ → List ℕ → Option (Bor (List ℕ)) → Type 0
Behind byte text rest = MatchOption rest (position_or_len (is_byte byte) text ≡ length text)
    (λ rest. (position_or_len (is_byte byte) text < length text) × (rest.now ≡ after_first (is_byte byte) text))

pub words_cut : (text front : List ℕ) (rest : Option (Bor (List ℕ))) → front ≡ before_first (is_byte 32) text → Behind 32 text rest → words_of text ≡ front ∷ words_in rest
words_cut text front None is end =
    slice_split_none (is_byte 32) text (λ k d l. fails_before_first (is_byte 32) text k d (omega arith)) ∙ ap (λ w. w ∷ []) (uncut 32 text end ∙ sym is)
words_cut text front (Some rest) is (within, behind) =
    rw (is, behind) (slice_split_first (is_byte 32) text 0 within)

pub within_line : (next : ℕ) (text front : List ℕ) (rest : Option (Bor (List ℕ))) → 1 ≤ next → next + length text ≤ most + 1 → front ≡ before_first (is_byte 32) text
    → Behind 32 text rest → IsWithinLine (next + length front + 1) rest
within_line next text front None first bounded is end = record {
  first = omega arith;
  bounded = omega (arith, ap (λ (l : List ℕ). length l) (is ∙ sym (uncut 32 text end)));
}
within_line next text front (Some rest) first bounded is (within, behind) = record {
  first = omega arith;
  bounded =
      let size : length front ≡ position_or_len (is_byte 32) text = ap (λ (l : List ℕ). length l) is ∙ length-take-le (position_or_len (is_byte 32) text) text (omega arith) in
      let left : length rest.now ≡ length text - (position_or_len (is_byte 32) text + 1) = ap (λ (l : List ℕ). length l) behind ∙ length-drop (position_or_len (is_byte 32) text + 1) text in
      omega arith;
}

pub word_left : (column : ℕ) (text : List ℕ) → end_at column (words_of text) ≡ Err (Column column)
word_left column text = some (words_of text) (omega (arith, length-slice_split (is_byte 32) text))
  where
    some : (words : List (List ℕ)) → 0 < length words → end_at column words ≡ Err (Column column)
    some [] l = absurd (omega (arith, l))
    some (word ∷ words) l = refl

some_words : (text : List ℕ) → ¬ (words_of text ≡ [])
some_words text none = absurd (omega (arith, length-slice_split (is_byte 32) text, ap (λ (words : List (List ℕ)). length words) none))

pub at_end : (rest : Option (Bor (List ℕ))) (result : Bool) → is_some rest ≡ not result → IsTrue result ↔ (words_in rest ≡ [])
at_end None true e = (λ is. refl, λ is. refl)
at_end None false e = absurd (cc e)
at_end (Some rest) true e = absurd (cc e)
at_end (Some rest) false e = (λ is. absurd (cc (is)), λ none. absurd (some_words rest.now none))

lacks_inc : (node : Option ℕ) → member_with node None ≡ None
lacks_inc None = refl
lacks_inc (Some n) = refl

no_number : number_of 1 4_294_967_295 [] ≡ None
unfolding decimal_of
no_number = refl

pub no_inc : (floor : ℕ) (word : List ℕ) (inc : Option (Bor (List ℕ))) → Behind 46 word inc → None ≡ option_and_then (λ word. number_of 1 4_294_967_295 word.now) inc
    → None ≡ member_of floor word
unfolding member_of
no_inc floor word None end none =
    let nothing : after_first (is_byte 46) word ≡ [] = drop_all (position_or_len (is_byte 46) word + 1) word (omega arith) in
    let refused : number_of 1 4_294_967_295 (after_first (is_byte 46) word) ≡ None = ap (number_of 1 4_294_967_295) nothing ∙ no_number in
    rw refused (sym (lacks_inc (number_of (floor + 1) 16 (before_first (is_byte 46) word))))
no_inc floor word (Some inc) (within, behind) none =
    let refused : number_of 1 4_294_967_295 (after_first (is_byte 46) word) ≡ None = rw behind at (sym none) in
    rw refused (sym (lacks_inc (number_of (floor + 1) 16 (before_first (is_byte 46) word))))

pub word_taken : (last next : ℕ) (text front : List ℕ) (rest : Option (Bor (List ℕ))) → front ≡ before_first (is_byte 32) text → Behind 32 text rest
    → word_at (record { last = last; next = next; left = words_of text }) ≡ Ok (front, record { last = next; next = next + (length front + 1); left = words_in rest })
unfolding word_at
word_taken last next text front rest is behind =
    let place : next + length front + 1 ≡ next + (length front + 1) = omega arith in
    rw (words_cut text front rest is behind, place) refl
