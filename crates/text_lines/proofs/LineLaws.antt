-- The first line of a text.
use Rattle.std.proofs.Common.{◌≡◌, ℕ, ◌+◌, ◌-◌, ◌<◌, ◌≤◌, Bool, true, false, cond, ltb, List, [], ◌∷◌, length, take, drop, Option, Some, None, refl, sym, ap, ◌∙◌, subst, arith}
use Rattle.std.specs.Prelude.{not, position}
use Rattle.std.specs.List.{onto_first, position_or_len, slice_split}
use Rattle.std.proofs.lemmas.Bool.{ltb-false}
use Rattle.std.proofs.lemmas.List.{drop-drop, take_rest}
use Rattle.std.proofs.lemmas.List.Splits.{length-slice_split, slice_split-cons_no, slice_split_first}
use Rattle.std.proofs.lemmas.List.Sums.{count_by-le-length, prefix_len-le-length}
use Rattle.text_lines.specs.Lines.{is_line_feed, lines_of}

-- ---- where it ends

some_at : (b : Bool) (n place : ℕ) → cond b (Some n) None ≡ Some place → (b ≡ true) × (n ≡ place)
some_at true n place is = (refl, cc is)
some_at false n place is = absurd (cc is)

none_at : (b : Bool) (n : ℕ) → cond b (Some n) None ≡ None → b ≡ false
none_at true n is = absurd (cc is)
none_at false n is = refl

abbrev size : List ℕ → ℕ
size text = position_or_len is_line_feed text

pub at_feed : (text : List ℕ) (place : ℕ) → position is_line_feed text ≡ Some place → place ≡ size text
at_feed text place e = sym (some_at (ltb (size text) (length text)) (size text) place e).1

pub without_feed : (text : List ℕ) → position is_line_feed text ≡ None → length text ≡ size text
without_feed text e =
    let past : length text ≤ size text = ltb-false _ _ (none_at (ltb (size text) (length text)) (size text) e) in
    let within = prefix_len-le-length (λ byte. not (is_line_feed byte)) text in
    omega arith

-- ---- the line and what is behind it

cut_by : (b : Bool) (byte : ℕ) (text : List ℕ) → is_line_feed byte ≡ b → length (byte ∷ text) ≤ size (byte ∷ text) → (length text ≤ size text → slice_split is_line_feed text ≡ text ∷ [])
    → slice_split is_line_feed (byte ∷ text) ≡ (byte ∷ text) ∷ []
cut_by true byte text is long others = absurd (omega (arith, (rw is at long)))
cut_by false byte text is long others =
    slice_split-cons_no is_line_feed byte text is ∙ ap (λ (ls : List (List ℕ)). onto_first byte ls) (others (omega (arith, (rw is at long))))

uncut : (text : List ℕ) → length text ≤ size text → slice_split is_line_feed text ≡ text ∷ []
uncut [] long = refl
uncut (byte ∷ text) long = cut_by (is_line_feed byte) byte text refl long (uncut text)

pub last_line : (text : List ℕ) → size text ≡ length text → lines_of text ≡ text ∷ []
unfolding lines_of
last_line text e = uncut text (omega (arith, e))

pub first_line : (text : List ℕ) → size text < length text → lines_of text ≡ take (size text) text ∷ lines_of (drop (size text + 1) text)
unfolding lines_of
first_line text e = slice_split_first is_line_feed text 0 e

pub few_lines : (text : List ℕ) → length (lines_of text) ≤ length text + 1
unfolding lines_of
few_lines text = omega (arith, length-slice_split is_line_feed text, count_by-le-length is_line_feed text)

pub cut_line : (text line rest : List ℕ) (n : ℕ) → n ≡ size text → n < length text → line ≡ take n text → rest ≡ drop n text
    → lines_of text ≡ line ∷ lines_of (take (length rest - 1) (drop 1 rest))
cut_line text line rest n is short front back =
    let behind : take (length rest - 1) (drop 1 rest) ≡ drop (size text + 1) text =
    take_rest rest 1 ∙ ap (λ (t : List ℕ). drop 1 t) back ∙ drop-drop 1 n text ∙ ap (λ (m : ℕ). drop (m + 1) text) is in
    first_line text (subst (λ (m : ℕ). m < length text) is short)
    ∙ ap (λ (l : List ℕ). l ∷ lines_of (drop (size text + 1) text)) (ap (λ (m : ℕ). take m text) (sym is) ∙ sym front)
    ∙ ap (λ (t : List ℕ). line ∷ lines_of t) (sym behind)
