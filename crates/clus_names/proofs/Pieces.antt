-- How a text falls into pieces and parts at its separators.
use Rattle.std.proofs.Common.{◌≡◌, ℕ, ◌+◌, ◌<◌, ◌≤◌, Bool, true, false, cond, ltb, List, [], ◌∷◌, length, take, drop, Option, Some, None, refl, ap, ◌∙◌, All, arith}
use Rattle.std.specs.List.{position, position_or_len}
use Rattle.std.proofs.lemmas.Bool.{ltb-true, ltb-false}
use Rattle.std.proofs.lemmas.List.Elements.{All-head, All-tail}
use Rattle.std.proofs.lemmas.List.Sums.{fails_before_first}
use Rattle.std.proofs.lemmas.List.Splits.{slice_split_first, slice_split_none, length-slice_split}
use Rattle.clus_names.specs.Parts.{is_separator, pieces_of, parts_of, without_empty_end}

abbrev pub found : Bool → ℕ → Option ℕ
found within place = cond within (Some place) None

pub some_at : (b : Bool) (n at : ℕ) → found b n ≡ Some at → (b ≡ true) × (n ≡ at)
some_at true n at e = (refl, cc)
some_at false n at e = absurd cc

pub none_at : (b : Bool) (n : ℕ) → found b n ≡ None → b ≡ false
none_at true n e = absurd cc
none_at false n e = refl

pub pieces_at : (text : List ℕ) (at : ℕ) → position is_separator text ≡ Some at → pieces_of text ≡ take at text ∷ pieces_of (drop (at + 1) text)
pieces_at text at e =
    let place = position_or_len is_separator text in
    let f = some_at (ltb place (length text)) place at e in
    let within : place < length text = ltb-true _ _ f.0 in
    rw (← f.1) (slice_split_first is_separator text 0 within)

pub pieces_uncut : (text : List ℕ) → position is_separator text ≡ None → pieces_of text ≡ text ∷ []
pieces_uncut text e =
    let place = position_or_len is_separator text in
    let past : length text ≤ place = ltb-false _ _ (none_at (ltb place (length text)) place e) in
    slice_split_none is_separator text (λ k d l. fails_before_first is_separator text k d (omega arith))

some_pieces : (text : List ℕ) → 0 < length (pieces_of text)
some_pieces text = omega (arith, length-slice_split is_separator text)

kept : (piece : List ℕ) (pieces : List (List ℕ)) → 0 < length pieces → without_empty_end (piece ∷ pieces) ≡ piece ∷ without_empty_end pieces
kept piece [] l = absurd (omega arith)
kept piece (next ∷ pieces) l = refl

-- where no piece is empty, each is a part
pub all_kept : (pieces : List (List ℕ)) → All (λ piece. 0 < length piece) pieces → without_empty_end pieces ≡ pieces
all_kept [] h = refl
all_kept ([] ∷ []) h = absurd (omega (arith, All-head (λ (piece : List ℕ). 0 < length piece) [] [] h))
all_kept ((unit ∷ units) ∷ []) h = refl
all_kept (piece ∷ next ∷ pieces) h = ap (λ ps. piece ∷ ps) (all_kept (next ∷ pieces) (All-tail (λ (p : List ℕ). 0 < length p) piece (next ∷ pieces) h))

pub parts_at : (text : List ℕ) (at : ℕ) → position is_separator text ≡ Some at → parts_of text ≡ take at text ∷ parts_of (drop (at + 1) text)
parts_at text at e = ap without_empty_end (pieces_at text at e) ∙ kept (take at text) (pieces_of (drop (at + 1) text)) (some_pieces (drop (at + 1) text))

pub parts_uncut : (text : List ℕ) → position is_separator text ≡ None → 0 < length text → parts_of text ≡ text ∷ []
parts_uncut [] e l = absurd (omega arith)
parts_uncut (unit ∷ units) e l = ap without_empty_end (pieces_uncut (unit ∷ units) e)
