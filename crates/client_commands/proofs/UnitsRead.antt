-- `units_of` gives the units whose text a word is, and none where it is the text of no units.
use Rattle.std.proofs.Common.{◌≡◌, ℕ, ◌<◌, ◌≢◌, ◌^◌, Bool, true, false, eqb, leb, List, [], ◌∷◌, ◌++◌, length, inl, inr, Option, Some, None, refl, sym, ap, ◌∙◌, append_assoc, All, arith}
use Rattle.std.specs.Prelude.{IfSome, option_map}
use Rattle.std.specs.Str.{bytes_eq}
use Rattle.std.proofs.lemmas.Bool.{leb-true}
use Rattle.std.proofs.lemmas.Bool.Decides.{nat_tests}
use Rattle.std.proofs.lemmas.Slice.Eq.{bytes_eq-Decides}
use Rattle.std.proofs.lemmas.List.Elements.{All-nil, All-cons, All-head, All-tail}
use Rattle.clus_names.specs.Limits.{IsNameUnit}
use Rattle.clus_names.specs.UnitTexts.{dot, escape, is_plain, unit_piece, unit_pieces, unit_text}
use Rattle.clus_names.specs.UnitFaults.{IsBadPiece, IsBadUnits, piece_fault}
use Rattle.clus_names.proofs.Escapes.{spelled_again}
use Rattle.clus_names.proofs.UnitLaws.{escaped_piece, has_text, never_empty, not_bad, piece_passes}
use Rattle.client_commands.specs.Words.{IsNameText, most_units, pieces_in, short, units_of}

abbrev behind : ℕ → Option (List ℕ) → Option (List ℕ)
behind unit read = option_map (λ units. unit ∷ units) read

plain_piece : (unit : ℕ) → is_plain unit ≡ true → unit_piece unit ≡ unit ∷ []
unfolding unit_piece
plain_piece unit e = rw e refl

plain_step : (unit : ℕ) (rest : List ℕ) → is_plain unit ≡ true → piece_fault (unit ∷ rest) ≡ None → pieces_in 0 (unit ∷ rest) ≡ behind unit (pieces_in 0 rest)
unfolding pieces_in
plain_step unit rest e passes = rw (passes, e) refl

escape_step : (unit : ℕ) (rest : List ℕ) → unit < 2 ^ 16 → piece_fault (escape unit ++ rest) ≡ None → pieces_in 0 (escape unit ++ rest) ≡ behind unit (pieces_in 0 rest)
unfolding pieces_in escape
escape_step unit rest fits passes = rw passes (ap (λ u. behind u (pieces_in 0 rest)) (spelled_again unit fits))

step : (unit : ℕ) (rest : List ℕ) → IsNameUnit unit → pieces_in 0 (unit_piece unit ++ rest) ≡ behind unit (pieces_in 0 rest)
step unit rest is = by (is_plain unit) refl
  where
    by : (b : Bool) → is_plain unit ≡ b → pieces_in 0 (unit_piece unit ++ rest) ≡ behind unit (pieces_in 0 rest)
    by true e = let same = plain_piece unit e in rw same (plain_step unit rest e (rw same at (piece_passes unit rest is)))
    by false e = let same = escaped_piece unit e in rw same (escape_step unit rest is.in_range (rw same at (piece_passes unit rest is)))

pieces_found : (units : List ℕ) → All IsNameUnit units → pieces_in 0 (unit_pieces units) ≡ Some units
unfolding pieces_in
pieces_found [] all = refl
pieces_found (unit ∷ units) all =
    step unit (unit_pieces units) (All-head IsNameUnit unit units all) ∙ ap (behind unit) (pieces_found units (All-tail IsNameUnit unit units all))

no_pieces : (units rest : List ℕ) (offset : ℕ) → All IsNameUnit units → piece_fault rest ≡ Some offset → pieces_in 0 (unit_pieces units ++ rest) ≡ None
unfolding pieces_in piece_fault
no_pieces [] [] offset all bad = absurd (cc bad)
no_pieces [] (byte ∷ rest) offset all bad = at_front byte rest offset bad
  where
    at_front : (lead : ℕ) (others : List ℕ) (place : ℕ) → piece_fault (lead ∷ others) ≡ Some place → pieces_in 0 (lead ∷ others) ≡ None
    at_front lead others place is = rw is refl
no_pieces (unit ∷ units) rest offset all bad =
    ap (pieces_in 0) (append_assoc (unit_piece unit) (unit_pieces units) rest)
    ∙ step unit (unit_pieces units ++ rest) (All-head IsNameUnit unit units all)
    ∙ ap (behind unit) (no_pieces units rest offset (All-tail IsNameUnit unit units all) bad)

pub units_found : (units text : List ℕ) → All IsNameUnit units → unit_text units ≡ text → units_of text ≡ Some units
unfolding units_of
units_found units text all is = by (bytes_eq text (dot ∷ [])) (bytes_eq text (escape dot)) refl refl
  where
    some : eqb (length text) 0 ≡ false
    some = let never : length text ≢ 0 = never_empty units text all is in grind (arith, nat_tests)

    by : (d x : Bool) → bytes_eq text (dot ∷ []) ≡ d → bytes_eq text (escape dot) ≡ x → units_of text ≡ Some units
    by true x at_dot at_escape =
        let none = (has_text units text all is).dot_text ((bytes_eq-Decides text (dot ∷ [])).0 at_dot) in
        rw (some, at_dot) (ap Some (sym none))
    by false true at_dot at_escape =
        let one = (has_text units text all is).escape_text ((bytes_eq-Decides text (escape dot)).0 at_escape) in
        rw (some, at_dot, at_escape) (ap Some (sym one))
    by false false at_dot at_escape =
        let no_dot : text ≢ dot ∷ [] = λ same. absurd (cc ((bytes_eq-Decides text (dot ∷ [])).1 same, at_dot)) in
        let no_escape : text ≢ escape dot = λ same. absurd (cc ((bytes_eq-Decides text (escape dot)).1 same, at_escape)) in
        let pieces = (has_text units text all is).others no_dot no_escape in
        rw (some, at_dot, at_escape) (ap (pieces_in 0) (sym pieces) ∙ pieces_found units all)

dot_is_good : (text : List ℕ) (place : ℕ) → text ≡ dot ∷ [] → IsBadPiece text place → ⊥
dot_is_good text place is bad =
    let unit : IsNameUnit dot = record { not_zero = omega arith; in_range = omega arith } in
    let one : unit_pieces (dot ∷ []) ≡ dot ∷ [] = ap (λ t. t ++ []) (plain_piece dot refl) in
    not_bad (dot ∷ []) text place (All-cons IsNameUnit dot [] unit (All-nil IsNameUnit)) (one ∙ sym is) bad

pub units_refused : (text : List ℕ) (place : ℕ) → IsBadUnits text place → units_of text ≡ None
unfolding units_of
units_refused text place (inl none) = rw (none.0) refl
units_refused text place (inr (other, bad)) = by (eqb (length text) 0) (bytes_eq text (dot ∷ [])) (bytes_eq text (escape dot)) refl refl refl
  where
    by : (n d x : Bool) → eqb (length text) 0 ≡ n → bytes_eq text (dot ∷ []) ≡ d → bytes_eq text (escape dot) ≡ x → units_of text ≡ None
    by true d x none at_dot at_escape = rw none refl
    by false true x none at_dot at_escape = absurd (dot_is_good text place ((bytes_eq-Decides text (dot ∷ [])).0 at_dot) bad)
    by false false true none at_dot at_escape = absurd (other ((bytes_eq-Decides text (escape dot)).0 at_escape))
    by false false false none at_dot at_escape =
        rw (none, at_dot, at_escape) (ap (pieces_in 0) bad.text_is ∙ no_pieces bad.units bad.rest bad.offset bad.good bad.bad)

pub names_fit : (found : Option (List ℕ)) (units : List ℕ) → All IsNameUnit units → found ≡ short units → IfSome found IsNameText
names_fit found units all is = by (leb (length units) most_units) refl
  where
    by : (b : Bool) → leb (length units) most_units ≡ b → IfSome found IsNameText
    by true few = let some : found ≡ Some units = rw few at is in rw some (record { units_are = all; few = leb-true _ _ few })
    by false many = let none : found ≡ None = rw many at is in rw none tt
