-- What is printed of units is read as these units, and is the text of no others.
use Rattle.std.proofs.Common.{◌≡◌, ℕ, ◌+◌, ◌<◌, ◌≤◌, ◌^◌, ◌≢◌, ◌-◌, Bool, true, false, cond, eqb, ltb, List, [], ◌∷◌, ◌++◌, length, take, drop, slice_index_or, Some, None, Result, Ok, Err, inr, refl, sym, ap, subst, ◌∙◌, append_assoc, length-append, All, arith}
use Rattle.std.specs.Prelude.{IfOk, IfErr}
use Rattle.std.specs.Str.{bytes_eq}
use Rattle.std.proofs.lemmas.Bool.{lt-ltb}
use Rattle.std.proofs.lemmas.Bool.Decides.{nat_tests}
use Rattle.std.proofs.lemmas.Slice.Eq.{bytes_eq-Decides}
use Rattle.std.proofs.Math.Seq.{take-add}
use Rattle.std.proofs.lemmas.Grind.{flat_map-append}
use Rattle.std.proofs.lemmas.List.{append-nil, take-append-drop, take_all, take_rest, length-take, length-drop, length-take-le}
use Rattle.std.proofs.lemmas.List.Elements.{All-nil, All-cons, All-head, All-tail, All-append}
use Rattle.clus_names.specs.Limits.{LacksZero, IsNameUnit}
use Rattle.clus_names.specs.UnitTexts.{percent, dot, is_plain, escape, unit_piece, unit_pieces, unit_text}
use Rattle.clus_names.specs.UnitFaults.{spelled_unit, escape_fault, piece_fault, IsBadPiece, IsPieceAt, RefusesPieces, RefusesUnits, GivesUnits}
use Rattle.clus_names.specs.declared.units_fault.UnitsFault.{UnitsFault}
use Rattle.clus_names.specs.declared.units_fault.UnitsFault.TheVariants.{Bad, Memory}
use Rattle.clus_names.proofs.Escapes.{digits_of_unit, spelled_again, four_digits}

-- what the front of a text was read as
pub record HaveRead (text : List ℕ) (place : ℕ) (units : List ℕ) : Type 0 where
  pub within : place ≤ length text
  pub front : take place text ≡ unit_pieces units
  pub good : All IsNameUnit units

-- ---- one piece

plain_piece : (unit : ℕ) → is_plain unit ≡ true → unit_piece unit ≡ unit ∷ []
unfolding unit_piece
plain_piece unit e = rw e refl

pub escaped_piece : (unit : ℕ) → is_plain unit ≡ false → unit_piece unit ≡ escape unit
unfolding unit_piece
escaped_piece unit e = rw e refl

not_percent : (unit : ℕ) → is_plain unit ≡ true → unit ≢ percent
not_percent unit e is = grind (arith, nat_tests)

plain_passes : (unit : ℕ) (rest : List ℕ) → is_plain unit ≡ true → piece_fault (unit ∷ rest) ≡ None
unfolding piece_fault
plain_passes unit rest e = rw e refl

escape_passes : (unit : ℕ) (rest : List ℕ) → IsNameUnit unit → is_plain unit ≡ false → piece_fault (escape unit ++ rest) ≡ None
unfolding piece_fault escape escape_fault
escape_passes unit rest h e =
    let some : eqb unit 0 ≡ false = (let z = h.not_zero in grind (arith, nat_tests)) in
    rw (four_digits unit h.in_range, spelled_again unit h.in_range, some, e) refl

pub piece_passes : (unit : ℕ) (rest : List ℕ) → IsNameUnit unit → piece_fault (unit_piece unit ++ rest) ≡ None
piece_passes unit rest h = by (is_plain unit) refl
  where
    by : (b : Bool) → is_plain unit ≡ b → piece_fault (unit_piece unit ++ rest) ≡ None
    by true e = rw (plain_piece unit e) (plain_passes unit rest e)
    by false e = rw (escaped_piece unit e) (escape_passes unit rest h e)

pub pieces_pass : (units : List ℕ) → All IsNameUnit units → piece_fault (unit_pieces units) ≡ None
unfolding piece_fault
pieces_pass [] h = refl
pieces_pass (unit ∷ units) h = piece_passes unit (unit_pieces units) (All-head IsNameUnit unit units h)

escape_parts : (u v : ℕ) (a b : List ℕ) → u < 2 ^ 16 → v < 2 ^ 16 → escape u ++ a ≡ escape v ++ b → (u ≡ v) × (a ≡ b)
unfolding escape
escape_parts u v a b lu lv e =
    let digits : digits_of_unit u ≡ digits_of_unit v = cc in
    (sym (spelled_again u lu) ∙ ap spelled_unit digits ∙ spelled_again v lv, cc)

mixed : (u v : ℕ) (a b : List ℕ) → is_plain u ≡ true → u ∷ a ≡ escape v ++ b → ⊥
unfolding escape
mixed u v a b e is =
    let same : u ≡ percent = cc in
    not_percent u e same

-- a text has one first piece
pub one_piece : (u v : ℕ) (a b : List ℕ) → IsNameUnit u → IsNameUnit v → unit_piece u ++ a ≡ unit_piece v ++ b → (u ≡ v) × (a ≡ b)
one_piece u v a b hu hv is = by (is_plain u) (is_plain v) refl refl
  where
    by : (p q : Bool) → is_plain u ≡ p → is_plain v ≡ q → (u ≡ v) × (a ≡ b)
    by true true eu ev =
        let same : u ∷ a ≡ v ∷ b = rw (plain_piece u eu, plain_piece v ev) at is in
        (cc, cc)
    by true false eu ev = absurd (mixed u v a b eu (rw (plain_piece u eu, escaped_piece v ev) at is))
    by false true eu ev = absurd (mixed v u b a ev (sym (rw (escaped_piece u eu, plain_piece v ev) at is)))
    by false false eu ev = escape_parts u v a b hu.in_range hv.in_range (rw (escaped_piece u eu, escaped_piece v ev) at is)

piece_some : (unit : ℕ) → 0 < length (unit_piece unit)
unfolding escape
piece_some unit = by (is_plain unit) refl
  where
    by : (b : Bool) → is_plain unit ≡ b → 0 < length (unit_piece unit)
    by true e = rw (plain_piece unit e) (omega arith)
    by false e = rw (escaped_piece unit e) (omega arith)

escape_some : (unit : ℕ) → 0 < length (escape unit)
unfolding escape
escape_some unit = omega arith

-- ---- pieces in a row

pub no_pieces : (units : List ℕ) → unit_pieces units ≡ [] → units ≡ []
no_pieces [] e = refl
no_pieces (unit ∷ units) e = absurd (omega (arith, piece_some unit, ap (λ t. length t) e, length-append (unit_piece unit) (unit_pieces units)))

-- what stands behind the pieces of some units, where the whole is pieces
pub record GoesOn (units front : List ℕ) (rest : List ℕ) : Type 0 where
  pub more : List ℕ
  pub units_are : units ≡ front ++ more
  pub rest_is : rest ≡ unit_pieces more
  pub good : All IsNameUnit more

pub goes_on : (units front : List ℕ) (rest : List ℕ) → All IsNameUnit units → All IsNameUnit front → unit_pieces units ≡ unit_pieces front ++ rest → GoesOn units front rest
goes_on units [] rest h k e = record { more = units; units_are = refl; rest_is = sym e; good = h }
goes_on [] (v ∷ front) rest h k e =
    absurd (omega (arith, piece_some v, ap (λ t. length t) e, length-append (unit_piece v ++ unit_pieces front) rest, length-append (unit_piece v) (unit_pieces front)))
goes_on (u ∷ units) (v ∷ front) rest h k e =
    let whole : unit_piece u ++ unit_pieces units ≡ unit_piece v ++ (unit_pieces front ++ rest) = e ∙ append_assoc (unit_piece v) (unit_pieces front) rest in
    let one = one_piece u v (unit_pieces units) (unit_pieces front ++ rest) (All-head IsNameUnit u units h) (All-head IsNameUnit v front k) whole in
    let others = goes_on units front rest (All-tail IsNameUnit u units h) (All-tail IsNameUnit v front k) one.1 in
    record { more = others.more; units_are = subst (λ w. u ∷ units ≡ w ∷ (front ++ others.more)) one.0 (ap (λ us. u ∷ us) others.units_are); rest_is = others.rest_is; good = others.good }

pub same_pieces : (units others : List ℕ) → All IsNameUnit units → All IsNameUnit others → unit_pieces units ≡ unit_pieces others → units ≡ others
same_pieces units others h k e =
    let on = goes_on units others [] h k (e ∙ sym (append-nil (unit_pieces others))) in
    let none : on.more ≡ [] = no_pieces on.more (sym on.rest_is) in
    on.units_are ∙ ap (λ m. others ++ m) none ∙ append-nil others

pub not_bad : (units text : List ℕ) (place : ℕ) → All IsNameUnit units → unit_pieces units ≡ text → IsBadPiece text place → ⊥
not_bad units text place h is bad =
    let on = goes_on units bad.units bad.rest h bad.good (is ∙ bad.text_is) in
    let passes : piece_fault bad.rest ≡ None = rw on.rest_is (pieces_pass on.more on.good) in
    absurd (cc (passes, bad.bad))

-- ---- reading on

pub reads_on : (text : List ℕ) (place : ℕ) (units : List ℕ) (unit size : ℕ) → HaveRead text place units → IsPieceAt (drop place text) unit size → HaveRead text (place + size) (units ++ unit ∷ [])
reads_on text place units unit size read piece =
    let P = IsNameUnit in
    let more : unit_pieces (units ++ unit ∷ []) ≡ unit_pieces units ++ unit_piece unit =
    flat_map-append unit_piece units (unit ∷ []) ∙ ap (λ t. unit_pieces units ++ t) (append-nil (unit_piece unit)) in
    let two : take (place + size) text ≡ unit_pieces units ++ unit_piece unit =
    take-add place size text ∙ ap (λ t. t ++ take size (drop place text)) read.front ∙ ap (λ t. unit_pieces units ++ t) piece.piece_is in
    record {
      within = omega (arith, read.within, piece.within, length-drop place text);
      front = two ∙ sym more;
      good = All-append IsNameUnit units (unit ∷ []) read.good (All-cons IsNameUnit unit [] piece.unit_is (All-nil IsNameUnit));
    }

pub bad_there : (text : List ℕ) (place : ℕ) (units : List ℕ) (offset : ℕ) → HaveRead text place units → piece_fault (drop place text) ≡ Some offset → IsBadPiece text (place + offset)
bad_there text place units offset read bad =
    let cut : text ≡ unit_pieces units ++ drop place text = sym (take-append-drop place text) ∙ ap (λ t. t ++ drop place text) read.front in
    let size : place ≡ length (unit_pieces units) = sym (length-take-le place text read.within) ∙ ap (λ t. length t) read.front in
    record { units = units; rest = drop place text; offset = offset; good = read.good; text_is = cut; bad = bad; place_is = ap (λ n. n + offset) size }

pub has_read : (text : List ℕ) (place : ℕ) (units : List ℕ) → HaveRead text place units → length text ≤ place → unit_pieces units ≡ text
has_read text place units read l = sym read.front ∙ take_all place text l

-- ---- the two texts that are no pieces

pub no_zero : (units : List ℕ) → All IsNameUnit units → LacksZero units
no_zero [] h = refl
no_zero (unit ∷ units) h =
    let first : ltb 0 unit ≡ true = lt-ltb _ _ (All-head IsNameUnit unit units h).not_zero in
    rw first (no_zero units (All-tail IsNameUnit unit units h))

-- no units' text of other units is `.` or the escape of `.`
abbrev pub chosen : Bool → Bool → List ℕ → List ℕ
chosen none alone units = cond none (dot ∷ []) (cond alone (escape dot) (unit_pieces units))

pub record HasText (units text : List ℕ) : Type 0 where
  pub dot_text : text ≡ dot ∷ [] → units ≡ []
  pub escape_text : text ≡ escape dot → units ≡ dot ∷ []
  pub others : text ≢ dot ∷ [] → text ≢ escape dot → unit_pieces units ≡ text

is_dot : (units : List ℕ) → All IsNameUnit units → unit_pieces units ≡ dot ∷ [] → units ≡ dot ∷ []
is_dot units h e =
    let plain : IsNameUnit dot = record { not_zero = omega arith; in_range = omega arith } in
    let one : unit_pieces (dot ∷ []) ≡ dot ∷ [] = ap (λ t. t ++ []) (plain_piece dot refl) in
    same_pieces units (dot ∷ []) h (All-cons IsNameUnit dot [] plain (All-nil IsNameUnit)) (e ∙ sym one)

escape_fails : piece_fault (escape dot) ≡ Some 0
unfolding piece_fault escape escape_fault
escape_fails = refl

no_escape : (units : List ℕ) → All IsNameUnit units → unit_pieces units ≡ escape dot → ⊥
no_escape units h e = absurd (cc (pieces_pass units h, ap piece_fault e, escape_fails))

dot_is_no_escape : dot ∷ [] ≡ escape dot → ⊥
unfolding escape
dot_is_no_escape e = absurd (cc e)

-- the text of some units, of which at least one is there
some_text : (unit : ℕ) (units : List ℕ) → unit_text (unit ∷ units) ≡ cond (bytes_eq (unit ∷ units) (dot ∷ [])) (escape dot) (unit_pieces (unit ∷ units))
some_text unit units =
    let some : eqb (length (unit ∷ units)) 0 ≡ false = grind (arith, nat_tests) in
    rw some refl

pub has_text : (units text : List ℕ) → All IsNameUnit units → unit_text units ≡ text → HasText units text
has_text [] text h e = record { dot_text = λ _. refl; escape_text = λ is. absurd (dot_is_no_escape (e ∙ is)); others = λ no _. absurd (no (sym e)) }
has_text (unit ∷ units) text h e = by (bytes_eq (unit ∷ units) (dot ∷ [])) refl (sym (some_text unit units) ∙ e)
  where
    by : (alone : Bool) → bytes_eq (unit ∷ units) (dot ∷ []) ≡ alone → cond alone (escape dot) (unit_pieces (unit ∷ units)) ≡ text → HasText (unit ∷ units) text
    by true same is =
        let are : unit ∷ units ≡ dot ∷ [] = (bytes_eq-Decides (unit ∷ units) (dot ∷ [])).0 same in
        record { dot_text = λ t. absurd (dot_is_no_escape (sym (is ∙ t))); escape_text = λ t. are; others = λ a b. absurd (b (sym is)) }
    by false other is =
        record {
          dot_text = λ t. absurd (cc ((bytes_eq-Decides (unit ∷ units) (dot ∷ [])).1 (is_dot (unit ∷ units) h (is ∙ t)), other));
          escape_text = λ t. absurd (no_escape (unit ∷ units) h (is ∙ t));
          others = λ a b. is;
        }

pub text_found : (units text : List ℕ) → 0 < length text → text ≢ dot ∷ [] → unit_pieces units ≡ text → unit_text units ≡ text
text_found [] text some other is = absurd (omega (arith, some, ap (λ t. length t) is))
text_found (unit ∷ units) text some other is = some_text unit units ∙ by (bytes_eq (unit ∷ units) (dot ∷ [])) refl
  where
    by : (alone : Bool) → bytes_eq (unit ∷ units) (dot ∷ []) ≡ alone → cond alone (escape dot) (unit_pieces (unit ∷ units)) ≡ text
    by true same =
        let are : unit ∷ units ≡ dot ∷ [] = (bytes_eq-Decides (unit ∷ units) (dot ∷ [])).0 same in
        let one : unit_pieces (dot ∷ []) ≡ dot ∷ [] = ap (λ t. t ++ []) (plain_piece dot refl) in
        absurd (other (sym is ∙ ap unit_pieces are ∙ one))
    by false other_units = is

pub never_empty : (units text : List ℕ) → All IsNameUnit units → unit_text units ≡ text → length text ≡ 0 → ⊥
never_empty units text h e none =
    let has = has_text units text h e in
    let no_dot : text ≢ dot ∷ [] = λ is. absurd (omega (arith, none, ap (λ t. length t) is)) in
    let no_escape_text : text ≢ escape dot = λ is. absurd (omega (arith, none, ap (λ t. length t) is, escape_some dot)) in
    let nothing : unit_pieces units ≡ text = has.others no_dot no_escape_text in
    by units (no_pieces units (nothing ∙ is_nil text none)) e
  where
    is_nil : (l : List ℕ) → length l ≡ 0 → l ≡ []
    is_nil [] n = refl
    is_nil (x ∷ xs) n = absurd (omega arith)

    by : (us : List ℕ) → us ≡ [] → unit_text us ≡ text → ⊥
    by [] is was = absurd (omega (arith, none, ap (λ t. length t) was))
    by (u ∷ us) is was = absurd (cc is)

one_by : (units others text : List ℕ) → HasText units text → HasText others text → All IsNameUnit units → All IsNameUnit others → (d x : Bool) → bytes_eq text (dot ∷ []) ≡ d → bytes_eq text (escape dot) ≡ x → units ≡ others
one_by units others text one two h k true x is_dot_text _ = let is = (bytes_eq-Decides text (dot ∷ [])).0 is_dot_text in one.dot_text is ∙ sym (two.dot_text is)
one_by units others text one two h k false true _ is_escape = let is = (bytes_eq-Decides text (escape dot)).0 is_escape in one.escape_text is ∙ sym (two.escape_text is)
one_by units others text one two h k false false no_dot no_escape_text =
    let a : text ≢ dot ∷ [] = λ is. absurd (cc ((bytes_eq-Decides text (dot ∷ [])).1 is, no_dot)) in
    let b : text ≢ escape dot = λ is. absurd (cc ((bytes_eq-Decides text (escape dot)).1 is, no_escape_text)) in
    same_pieces units others h k (one.others a b ∙ sym (two.others a b))

pub one_text : (units others : List ℕ) → All IsNameUnit units → All IsNameUnit others → unit_text units ≡ unit_text others → units ≡ others
one_text units others h k e =
    let text = unit_text others in
    one_by units others text (has_text units text h e) (has_text others text k refl) h k (bytes_eq text (dot ∷ [])) (bytes_eq text (escape dot)) refl refl

-- ---- what reading gives

pub plain_at : (text : List ℕ) (lead : ℕ) → 0 < length text → lead ≡ slice_index_or text 0 0 → is_plain lead ≡ true → IsPieceAt text lead 1
plain_at [] lead l is e = absurd (omega arith)
plain_at (byte ∷ rest) lead l is e =
    let unit : IsNameUnit lead = record { not_zero = (grind (arith, nat_tests)); in_range = (grind (arith, nat_tests)) } in
    record { unit_is = unit; piece_is = ap (λ b. b ∷ []) (sym is) ∙ sym (plain_piece lead e); some = omega arith; within = omega arith }

pub escape_at : (text : List ℕ) (lead unit : ℕ) (front : List ℕ) → 0 < length text → lead ≡ slice_index_or text 0 0 → lead ≡ percent → front ≡ take 4 (take (length text - 1) (drop 1 text)) → length front ≡ 4 → percent ∷ front ≡ unit_piece unit → IsNameUnit unit → IsPieceAt text unit 5
escape_at [] lead unit front l is at front_is four piece good = absurd (omega arith)
escape_at (byte ∷ rest) lead unit front l is at front_is four piece good =
    let behind : front ≡ take 4 rest = front_is ∙ ap (λ t. take 4 t) (take_rest (byte ∷ rest) 1) in
    let head : byte ≡ percent = sym is ∙ at in
    record {
      unit_is = good;
      piece_is = ap (λ b. b ∷ take 4 rest) head ∙ ap (λ t. percent ∷ t) (sym behind) ∙ piece;
      some = omega arith;
      within = omega (arith, four, ap (λ t. length t) behind, length-take 4 rest);
    }

pub gives : {V : Type 0} (view : V → List ℕ) (result : Result V UnitsFault) (text units : List ℕ) → IfOk result (λ v. All IsNameUnit (view v)) → IfOk result (λ v. unit_pieces (view v) ≡ text) → IfErr result (RefusesPieces text) → All IsNameUnit units → unit_pieces units ≡ text → GivesUnits view result units
gives view (Ok v) text units good found fault h is = same_pieces (view v) units good h (found ∙ sym is)
gives view (Err (Bad place)) text units good found fault h is = not_bad units text place h is fault
gives view (Err Memory) text units good found fault h is = tt

pub lacks : {V : Type 0} (view : V → List ℕ) (result : Result V UnitsFault) → IfOk result (λ v. All IsNameUnit (view v)) → IfOk result (λ v. LacksZero (view v))
lacks view (Ok v) good = no_zero (view v) good
lacks view (Err fault) good = tt

pub finds : {V : Type 0} (view : V → List ℕ) (result : Result V UnitsFault) (text : List ℕ) → IfOk result (λ v. unit_pieces (view v) ≡ text) → 0 < length text → text ≢ dot ∷ [] → IfOk result (λ v. unit_text (view v) ≡ text)
finds view (Ok v) text found some other = text_found (view v) text some other found
finds view (Err fault) text found some other = tt

pub refuses : {V : Type 0} (result : Result V UnitsFault) (text : List ℕ) → IfErr result (RefusesPieces text) → text ≢ escape dot → IfErr result (RefusesUnits text)
refuses (Ok v) text fault other = tt
refuses (Err (Bad place)) text fault other = inr (other, fault)
refuses (Err Memory) text fault other = tt

-- the call that gives the one unit `.`, unless memory runs out
pub dot_lacks : {V : Type 0} (view : V → List ℕ) (result : Result V UnitsFault) → IfOk result (λ v. view v ≡ dot ∷ []) → IfOk result (λ v. LacksZero (view v))
dot_lacks view (Ok v) is = rw is refl
dot_lacks view (Err fault) is = tt

pub dot_found : {V : Type 0} (view : V → List ℕ) (result : Result V UnitsFault) (text : List ℕ) → IfOk result (λ v. view v ≡ dot ∷ []) → text ≡ escape dot → IfOk result (λ v. unit_text (view v) ≡ text)
dot_found view (Ok v) text is at = ap unit_text is ∙ sym at
dot_found view (Err fault) text is at = tt

pub dot_gives : {V : Type 0} (view : V → List ℕ) (result : Result V UnitsFault) (text units : List ℕ) → IfOk result (λ v. view v ≡ dot ∷ []) → IfErr result (λ fault. fault ≡ Memory) → text ≡ escape dot → All IsNameUnit units → unit_text units ≡ text → GivesUnits view result units
dot_gives view (Ok v) text units is fault at good e = is ∙ sym ((has_text units text good e).escape_text at)
dot_gives view (Err (Bad place)) text units is fault at good e = absurd (cc fault)
dot_gives view (Err Memory) text units is fault at good e = tt

pub dot_refuses : {V : Type 0} (result : Result V UnitsFault) (text : List ℕ) → IfErr result (λ fault. fault ≡ Memory) → IfErr result (RefusesUnits text)
dot_refuses (Ok v) text fault = tt
dot_refuses (Err (Bad place)) text fault = absurd (cc fault)
dot_refuses (Err Memory) text fault = tt
