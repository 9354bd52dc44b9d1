-- A text without a fault is the text of its parts, which are a path, and the text of a path has these parts and no fault.
use Rattle.std.proofs.Common.{◌≡◌, ℕ, ◌+◌, ◌<◌, ◌≤◌, ◌^◌, ◌≢◌, Bool, true, false, cond, eqb, ltb, List, [], ◌∷◌, ◌++◌, length, get_or, Option, Some, None, Err, refl, sym, ap, subst, ◌∙◌, append_assoc, length-append, All, arith}
use Rattle.std.specs.Prelude.{count_by}
use Rattle.std.specs.List.{onto_first}
use Rattle.std.proofs.lemmas.Bool.{ltb-true, ltb-false, le-ltb}
use Rattle.std.proofs.lemmas.Bool.Decides.{nat_tests}
use Rattle.std.proofs.lemmas.List.{append-nil}
use Rattle.std.proofs.lemmas.List.Elements.{All-nil, All-cons, All-head, All-tail, All-append, All-from_get_or}
use Rattle.std.proofs.lemmas.List.Sums.{AllPass-from_list_all}
use Rattle.std.proofs.lemmas.List.Splits.{slice_split_at, slice_split_none, length-slice_split, join_with_byte-slice_split}
use Rattle.clus_names.specs.declared.fault.NameFault.{NameFault}
use Rattle.clus_names.specs.declared.fault.NameFault.TheVariants.{TooLong, EmptyPart, PartTooLong}
use Rattle.clus_names.specs.Parts.{separator, is_separator, text_of, pieces_of, parts_of, without_empty_end, joined_text}
use Rattle.clus_names.specs.Limits.{LacksZero, IsNameUnit, IsName, IsPart, IsPath, IsPathText}
use Rattle.clus_names.specs.Faults.{part_fault, or_else, first_fault, text_fault, GivesPath}
use Rattle.clus_names.proofs.Pieces.{all_kept}

-- ---- a text without a fault

not_separator : (unit : ℕ) → is_separator unit ≡ false → unit ≢ separator
not_separator unit e is = grind (arith, nat_tests)

-- the units of the pieces are those of the text that are no separators
pieces_lack : (P : ℕ → Type 0) (text : List ℕ) → All P text → All (All (λ unit. P unit × (is_separator unit ≡ false))) (pieces_of text)
pieces_lack P [] h =
    let Q : ℕ → Type 0 = λ unit. P unit × (is_separator unit ≡ false) in
    All-cons (All Q) [] [] (All-nil Q) (All-nil (All Q))
pieces_lack P (unit ∷ units) h = by (is_separator unit) refl (pieces_of units) (pieces_lack P units (All-tail P unit units h))
  where
    by : (b : Bool) → is_separator unit ≡ b → (pieces : List (List ℕ)) → All (All (λ u. P u × (is_separator u ≡ false))) pieces → All (All (λ u. P u × (is_separator u ≡ false))) (cond b ([] ∷ pieces) (onto_first unit pieces))
    by true e pieces lack =
        let Q : ℕ → Type 0 = λ u. P u × (is_separator u ≡ false) in
        All-cons (All Q) [] pieces (All-nil Q) lack
    by false e [] lack =
        let Q : ℕ → Type 0 = λ u. P u × (is_separator u ≡ false) in
        All-cons (All Q) (unit ∷ []) [] (All-cons Q unit [] (All-head P unit units h, e) (All-nil Q)) (All-nil (All Q))
    by false e (piece ∷ pieces) lack =
        let Q : ℕ → Type 0 = λ u. P u × (is_separator u ≡ false) in
        All-cons (All Q) (unit ∷ piece) pieces (All-cons Q unit piece (All-head P unit units h, e) (All-head (All Q) piece pieces lack)) (All-tail (All Q) piece pieces lack)

or_else_none : (first later : Option NameFault) → or_else first later ≡ None → (first ≡ None) × (later ≡ None)
or_else_none (Some fault) later e = absurd cc
or_else_none None later e = (refl, e)

abbrev checked : Bool → NameFault → Option NameFault → Option NameFault
checked fails fault later = cond fails (Some fault) later

passed : (b : Bool) (fault : NameFault) (later : Option NameFault) → checked b fault later ≡ None → (b ≡ false) × (later ≡ None)
passed true fault later e = absurd cc
passed false fault later e = (refl, e)

abbrev unless : Bool → Option NameFault → Option NameFault
unless nothing later = cond nothing None later

passed_by : (b : Bool) (later : Option NameFault) → b ≡ false → unless b later ≡ None → later ≡ None
passed_by true later e none = absurd cc
passed_by false later e none = none

pub record HasLength (part : List ℕ) : Type 0 where
  pub not_empty : 0 < length part
  pub short : length part ≤ 255

has_length : (part : List ℕ) → part_fault part ≡ None → HasLength part
has_length part e =
    let first = passed (eqb (length part) 0) EmptyPart (checked (ltb 255 (length part)) PartTooLong None) e in
    let second = passed (ltb 255 (length part)) PartTooLong None first.1 in
    let short : length part ≤ 255 = ltb-false _ _ second.0 in
    record { not_empty = (let e0 = first.0 in grind (arith, nat_tests)); short = short }

have_lengths : (parts : List (List ℕ)) → first_fault parts ≡ None → All HasLength parts
have_lengths [] e = All-nil HasLength
have_lengths (part ∷ parts) e =
    let both = or_else_none (part_fault part) (first_fault parts) e in
    All-cons HasLength part parts (has_length part both.0) (have_lengths parts both.1)

pub path_text : (text : List ℕ) → text_fault text ≡ None → All IsNameUnit text → IsPathText text
path_text [] e h = record { path = record { parts = All-nil IsPart; short = omega arith }; joined = refl }
path_text (unit ∷ units) e h =
    let text : List ℕ = unit ∷ units in
    let first = passed (ltb 1023 (length text)) TooLong (unless (eqb (length text) 0) (first_fault (pieces_of text))) e in
    let short : length text ≤ 1023 = ltb-false _ _ first.0 in
    let some : eqb (length text) 0 ≡ false = grind (arith, nat_tests) in
    let lengths = have_lengths (pieces_of text) (passed_by (eqb (length text) 0) (first_fault (pieces_of text)) some first.1) in
    let lack = pieces_lack IsNameUnit text h in
    let kept = all_kept (pieces_of text) (λ k d l. (lengths k d l).not_empty) in
    let joined : text_of (parts_of text) ≡ text = ap text_of kept ∙ join_with_byte-slice_split separator text in
    let parts : All IsPart (pieces_of text) = λ k d l. record {
      not_empty = (lengths k d l).not_empty;
      short = (lengths k d l).short;
      units = λ j u m. record { not_zero = (lack k d l j u m).0.not_zero; in_range = (lack k d l j u m).0.in_range; not_separator = not_separator _ (lack k d l j u m).1 };
    } in
    record { path = record { parts = subst (All IsPart) (sym kept) parts; short = rw joined short }; joined = joined }

-- ---- the text of a path

no_separator : (unit : ℕ) → unit ≢ separator → is_separator unit ≡ false
no_separator unit not_it = grind (arith, nat_tests)

lacks_separator : (part : List ℕ) → IsPart part → All (λ unit. is_separator unit ≡ false) part
lacks_separator part h k d l = no_separator _ (h.units k d l).not_separator

pieces_again : (part : List ℕ) (parts : List (List ℕ)) → All IsPart (part ∷ parts) → pieces_of (text_of (part ∷ parts)) ≡ part ∷ parts
pieces_again part [] h = slice_split_none is_separator part (lacks_separator part (All-head IsPart part [] h))
pieces_again part (next ∷ parts) h =
    slice_split_at is_separator part separator (text_of (next ∷ parts)) (lacks_separator part (All-head IsPart part (next ∷ parts) h)) refl
    ∙ ap (λ ps. part ∷ ps) (pieces_again next parts (All-tail IsPart part (next ∷ parts) h))

pub parts_again : (parts : List (List ℕ)) → All IsPart parts → parts_of (text_of parts) ≡ parts
parts_again [] h = refl
parts_again (part ∷ parts) h = ap without_empty_end (pieces_again part parts h) ∙ all_kept (part ∷ parts) (λ k d l. (h k d l).not_empty)

passes : (b : Bool) (fault : NameFault) (later : Option NameFault) → b ≡ false → later ≡ None → checked b fault later ≡ None
passes true fault later e none = absurd cc
passes false fault later e none = none

part_passes : (part : List ℕ) → IsPart part → part_fault part ≡ None
part_passes part h =
    let not_empty = h.not_empty in
    passes (eqb (length part) 0) EmptyPart (checked (ltb 255 (length part)) PartTooLong None) (grind (arith, nat_tests)) (passes (ltb 255 (length part)) PartTooLong None (le-ltb _ _ h.short) refl)

parts_pass : (parts : List (List ℕ)) → All IsPart parts → first_fault parts ≡ None
parts_pass [] h = refl
parts_pass (part ∷ parts) h = rw (part_passes part (All-head IsPart part parts h)) (parts_pass parts (All-tail IsPart part parts h))

some_text : (part : List ℕ) (parts : List (List ℕ)) → 0 < length part → 0 < length (text_of (part ∷ parts))
some_text part [] l = l
some_text part (next ∷ parts) l = omega (arith, length-append part (separator ∷ text_of (next ∷ parts)))

pub text_passes : (path : List (List ℕ)) → IsPath path → text_fault (text_of path) ≡ None
text_passes [] h = refl
text_passes (part ∷ parts) h =
    let text : List ℕ = text_of (part ∷ parts) in
    let some = some_text part parts (All-head IsPart part parts h.parts).not_empty in
    passes (ltb 1023 (length text)) TooLong (cond (eqb (length text) 0) None (first_fault (pieces_of text))) (le-ltb _ _ h.short)
    (let more : eqb (length text) 0 ≡ false = grind (arith, nat_tests) in rw (more, pieces_again part parts h.parts) (parts_pass (part ∷ parts) h.parts))

pub count_again : (text : List ℕ) → IsPathText text → 0 < length text → count_by is_separator text + 1 ≡ length (parts_of text)
count_again text h some = sym (length-slice_split is_separator text) ∙ ap (λ ps. length ps) (by (parts_of text) h.path.parts h.joined)
  where
    by : (parts : List (List ℕ)) → All IsPart parts → text_of parts ≡ text → pieces_of text ≡ parts
    by [] valid is = absurd (omega (arith, ap (λ t. length t) is))
    by (part ∷ parts) valid is = subst (λ t. pieces_of t ≡ part ∷ parts) is (pieces_again part parts valid)

-- ---- a path and one below it

pub between : (part : List ℕ) (parts : List (List ℕ)) (first : List ℕ) (others : List (List ℕ)) → text_of ((part ∷ parts) ++ (first ∷ others)) ≡ text_of (part ∷ parts) ++ separator ∷ text_of (first ∷ others)
between part [] first others = refl
between part (next ∷ parts) first others = ap (λ t. part ++ separator ∷ t) (between next parts first others) ∙ sym (append_assoc part (separator ∷ text_of (next ∷ parts)) (separator ∷ text_of (first ∷ others)))

joined_some : (above below : List ℕ) → 0 < length above → 0 < length below → joined_text above below ≡ above ++ separator ∷ below
joined_some above below some more =
    let first : eqb (length above) 0 ≡ false = grind (arith, nat_tests) in
    let second : eqb (length below) 0 ≡ false = grind (arith, nat_tests) in
    rw (first, second) refl

joined_nil : (above : List ℕ) → joined_text above [] ≡ above
joined_nil [] = refl
joined_nil (u ∷ us) =
    let some : eqb (length (u ∷ us)) 0 ≡ false = grind (arith, nat_tests) in
    rw some refl

pub text_of-append : (above below : List (List ℕ)) → All IsPart above → All IsPart below → text_of (above ++ below) ≡ joined_text (text_of above) (text_of below)
text_of-append [] below h k = refl
text_of-append (part ∷ parts) [] h k = ap text_of (append-nil (part ∷ parts)) ∙ sym (joined_nil (text_of (part ∷ parts)))
text_of-append (part ∷ parts) (first ∷ others) h k =
    between part parts first others
    ∙ sym (joined_some (text_of (part ∷ parts)) (text_of (first ∷ others)) (some_text part parts (All-head IsPart part parts h).not_empty) (some_text first others (All-head IsPart first others k).not_empty))

-- the joined text of two texts of paths
pub record IsJoined (above below text : List ℕ) : Type 0 where
  pub parts : parts_of text ≡ parts_of above ++ parts_of below
  pub is_text : text ≡ text_of (parts_of above ++ parts_of below)
  pub valid : length text ≤ 1023 → IsPathText text

pub joined_paths : (above below : List ℕ) → IsPathText above → IsPathText below → IsJoined above below (joined_text above below)
joined_paths above below h k =
    let parts : List (List ℕ) = parts_of above ++ parts_of below in
    let text : List ℕ = joined_text above below in
    let all = All-append IsPart (parts_of above) (parts_of below) h.path.parts k.path.parts in
    let is : text_of parts ≡ text = text_of-append (parts_of above) (parts_of below) h.path.parts k.path.parts ∙ ap (λ t. joined_text t (text_of (parts_of below))) h.joined ∙ ap (λ t. joined_text above t) k.joined in
    let again : parts_of text ≡ parts = subst (λ t. parts_of t ≡ parts) is (parts_again parts all) in
    let joined : text_of (parts_of text) ≡ text = ap text_of again ∙ is in
    record {
      parts = again;
      is_text = sym is;
      valid = λ short. record { path = record { parts = subst (All IsPart) (sym again) all; short = rw joined short }; joined = joined };
    }

-- ---- what `parse` owes

pub name_units : (units : List ℕ) → LacksZero units → ((i : ℕ) → get_or units i 0 < 2 ^ 16) → All IsNameUnit units
name_units units lacks in_range =
    let each = AllPass-from_list_all (λ unit. ltb 0 unit) units lacks in
    All-from_get_or IsNameUnit units 0 (λ i l. record { not_zero = ltb-true _ _ (each i 0 l); in_range = in_range i })

pub valid_name : (units : List ℕ) → length units ≤ 1023 → LacksZero units → ((i : ℕ) → get_or units i 0 < 2 ^ 16) → IsName units
valid_name units short lacks in_range = record { short = short; units = name_units units lacks in_range }

pub never_refused : (path : List (List ℕ)) (text : List ℕ) (fault : NameFault) → IsPath path → text_of path ≡ text → Some fault ≡ text_fault text → GivesPath (Err fault) path
never_refused path text fault valid is refused =
    let none : text_fault text ≡ None = subst (λ t. text_fault t ≡ None) is (text_passes path valid) in
    absurd (cc (refused, none))

pub found_text : (text : List ℕ) → IsPathText text → IsPath (parts_of text) × (text_of (parts_of text) ≡ text)
found_text text h = (h.path, h.joined)

pub only_text : (text : List ℕ) (path : List (List ℕ)) → IsPath path → text_of path ≡ text → parts_of text ≡ path
only_text text path valid is = subst (λ t. parts_of t ≡ path) is (parts_again path valid.parts)
