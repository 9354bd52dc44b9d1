-- Folding keeps the separators, so that texts are the same exactly where their parts are.
use Rattle.std.proofs.Common.{◌≡◌, ℕ, Bool, true, false, cond, List, [], ◌∷◌, ◌++◌, refl, sym, ap, ◌∙◌, arith}
use Rattle.std.specs.List.{onto_first}
use Rattle.std.specs.declared.cmp.Ordering.{Ordering}
use Rattle.std.specs.Ordering.{is_eq}
use Rattle.std.specs.Str.{bytes_eq}
use Rattle.std.proofs.lemmas.Map.Text.{is_eq-slice_cmp}
use Rattle.std.proofs.lemmas.Slice.Eq.{bytes_eq-Decides}
use Rattle.std.proofs.lemmas.Bool.Decides.{nat_tests}
use Rattle.clus_names.specs.Folding.{folded_unit, folded, folded_parts, name_cmp}
use Rattle.clus_names.specs.Parts.{separator, is_separator, text_of, pieces_of, parts_of, without_empty_end}
use Rattle.clus_names.specs.Limits.{IsPathText}

pub keeps_separator : (unit : ℕ) → is_separator (folded_unit unit) ≡ is_separator unit
keeps_separator unit = grind (arith, nat_tests)

folded-onto_first : (unit : ℕ) (pieces : List (List ℕ)) → folded_parts (onto_first unit pieces) ≡ onto_first (folded_unit unit) (folded_parts pieces)
folded-onto_first unit [] = refl
folded-onto_first unit (piece ∷ pieces) = refl

pieces_folded : (text : List ℕ) → pieces_of (folded text) ≡ folded_parts (pieces_of text)
pieces_folded [] = refl
pieces_folded (unit ∷ units) =
    ap (λ b. cond b ([] ∷ pieces_of (folded units)) (onto_first (folded_unit unit) (pieces_of (folded units)))) (keeps_separator unit)
    ∙ ap (λ ps. cond (is_separator unit) ([] ∷ ps) (onto_first (folded_unit unit) ps)) (pieces_folded units)
    ∙ by (is_separator unit)
  where
    by : (b : Bool) → cond b ([] ∷ folded_parts (pieces_of units)) (onto_first (folded_unit unit) (folded_parts (pieces_of units))) ≡ folded_parts (cond b ([] ∷ pieces_of units) (onto_first unit (pieces_of units)))
    by true = refl
    by false = sym (folded-onto_first unit (pieces_of units))

ends_folded : (pieces : List (List ℕ)) → without_empty_end (folded_parts pieces) ≡ folded_parts (without_empty_end pieces)
ends_folded [] = refl
ends_folded ([] ∷ []) = refl
ends_folded ((unit ∷ units) ∷ []) = refl
ends_folded (piece ∷ next ∷ pieces) = ap (λ ps. folded piece ∷ ps) (ends_folded (next ∷ pieces))

parts_folded : (text : List ℕ) → parts_of (folded text) ≡ folded_parts (parts_of text)
parts_folded text = ap without_empty_end (pieces_folded text) ∙ ends_folded (pieces_of text)

folded-append : (front back : List ℕ) → folded (front ++ back) ≡ folded front ++ folded back
folded-append [] back = refl
folded-append (unit ∷ units) back = ap (λ t. folded_unit unit ∷ t) (folded-append units back)

text_folded : (parts : List (List ℕ)) → text_of (folded_parts parts) ≡ folded (text_of parts)
text_folded [] = refl
text_folded (part ∷ []) = refl
text_folded (part ∷ next ∷ parts) = ap (λ t. folded part ++ separator ∷ t) (text_folded (next ∷ parts)) ∙ sym (folded-append part (separator ∷ text_of (next ∷ parts)))

pub parts_same : (one two : List ℕ) → folded one ≡ folded two → folded_parts (parts_of one) ≡ folded_parts (parts_of two)
parts_same one two e = sym (parts_folded one) ∙ ap parts_of e ∙ parts_folded two

pub texts_same : (one two : List ℕ) → IsPathText one → IsPathText two → folded_parts (parts_of one) ≡ folded_parts (parts_of two) → folded one ≡ folded two
texts_same one two h k e =
    ap folded (sym h.joined) ∙ sym (text_folded (parts_of one)) ∙ ap text_of e ∙ text_folded (parts_of two) ∙ ap folded k.joined

-- what a comparison tells of equality
pub same_from_cmp : (one two : List ℕ) (same : Bool) (order : Ordering) → order ≡ name_cmp one two → same ≡ is_eq order → (same ≡ true → one ≡ two) × (one ≡ two → same ≡ true)
same_from_cmp one two same order ordered told =
    let tests : same ≡ bytes_eq one two = told ∙ ap is_eq ordered ∙ is_eq-slice_cmp one two in
    let decides = bytes_eq-Decides one two in
    (λ yes. decides.0 (sym tests ∙ yes), λ are. tests ∙ decides.1 are)
