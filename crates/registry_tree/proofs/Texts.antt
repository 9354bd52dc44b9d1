-- The first part of a path's text is no longer than the text.
use Rattle.std.proofs.Common.{◌≡◌, ℕ, suc, ◌≤◌, true, false, cond, List, [], ◌∷◌, length, subst, arith}
use Rattle.std.specs.List.{AllByRecursion, onto_first}
use Rattle.clus_names.specs.Parts.{is_separator, pieces_of, parts_of, without_empty_end}
use Rattle.registry_tree.proofs.Places.{each_map}

abbrev Short : ℕ → List (List ℕ) → Type 0
Short most pieces = AllByRecursion (λ piece. length piece ≤ most) pieces

longer : (most : ℕ) (pieces : List (List ℕ)) → Short most pieces → Short (suc most) pieces
longer most pieces h = each_map (λ piece. length piece ≤ most) (λ piece. length piece ≤ suc most) (λ piece le. omega (arith, le)) pieces h

onto_short : (unit most : ℕ) (pieces : List (List ℕ)) → Short most pieces → Short (suc most) (onto_first unit pieces)
onto_short unit most [] h = (omega arith, tt)
onto_short unit most (piece ∷ pieces) h = (let le = h.0 in omega (arith, le), longer most pieces h.1)

pieces_short : (text : List ℕ) → Short (length text) (pieces_of text)
pieces_short [] = (omega arith, tt)
pieces_short (unit ∷ units) =
    let rest = pieces_short units in
    elim (is_separator unit) as (λ b. Short (suc (length units)) (cond b ([] ∷ pieces_of units) (onto_first unit (pieces_of units)))) [
      | true ↦ (omega arith, longer (length units) (pieces_of units) rest)
      | false ↦ onto_short unit (length units) (pieces_of units) rest
    ]

ends_short : (most : ℕ) (pieces : List (List ℕ)) → Short most pieces → Short most (without_empty_end pieces)
ends_short most [] h = tt
ends_short most ([] ∷ []) h = tt
ends_short most ((unit ∷ units) ∷ []) h = h
ends_short most (piece ∷ next ∷ pieces) h = (h.0, ends_short most (next ∷ pieces) h.1)

pub first_short : (text part rest : List ℕ) → parts_of text ≡ part ∷ parts_of rest → length part ≤ length text
first_short text part rest step = (subst (Short (length text)) step (ends_short (length text) (pieces_of text) (pieces_short text))).0
