-- What is found in a registry obeys its limits.
use Rattle.std.proofs.Common.{◌≡◌, ℕ, ◌<◌, true, false, cond, List, [], ◌∷◌, ◌++◌, length, None, Some, refl, ap, subst, arith, length-append}
use Rattle.std.specs.Prelude.{◌==◌, slice_get}
use Rattle.std.specs.List.{AllByRecursion}
use Rattle.std.proofs.lemmas.Bool.Decides.{nat_tests}
use Rattle.clus_names.specs.Folding.{name_cmp}
use Rattle.clus_names.specs.Limits.{IsPart}
use Rattle.registry_defs.specs.Keys.{KeyData, Keys, ValueData, value_at}
use Rattle.registry_defs.specs.Limits.{IsKey, IsNamed, IsRegistry, IsValue}
use Rattle.registry_defs.specs.Nodes.{Node, IsAt, keys_of}
use Rattle.registry_defs.specs.Sections.{at_front, path_from, section, subkeys}
use Rattle.registry_defs.proofs.Orders.{name_exact, name_total}
use Rattle.registry_defs.proofs.Ranks.{each_got}
use Rattle.registry_defs.proofs.Sections.{path_from_is}
use Rattle.registry_defs.proofs.Keeping.{key_limits}
use Rattle.registry_defs.proofs.Maps.{found_all}

pub value_limits : (q : List (List ℕ)) (name : List ℕ) (es : Keys) (node : Node) (value : ValueData) → IsRegistry es → IsAt q es node → value_at name node.here.values ≡ Some value → IsValue value
value_limits q name es node value registry at found =
    found_all name_cmp name_total name_exact (λ n (v : ValueData). IsValue v) name value node.here.values (key_limits q node.here es registry at.here).values.limits found

-- ---- subkeys

named_below : (q : List (List ℕ)) (key : KeyData) → IsNamed q key → 0 < length q → IsPart key.part
named_below [] key named some = absurd (omega (arith, some))
named_below (p ∷ ps) key named some = named.0

-- All keys of a section have names but the one at its top, which may be the root.
section_named : (q : List (List ℕ)) (es : Keys) → AllByRecursion (λ e. IsKey e.0 e.1) es → AllByRecursion (λ e. 0 < length e.0 → IsPart e.1.part) (section q es)
section_named q [] h = tt
section_named q (e ∷ es) h =
    let rest = section_named q es h.1 in
    elim (path_from q e.0) as (λ o. path_from q e.0 ≡ o → AllByRecursion (λ f. 0 < length f.0 → IsPart f.1.part) (at_front o e.1 (section q es))) [
      | None ↦ λ _. rest
      | Some x ↦ λ found. (λ some. named_below e.0 e.1 h.0.named (below_top e.0 x (path_from_is q e.0 x found) some), rest)
    ] refl
  where
    below_top : (a x : List (List ℕ)) → a ≡ q ++ x → 0 < length x → 0 < length a
    below_top a x is some = let same : length a ≡ length (q ++ x) = ap length is in omega (arith, same, some, length-append q x)

one_part : (q : List (List ℕ)) → length q == 1 ≡ true → 0 < length q
one_part q is = grind (arith, nat_tests)

subkeys_named : (es : Keys) → AllByRecursion (λ e. 0 < length e.0 → IsPart e.1.part) es → AllByRecursion (λ e. IsPart e.1.part) (subkeys es)
subkeys_named [] h = tt
subkeys_named (e ∷ es) h =
    let rest = subkeys_named es h.1 in
    elim (length e.0 == 1) as (λ b. length e.0 == 1 ≡ b → AllByRecursion (λ f. IsPart f.1.part) (cond b (e ∷ subkeys es) (subkeys es))) [
      | true ↦ λ one. (h.0 (one_part e.0 one), rest)
      | false ↦ λ _. rest
    ] refl

pub subkey_limits : (q : List (List ℕ)) (index : ℕ) (es : Keys) (node : Node) (entry : List (List ℕ) × KeyData) → IsRegistry es → IsAt q es node
    → slice_get (subkeys (keys_of node)) index ≡ Some entry → IsPart entry.1.part
subkey_limits q index es node entry registry at got =
    each_got (λ (e : List (List ℕ) × KeyData). IsPart e.1.part) (subkeys (section q es)) index entry
    (subkeys_named (section q es) (section_named q es registry.limits))
    (subst (λ (l : Keys). slice_get (subkeys l) index ≡ Some entry) at.all got)
