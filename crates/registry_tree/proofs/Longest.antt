-- The greatest measure of the values and the subkeys of a key.
use Rattle.std.proofs.Common.{◌≡◌, ℕ, ◌≤◌, List, [], ◌∷◌, map, length, max, refl, sym, ap, subst, ◌∙◌, arith}
use Rattle.std.specs.List.{AllByRecursion}
use Rattle.registry_defs.specs.Keys.{ValueData, Values, Keys}
use Rattle.registry_defs.specs.Limits.{HasFields}
use Rattle.registry_defs.specs.Nodes.{Node, keys_of, subkey_entry, spread}
use Rattle.registry_defs.specs.Readings.{longest}
use Rattle.registry_defs.specs.Rising.{RisingKeys}
use Rattle.registry_defs.specs.Sections.{subkeys}
use Rattle.registry_tree.specs.declared.value.Value.{Value}
use Rattle.registry_tree.specs.Values.{value_data, value_entry, entries_of}
use Rattle.registry_tree.proofs.Places.{each_map}
use Rattle.registry_tree.proofs.Subkeys.{subkeys_are, each_here}

longest_map : {X Y : Type 0} (measure : X → ℕ) (f : Y → X) (ys : List Y) → longest measure (map f ys) ≡ longest (λ y. measure (f y)) ys
longest_map measure f [] = refl
longest_map measure f (y ∷ ys) = ap (max (measure (f y))) (longest_map measure f ys)

pub longest_bound : {X : Type 0} (measure : X → ℕ) (bound : ℕ) (xs : List X) → AllByRecursion (λ x. measure x ≤ bound) xs → longest measure xs ≤ bound
longest_bound measure bound [] h = omega arith
longest_bound measure bound (x ∷ xs) h = omega (arith, h.0, longest_bound measure bound xs h.1)

pub of_values : (measure : ValueData → ℕ) (values : Values) (vs : List Value) → values ≡ entries_of vs → longest (λ v. measure (value_data v)) vs ≡ longest (λ e. measure e.1) values
of_values measure values vs is = sym (longest_map (λ e. measure e.1) value_entry vs) ∙ ap (longest (λ e. measure e.1)) (sym is)

pub of_subkeys : (n : Node) (nodes : List Node) → n.below ≡ spread nodes → RisingKeys (keys_of n) → longest (λ node. length node.here.part) nodes ≡ longest (λ e. length e.1.part) (subkeys (keys_of n))
of_subkeys n nodes below up =
    sym (longest_map (λ e. length e.1.part) subkey_entry nodes) ∙ ap (longest (λ e. length e.1.part)) (sym (subkeys_are n nodes below up))

pub short_parts : (n : Node) (nodes : List Node) → n.below ≡ spread nodes → AllByRecursion (λ e. HasFields e.1) (keys_of n) → longest (λ node. length node.here.part) nodes ≤ 255
short_parts n nodes below each =
    longest_bound (λ node. length node.here.part) 255 nodes
    (each_map (λ node. HasFields node.here) (λ node. length node.here.part ≤ 255) (λ node h. h.part) nodes
    (each_here HasFields nodes (subst (λ (l : Keys). AllByRecursion (λ e. HasFields e.1) l) below each.1)))
