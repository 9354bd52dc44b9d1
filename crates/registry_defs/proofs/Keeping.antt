-- What changes make of a registry is a registry.
use Rattle.std.proofs.Common.{◌≡◌, ℕ, ◌<◌, ◌≤◌, ◌^◌, true, false, cond, List, [], ◌∷◌, ◌++◌, length, Some, None, refl, sym, ap, subst, ◌∙◌, All}
use Rattle.std.specs.Prelude.{IsSome, is_some}
use Rattle.std.specs.List.{AllByRecursion}
use Rattle.std.specs.FinMap.{put}
use Rattle.std.proofs.lemmas.List.Elements.{All-head, All-tail}
use Rattle.wire_fields.specs.Numbers.{IsBytes}
use Rattle.clus_names.specs.Folding.{folded, folded_parts, name_cmp, path_cmp}
use Rattle.clus_names.specs.Parts.{text_of}
use Rattle.clus_names.specs.Limits.{IsName, IsPart}
use Rattle.registry_defs.specs.Keys.{ValueData, Values, KeyData, Keys, key_at, value_at, below, without}
use Rattle.registry_defs.specs.Sections.{has_subkeys, parent_of}
use Rattle.registry_defs.specs.Limits.{IsValue, AreValues, IsNamed, IsKey, IsRegistry}
use Rattle.registry_defs.specs.Changes.{put_changed, at_key, stamped, kept_name, value_set, with_value, without_value, new_key, chain_made, created, key_deleted}
use Rattle.registry_defs.proofs.Orders.{name_total, name_exact, path_total, path_exact}
use Rattle.registry_defs.proofs.Paths.{below-parts, short_below, ends_in}
use Rattle.registry_defs.proofs.Maps.{some_of, each_put, each_without, found_all, all_found, some_put, sorted_put, sorted_without, found_without}
use Rattle.registry_defs.proofs.Trees.{IsTree, the_found, tree_put, there_at_key, there_now, parent_there, tree_without}

-- ---- a registry as a tree

pub tree_of : (es : Keys) → IsRegistry es → IsTree es
tree_of es registry = record {
  sorted = registry.rising;
  closed = λ q some.
      let found = the_found (key_at q es) some in
      found_all path_cmp path_total path_exact (λ k _. IsSome (key_at (parent_of k) es)) q found.key es registry.parents found.is;
}

pub from_tree : (es : Keys) → IsTree es → AllByRecursion (λ e. IsKey e.0 e.1) es → IsSome (key_at [] es) → IsRegistry es
from_tree es tree limits root = record {
  rising = tree.sorted;
  limits = limits;
  root = root;
  parents = all_found path_cmp path_total path_exact (λ k. IsSome (key_at (parent_of k) es)) es tree.closed;
}

pub key_limits : (q : List (List ℕ)) (d : KeyData) (es : Keys) → IsRegistry es → key_at q es ≡ Some d → IsKey q d
key_limits q d es registry found = found_all path_cmp path_total path_exact IsKey q d es registry.limits found

pub registry_put : (q : List (List ℕ)) (d : KeyData) (es : Keys) → IsRegistry es → IsKey q d → IsSome (key_at (parent_of q) es) → IsRegistry (put path_cmp q d es)
registry_put q d es registry is there =
    from_tree (put path_cmp q d es)
    (tree_put q d es (tree_of es registry) there)
    (each_put path_cmp path_total path_exact IsKey q d es is registry.limits)
    (some_put path_cmp path_total path_exact [] q d es registry.root)

pub registry_at_key : (f : KeyData → KeyData) (q : List (List ℕ)) (es : Keys) → ((d : KeyData) → IsKey q d → IsKey q (f d)) → IsRegistry es → IsRegistry (at_key f q es)
registry_at_key f q es keeps registry =
    elim (key_at q es) as (λ o. key_at q es ≡ o → IsRegistry (put_changed o f q es)) [
      | None ↦ λ _. registry
      | Some d ↦ λ found. registry_put q (f d) es registry (keeps d (key_limits q d es registry found)) ((tree_of es registry).closed q (ap is_some found))
    ] refl

-- ---- what a change makes of a key

named_same : (q : List (List ℕ)) (d f : KeyData) → d.part ≡ f.part → d.birth ≡ f.birth → IsNamed q d → IsNamed q f
named_same [] d f part birth named = (sym part ∙ named.0, sym birth ∙ named.1)
named_same (p ∷ ps) d f part birth named = (subst IsPart part named.0, subst (λ n. 0 < n) birth named.1, subst (λ n. n < 2 ^ 63) birth named.2)

pub stamped_key : (stamp : ℕ) (q : List (List ℕ)) (d : KeyData) → stamp < 2 ^ 64 → IsKey q d → IsKey q (stamped stamp d)
stamped_key stamp q d small is = record {
  named = named_same q d (stamped stamp d) refl refl is.named;
  under_name = is.under_name;
  short = is.short;
  written = small;
  values = is.values;
}

with_values : (stamp : ℕ) (values : Values) (q : List (List ℕ)) (d : KeyData) → stamp < 2 ^ 64 → AreValues values → IsKey q d → IsKey q (record d { written = stamp; values = values })
with_values stamp values q d small are is = record {
  named = named_same q d (record d { written = stamp; values = values }) refl refl is.named;
  under_name = is.under_name;
  short = is.short;
  written = small;
  values = are;
}

pub record IsKeptName (name shown : List ℕ) : Type 0 where
  pub same : folded name ≡ folded shown
  pub valid : IsName shown

kept : (name : List ℕ) (values : Values) → IsName name → AreValues values → IsKeptName name (kept_name (value_at (folded name) values) name)
kept name values valid are =
    elim (value_at (folded name) values) as (λ o. value_at (folded name) values ≡ o → IsKeptName name (kept_name o name)) [
      | None ↦ λ _. record { same = refl; valid = valid }
      | Some v ↦ λ found. record {
        same = found_all name_cmp name_total name_exact (λ n (value : ValueData). n ≡ folded value.name) (folded name) v values are.under_names found;
        valid = (found_all name_cmp name_total name_exact (λ n (value : ValueData). IsValue value) (folded name) v values are.limits found).name;
      }
    ] refl

pub record IsData (kind : ℕ) (bytes : List ℕ) : Type 0 where
  pub kind_fits : kind < 2 ^ 32
  pub short : length bytes ≤ 49152
  pub are_bytes : IsBytes bytes

values_set : (name : List ℕ) (kind : ℕ) (bytes : List ℕ) (values : Values) → IsName name → IsData kind bytes → AreValues values → AreValues (value_set name kind bytes values)
values_set name kind bytes values valid «data» are =
    let shown = kept name values valid are in
    let value : ValueData = record { name = kept_name (value_at (folded name) values) name; kind = kind; bytes = bytes } in
    record {
      rising = sorted_put name_cmp name_total name_exact (folded name) value values are.rising;
      under_names = each_put name_cmp name_total name_exact (λ n (v : ValueData). n ≡ folded v.name) (folded name) value values shown.same are.under_names;
      limits = each_put name_cmp name_total name_exact (λ n (v : ValueData). IsValue v) (folded name) value values (record { name = shown.valid; kind = «data».kind_fits; short = «data».short; bytes = «data».are_bytes }) are.limits;
    }

values_without : (name : List ℕ) (values : Values) → AreValues values → AreValues (without name_cmp (folded name) values)
values_without name values are = record {
  rising = sorted_without name_cmp name_total name_exact (folded name) values are.rising;
  under_names = each_without name_cmp name_total name_exact (λ n (v : ValueData). n ≡ folded v.name) (folded name) values are.under_names;
  limits = each_without name_cmp name_total name_exact (λ n (v : ValueData). IsValue v) (folded name) values are.limits;
}

-- ---- the changes

pub registry_set : (name : List ℕ) (kind : ℕ) (bytes : List ℕ) (stamp : ℕ) (q : List (List ℕ)) (es : Keys) → IsName name → IsData kind bytes → stamp < 2 ^ 64 → IsRegistry es → IsRegistry (at_key (with_value name kind bytes stamp) q es)
registry_set name kind bytes stamp q es valid «data» small registry =
    registry_at_key (with_value name kind bytes stamp) q es (λ d is. with_values stamp (value_set name kind bytes d.values) q d small (values_set name kind bytes d.values valid «data» is.values) is) registry

pub registry_unset : (name : List ℕ) (stamp : ℕ) (q : List (List ℕ)) (es : Keys) → stamp < 2 ^ 64 → IsRegistry es → IsRegistry (at_key (without_value name stamp) q es)
registry_unset name stamp q es small registry =
    registry_at_key (without_value name stamp) q es (λ d is. with_values stamp (without name_cmp (folded name) d.values) q d small (values_without name d.values is.values) is) registry

pub record IsStamp (place stamp : ℕ) : Type 0 where
  pub first : 0 < place
  pub last : place < 2 ^ 63
  pub small : stamp < 2 ^ 64

named_new : (place stamp : ℕ) (path : List (List ℕ)) (part : List ℕ) → IsStamp place stamp → IsPart part → IsNamed (below path part) (new_key place stamp part)
named_new place stamp [] part fits is = (is, fits.first, fits.last)
named_new place stamp (p ∷ ps) part fits is = (is, fits.first, fits.last)

key_new : (place stamp : ℕ) (path : List (List ℕ)) (part : List ℕ) → IsStamp place stamp → IsPart part → length (text_of (below path part)) ≤ 1023 → IsKey (below path part) (new_key place stamp part)
key_new place stamp path part fits is short = record {
  named = named_new place stamp path part fits is;
  under_name = ends_in path part;
  short = short;
  written = fits.small;
  values = record { rising = refl; under_names = tt; limits = tt };
}

abbrev pub IsShort : List (List ℕ) → List (List ℕ) → Type 0
IsShort path parts = length (text_of (path ++ folded_parts parts)) ≤ 1023

short_next : (path : List (List ℕ)) (part : List ℕ) (parts : List (List ℕ)) → IsShort path (part ∷ parts) → IsShort (below path part) parts
short_next path part parts short = subst (λ l. length (text_of l) ≤ 1023) (sym (below-parts path part parts)) short

registry_chain : (place stamp : ℕ) (path parts : List (List ℕ)) (es : Keys) → IsStamp place stamp → All IsPart parts → IsShort path parts → IsSome (key_at path es) → IsRegistry es → IsRegistry (chain_made place stamp path parts es)
registry_chain place stamp path [] es fits all short there registry = registry
registry_chain place stamp path (part ∷ parts) es fits all short there registry =
    let here = below path part in
    let made = new_key place stamp part in
    registry_chain place stamp here parts (put path_cmp here made es) fits (All-tail IsPart part parts all) (short_next path part parts short) (there_now here made es)
    (registry_put here made es registry (key_new place stamp path part fits (All-head IsPart part parts all) (short_below path part parts short)) (parent_there path part es there))

pub registry_created : (place stamp : ℕ) (path parts : List (List ℕ)) (es : Keys) → IsStamp place stamp → All IsPart parts → IsShort path parts → IsSome (key_at path es) → IsRegistry es → IsRegistry (created place stamp path parts es)
registry_created place stamp path [] es fits all short there registry = registry
registry_created place stamp path (part ∷ parts) es fits all short there registry =
    let here = below path part in
    elim (is_some (key_at here es)) as (λ b. is_some (key_at here es) ≡ b → IsRegistry (cond b (created place stamp here parts es) (chain_made place stamp path (part ∷ parts) (at_key (stamped stamp) path es)))) [
      | true ↦ λ some. registry_created place stamp here parts es fits (All-tail IsPart part parts all) (short_next path part parts short) some registry
      | false ↦ λ _. registry_chain place stamp path (part ∷ parts) (at_key (stamped stamp) path es) fits all short (there_at_key (stamped stamp) path path es there)
          (registry_at_key (stamped stamp) path es (λ d is. stamped_key stamp path d fits.small is) registry)
    ] refl

pub registry_deleted : (stamp : ℕ) (first : List ℕ) (others : List (List ℕ)) (es : Keys) → stamp < 2 ^ 64 → has_subkeys (first ∷ others) es ≡ false → IsSome (key_at (first ∷ others) es) → IsRegistry es → IsRegistry (key_deleted stamp (first ∷ others) es)
registry_deleted stamp first others es small none there registry =
    let path : List (List ℕ) = first ∷ others in
    let left = without path_cmp path es in
    let is : IsRegistry left =
    from_tree left (tree_without first others es (tree_of es registry) none there)
    (each_without path_cmp path_total path_exact IsKey path es registry.limits)
    (some_of (sym (found_without path_cmp path_total path_exact [] path es (λ (e : [] ≡ path). cc))) registry.root) in
    registry_at_key (stamped stamp) (parent_of path) left (λ d h. stamped_key stamp (parent_of path) d small h) is
