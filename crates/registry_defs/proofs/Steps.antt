-- What a change makes of the keys and of their size, as the calls on the tree tell it.
use Rattle.std.proofs.Common.{◌≡◌, ℕ, cond, ◌+◌, ◌<◌, ◌≤◌, ◌^◌, true, false, List, [], ◌∷◌, ◌++◌, length, Option, Some, None, refl, sym, ap, subst, ◌∙◌, All, arith}
use Rattle.std.specs.Prelude.{IsTrue, IsSome, is_some, option_map, ◌==◌}
use Rattle.std.specs.FinMap.{is_sorted}
use Rattle.std.proofs.lemmas.List.{append-nil}
use Rattle.clus_names.specs.Folding.{folded, folded_parts, name_cmp, path_cmp}
use Rattle.clus_names.specs.Parts.{text_of, parts_of}
use Rattle.clus_names.specs.Limits.{IsPart}
use Rattle.registry_defs.specs.Keys.{ValueData, KeyData, Keys, key_at, value_at}
use Rattle.registry_defs.specs.Sections.{has_subkeys, parent_of}
use Rattle.registry_defs.specs.Sizes.{written_size, value_size, key_size, size}
use Rattle.registry_defs.specs.Limits.{IsRegistry}
use Rattle.registry_defs.specs.Changes.{at_key, without_value, created, key_deleted}
use Rattle.registry_defs.specs.Growth.{creation_added, creation_freed}
use Rattle.registry_defs.specs.Nodes.{Node, IsAt, keys_of, path_of}
use Rattle.registry_defs.proofs.Orders.{name_total, name_exact, path_total, path_exact, rising_from_sorted}
use Rattle.registry_defs.proofs.Paths.{folded-below, text_folded}
use Rattle.update_records.specs.Validity.{FitTogether}
use Rattle.registry_defs.proofs.Maps.{not_none}
use Rattle.registry_defs.proofs.Totals.{found_within}
use Rattle.registry_defs.proofs.Trees.{size_at_key, created_sum, added_below, freed_below, deleted_sum}
use Rattle.registry_defs.proofs.Keeping.{tree_of, key_limits, IsStamp, registry_created, registry_deleted}

pub there : (q : List (List ℕ)) (es : Keys) (node : Node) → IsAt q es node → IsSome (key_at q es)
there q es node at = ap is_some at.here

pub key_within : (q : List (List ℕ)) (d : KeyData) (es : Keys) → IsRegistry es → key_at q es ≡ Some d → key_size q d ≤ size es
key_within q d es registry found = omega (arith, found_within path_cmp path_total path_exact key_size q d es (rising_from_sorted path_cmp es registry.rising) found)

-- ---- a change of one key

pub change_sum : (f : KeyData → KeyData) (q : List (List ℕ)) (es : Keys) (node : Node) (added freed : ℕ) → IsRegistry es → IsAt q es node → key_size q (f node.here) + freed ≡ key_size q node.here + added → size (at_key f q es) + freed ≡ size es + added
change_sum f q es node added freed registry at sum = omega (arith, sum, size_at_key f q node.here es registry.rising at.here)

small_time : (stamp : ℕ) → written_size stamp ≤ 8
small_time stamp = elim (stamp == 0) as (λ b. cond b 0 8 ≤ 8) [ true ↦ omega arith | false ↦ omega arith ]

without_smaller : (name : List ℕ) (stamp : ℕ) (q : List (List ℕ)) (d : KeyData) (v : ValueData) → IsTrue (is_sorted name_cmp d.values) → value_at (folded name) d.values ≡ Some v → key_size q (without_value name stamp d) ≤ key_size q d
without_smaller name stamp q d v sorted found =
    omega (arith, small_time stamp, found_within name_cmp name_total name_exact value_size (folded name) v d.values (rising_from_sorted name_cmp d.values sorted) found)

record IsValueIn (o : Option ValueData) : Type 0 where
  pub value : ValueData
  pub is : o ≡ Some value

the_value : (o : Option ValueData) → IsSome o → IsValueIn o
the_value None h = absurd (not_none {X = ValueData} None refl h)
the_value (Some v) h = record { value = v; is = refl }

pub unset_smaller : (name : List ℕ) (stamp : ℕ) (q : List (List ℕ)) (es : Keys) (d : KeyData) → IsRegistry es → key_at q es ≡ Some d → is_some (value_at (folded name) d.values) ≡ true → size (at_key (without_value name stamp) q es) ≤ size es
unset_smaller name stamp q es d registry found some =
    let is = key_limits q d es registry found in
    let value = the_value (value_at (folded name) d.values) some in
    omega (arith, without_smaller name stamp q d value.value is.values.rising value.is, size_at_key (without_value name stamp) q d es registry.rising found)

-- ---- new keys

pub create_sum : (place stamp : ℕ) (key subkey parts : List (List ℕ)) (es : Keys) (node : Node) (added freed : ℕ) → IsRegistry es → IsAt (folded_parts key) es node → parts ≡ subkey
    → added ≡ creation_added stamp [] parts (keys_of node) → freed ≡ creation_freed [] parts (keys_of node) → size (created place stamp (folded_parts key) subkey es) + freed ≡ size es + added
create_sum place stamp key subkey parts es node added freed registry at is adds frees =
    let q = folded_parts key in
    let more : added ≡ creation_added stamp q subkey es =
    adds ∙ ap (λ l. creation_added stamp [] l (keys_of node)) is ∙ ap (creation_added stamp [] subkey) at.all ∙ added_below stamp q [] subkey es ∙ ap (λ l. creation_added stamp l subkey es) (append-nil q) in
    let less : freed ≡ creation_freed q subkey es =
    frees ∙ ap (λ l. creation_freed [] l (keys_of node)) is ∙ ap (creation_freed [] subkey) at.all ∙ freed_below q [] subkey es ∙ ap (λ l. creation_freed l subkey es) (append-nil q) in
    omega (arith, more, less, created_sum place stamp q subkey es (tree_of es registry) (there q es node at))

pub create_registry : (place stamp : ℕ) (key subkey : List (List ℕ)) (es : Keys) → IsRegistry es → IsSome (key_at (folded_parts key) es) → IsStamp place stamp → FitTogether key subkey → All IsPart subkey → IsRegistry (created place stamp (folded_parts key) subkey es)
create_registry place stamp key subkey es registry there fits valid parts =
    let short : length (text_of (folded_parts key ++ folded_parts subkey)) ≤ 1023 = omega (arith, valid, text_folded (key ++ subkey), ap (λ l. length (text_of l)) (folded-below key subkey)) in
    registry_created place stamp (folded_parts key) subkey es fits parts short there registry

-- ---- a key that goes

pub record IsBelow (path : List (List ℕ)) : Type 0 where
  pub first : List ℕ
  pub others : List (List ℕ)
  pub is : path ≡ first ∷ others

pub is_below : (key subkey : List (List ℕ)) → 0 < length subkey → IsBelow (folded_parts (key ++ subkey))
is_below [] [] some = absurd (omega (arith, some))
is_below [] (s ∷ ss) some = record { first = folded s; others = folded_parts ss; is = refl }
is_below (k ∷ ks) subkey some = record { first = folded k; others = folded_parts (ks ++ subkey); is = refl }

record IsWrittenAt (o : Option KeyData) (written : ℕ) : Type 0 where
  pub key : KeyData
  pub is : o ≡ Some key
  pub at : key.written ≡ written

written_above : (o : Option KeyData) (written : ℕ) → option_map (λ key. key.written) o ≡ Some written → IsWrittenAt o written
written_above None written is = absurd cc
written_above (Some d) written is = record { key = d; is = refl; at = cc }

pub delete_sum : (stamp written : ℕ) (path : List (List ℕ)) (name : List ℕ) (d : KeyData) (es : Keys) → IsBelow path → IsRegistry es → key_at path es ≡ Some d → option_map (λ key. key.written) (key_at (parent_of path) es) ≡ Some written
    → size (key_deleted stamp path es) + written_size written + key_size (name ∷ []) d ≡ size es + written_size stamp
delete_sum stamp written path name d es below registry found was =
    let is = below.is in
    let above = written_above (key_at (parent_of path) es) written was in
    let sum = deleted_sum stamp below.first below.others d above.key es registry.rising (subst (λ l. key_at l es ≡ Some d) is found) (subst (λ l. key_at (parent_of l) es ≡ Some above.key) is above.is) in
    let same : key_size (name ∷ []) d ≡ key_size (below.first ∷ below.others) d = refl in
    omega (arith, sum, same, ap written_size above.at, ap (λ l. size (key_deleted stamp l es)) is)

pub delete_registry : (stamp : ℕ) (path : List (List ℕ)) (d : KeyData) (es : Keys) → IsBelow path → IsRegistry es → stamp < 2 ^ 64 → key_at path es ≡ Some d → has_subkeys path es ≡ false → IsRegistry (key_deleted stamp path es)
delete_registry stamp path d es below registry small found none =
    let is = below.is in
    subst (λ l. IsRegistry (key_deleted stamp l es)) (sym is)
    (registry_deleted stamp below.first below.others es small (subst (λ l. has_subkeys l es ≡ false) is none) (subst (λ l. IsSome (key_at l es)) is (ap is_some found)) registry)

-- ---- the tree's words as those of the definitions

pub created_is : (place stamp : ℕ) (key subkey : List (List ℕ)) (text sub : List ℕ) (es root : Keys) → parts_of text ≡ key → parts_of sub ≡ subkey → es ≡ root → created place stamp (path_of text) (parts_of sub) root ≡ created place stamp (folded_parts key) subkey es
created_is place stamp key subkey text sub es root path parts keys =
    ap (λ (l : List (List ℕ)). created place stamp (folded_parts l) (parts_of sub) root) path
    ∙ ap (λ l. created place stamp (folded_parts key) l root) parts
    ∙ ap (created place stamp (folded_parts key) subkey) (sym keys)

pub change_is : (f : KeyData → KeyData) (key : List (List ℕ)) (text : List ℕ) (es root : Keys) → parts_of text ≡ key → es ≡ root → at_key f (path_of text) root ≡ at_key f (folded_parts key) es
change_is f key text es root path keys = ap (λ (l : List (List ℕ)). at_key f (folded_parts l) root) path ∙ ap (at_key f (folded_parts key)) (sym keys)

pub joined_is : (key subkey : List (List ℕ)) (text sub : List ℕ) → parts_of text ≡ key → parts_of sub ≡ subkey → path_of text ++ path_of sub ≡ folded_parts (key ++ subkey)
joined_is key subkey text sub path parts =
    ap (λ (l : List (List ℕ)). folded_parts l ++ path_of sub) path ∙ ap (λ (l : List (List ℕ)). folded_parts key ++ folded_parts l) parts ∙ sym (folded-below key subkey)

pub size_is : (result added freed : ℕ) (es news made : Keys) → result + freed ≡ size es + added → size news + freed ≡ size es + added → made ≡ news → result ≡ size made
size_is result added freed es news made told sum is = omega (arith, told, sum, ap size is)

pub there_in : (key : List (List ℕ)) (text : List ℕ) (es root : Keys) (node : Node) → IsAt (folded_parts key) es node → parts_of text ≡ key → es ≡ root → IsSome (key_at (path_of text) root)
there_in key text es root node at path keys = ap (λ (l : List (List ℕ)). is_some (key_at (folded_parts l) root)) path ∙ ap (λ l. is_some (key_at (folded_parts key) l)) (sym keys) ∙ there (folded_parts key) es node at

pub below_within : (path : List (List ℕ)) (name : List ℕ) (d : KeyData) (es : Keys) → IsBelow path → IsRegistry es → key_at path es ≡ Some d → key_size (name ∷ []) d ≤ size es
below_within path name d es below registry found =
    let same : key_size (name ∷ []) d ≡ key_size (below.first ∷ below.others) d = refl in
    omega (arith, same, key_within (below.first ∷ below.others) d es registry (subst (λ l. key_at l es ≡ Some d) below.is found))

pub delete_smaller : (stamp written : ℕ) (path : List (List ℕ)) (name : List ℕ) (d : KeyData) (es : Keys) → size (key_deleted stamp path es) + written_size written + key_size (name ∷ []) d ≡ size es + written_size stamp → size (key_deleted stamp path es) ≤ size es
delete_smaller stamp written path name d es sum = omega (arith, sum, small_time stamp)
