-- Sizes of the values of a key, where one is set or deleted.
use Rattle.std.proofs.Common.{◌≡◌, ℕ, suc, ◌+◌, ◌*◌, List, [], ◌∷◌, ◌++◌, length, get_or, take, drop, refl, sym, ap, ◌∙◌, arith}
use Rattle.clus_names.specs.Folding.{folded, name_cmp}
use Rattle.registry_defs.specs.Keys.{KeyData, Values, without}
use Rattle.registry_defs.specs.Changes.{value_set, with_value, without_value}
use Rattle.registry_defs.specs.Sizes.{total, value_size, written_size, key_size}
use Rattle.registry_tree.specs.declared.value.Value.{Value}
use Rattle.registry_tree.specs.Values.{value_data, value_name, entries_of}
use Rattle.registry_tree.specs.Places.{IsAt, IsGap}
use Rattle.registry_tree.proofs.Lists.{get_split, set_split, take_drop}
use Rattle.registry_tree.proofs.Entries.{set_found, set_missing, value_removed}

abbrev pub all_size : List Value → ℕ
all_size vs = total value_size (entries_of vs)

abbrev pub size_of : Value → ℕ
size_of v = value_size (value_name v) (value_data v)

all_append : (xs ys : List Value) → all_size (xs ++ ys) ≡ all_size xs + all_size ys
all_append [] ys = omega arith
all_append (x ∷ xs) ys = let rest = all_append xs ys in omega (arith, rest)

around : (xs ys : List Value) (v : Value) → all_size (xs ++ v ∷ ys) ≡ all_size xs + size_of v + all_size ys
around xs ys v = let e = all_append xs (v ∷ ys) in omega (arith, e)

module _ (name : List ℕ) (vs : List Value) (i : ℕ) where
  found_size : (kind : ℕ) (bytes : List ℕ) (v : Value) → IsAt value_name vs (folded name) i → v ≡ get_or vs i v → total value_size (value_set name kind bytes (entries_of vs)) + length v.bytes ≡ all_size vs + length bytes
  found_size kind bytes v at is =
      let new : Value = record { name = v.name; kind = kind; bytes = bytes } in
      let made : total value_size (value_set name kind bytes (entries_of vs)) ≡ all_size (take i vs) + size_of new + all_size (drop (suc i) vs) =
      ap (total value_size) (sym (set_found name kind bytes vs i v new at is refl)) ∙ ap all_size (set_split vs i new at.within) ∙ around (take i vs) (drop (suc i) vs) new in
      let was : all_size vs ≡ all_size (take i vs) + size_of v + all_size (drop (suc i) vs) = ap all_size (get_split vs i v at.within is) ∙ around (take i vs) (drop (suc i) vs) v in
      omega (arith, made, was)

  missing_size : (kind : ℕ) (bytes : List ℕ) → IsGap value_name vs (folded name) i → total value_size (value_set name kind bytes (entries_of vs)) ≡ all_size vs + (10 + 2 * length name + length bytes)
  missing_size kind bytes gap =
      let new : Value = record { name = name; kind = kind; bytes = bytes } in
      let made : total value_size (value_set name kind bytes (entries_of vs)) ≡ all_size (take i vs) + size_of new + all_size (drop i vs) =
      ap (total value_size) (sym (set_missing name kind bytes vs i new gap refl)) ∙ around (take i vs) (drop i vs) new in
      let was : all_size vs ≡ all_size (take i vs) + all_size (drop i vs) = ap all_size (sym (take_drop i vs)) ∙ all_append (take i vs) (drop i vs) in
      omega (arith, made, was)

  removed_size : (v : Value) → IsAt value_name vs (folded name) i → v ≡ get_or vs i v → total value_size (without name_cmp (folded name) (entries_of vs)) + size_of v ≡ all_size vs
  removed_size v at is =
      let made : total value_size (without name_cmp (folded name) (entries_of vs)) ≡ all_size (take i vs) + all_size (drop (suc i) vs) =
      ap (total value_size) (value_removed (folded name) vs i v at is) ∙ all_append (take i vs) (drop (suc i) vs) in
      let was : all_size vs ≡ all_size (take i vs) + size_of v + all_size (drop (suc i) vs) = ap all_size (get_split vs i v at.within is) ∙ around (take i vs) (drop (suc i) vs) v in
      omega (arith, made, was)

  -- ---- of the whole key

  pub grows_found : (here : KeyData) (stamp kind : ℕ) (bytes : List ℕ) (v : Value) (path : List (List ℕ)) → here.values ≡ entries_of vs → IsAt value_name vs (folded name) i → v ≡ get_or vs i v
      → key_size path (with_value name kind bytes stamp here) + (written_size here.written + length v.bytes) ≡ key_size path here + (written_size stamp + length bytes)
  grows_found here stamp kind bytes v path values at is =
      let e = found_size kind bytes v at is in
      let new : total value_size (value_set name kind bytes here.values) ≡ total value_size (value_set name kind bytes (entries_of vs)) = ap (λ (l : Values). total value_size (value_set name kind bytes l)) values in
      let old : total value_size here.values ≡ all_size vs = ap (total value_size) values in
      omega (arith, e, new, old)

  pub grows_missing : (here : KeyData) (stamp kind : ℕ) (bytes : List ℕ) (path : List (List ℕ)) → here.values ≡ entries_of vs → IsGap value_name vs (folded name) i
      → key_size path (with_value name kind bytes stamp here) + written_size here.written ≡ key_size path here + (written_size stamp + (10 + 2 * length name + length bytes))
  grows_missing here stamp kind bytes path values gap =
      let e = missing_size kind bytes gap in
      let new : total value_size (value_set name kind bytes here.values) ≡ total value_size (value_set name kind bytes (entries_of vs)) = ap (λ (l : Values). total value_size (value_set name kind bytes l)) values in
      let old : total value_size here.values ≡ all_size vs = ap (total value_size) values in
      omega (arith, e, new, old)

  pub shrinks : (here : KeyData) (stamp : ℕ) (v : Value) (path : List (List ℕ)) → here.values ≡ entries_of vs → IsAt value_name vs (folded name) i → v ≡ get_or vs i v
      → key_size path (without_value name stamp here) + (written_size here.written + size_of v) ≡ key_size path here + written_size stamp
  shrinks here stamp v path values at is =
      let e = removed_size v at is in
      let new : total value_size (without name_cmp (folded name) here.values) ≡ total value_size (without name_cmp (folded name) (entries_of vs)) = ap (λ (l : Values). total value_size (without name_cmp (folded name) l)) values in
      let old : total value_size here.values ≡ all_size vs = ap (total value_size) values in
      omega (arith, e, new, old)
