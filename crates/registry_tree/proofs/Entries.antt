-- The values of a key as entries under their folded names: what is found, put and left out of them.
use Rattle.std.proofs.Common.{◌≡◌, ℕ, suc, cond, not, List, [], ◌∷◌, ◌++◌, ◌≤◌, length, subst, get_or, take, drop, set, Option, Some, None, sym, ap, ◌∙◌}
use Rattle.std.specs.List.{AllByRecursion, insert, remove}
use Rattle.std.specs.declared.cmp.Ordering.TheVariants.{Less}
use Rattle.std.specs.Ordering.{is_eq, ordering_reverse}
use Rattle.std.specs.FinMap.{put}
use Rattle.std.specs.FinMap.Entries.{by_order}
use Rattle.std.proofs.lemmas.List.{map-append}
use Rattle.clus_names.specs.Folding.{folded, name_cmp}
use Rattle.registry_defs.specs.Keys.{ValueData, Values, KeyData, value_at, without}
use Rattle.registry_defs.specs.Limits.{HasFields}
use Rattle.registry_defs.specs.Changes.{kept_name, value_set}
use Rattle.registry_defs.proofs.Orders.{name_total, name_itself}
use Rattle.registry_defs.proofs.Runs as runs
use Rattle.registry_tree.specs.declared.value.Value.{Value}
use Rattle.registry_tree.specs.Values.{value_data, value_name, value_entry, entries_of}
use Rattle.registry_tree.specs.Places.{IsAt, IsGap}
use Rattle.registry_tree.proofs.Lists.{get_split, set_split, take_drop}

above_entries : (q : List ℕ) (vs : List Value) → AllByRecursion (λ v. name_cmp (value_name v) q ≡ Less) vs → runs.IsAbove name_cmp q (entries_of vs)
above_entries q [] h = tt
above_entries q (v ∷ vs) h = (name_total.antisymm q (value_name v) ∙ ap ordering_reverse h.0, above_entries q vs h.1)

below_entries : (q : List ℕ) (vs : List Value) → AllByRecursion (λ v. name_cmp q (value_name v) ≡ Less) vs → runs.IsBelow name_cmp q (entries_of vs)
below_entries q [] h = tt
below_entries q (v ∷ vs) h = (h.0, below_entries q vs h.1)

-- the entries with one value between the others, and without one
between : (lower higher : List Value) (v : Value) → entries_of (lower ++ v ∷ higher) ≡ entries_of lower ++ value_entry v ∷ entries_of higher
between lower higher v = map-append value_entry lower (v ∷ higher)

apart : (vs : List Value) (i : ℕ) → entries_of vs ≡ entries_of (take i vs) ++ entries_of (drop i vs)
apart vs i = ap entries_of (sym (take_drop i vs)) ∙ map-append value_entry (take i vs) (drop i vs)

abbrev given : ValueData → Option ValueData
given d = Some d

module _ (q : List ℕ) (vs : List Value) (i : ℕ) where
  entries_at : (v : Value) → IsAt value_name vs q i → v ≡ get_or vs i v → entries_of vs ≡ entries_of (take i vs) ++ value_entry v ∷ entries_of (drop (suc i) vs)
  entries_at v at is = ap entries_of (get_split vs i v at.within is) ∙ between (take i vs) (drop (suc i) vs) v

  named : (v : Value) → IsAt value_name vs q i → v ≡ get_or vs i v → value_name v ≡ q
  named v at is = ap value_name is ∙ at.same v

  pub value_found : (v : Value) → IsAt value_name vs q i → v ≡ get_or vs i v → value_at q (entries_of vs) ≡ Some (value_data v)
  value_found v at is =
      ap (value_at q) (entries_at v at is)
      ∙ runs.find_behind name_cmp q (entries_of (take i vs)) (value_entry v ∷ entries_of (drop (suc i) vs)) (above_entries q (take i vs) at.before)
      ∙ ap (λ r. cond (is_eq r) (given (value_data v)) (value_at q (entries_of (drop (suc i) vs)))) (ap (name_cmp q) (named v at is) ∙ name_itself q)

  pub value_missing : IsGap value_name vs q i → value_at q (entries_of vs) ≡ None
  value_missing gap =
      ap (value_at q) (apart vs i)
      ∙ runs.find_behind name_cmp q (entries_of (take i vs)) (entries_of (drop i vs)) (above_entries q (take i vs) gap.before)
      ∙ runs.find_none name_cmp q (entries_of (drop i vs)) (below_entries q (drop i vs) gap.after)

  pub value_put : (v new : Value) → IsAt value_name vs q i → v ≡ get_or vs i v → value_name new ≡ value_name v → put name_cmp q (value_data new) (entries_of vs) ≡ entries_of (set vs i new)
  value_put v new at is same =
      let front = entries_of (take i vs) in
      let back = entries_of (drop (suc i) vs) in
      ap (put name_cmp q (value_data new)) (entries_at v at is)
      ∙ runs.put_behind name_cmp q (value_data new) front (value_entry v ∷ back) (above_entries q (take i vs) at.before)
      ∙ ap (λ r. front ++ by_order r ((q, value_data new) ∷ value_entry v ∷ back) ((value_name v, value_data new) ∷ back) (value_entry v ∷ put name_cmp q (value_data new) back)) (ap (name_cmp q) (named v at is) ∙ name_itself q)
      ∙ ap (λ n. front ++ (n, value_data new) ∷ back) (sym same)
      ∙ sym (between (take i vs) (drop (suc i) vs) new)
      ∙ ap entries_of (sym (set_split vs i new at.within))

  pub value_inserted : (new : Value) → IsGap value_name vs q i → value_name new ≡ q → put name_cmp q (value_data new) (entries_of vs) ≡ entries_of (insert vs i new)
  value_inserted new gap same =
      let front = entries_of (take i vs) in
      let back = entries_of (drop i vs) in
      ap (put name_cmp q (value_data new)) (apart vs i)
      ∙ runs.put_behind name_cmp q (value_data new) front back (above_entries q (take i vs) gap.before)
      ∙ ap (λ (l : Values). front ++ l) (runs.put_first name_cmp q (value_data new) back (below_entries q (drop i vs) gap.after))
      ∙ ap (λ n. front ++ (n, value_data new) ∷ back) (sym same)
      ∙ sym (between (take i vs) (drop i vs) new)

  pub value_removed : (v : Value) → IsAt value_name vs q i → v ≡ get_or vs i v → without name_cmp q (entries_of vs) ≡ entries_of (remove vs i)
  value_removed v at is =
      let front = entries_of (take i vs) in
      let back = entries_of (drop (suc i) vs) in
      ap (without name_cmp q) (entries_at v at is)
      ∙ runs.without_behind name_cmp q front (value_entry v ∷ back) (above_entries q (take i vs) at.before)
      ∙ ap (λ r. front ++ cond (not (is_eq r)) (value_entry v ∷ without name_cmp q back) (without name_cmp q back)) (ap (name_cmp q) (named v at is) ∙ name_itself q)
      ∙ ap (λ (l : Values). front ++ l) (runs.without_none name_cmp q back (below_entries q (drop (suc i) vs) at.after))
      ∙ sym (map-append value_entry (take i vs) (drop (suc i) vs))

  pub value_not_removed : IsGap value_name vs q i → without name_cmp q (entries_of vs) ≡ entries_of vs
  value_not_removed gap =
      let front = entries_of (take i vs) in
      let back = entries_of (drop i vs) in
      ap (without name_cmp q) (apart vs i)
      ∙ runs.without_behind name_cmp q front back (above_entries q (take i vs) gap.before)
      ∙ ap (λ (l : Values). front ++ l) (runs.without_none name_cmp q back (below_entries q (drop i vs) gap.after))
      ∙ sym (apart vs i)

-- setting a value: one that is there keeps its name
pub set_found : (name : List ℕ) (kind : ℕ) (bytes : List ℕ) (vs : List Value) (i : ℕ) (v new : Value) → IsAt value_name vs (folded name) i → v ≡ get_or vs i v
    → new ≡ record { name = v.name; kind = kind; bytes = bytes } → entries_of (set vs i new) ≡ value_set name kind bytes (entries_of vs)
set_found name kind bytes vs i v new at is made =
    sym (value_put (folded name) vs i v new at is (ap value_name made))
    ∙ ap (λ (n : Value). put name_cmp (folded name) (value_data n) (entries_of vs)) made
    ∙ ap (λ o. put name_cmp (folded name) (record { name = kept_name o name; kind = kind; bytes = bytes }) (entries_of vs)) (sym (value_found (folded name) vs i v at is))

pub set_missing : (name : List ℕ) (kind : ℕ) (bytes : List ℕ) (vs : List Value) (i : ℕ) (new : Value) → IsGap value_name vs (folded name) i
    → new ≡ record { name = name; kind = kind; bytes = bytes } → entries_of (insert vs i new) ≡ value_set name kind bytes (entries_of vs)
set_missing name kind bytes vs i new gap made =
    sym (value_inserted (folded name) vs i new gap (ap value_name made))
    ∙ ap (λ (n : Value). put name_cmp (folded name) (value_data n) (entries_of vs)) made
    ∙ ap (λ o. put name_cmp (folded name) (record { name = kept_name o name; kind = kind; bytes = bytes }) (entries_of vs)) (sym (value_missing (folded name) vs i gap))

-- ---- facts of each value

pub each_value : (P : ValueData → Type 0) (vs : List Value) → AllByRecursion (λ e. P e.1) (entries_of vs) → AllByRecursion (λ v. P (value_data v)) vs
each_value P [] h = tt
each_value P (v ∷ vs) h = (h.0, each_value P vs h.1)

pub values_fit : (d : KeyData) (vs : List Value) → d.values ≡ entries_of vs → HasFields d → AllByRecursion (λ v. length v.name ≤ 1023) vs × AllByRecursion (λ v. length v.bytes ≤ 49152) vs
values_fit d vs are fields = (
  each_value (λ (v : ValueData). length v.name ≤ 1023) vs (subst (λ (l : Values). AllByRecursion (λ e. length e.1.name ≤ 1023) l) are fields.names),
  each_value (λ (v : ValueData). length v.bytes ≤ 49152) vs (subst (λ (l : Values). AllByRecursion (λ e. length e.1.bytes ≤ 49152) l) are fields.bytes),
)
