-- The values of a key that were read: they are spelled so, their names rise, and they obey the limits.
use Rattle.std.proofs.Common.{◌≡◌, ℕ, zero, suc, ◌≤◌, true, T, List, [], ◌∷◌, ◌++◌, length, Option, Some, None, Ok, refl, sym, subst, arith}
use Rattle.std.specs.Prelude.{◌&&◌}
use Rattle.std.specs.List.{AllByRecursion}
use Rattle.std.specs.declared.cmp.Ordering.TheVariants.{Less}
use Rattle.std.proofs.lemmas.List.Concat.{flat_map-cons}
use Rattle.wire_fields.specs.declared.endian.Endian.TheVariants.{Little}
use Rattle.wire_fields.specs.Numbers.{num}
use Rattle.wire_fields.specs.Reading.{Reading, number_at}
use Rattle.wire_fields.proofs.FieldLaws.{Took, took_none, took_then}
use Rattle.clus_names.specs.Folding.{folded, name_cmp}
use Rattle.clus_names.specs.Limits.{lacks_zero}
use Rattle.update_records.specs.Spelling.{name_text, data_text}
use Rattle.update_records.proofs.Fields.{IsInput, both_true, name_units}
use Rattle.registry_defs.specs.Keys.{ValueData, Values}
use Rattle.registry_defs.specs.Limits.{IsValue, AreValues}
use Rattle.registry_defs.specs.Rising.{Rising}
use Rattle.registry_defs.specs.Spelling.{value_text, values_text}
use Rattle.registry_defs.specs.StateFields.{◌>>=◌, field_at, units_at, data_at}
use Rattle.registry_defs.specs.StateGrammar.{is_above, value_at, values_at}
use Rattle.registry_defs.proofs.Orders.{name_total, less, sorted_from_rising}
use Rattle.registry_tree.proofs.Places.{each_map}
use Rattle.registry_states.proofs.FoundFields.{bind_ok, read_as, number_was, units_were, data_was}

-- ---- names that ascend

-- A folded name is above that of the one before, if there is one.
abbrev pub IsAfter : Option (List ℕ) → List ℕ → Type 0
IsAfter None name = Unit {0}
IsAfter (Some last) name = name_cmp (folded last) name ≡ Less

pub after_if_above : (last : Option (List ℕ)) (name : List ℕ) → is_above last name ≡ true → IsAfter last (folded name)
after_if_above None name e = tt
after_if_above (Some last) name e = less (name_cmp (folded last) (folded name)) (subst T (sym e) tt)

pub after_both : (last : Option (List ℕ)) (lower higher : List ℕ) → IsAfter last lower → name_cmp lower higher ≡ Less → IsAfter last higher
after_both None lower higher h k = tt
after_both (Some last) lower higher h k = name_total.trans (folded last) lower higher h k

-- ---- one value

pub record FoundValue (last : Option (List ℕ)) (end : ℕ) (s : Reading) (value : ValueData) (t : Reading) : Type 0 where
  pub took : Took s (value_text value) t
  pub input : IsInput t
  pub is_value : IsValue value
  pub above : IsAfter last (folded value.name)
  pub within : t.place ≤ end

abbrev value_of : List ℕ → ℕ → List ℕ → ValueData
value_of name kind bytes = record { name = name; kind = kind; bytes = bytes }

pub value_found : (last : Option (List ℕ)) (end : ℕ) (s : Reading) (x : ValueData × Reading) → IsInput s → value_at last end s ≡ Ok x → FoundValue last end s x.0 x.1
unfolding value_at value_text
value_found last end s x input e =
    let a = bind_ok (units_at 0 1023 (λ units. lacks_zero units && is_above last units) end s) (λ name. field_at (number_at 4) (λ kind. true) end name.1 >>= λ kind. data_at end kind.1 >>= λ bytes. Ok (value_of name.0 kind.0 bytes.0, bytes.1)) x e in
    let b = bind_ok (field_at (number_at 4) (λ kind. true) end a.0.1) (λ kind. data_at end kind.1 >>= λ bytes. Ok (value_of a.0.0 kind.0 bytes.0, bytes.1)) x a.2 in
    let c = bind_ok (data_at end b.0.1) (λ bytes. Ok (value_of a.0.0 b.0.0 bytes.0, bytes.1)) x b.2 in
    let name = units_were 0 1023 (λ units. lacks_zero units && is_above last units) end s a.0.0 a.0.1 input a.1 in
    let kind = number_was 4 (λ kind. true) end a.0.1 b.0.0 b.0.1 name.input b.1 in
    let bytes = data_was end b.0.1 c.0.0 c.0.1 kind.input c.1 in
    let rules = both_true (lacks_zero a.0.0) (is_above last a.0.0) name.obeyed in
    let kinded = took_then s a.0.1 b.0.1 (name_text a.0.0) (num Little 4 b.0.0) name.took kind.took in
    let whole : FoundValue last end s (value_of a.0.0 b.0.0 c.0.0) c.0.1 = record {
      took = took_then s b.0.1 c.0.1 (name_text a.0.0 ++ num Little 4 b.0.0) (data_text c.0.0) kinded bytes.took;
      input = bytes.input;
      is_value = record {
        name = record { short = name.most; units = name_units a.0.0 rules.0 name.each };
        kind = (let small = kind.small in omega arith);
        short = bytes.short;
        bytes = bytes.are_bytes;
      };
      above = after_if_above last a.0.0 rules.1;
      within = bytes.within;
    } in
    read_as (FoundValue last end s) (value_of a.0.0 b.0.0 c.0.0, c.0.1) x c.2 whole

-- ---- the values of a key

pub record FoundValues (count : ℕ) (last : Option (List ℕ)) (end : ℕ) (s : Reading) (values : Values) (t : Reading) : Type 0 where
  pub took : Took s (values_text values) t
  pub input : IsInput t
  pub many : length values ≡ count
  pub above : AllByRecursion (λ entry. IsAfter last entry.0) values
  pub rising : Rising name_cmp (λ entry. entry.0) values
  pub under_names : AllByRecursion (λ entry. entry.0 ≡ folded entry.1.name) values
  pub limits : AllByRecursion (λ entry. IsValue entry.1) values
  pub within : t.place ≤ end

pub values_found : (count : ℕ) (last : Option (List ℕ)) (end : ℕ) (s : Reading) (x : Values × Reading) → IsInput s → s.place ≤ end → values_at count last end s ≡ Ok x → FoundValues count last end s x.0 x.1
unfolding values_at
values_found zero last end s x input room e =
    let none : FoundValues 0 last end s [] s = record {
      took = took_none s input.bytes;
      input = input;
      many = refl;
      above = tt;
      rising = tt;
      under_names = tt;
      limits = tt;
      within = room;
    } in
    read_as (FoundValues 0 last end s) ([], s) x e none
values_found (suc count) last end s x input room e =
    let a = bind_ok (value_at last end s) (λ first. values_at count (Some first.0.name) end first.1 >>= λ others. Ok ((folded first.0.name, first.0) ∷ others.0, others.1)) x e in
    let b = bind_ok (values_at count (Some a.0.0.name) end a.0.1) (λ others. Ok ((folded a.0.0.name, a.0.0) ∷ others.0, others.1)) x a.2 in
    let first = value_found last end s a.0 input a.1 in
    let others = values_found count (Some a.0.0.name) end a.0.1 b.0 first.input first.within b.1 in
    let entry : List ℕ × ValueData = (folded a.0.0.name, a.0.0) in
    let whole : FoundValues (suc count) last end s (entry ∷ b.0.0) b.0.1 = record {
      took = rw (flat_map-cons (λ (y : List ℕ × ValueData). value_text y.1) entry b.0.0) (took_then s a.0.1 b.0.1 (value_text a.0.0) (values_text b.0.0) first.took others.took);
      input = others.input;
      many = omega (arith, others.many);
      above = (first.above, each_map (λ (y : List ℕ × ValueData). IsAfter (Some a.0.0.name) y.0) (λ (y : List ℕ × ValueData). IsAfter last y.0) (λ y after. after_both last entry.0 y.0 first.above after) b.0.0 others.above);
      rising = (others.above, others.rising);
      under_names = (refl, others.under_names);
      limits = (first.is_value, others.limits);
      within = others.within;
    } in
    read_as (FoundValues (suc count) last end s) (entry ∷ b.0.0, b.0.1) x b.2 whole

pub are_values : (count : ℕ) (last : Option (List ℕ)) (end : ℕ) (s : Reading) (values : Values) (t : Reading) → FoundValues count last end s values t → AreValues values
are_values count last end s values t found =
    record { rising = sorted_from_rising name_cmp values found.rising; under_names = found.under_names; limits = found.limits }
