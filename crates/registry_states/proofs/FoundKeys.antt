-- A key without its subkeys that was read, and the name before it: they are spelled so, and obey the limits.
use Rattle.std.proofs.Common.{◌≡◌, ℕ, ◌+◌, ◌-◌, ◌<◌, ◌≤◌, ◌^◌, ◌≢◌, Bool, true, false, cond, eqb, ltb, List, [], ◌∷◌, ◌++◌, length, Option, None, Ok, refl, sym, subst, All, arith}
use Rattle.std.specs.Prelude.{◌&&◌, ◌||◌, not, min, nat_lt}
use Rattle.std.specs.List.{list_any}
use Rattle.std.proofs.lemmas.Bool.Decides.{nat_tests}
use Rattle.std.proofs.lemmas.List.Elements.{All-nil, All-cons}
use Rattle.wire_fields.specs.declared.endian.Endian.TheVariants.{Little}
use Rattle.wire_fields.specs.Numbers.{num}
use Rattle.wire_fields.specs.Reading.{Reading, number_at}
use Rattle.wire_fields.proofs.FieldLaws.{Took, took_then}
use Rattle.clus_names.specs.Folding.{folded}
use Rattle.clus_names.specs.Parts.{separator}
use Rattle.clus_names.specs.Limits.{IsPart, lacks_zero}
use Rattle.update_records.specs.Spelling.{name_text}
use Rattle.update_records.proofs.Fields.{IsInput, both_true, name_units}
use Rattle.registry_defs.specs.Keys.{Values, KeyData}
use Rattle.registry_defs.specs.Limits.{AreValues}
use Rattle.registry_defs.specs.Spelling.{birth_text, values_text}
use Rattle.registry_defs.specs.StateFields.{◌>>=◌, field_at}
use Rattle.registry_defs.specs.StateGrammar.{is_above, values_at, tells_written, birth_in, fits_birth, written_at, key_alone_at, lacks_separator, part_at}
use Rattle.registry_states.proofs.FoundFields.{bind_ok, read_as, number_was, counted, units_were}
use Rattle.registry_states.proofs.FoundValues.{IsAfter, after_if_above, values_found, are_values}

-- ---- the creation number and the written time

pub record FoundBirth (part : List ℕ) (end : ℕ) (s : Reading) (birth written : ℕ) (t : Reading) : Type 0 where
  pub took : Took s (birth_text birth written) t
  pub input : IsInput t
  pub none : length part ≡ 0 → birth ≡ 0
  pub some : 0 < length part → 0 < birth
  pub birth_small : birth < 2 ^ 63
  pub written_small : written < 2 ^ 64
  pub within : t.place ≤ end

abbrev fits : Bool → ℕ → Bool
fits is_root birth = cond is_root (eqb birth 0) (ltb 0 birth)

no_birth : (part : List ℕ) (birth : ℕ) → fits (eqb (length part) 0) birth ≡ true → length part ≡ 0 → birth ≡ 0
no_birth part birth e none =
    let root : eqb (length part) 0 ≡ true = grind (arith, nat_tests) in
    let is : eqb birth 0 ≡ true = rw root at e in
    grind (arith, nat_tests)

some_birth : (part : List ℕ) (birth : ℕ) → fits (eqb (length part) 0) birth ≡ true → 0 < length part → 0 < birth
some_birth part birth e some =
    let named : eqb (length part) 0 ≡ false = grind (arith, nat_tests) in
    let is : ltb 0 birth ≡ true = rw named at e in
    grind (arith, nat_tests)

-- the field is the creation number alone
unwritten : (part : List ℕ) (end : ℕ) (s t : Reading) (field : ℕ) → IsInput t → Took s (num Little 8 field) t → t.place ≤ end → fits_birth part field ≡ true → tells_written field ≡ false → FoundBirth part end s (birth_in field) 0 t
unfolding birth_text
unwritten part end s t field input took within obeyed told =
    let is : birth_in field ≡ field = rw told refl in
    let below : field < 2 ^ 63 = grind (arith, nat_tests) in
    record {
      took = subst (λ n. Took s (num Little 8 n) t) (sym is) took;
      input = input;
      none = no_birth part (birth_in field) obeyed;
      some = some_birth part (birth_in field) obeyed;
      birth_small = omega (arith, is, below);
      written_small = omega arith;
      within = within;
    }

-- a written time stands behind the field
stamped : (part : List ℕ) (end : ℕ) (s t : Reading) (field : ℕ) (written : ℕ) (u : Reading) → IsInput t → Took s (num Little 8 field) t → field < 2 ^ 64 → fits_birth part field ≡ true → tells_written field ≡ true
    → field_at (number_at 8) (λ written. nat_lt 0 written) end t ≡ Ok (written, u) → FoundBirth part end s (birth_in field) written u
unfolding birth_text
stamped part end s t field written u input took small obeyed told e =
    let found = number_was 8 (λ written. nat_lt 0 written) end t written u input e in
    let is : birth_in field ≡ field - 2 ^ 63 = rw told refl in
    let least : 2 ^ 63 ≤ field = grind (arith, nat_tests) in
    let marked : field ≡ birth_in field + 2 ^ 63 = omega (arith, is, least) in
    let some : ltb 0 written ≡ true = found.obeyed in
    let there : eqb written 0 ≡ false = grind (arith, nat_tests) in
    let first : Took s (num Little 8 (birth_in field + 2 ^ 63)) t = subst (λ n. Took s (num Little 8 n) t) marked took in
    record {
      took = rw there (took_then s t u (num Little 8 (birth_in field + 2 ^ 63)) (num Little 8 written) first found.took);
      input = found.input;
      none = no_birth part (birth_in field) obeyed;
      some = some_birth part (birth_in field) obeyed;
      birth_small = omega (arith, is, least, small);
      written_small = (let few = found.small in omega arith);
      within = found.within;
    }

birth_found : (part : List ℕ) (end : ℕ) (s t : Reading) (field : ℕ) (x : ℕ × Reading) → IsInput s → field_at (number_at 8) (fits_birth part) end s ≡ Ok (field, t) → written_at (tells_written field) end t ≡ Ok x → FoundBirth part end s (birth_in field) x.0 x.1
birth_found part end s t field x input e f =
    by (tells_written field) refl f
  where
    by : (b : Bool) → tells_written field ≡ b → written_at b end t ≡ Ok x → FoundBirth part end s (birth_in field) x.0 x.1
    by true told f =
        let found = number_was 8 (fits_birth part) end s field t input e in
        stamped part end s t field x.0 x.1 found.input found.took (let small = found.small in omega arith) found.obeyed told f
    by false told f =
        let found = number_was 8 (fits_birth part) end s field t input e in
        read_as (FoundBirth part end s (birth_in field)) (0, t) x f (unwritten part end s t field found.input found.took found.within found.obeyed told)

-- ---- a key alone

pub record FoundKey (part : List ℕ) (end : ℕ) (s : Reading) (key : KeyData) (t : Reading) : Type 0 where
  pub took : Took s (birth_text key.birth key.written ++ num Little 4 (length key.values) ++ values_text key.values) t
  pub input : IsInput t
  pub named : key.part ≡ part
  pub none : length part ≡ 0 → key.birth ≡ 0
  pub some : 0 < length part → 0 < key.birth
  pub birth : key.birth < 2 ^ 63
  pub written : key.written < 2 ^ 64
  pub values : AreValues key.values
  pub within : t.place ≤ end

abbrev key_of : List ℕ → ℕ → ℕ → Values → KeyData
key_of part birth written values = record { part = part; birth = birth; written = written; values = values }

pub key_found : (part : List ℕ) (end : ℕ) (s : Reading) (x : KeyData × Reading) → IsInput s → key_alone_at part end s ≡ Ok x → FoundKey part end s x.0 x.1
unfolding key_alone_at
key_found part end s x input e =
    let a = bind_ok (field_at (number_at 8) (fits_birth part) end s) (λ field. written_at (tells_written field.0) end field.1 >>= λ written. field_at (number_at 4) (λ count. true) end written.1 >>= λ count. values_at count.0 None end count.1 >>= λ values. Ok (key_of part (birth_in field.0) written.0 values.0, values.1)) x e in
    let b = bind_ok (written_at (tells_written a.0.0) end a.0.1) (λ written. field_at (number_at 4) (λ count. true) end written.1 >>= λ count. values_at count.0 None end count.1 >>= λ values. Ok (key_of part (birth_in a.0.0) written.0 values.0, values.1)) x a.2 in
    let c = bind_ok (field_at (number_at 4) (λ count. true) end b.0.1) (λ count. values_at count.0 None end count.1 >>= λ values. Ok (key_of part (birth_in a.0.0) b.0.0 values.0, values.1)) x b.2 in
    let d = bind_ok (values_at c.0.0 None end c.0.1) (λ values. Ok (key_of part (birth_in a.0.0) b.0.0 values.0, values.1)) x c.2 in
    let birth = birth_found part end s a.0.1 a.0.0 b.0 input a.1 b.1 in
    let count = number_was 4 (λ count. true) end b.0.1 c.0.0 c.0.1 birth.input c.1 in
    let values = values_found c.0.0 None end c.0.1 d.0 count.input count.within d.1 in
    let length_took = counted 4 b.0.1 c.0.1 c.0.0 (length d.0.0) values.many count.took in
    let head = took_then s b.0.1 c.0.1 (birth_text (birth_in a.0.0) b.0.0) (num Little 4 (length d.0.0)) birth.took length_took in
    let whole : FoundKey part end s (key_of part (birth_in a.0.0) b.0.0 d.0.0) d.0.1 = record {
      took = took_then s c.0.1 d.0.1 (birth_text (birth_in a.0.0) b.0.0 ++ num Little 4 (length d.0.0)) (values_text d.0.0) head values.took;
      input = values.input;
      named = refl {a = part};
      none = birth.none;
      some = birth.some;
      birth = birth.birth_small;
      written = birth.written_small;
      values = are_values c.0.0 None end c.0.1 d.0.0 d.0.1 values;
      within = values.within;
    } in
    read_as (FoundKey part end s) (key_of part (birth_in a.0.0) b.0.0 d.0.0, d.0.1) x d.2 whole

-- ---- the name before a subkey

pub record FoundPart (last : Option (List ℕ)) (used end : ℕ) (s : Reading) (part : List ℕ) (t : Reading) : Type 0 where
  pub took : Took s (name_text part) t
  pub input : IsInput t
  pub is_part : IsPart part
  pub above : IsAfter last (folded part)
  pub short : used + length part ≤ 1023
  pub within : t.place ≤ end

no_separator : (units : List ℕ) → lacks_separator units ≡ true → All (λ unit. unit ≢ separator) units
no_separator [] e = All-nil (λ unit. unit ≢ separator)
no_separator (unit ∷ units) e = by (eqb unit separator) refl e (no_separator units)
  where
    by : (b : Bool) → eqb unit separator ≡ b → not (b || list_any (λ other. eqb other separator) units) ≡ true → (lacks_separator units ≡ true → All (λ other. other ≢ separator) units)
        → All (λ other. other ≢ separator) (unit ∷ units)
    by true same e rest = absurd cc
    by false apart e rest = All-cons (λ other. other ≢ separator) unit units (λ (is : unit ≡ separator). grind (arith, nat_tests)) (rest e)

pub part_found : (last : Option (List ℕ)) (used end : ℕ) (s : Reading) (x : List ℕ × Reading) → IsInput s → part_at last used end s ≡ Ok x → FoundPart last used end s x.0 x.1
unfolding part_at
part_found last used end s x input e =
    let units = units_were 1 (min 255 (1023 - used)) (λ units. lacks_zero units && (lacks_separator units && is_above last units)) end s x.0 x.1 input e in
    let rules = both_true (lacks_zero x.0) (lacks_separator x.0 && is_above last x.0) units.obeyed in
    let others = both_true (lacks_separator x.0) (is_above last x.0) rules.1 in
    let each = name_units x.0 rules.0 units.each in
    let apart = no_separator x.0 others.0 in
    let most : length x.0 ≤ min 255 (1023 - used) = units.most in
    record {
      took = units.took;
      input = units.input;
      is_part = record {
        not_empty = (let least = units.least in omega (arith, least));
        short = omega (arith, most);
        units = λ k d l. record { not_zero = (each k d l).not_zero; in_range = (each k d l).in_range; not_separator = apart k d l };
      };
      above = after_if_above last x.0 others.1;
      short = (let least = units.least in omega (arith, most, least));
      within = units.within;
    }
