-- A field that is spelled at the front of what is left is read, and the rest is left.
use Rattle.std.proofs.Common.{◌≡◌, ℕ, zero, suc, ◌+◌, ◌-◌, ◌<◌, ◌≤◌, ◌^◌, Bool, true, false, cond, ltb, ◌&&◌, List, [], ◌∷◌, ◌++◌, length, Option, Some, None, Result, Ok, refl, sym, ap, ◌∙◌, append_assoc, length-append, All, arith}
use Rattle.std.specs.Prelude.{nat_lt, nat_le, ◌==◌}
use Rattle.std.specs.List.{AllByRecursion}
use Rattle.std.specs.declared.cmp.Ordering.TheVariants.{Less}
use Rattle.std.specs.Ordering.{is_lt}
use Rattle.std.proofs.lemmas.Bool.{le-ltb}
use Rattle.std.proofs.lemmas.Bool.Decides.{nat_tests}
use Rattle.wire_fields.specs.declared.endian.Endian.TheVariants.{Little}
use Rattle.wire_fields.specs.Numbers.{num}
use Rattle.wire_fields.specs.Reading.{Reading, number_at, bytes_at, times}
use Rattle.wire_fields.proofs.NumberLaws.{length-num}
use Rattle.wire_fields.proofs.FieldLaws.{at, number_read, bytes_read}
use Rattle.wire_fields.proofs.ListLaws.{list_read}
use Rattle.clus_names.specs.Folding.{folded, name_cmp}
use Rattle.clus_names.specs.Limits.{lacks_zero}
use Rattle.update_records.specs.Spelling.{units_text, name_text, data_text}
use Rattle.update_records.proofs.Fields.{bounds_between, is_unit, IsUnit, unit_read, units_listed, length-name_text, length-data_text, lacks_again}
use Rattle.registry_defs.specs.Keys.{ValueData, Values, KeyData}
use Rattle.registry_defs.specs.Limits.{IsValue, AreValues}
use Rattle.registry_defs.specs.Rising.{Rising}
use Rattle.registry_defs.specs.Spelling.{value_text, values_text, birth_text}
use Rattle.registry_defs.specs.StateFields.{Stop, field_at, units_at, data_at}
use Rattle.registry_defs.specs.StateGrammar.{is_above, value_at, values_at, tells_written, birth_in, fits_birth, written_at, key_alone_at}
use Rattle.registry_defs.proofs.Orders.{rising_from_sorted}

abbrev pub done : {A : Type 0} → A → Reading → Result (A × Reading) Stop
done x behind = Ok (x, behind)

-- The text in front of any rest is read as the value, and the rest is left.
abbrev pub ReadsAs : {A : Type 0} → (Reading → Result (A × Reading) Stop) → List ℕ → A → ℕ → List ℕ → Type 0
ReadsAs one text x place rest = one (at Little place (text ++ rest)) ≡ Ok (x, at Little (place + length text) rest)

pub field_read : {A : Type 0} (one : Reading → Option (A × Reading)) (obeys : A → Bool) (end : ℕ) (s : Reading) (x : A) (t : Reading) → one s ≡ Some (x, t) → t.place ≤ end → obeys x ≡ true → field_at one obeys end s ≡ Ok (x, t)
field_read one obeys end s x t read within obeyed =
    let enough : ltb end t.place ≡ false = le-ltb _ _ within in
    rw (read, enough, obeyed) refl

pub number_field : (w end place n : ℕ) (obeys : ℕ → Bool) (rest : List ℕ) → n < 256 ^ w → place + w ≤ end → obeys n ≡ true
    → field_at (number_at w) obeys end (at Little place (num Little w n ++ rest)) ≡ Ok (n, at Little (place + w) rest)
number_field w end place n obeys rest small room obeyed =
    field_read (number_at w) obeys end (at Little place (num Little w n ++ rest)) n (at Little (place + w) rest) (number_read Little place w n rest small) room obeyed

-- ---- counted units and bytes

pub units_read : (low high : ℕ) (obeys : List ℕ → Bool) (end place : ℕ) (units rest : List ℕ) → high < 2 ^ 16 → low ≤ length units → length units ≤ high → obeys units ≡ true → All IsUnit units → place + length (name_text units) ≤ end
    → ReadsAs (units_at low high obeys end) (name_text units) units place rest
unfolding units_at name_text
units_read low high obeys end place units rest limit least most obeyed each room =
    let long = length-name_text units in
    let text = num Little 2 (length units) in
    let count : field_at (number_at 2) (λ count. nat_le low count && nat_le count high) end (at Little place (text ++ (units_text units ++ rest))) ≡ Ok (length units, at Little (place + 2) (units_text units ++ rest)) =
    number_field 2 end place (length units) (λ count. nat_le low count && nat_le count high) (units_text units ++ rest) (omega arith) (omega arith) (bounds_between low high (length units) least most) in
    let list : times (length units) (number_at 2) (at Little (place + 2) (units_text units ++ rest)) ≡ Some (units, at Little (place + 2 + length (units_text units)) rest) =
    list_read (number_at 2) is_unit unit_read Little (place + 2) units (units_text units) rest (units_listed units each) in
    let behind : place + 2 + length (units_text units) ≡ place + length (text ++ units_text units) = omega (arith, length-append text (units_text units), length-num Little 2 (length units)) in
    let field = field_read (times (length units) (number_at 2)) obeys end (at Little (place + 2) (units_text units ++ rest)) units (at Little (place + 2 + length (units_text units)) rest) list (omega arith) obeyed in
    rw (append_assoc text (units_text units) rest, count) (field ∙ ap (λ p. Ok (units, at Little p rest)) behind)

pub data_read : (end place : ℕ) (bytes rest : List ℕ) → length bytes ≤ 49152 → place + length (data_text bytes) ≤ end → ReadsAs (data_at end) (data_text bytes) bytes place rest
unfolding data_at data_text
data_read end place bytes rest short room =
    let long = length-data_text bytes in
    let text = num Little 4 (length bytes) in
    let within : nat_le (length bytes) 49152 ≡ true = grind (arith, nat_tests) in
    let count : field_at (number_at 4) (λ count. nat_le count 49152) end (at Little place (text ++ (bytes ++ rest))) ≡ Ok (length bytes, at Little (place + 4) (bytes ++ rest)) =
    number_field 4 end place (length bytes) (λ count. nat_le count 49152) (bytes ++ rest) (omega arith) (omega arith) within in
    let run : bytes_at (length bytes) (at Little (place + 4) (bytes ++ rest)) ≡ Some (bytes, at Little (place + 4 + length bytes) rest) =
    bytes_read Little (place + 4) (length bytes) bytes rest refl in
    let behind : place + 4 + length bytes ≡ place + length (text ++ bytes) = omega (arith, length-append text bytes, length-num Little 4 (length bytes)) in
    let field = field_read (bytes_at (length bytes)) (λ bytes. true) end (at Little (place + 4) (bytes ++ rest)) bytes (at Little (place + 4 + length bytes) rest) run (omega arith) refl in
    rw (append_assoc text bytes rest, count) (field ∙ ap (λ p. Ok (bytes, at Little p rest)) behind)

-- ---- values

pub both_hold : (a b : Bool) → a ≡ true → b ≡ true → (a && b) ≡ true
both_hold a b e f = rw (e, f) refl

pub value_read : (last : Option (List ℕ)) (end place : ℕ) (value : ValueData) (rest : List ℕ) → IsValue value → is_above last value.name ≡ true → place + length (value_text value) ≤ end
    → ReadsAs (value_at last end) (value_text value) value place rest
unfolding value_at value_text
value_read last end place value rest h above room =
    let name = name_text value.name in
    let kind = num Little 4 value.kind in
    let bytes = data_text value.bytes in
    let long : length (name ++ kind ++ bytes) ≡ length name + 4 + length bytes = omega (arith, length-append (name ++ kind) bytes, length-append name kind, length-num Little 4 value.kind) in
    let parts : (name ++ kind ++ bytes) ++ rest ≡ name ++ (kind ++ (bytes ++ rest)) = simp append_assoc in
    let obeyed = both_hold (lacks_zero value.name) (is_above last value.name) (lacks_again value.name h.name.units) above in
    let first = units_read 0 1023 (λ units. lacks_zero units && is_above last units) end place value.name (kind ++ (bytes ++ rest)) (omega arith) (omega arith) h.name.short obeyed (λ k d l. (h.name.units k d l).in_range) (omega (arith, long, room)) in
    let second = number_field 4 end (place + length name) value.kind (λ kind. true) (bytes ++ rest) (omega (arith, h.kind)) (omega (arith, long, room)) refl in
    let third = data_read end (place + length name + 4) value.bytes rest h.short (omega (arith, long, room)) in
    rw (parts, first, second, third) (ap (λ p. Ok (value, at Little p rest)) (omega (arith, long)))

module _ {X : Type 0} (name : X → List ℕ) where
  -- The names are above the one that is given.
  abbrev pub AreAbove : Option (List ℕ) → List X → Type 0
  AreAbove last xs = AllByRecursion (λ x. is_above last (name x) ≡ true) xs

  pub above_none : (xs : List X) → AreAbove None xs
  above_none [] = tt
  above_none (x ∷ xs) = (refl, above_none xs)

  pub above_first : (first : List ℕ) (xs : List X) → AllByRecursion (λ x. name_cmp (folded first) (folded (name x)) ≡ Less) xs → AreAbove (Some first) xs
  above_first first [] less = tt
  above_first first (x ∷ xs) less = (ap is_lt less.0, above_first first xs less.1)

less_folded : (name : List ℕ) (values : Values) → AllByRecursion (λ entry. name_cmp name entry.0 ≡ Less) values → AllByRecursion (λ entry. entry.0 ≡ folded entry.1.name) values → AllByRecursion (λ entry. name_cmp name (folded entry.1.name) ≡ Less) values
less_folded name [] less named = tt
less_folded name (entry ∷ entries) less named = (ap (name_cmp name) (sym named.0) ∙ less.0, less_folded name entries less.1 named.1)

abbrev name_in : List ℕ × ValueData → List ℕ
name_in entry = entry.1.name

values_read : (last : Option (List ℕ)) (end place : ℕ) (values : Values) (rest : List ℕ) → Rising name_cmp (λ entry. entry.0) values → AllByRecursion (λ entry. entry.0 ≡ folded entry.1.name) values → AllByRecursion (λ entry. IsValue entry.1) values
    → AreAbove name_in last values → place + length (values_text values) ≤ end
    → ReadsAs (values_at (length values) last end) (values_text values) values place rest
unfolding values_at
values_read last end place [] rest up named limits above room = ap (λ p. Ok ([], at Little p rest)) (omega arith)
values_read last end place (entry ∷ entries) rest up named limits above room =
    let front = value_text entry.1 in
    let back = values_text entries in
    let long : length (front ++ back) ≡ length front + length back = length-append front back in
    let less : AllByRecursion (λ other. name_cmp (folded entry.1.name) (folded other.1.name) ≡ Less) entries = rw (sym named.0) (less_folded entry.0 entries up.0 named.1) in
    let first = value_read last end place entry.1 (back ++ rest) limits.0 above.0 (omega (arith, long, room)) in
    let others = values_read (Some entry.1.name) end (place + length front) entries rest up.1 named.1 limits.1 (above_first name_in entry.1.name entries less) (omega (arith, long, room)) in
    rw (append_assoc front back rest, first, others)
    (ap (λ (name : List ℕ). Ok ((name, entry.1) ∷ entries, at Little (place + length front + length back) rest)) (sym named.0) ∙ ap (λ p. Ok (entry ∷ entries, at Little p rest)) (omega (arith, long)))

-- each value has at least one byte
few_values : (values : Values) → length values ≤ length (values_text values)
unfolding value_text
few_values [] = omega arith
few_values (entry ∷ entries) =
    let front = name_text entry.1.name ++ num Little 4 entry.1.kind in
    omega (arith, few_values entries, length-append (front ++ data_text entry.1.bytes) (values_text entries), length-append front (data_text entry.1.bytes), length-data_text entry.1.bytes)

-- ---- a key

-- The fields of the creation number and the written time.
record ReadBirth (part : List ℕ) (birth written end place : ℕ) (rest : List ℕ) : Type 0 where
  field : ℕ
  behind : Reading
  first : field_at (number_at 8) (fits_birth part) end (at Little place (birth_text birth written ++ rest)) ≡ Ok (field, behind)
  second : written_at (tells_written field) end behind ≡ Ok (written, at Little (place + length (birth_text birth written)) rest)
  birth_is : birth_in field ≡ birth

-- Only a key without a name has the creation number 0.
abbrev pub IsBorn : List ℕ → ℕ → Type 0
IsBorn part birth = cond (length part == 0) (birth == 0) (nat_lt 0 birth) ≡ true

read_alone : (part : List ℕ) (birth end place : ℕ) (rest : List ℕ) → IsBorn part birth → birth < 2 ^ 63 → place + length (birth_text birth 0) ≤ end → ReadBirth part birth 0 end place rest
unfolding birth_text
read_alone part birth end place rest born small room =
    let untold : nat_le (2 ^ 63) birth ≡ false = grind (arith, nat_tests) in
    let long = length-num Little 8 birth in
    let same : birth_in birth ≡ birth = rw untold refl in
    record {
      field = birth;
      behind = at Little (place + 8) rest;
      first = number_field 8 end place birth (fits_birth part) rest (omega (arith, small)) (omega (arith, long, room)) (rw same born);
      second = rw untold (ap (λ p. Ok (0, at Little p rest)) (omega (arith, long)));
      birth_is = same;
    }

read_both : (part : List ℕ) (birth written end place : ℕ) (rest : List ℕ) → IsBorn part birth → birth < 2 ^ 63 → 0 < written → written < 2 ^ 64 → place + length (birth_text birth written) ≤ end → ReadBirth part birth written end place rest
unfolding birth_text
read_both part birth written end place rest born small some time room =
    let field = birth + 2 ^ 63 in
    let stamped : (written == 0) ≡ false = grind (arith, nat_tests) in
    let told : nat_le (2 ^ 63) field ≡ true = grind (arith, nat_tests) in
    let first-text = num Little 8 field in
    let second-text = num Little 8 written in
    let text : birth_text birth written ≡ first-text ++ second-text = rw stamped refl in
    let long : length (birth_text birth written) ≡ 16 = ap (λ t. length t) text ∙ omega (arith, length-append first-text second-text, length-num Little 8 field, length-num Little 8 written) in
    let parts : birth_text birth written ++ rest ≡ first-text ++ (second-text ++ rest) = ap (λ t. t ++ rest) text ∙ append_assoc first-text second-text rest in
    let less : field - 2 ^ 63 ≡ birth = omega arith in
    let same : birth_in field ≡ birth = rw told less in
    let timed : nat_lt 0 written ≡ true = grind (arith, nat_tests) in
    let first = number_field 8 end place field (fits_birth part) (second-text ++ rest) (omega (arith, small)) (omega (arith, long, room)) (rw same born) in
    let second = number_field 8 end (place + 8) written (λ written. nat_lt 0 written) rest (omega (arith, time)) (omega (arith, long, room)) timed in
    record {
      field = field;
      behind = at Little (place + 8) (second-text ++ rest);
      first = ap (λ t. field_at (number_at 8) (fits_birth part) end (at Little place t)) parts ∙ first;
      second = rw told (second ∙ ap (λ p. Ok (written, at Little p rest)) (omega (arith, long)));
      birth_is = same;
    }

read_birth : (part : List ℕ) (birth written end place : ℕ) (rest : List ℕ) → IsBorn part birth → birth < 2 ^ 63 → written < 2 ^ 64 → place + length (birth_text birth written) ≤ end → ReadBirth part birth written end place rest
read_birth part birth zero end place rest born small time room = read_alone part birth end place rest born small room
read_birth part birth (suc n) end place rest born small time room = read_both part birth (suc n) end place rest born small (omega arith) time room

-- What a key's own fields owe.
pub record IsSpelledKey (key : KeyData) : Type 0 where
  pub born : IsBorn key.part key.birth
  pub birth : key.birth < 2 ^ 63
  pub written : key.written < 2 ^ 64
  pub values : AreValues key.values

-- A key without its name and without the count of its subkeys.
abbrev pub alone_text : KeyData → List ℕ
alone_text key = birth_text key.birth key.written ++ num Little 4 (length key.values) ++ values_text key.values

pub key_alone_read : (end place : ℕ) (key : KeyData) (rest : List ℕ) → IsSpelledKey key → end < 2 ^ 32 → place + length (alone_text key) ≤ end → ReadsAs (key_alone_at key.part end) (alone_text key) key place rest
unfolding key_alone_at
key_alone_read end place key rest h limit room =
    let birth = birth_text key.birth key.written in
    let count = num Little 4 (length key.values) in
    let values = values_text key.values in
    let long : length (birth ++ count ++ values) ≡ length birth + 4 + length values = omega (arith, length-append (birth ++ count) values, length-append birth count, length-num Little 4 (length key.values)) in
    let parts : (birth ++ count ++ values) ++ rest ≡ birth ++ (count ++ (values ++ rest)) = simp append_assoc in
    let b = read_birth key.part key.birth key.written end place (count ++ (values ++ rest)) h.born h.birth h.written (omega (arith, long, room)) in
    let few : length key.values < 256 ^ 4 = omega (arith, few_values key.values, long, room, limit) in
    let second = number_field 4 end (place + length birth) (length key.values) (λ count. true) (values ++ rest) few (omega (arith, long, room)) refl in
    let third = values_read None end (place + length birth + 4) key.values rest (rising_from_sorted name_cmp key.values h.values.rising) h.values.under_names h.values.limits (above_none name_in key.values) (omega (arith, long, room)) in
    let made : ℕ → KeyData = λ birth. record { part = key.part; birth = birth; written = key.written; values = key.values } in
    let behind = at Little (place + length birth + 4 + length values) rest in
    let same : done (made (birth_in b.field)) behind ≡ done key behind = ap (λ n. done (made n) behind) b.birth_is in
    rw (parts, b.first, b.second, second, third) (same ∙ ap (λ p. Ok (key, at Little p rest)) (omega (arith, long)))
