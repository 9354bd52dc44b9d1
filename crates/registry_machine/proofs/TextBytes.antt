-- The encoding of a registry is bytes.
use Rattle.std.proofs.Common.{ℕ, zero, suc, ◌+◌, ◌<◌, ◌^◌, Bool, true, false, List, [], ◌∷◌, ◌++◌, length, if◌then◌else◌, arith}
use Rattle.std.specs.Prelude.{◌==◌}
use Rattle.std.specs.List.{AllByRecursion}
use Rattle.wire_fields.specs.declared.endian.Endian.TheVariants.{Little}
use Rattle.wire_fields.specs.Numbers.{IsBytes, num}
use Rattle.wire_fields.proofs.NumberLaws.{num-bytes}
use Rattle.update_records.specs.Spelling.{name_text, data_text, units_text}
use Rattle.registry_defs.specs.Keys.{ValueData, Values, KeyData, Keys}
use Rattle.registry_defs.specs.Limits.{IsKey, IsRegistry, IsValue}
use Rattle.registry_defs.specs.Sections.{section, subkeys}
use Rattle.registry_defs.specs.Spelling.{registry_text, entries_text, part_text, key_text, birth_text, value_text, values_text}
use Rattle.cluster_rules.specs.Machines.{registry_at}
use Rattle.registry_machine.specs.Machine.{registry_machine}
use Rattle.registry_machine.specs.Laws.{EncodingIsBytes}
use Rattle.registry_machine.proofs.Orders.{order_keeps}

bytes_none : IsBytes []
bytes_none i = omega arith

bytes_first : (x : ℕ) (xs : List ℕ) → x < 256 → IsBytes xs → IsBytes (x ∷ xs)
bytes_first x xs small h zero = small
bytes_first x xs small h (suc i) = h i

bytes_append : (a b : List ℕ) → IsBytes a → IsBytes b → IsBytes (a ++ b)
bytes_append [] b h k = k
bytes_append (x ∷ a) b h k = bytes_first x (a ++ b) (h 0) (bytes_append a b (λ n. h (suc n)) k)

bytes_num : (w n : ℕ) → IsBytes (num Little w n)
bytes_num w n = num-bytes Little w n

bytes_units : (units : List ℕ) → IsBytes (units_text units)
bytes_units [] = bytes_none
bytes_units (u ∷ us) = bytes_append (num Little 2 u) (units_text us) (bytes_num 2 u) (bytes_units us)

bytes_name : (units : List ℕ) → IsBytes (name_text units)
unfolding name_text
bytes_name units = bytes_append (num Little 2 (length units)) (units_text units) (bytes_num 2 (length units)) (bytes_units units)

bytes_data : (bytes : List ℕ) → IsBytes bytes → IsBytes (data_text bytes)
unfolding data_text
bytes_data bytes h = bytes_append (num Little 4 (length bytes)) bytes (bytes_num 4 (length bytes)) h

bytes_value : (v : ValueData) → IsValue v → IsBytes (value_text v)
unfolding value_text
bytes_value v h = bytes_append (name_text v.name ++ num Little 4 v.kind) (data_text v.bytes) (bytes_append (name_text v.name) (num Little 4 v.kind) (bytes_name v.name) (bytes_num 4 v.kind)) (bytes_data v.bytes h.bytes)

bytes_values : (vs : Values) → AllByRecursion (λ entry. IsValue entry.1) vs → IsBytes (values_text vs)
bytes_values [] h = bytes_none
bytes_values (v ∷ vs) h = bytes_append (value_text v.1) (values_text vs) (bytes_value v.1 h.0) (bytes_values vs h.1)

bytes_if : (c : Bool) (a b : List ℕ) → IsBytes a → IsBytes b → IsBytes (if c then a else b)
bytes_if true a b h k = h
bytes_if false a b h k = k

bytes_birth : (birth written : ℕ) → IsBytes (birth_text birth written)
unfolding birth_text
bytes_birth birth written = bytes_if (written == 0) (num Little 8 birth) (num Little 8 (birth + 2 ^ 63) ++ num Little 8 written) (bytes_num 8 birth) (bytes_append (num Little 8 (birth + 2 ^ 63)) (num Little 8 written) (bytes_num 8 (birth + 2 ^ 63)) (bytes_num 8 written))

bytes_key : (path : List (List ℕ)) (k : KeyData) (count : ℕ) → IsKey path k → IsBytes (key_text k count)
unfolding key_text
bytes_key path k count h =
    let a : IsBytes (birth_text k.birth k.written ++ num Little 4 (length k.values)) = bytes_append (birth_text k.birth k.written) (num Little 4 (length k.values)) (bytes_birth k.birth k.written) (bytes_num 4 (length k.values)) in
    let b : IsBytes (birth_text k.birth k.written ++ num Little 4 (length k.values) ++ values_text k.values) = bytes_append (birth_text k.birth k.written ++ num Little 4 (length k.values)) (values_text k.values) a (bytes_values k.values h.values.limits) in
    bytes_append (birth_text k.birth k.written ++ num Little 4 (length k.values) ++ values_text k.values) (num Little 4 count) b (bytes_num 4 count)

bytes_part : (path : List (List ℕ)) (part : List ℕ) → IsBytes (part_text path part)
unfolding part_text
bytes_part [] part = bytes_none
bytes_part (p ∷ ps) part = bytes_name part

bytes_entries : (all entries : Keys) → AllByRecursion (λ entry. IsKey entry.0 entry.1) entries → IsBytes (entries_text all entries)
unfolding entries_text
bytes_entries all [] h = bytes_none
bytes_entries all (e ∷ es) h =
    let count : ℕ = length (subkeys (section e.0 all)) in
    bytes_append (part_text e.0 e.1.part) (key_text e.1 count ++ entries_text all es) (bytes_part e.0 e.1.part)
    (bytes_append (key_text e.1 count) (entries_text all es) (bytes_key e.0 e.1 count h.0) (bytes_entries all es h.1))

pub text_bytes : (keys : Keys) → IsRegistry keys → IsBytes (registry_text keys)
text_bytes keys h = bytes_entries keys keys h.limits

pub encoding_is_bytes : EncodingIsBytes
encoding_is_bytes cap order count is fits = text_bytes (registry_at registry_machine cap order count).keys (order_keeps cap order count is fits).limits
