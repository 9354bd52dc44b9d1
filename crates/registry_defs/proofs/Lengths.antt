-- The encoding of a registry has as many bytes as its size says.
use Rattle.std.proofs.Common.{◌≡◌, ℕ, ◌+◌, ◌*◌, ◌^◌, true, false, cond, List, [], ◌∷◌, ◌++◌, length, refl, length-append, arith}
use Rattle.std.specs.Prelude.{◌==◌}
use Rattle.wire_fields.specs.declared.endian.Endian.TheVariants.{Little}
use Rattle.wire_fields.specs.Numbers.{num}
use Rattle.wire_fields.proofs.NumberLaws.{length-num}
use Rattle.update_records.specs.Spelling.{name_text, data_text}
use Rattle.update_records.proofs.Fields.{length-name_text, length-data_text}
use Rattle.registry_defs.specs.Keys.{ValueData, Values, KeyData, Keys}
use Rattle.registry_defs.specs.Sections.{section, subkeys}
use Rattle.registry_defs.specs.Sizes.{total, value_size, written_size, part_size, size}
use Rattle.registry_defs.specs.Spelling.{value_text, values_text, birth_text, key_text, part_text, entries_text, registry_text}

length-value : (value : ValueData) → length (value_text value) ≡ 10 + 2 * length value.name + length value.bytes
unfolding value_text
length-value value =
    let name = name_text value.name in
    let kind = num Little 4 value.kind in
    omega (arith, length-append (name ++ kind) (data_text value.bytes), length-append name kind, length-name_text value.name, length-num Little 4 value.kind, length-data_text value.bytes)

length-values : (values : Values) → length (values_text values) ≡ total value_size values
length-values [] = refl
length-values (entry ∷ entries) = omega (arith, length-append (value_text entry.1) (values_text entries), length-value entry.1, length-values entries)

length-birth : (birth written : ℕ) → length (birth_text birth written) ≡ 8 + written_size written
unfolding birth_text
length-birth birth written =
    elim (written == 0) as (λ b. length (cond b (num Little 8 birth) (num Little 8 (birth + 2 ^ 63) ++ num Little 8 written)) ≡ 8 + cond b 0 8) [
      | true ↦ omega (arith, length-num Little 8 birth)
      | false ↦ omega (arith, length-append (num Little 8 (birth + 2 ^ 63)) (num Little 8 written), length-num Little 8 (birth + 2 ^ 63), length-num Little 8 written)
    ]

length-key : (key : KeyData) (count : ℕ) → length (key_text key count) ≡ 16 + written_size key.written + total value_size key.values
unfolding key_text
length-key key count =
    let birth = birth_text key.birth key.written in
    let many = num Little 4 (length key.values) in
    let values = values_text key.values in
    let last = num Little 4 count in
    omega (
      arith,
      length-append (birth ++ many ++ values) last,
      length-append (birth ++ many) values,
      length-append birth many,
      length-birth key.birth key.written,
      length-num Little 4 (length key.values),
      length-values key.values,
      length-num Little 4 count,
    )

length-part : (path : List (List ℕ)) (part : List ℕ) → length (part_text path part) + 16 ≡ part_size path part
unfolding part_text
length-part [] part = refl
length-part (first ∷ others) part = omega (arith, length-name_text part)

length-entries : (all entries : Keys) → length (entries_text all entries) ≡ size entries
unfolding entries_text
length-entries all [] = refl
length-entries all (entry ∷ entries) =
    let count = length (subkeys (section entry.0 all)) in
    let text = key_text entry.1 count in
    omega (
      arith,
      length-append (part_text entry.0 entry.1.part) (text ++ entries_text all entries),
      length-append text (entries_text all entries),
      length-part entry.0 entry.1.part,
      length-key entry.1 count,
      length-entries all entries,
    )

pub length-registry : (keys : Keys) → length (registry_text keys) ≡ size keys
length-registry keys = length-entries keys keys
