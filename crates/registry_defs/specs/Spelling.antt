-- The one spelling of a registry. Numbers are little-endian.
use Rattle.std.specs.Prelude.{ℕ, ◌+◌, ◌^◌, List, [], ◌∷◌, ◌++◌, length, flat_map, ◌==◌, if◌then◌else◌}
use Rattle.wire_fields.specs.declared.endian.Endian.TheVariants.{Little}
use Rattle.wire_fields.specs.Numbers.{num}
use Rattle.update_records.specs.Spelling.{name_text, data_text}
use Rattle.registry_defs.specs.Keys.{ValueData, Values, KeyData, Keys}
use Rattle.registry_defs.specs.Sections.{section, subkeys}

unfoldable pub value_text : ValueData → List ℕ
value_text value = name_text value.name ++ num Little 4 value.kind ++ data_text value.bytes

abbrev pub values_text : Values → List ℕ
values_text values = flat_map (λ entry. value_text entry.1) values

-- The field of the creation number tells whether a written time follows.
unfoldable pub birth_text : ℕ → ℕ → List ℕ
birth_text birth written = if written == 0 then num Little 8 birth else num Little 8 (birth + 2 ^ 63) ++ num Little 8 written

-- A key without its name, and how many subkeys follow it.
unfoldable pub key_text : KeyData → ℕ → List ℕ
key_text key count =
    birth_text key.birth key.written ++ num Little 4 (length key.values) ++ values_text key.values ++ num Little 4 count

-- Each key but the root begins with its name.
unfoldable pub part_text : List (List ℕ) → List ℕ → List ℕ
part_text [] part = []
part_text (first ∷ others) part = name_text part

-- In the order of paths each key stands before the keys below it, so the keys are spelled one after the other.
unfoldable pub entries_text : Keys → Keys → List ℕ
entries_text all [] = []
entries_text all (entry ∷ entries) =
    part_text entry.0 entry.1.part ++ (key_text entry.1 (length (subkeys (section entry.0 all))) ++ entries_text all entries)

abbrev pub registry_text : Keys → List ℕ
registry_text keys = entries_text keys keys
