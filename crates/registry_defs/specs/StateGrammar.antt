-- What the bytes of a state spell, and where they stop doing so.
use Rattle.std.specs.Prelude.{ℕ, zero, suc, ◌+◌, ◌-◌, ◌^◌, min, List, [], ◌∷◌, length, Bool, true, not, ◌&&◌, Option, Some, None, Result, Ok, Err, nat_lt, nat_le, ◌==◌, if◌then◌else◌}
use Rattle.std.specs.List.{list_any}
use Rattle.std.specs.Ordering.{is_lt}
use Rattle.wire_fields.specs.declared.endian.Endian.TheVariants.{Little}
use Rattle.wire_fields.specs.Reading.{Reading, number_at}
use Rattle.clus_names.specs.Folding.{folded, name_cmp}
use Rattle.clus_names.specs.Limits.{lacks_zero}
use Rattle.registry_defs.specs.Keys.{ValueData, Values, KeyData}
use Rattle.registry_defs.specs.Nodes.{Node, spread}
use Rattle.registry_defs.specs.StateFields.{Stop, Bad, ◌>>=◌, field_at, units_at, data_at, alone}

-- Names ascend: each is above the one before it.
abbrev pub is_above : Option (List ℕ) → List ℕ → Bool
is_above None name = true
is_above (Some last) name = is_lt (name_cmp (folded last) (folded name))

-- ---- values

unfoldable pub value_at : Option (List ℕ) → ℕ → Reading → Result (ValueData × Reading) Stop
value_at last end s = do
  name ← units_at 0 1023 (λ units. lacks_zero units && is_above last units) end s
  kind ← field_at (number_at 4) (λ kind. true) end name.1
  bytes ← data_at end kind.1
  Ok (record { name = name.0; kind = kind.0; bytes = bytes.0 }, bytes.1)

-- So many values, the first of them behind the one with the name that is given.
unfoldable pub values_at : ℕ → Option (List ℕ) → ℕ → Reading → Result (Values × Reading) Stop
values_at zero last end s = Ok ([], s)
values_at (suc count) last end s = do
  first ← value_at last end s
  others ← values_at count (Some first.0.name) end first.1
  Ok ((folded first.0.name, first.0) ∷ others.0, others.1)

-- ---- a key

-- A field of at least 2^63 tells that a written time follows.
abbrev pub tells_written : ℕ → Bool
tells_written field = nat_le (2 ^ 63) field

abbrev pub birth_in : ℕ → ℕ
birth_in field = if tells_written field then field - 2 ^ 63 else field

-- Only the root, which has no name, has the creation number 0.
abbrev pub fits_birth : List ℕ → ℕ → Bool
fits_birth part field = if length part == 0 then birth_in field == 0 else nat_lt 0 (birth_in field)

abbrev pub written_at : Bool → ℕ → Reading → Result (ℕ × Reading) Stop
written_at is_there end s = if is_there then field_at (number_at 8) (λ written. nat_lt 0 written) end s else Ok (0, s)

-- A key with its values; its name stands before it.
unfoldable pub key_alone_at : List ℕ → ℕ → Reading → Result (KeyData × Reading) Stop
key_alone_at part end s = do
  field ← field_at (number_at 8) (fits_birth part) end s
  written ← written_at (tells_written field.0) end field.1
  count ← field_at (number_at 4) (λ count. true) end written.1
  values ← values_at count.0 None end count.1
  Ok (record { part = part; birth = birth_in field.0; written = written.0; values = values.0 }, values.1)

abbrev pub lacks_separator : List ℕ → Bool
lacks_separator units = not (list_any (λ unit. unit == 0x5C) units)

-- A path has at most 1,023 units, of which so many stand before this name.
unfoldable pub part_at : Option (List ℕ) → ℕ → ℕ → Reading → Result (List ℕ × Reading) Stop
part_at last used end s =
    units_at 1 (min 255 (1023 - used)) (λ units. lacks_zero units && (lacks_separator units && is_above last units)) end s

-- So many subkeys, each behind its name.
unfoldable pub subkeys_at : (List ℕ → ℕ → Reading → Result (Node × Reading) Stop) → ℕ → Option (List ℕ) → ℕ → ℕ → Reading → Result (List Node × Reading) Stop
subkeys_at one zero last used end s = Ok ([], s)
subkeys_at one (suc count) last used end s = do
  part ← part_at last used end s
  first ← one part.0 (used + length part.0 + 1) part.1
  others ← subkeys_at one count (Some part.0) used end first.1
  Ok (first.0 ∷ others.0, others.1)

-- A key and what stands below it, so many levels deep at most.
unfoldable pub node_at : ℕ → ℕ → List ℕ → ℕ → Reading → Result (Node × Reading) Stop
node_at zero end part used s = Err (Bad s.place)
node_at (suc depth) end part used s = do
  key ← key_alone_at part end s
  count ← field_at (number_at 4) (λ count. true) end key.1
  subkeys ← subkeys_at (node_at depth end) count.0 None used end count.1
  Ok (record { here = key.0; below = spread subkeys.0 }, subkeys.1)

abbrev pub start : List ℕ → Reading
start bytes = record { endian = Little; place = 0; left = bytes }

-- The root with all below it that the bytes spell, all of the bytes. No path has more than 512 parts.
unfoldable pub state_of : ℕ → List ℕ → Result Node Stop
state_of cap bytes = node_at 513 cap [] 0 (start bytes) >>= alone
