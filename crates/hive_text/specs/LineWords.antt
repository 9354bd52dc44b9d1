-- The words of a line, and what they say. Only private clauses cite these definitions.
use Rattle.std.specs.Prelude.{◌≡◌, ◌≢◌, ℕ, ◌<◌, ◌^◌, ◌==◌, Bool, ◌&&◌, ◌||◌, nat_lt, nat_le, if◌then◌else◌, ◌≤◌, List, ◌∷◌, ◌++◌, length, slice_index, codes, Option, Some, None}
use Rattle.std.specs.Char.{is_ascii_digit}
use Rattle.std.specs.Fmt.{decimal}
use Rattle.std.specs.List.{AllByRecursion, list_all}
use Rattle.wire_fields.specs.Numbers.{IsBytes}
use Rattle.clus_names.specs.Limits.{IsName}
use Rattle.clus_names.specs.UnitTexts.{unit_text}
use Rattle.registry_defs.specs.Limits.{IsValue}
use Rattle.registry_tree.specs.Values.{value_data}
use Rattle.hive_text.specs.HiveText.{data_text}
use Rattle.hive_text.specs.declared.line.Line.{Line}
use Rattle.hive_text.specs.declared.line.Line.TheVariants as lines

-- What is read is the one thing that is printed so, of those that are fit; or there is none.
abbrev pub Spells : {A : Type 0} {Text : Type 0} → (A → Type 0) → (A → Text) → Text → Option A → Type 0
Spells IsFit print text (Some x) = IsFit x × (print x ≡ text)
Spells IsFit print text None = (x : _) → IsFit x → print x ≡ text → ⊥

abbrev pub Lacks : ℕ → List ℕ → Type 0
Lacks byte text = AllByRecursion (λ b. b ≢ byte) text

-- What stands before and behind the first such byte.
pub record IsSplit (byte : ℕ) (text front back : List ℕ) : Type 0 where
  pub lacks : Lacks byte front
  pub parts : text ≡ front ++ byte ∷ back

abbrev pub is_byte : ℕ → ℕ → Bool
is_byte byte other = other == byte

-- A zero stands first only where it stands alone.
abbrev pub has_no_leading_zero : List ℕ → Bool
has_no_leading_zero word = (length word == 1) || nat_lt 48 (slice_index word 0)

abbrev pub is_decimal : List ℕ → Bool
is_decimal word = list_all is_ascii_digit word && has_no_leading_zero word

abbrev pub IsWord64 : ℕ → Type 0
IsWord64 number = number < 2 ^ 64

-- A line that the code can hold.
abbrev pub IsLine : Line → Type 0
IsLine (lines.Key part birth written) = IsName part × IsWord64 birth × IsWord64 written
IsLine (lines.Value value) = IsValue (value_data value)
IsLine lines.Up = Unit {0}

-- Four words with spaces between them.
abbrev pub joined : List ℕ → List ℕ → List ℕ → List ℕ → List ℕ
joined verb first second third = verb ++ 32 ∷ (first ++ 32 ∷ (second ++ 32 ∷ third))

-- A line without its line feed.
abbrev pub bare : Line → List ℕ
bare (lines.Key part birth written) = joined (codes "key") (unit_text part) (decimal birth) (decimal written)
bare (lines.Value value) = joined (codes "value") (unit_text value.name) (decimal value.kind) (data_text value.bytes)
bare lines.Up = codes "up"

-- ---- a line from its words, where each says something

abbrev pub some_line : Line → Option Line
some_line line = Some line

abbrev pub key_in : Option (List ℕ) → Option ℕ → Option ℕ → Option Line
key_in None birth written = None
key_in (Some part) None written = None
key_in (Some part) (Some birth) None = None
key_in (Some part) (Some birth) (Some written) = some_line (lines.Key part birth written)

abbrev pub value_in : Option (List ℕ) → Option ℕ → Option (List ℕ) → Option Line
value_in None kind bytes = None
value_in (Some name) None bytes = None
value_in (Some name) (Some kind) None = None
value_in (Some name) (Some kind) (Some bytes) = some_line (lines.Value (record { name = name; kind = kind; bytes = bytes }))

abbrev pub is_short : List ℕ → Bool
is_short units = nat_le (length units) 1023

abbrev pub short_name : List ℕ → Option (List ℕ)
short_name units = if is_short units then Some units else None

abbrev pub IsWord32 : ℕ → Type 0
IsWord32 number = number < 2 ^ 32

abbrev pub IsShortData : List ℕ → Type 0
IsShortData bytes = (length bytes ≤ 49152) × IsBytes bytes

abbrev pub if_short : List ℕ → Option (List ℕ)
if_short bytes = if nat_le (length bytes) 49152 then Some bytes else None
