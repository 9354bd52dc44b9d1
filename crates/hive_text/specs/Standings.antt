-- Where the lines read so far stand, and which line may stand behind them. Only private clauses cite these definitions.
use Rattle.std.specs.Prelude.{◌≡◌, ℕ, ◌+◌, ◌-◌, ◌<◌, ◌≤◌, List, [], ◌∷◌, ◌++◌, length, take, true, Option, Some, None, option_map}
use Rattle.std.specs.declared.cmp.Ordering.TheVariants.{Less}
use Rattle.std.specs.List.{last_or}
use Rattle.clus_names.specs.Folding.{path_cmp}
use Rattle.registry_defs.specs.Keys.{Values, KeyData, Keys, below}
use Rattle.registry_defs.specs.Limits.{IsKey, IsValue}
use Rattle.registry_defs.specs.Sizes.{size}
use Rattle.registry_defs.specs.StateGrammar.{is_above}
use Rattle.registry_tree.specs.Values.{value_data, value_entry}
use Rattle.registry_tree.specs.declared.value.Value.{Value}
use Rattle.hive_text.specs.declared.line.Line.{Line}
use Rattle.hive_text.specs.declared.line.Line.TheVariants as lines

abbrev pub Entry : Type 0
Entry = List (List ℕ) × KeyData

-- The keys named so far, the last of them apart, and how many are open.
pub record Standing : Type 0 where
  pub before : Keys
  pub last : Option Entry
  pub open_keys : ℕ

-- Before the first line.
abbrev pub nothing_named : Standing
nothing_named = record { before = []; last = None; open_keys = 0 }

abbrev pub listed : Option Entry → Keys
listed None = []
listed (Some entry) = entry ∷ []

abbrev pub named : Standing → Keys
named s = s.before ++ listed s.last

-- The path of the key that begins next: the root, or one below the innermost open key.
abbrev pub path_below : Option Entry → ℕ → List ℕ → List (List ℕ)
path_below None count part = []
path_below (Some entry) count part = below (take (count - 1) entry.0) part

abbrev pub next_path : Standing → List ℕ → List (List ℕ)
next_path s part = path_below s.last s.open_keys part

abbrev pub begun_key : List ℕ → ℕ → ℕ → KeyData
begun_key part birth written = record { part = part; birth = birth; written = written; values = [] }

abbrev pub given_value : Value → Entry → Entry
given_value value entry = (entry.0, record { part = entry.1.part; birth = entry.1.birth; written = entry.1.written; values = entry.1.values ++ value_entry value ∷ [] })

abbrev pub some_entry : Entry → Option Entry
some_entry entry = Some entry

-- What a line makes of it.
abbrev pub behind : Line → Standing → Standing
behind (lines.Key part birth written) s =
    record { before = named s; last = some_entry (next_path s part, begun_key part birth written); open_keys = s.open_keys + 1 }
behind (lines.Value value) s = record { before = s.before; last = option_map (given_value value) s.last; open_keys = s.open_keys }
behind lines.Up s = record { before = s.before; last = s.last; open_keys = s.open_keys - 1 }

-- ---- which line may stand there

-- The root is the first key, and every other one stands below an open one.
abbrev pub HasPlace : Option Entry → ℕ → Type 0
HasPlace None count = Unit {0}
HasPlace (Some entry) count = 0 < count

abbrev pub IsBehind : Option Entry → List (List ℕ) → Type 0
IsBehind None path = Unit {0}
IsBehind (Some entry) path = path_cmp entry.0 path ≡ Less

pub record MayBegin (s : Standing) (part : List ℕ) (birth written : ℕ) : Type 0 where
  pub place : HasPlace s.last s.open_keys
  pub limits : IsKey (next_path s part) (begun_key part birth written)
  pub above : IsBehind s.last (next_path s part)

abbrev pub last_name : Values → Option (List ℕ)
last_name values = option_map (λ entry. entry.1.name) (last_or None values)

-- The last key is still open, and has no subkeys.
pub record MayHold (entry : Entry) (count : ℕ) (value : Value) : Type 0 where
  pub place : count ≡ length entry.0 + 1
  pub limits : IsValue (value_data value)
  pub above : is_above (last_name entry.1.values) value.name ≡ true

abbrev pub MayHave : Option Entry → ℕ → Value → Type 0
MayHave None count value = ⊥
MayHave (Some entry) count value = MayHold entry count value

abbrev pub MayFollow : Standing → Line → Type 0
MayFollow s (lines.Key part birth written) = MayBegin s part birth written
MayFollow s (lines.Value value) = MayHave s.last s.open_keys value
MayFollow s lines.Up = 0 < s.open_keys

-- What it makes has a size within the cap.
abbrev pub FitsIn : ℕ → Standing → Type 0
FitsIn cap s = size (named s) ≤ cap

abbrev pub Follows : ℕ → Standing → Line → Type 0
Follows cap s line = MayFollow s line × FitsIn cap (behind line s)

-- ---- lines in a row

unfoldable pub all_behind : List Line → Standing → Standing
all_behind [] s = s
all_behind (line ∷ told) s = all_behind told (behind line s)

unfoldable pub Run : ℕ → Standing → List Line → Type 0
Run cap s [] = Unit {0}
Run cap s (line ∷ told) = Follows cap s line × Run cap (behind line s) told
