-- How the code holds the keys named so far. Only private clauses cite these definitions.
use Rattle.std.specs.Prelude.{◌≡◌, ℕ, ◌+◌, ◌-◌, ◌*◌, ◌^◌, ◌≤◌, Bool, true, false, not, ◌&&◌, ◌==◌, nat_lt, nat_le, List, [], ◌∷◌, ◌++◌, length, map, reverse, Option, Some, None, option_map, Result, Ok, Err}
use Rattle.std.specs.List.{last_or}
use Rattle.std.specs.declared.alloc.AllocError.{AllocError}
use Rattle.clus_names.specs.Folding.{folded, name_cmp}
use Rattle.registry_defs.specs.Keys.{Keys}
use Rattle.registry_defs.specs.Limits.{IsRegistry}
use Rattle.registry_defs.specs.Nodes.{Node, keys_of, name_of, spread}
use Rattle.registry_defs.specs.Rising.{Rising}
use Rattle.registry_defs.specs.Sizes.{size, written_size}
use Rattle.registry_defs.specs.StateGrammar.{is_above, lacks_separator}
use Rattle.registry_tree.specs.Values.{RisingValues, entries_of}
use Rattle.registry_tree.specs.declared.value.Value.{Value}
use Rattle.hive_text.specs.Standings.{Entry, Follows, Standing, behind, nothing_named, some_entry}
use Rattle.hive_text.specs.declared.line.Line.{Line}
use Rattle.hive_text.specs.declared.walk.Level.{Level}
use Rattle.hive_text.specs.declared.walk.Walk.{Walk}

abbrev pub level_node : Level → Node
level_node level = record {
  here = record { part = level.part; birth = level.birth; written = level.written; values = entries_of level.values.items };
  below = spread level.subkeys.items;
}

-- The path of the first of some open keys, the innermost first.
abbrev pub path_of : List Level → List (List ℕ)
path_of [] = []
path_of (level ∷ []) = []
path_of (level ∷ next ∷ above) = path_of (next ∷ above) ++ folded level.part ∷ []

abbrev pub prefixed : List (List ℕ) → Keys → Keys
prefixed path keys = map (λ entry. (path ++ entry.0, entry.1)) keys

-- What stands in them.
abbrev pub keys_in : List Level → Keys
keys_in [] = []
keys_in (level ∷ above) = keys_in above ++ prefixed (path_of (level ∷ above)) (keys_of (level_node level))

-- How many units the names of a path have, with one for each name.
abbrev pub used_by : List (List ℕ) → ℕ
used_by [] = 0
used_by (part ∷ parts) = length part + 1 + used_by parts

abbrev pub levels_of : Walk → List Level
levels_of walk = walk.here ∷ reverse walk.above.items

abbrev pub open_count : Bool → ℕ → ℕ
open_count true count = 0
open_count false count = count + 1

abbrev pub standing_at : Keys → Entry → ℕ → Standing
standing_at before last count = record { before = before; last = some_entry last; open_keys = count }

-- The walk holds the keys that the lines so far name.
pub record IsWalk (walk : Walk) (s : Standing) : Type 0 where
  pub before : Keys
  pub last : Entry
  pub standing_is : s ≡ standing_at before last (open_count walk.ended (length walk.above.items))
  pub keys_are : before ++ last ∷ [] ≡ keys_in (levels_of walk)
  pub registry : IsRegistry (before ++ last ∷ [])
  pub counted : walk.size ≡ size (before ++ last ∷ [])
  pub fits : walk.size ≤ walk.cap
  pub most : walk.cap ≤ 16777216
  pub path_counted : walk.used ≡ used_by (path_of (levels_of walk))
  pub short : walk.used ≤ 1024
  pub root_alone : walk.ended ≡ true → walk.above.items ≡ []

abbrev pub IsSound : Walk → Type 0
IsSound walk = (s : Standing) × IsWalk walk s

-- ---- the checks

-- Between 1 and 255 units, none of them `\`.
abbrev pub is_part : List ℕ → Bool
is_part part = nat_lt 0 (length part) && (nat_le (length part) 255 && lacks_separator part)

abbrev pub is_birth : ℕ → Bool
is_birth birth = nat_lt 0 birth && nat_lt birth (2 ^ 63)

abbrev pub last_part : List Node → Option (List ℕ)
last_part nodes = option_map (λ node. node.here.part) (last_or None nodes)

-- A key with this name and creation number may begin below the innermost open one.
abbrev pub may_begin : Walk → List ℕ → ℕ → Bool
may_begin walk part birth =
    not walk.ended && ((is_part part && is_birth birth) && (nat_le (walk.used + length part) 1023 && is_above (last_part walk.here.subkeys.items) part))

abbrev pub last_value : List Value → Option (List ℕ)
last_value values = option_map (λ value. value.name) (last_or None values)

-- A value with this name may stand in it.
abbrev pub may_hold : Walk → List ℕ → Bool
may_hold walk name = not walk.ended && (length walk.here.subkeys.items == 0 && is_above (last_value walk.here.values.items) name)

abbrev pub size_with_key : Walk → List ℕ → ℕ → ℕ
size_with_key walk part written = walk.size + (18 + 2 * length part + written_size written)

abbrev pub size_with_value : Walk → Value → ℕ
size_with_value walk value = walk.size + (10 + 2 * length value.name + length value.bytes)

-- ---- what the steps do

pub record IsBegun (old : Walk) (part : List ℕ) (birth written size_now : ℕ) (new : Walk) : Type 0 where
  pub cap_is : new.cap ≡ old.cap
  pub ended_is : new.ended ≡ old.ended
  pub above_are : new.above.items ≡ old.above.items ++ old.here ∷ []
  pub part_is : new.here.part ≡ part
  pub birth_is : new.here.birth ≡ birth
  pub written_is : new.here.written ≡ written
  pub no_values : new.here.values.items ≡ []
  pub no_subkeys : new.here.subkeys.items ≡ []
  pub size_is : new.size ≡ size_now
  pub used_is : new.used ≡ old.used + length part + 1

pub record IsHeld (old : Walk) (value : Value) (size_now : ℕ) (new : Walk) : Type 0 where
  pub cap_is : new.cap ≡ old.cap
  pub ended_is : new.ended ≡ old.ended
  pub above_are : new.above.items ≡ old.above.items
  pub part_is : new.here.part ≡ old.here.part
  pub birth_is : new.here.birth ≡ old.here.birth
  pub written_is : new.here.written ≡ old.here.written
  pub values_are : new.here.values.items ≡ old.here.values.items ++ value ∷ []
  pub subkeys_are : new.here.subkeys.items ≡ old.here.subkeys.items
  pub size_is : new.size ≡ size_now
  pub used_is : new.used ≡ old.used

-- The innermost open key ended, and stands below the next one.
pub record IsUp (old : Walk) (next : Level) (new : Walk) : Type 0 where
  pub cap_is : new.cap ≡ old.cap
  pub ended_is : new.ended ≡ old.ended
  pub part_is : new.here.part ≡ next.part
  pub birth_is : new.here.birth ≡ next.birth
  pub written_is : new.here.written ≡ next.written
  pub values_are : new.here.values.items ≡ next.values.items
  pub subkeys_are : new.here.subkeys.items ≡ next.subkeys.items ++ level_node old.here ∷ []
  pub size_is : new.size ≡ old.size
  pub used_is : new.used ≡ old.used - (length old.here.part + 1)

-- The root ended.
pub record IsDone (old new : Walk) : Type 0 where
  pub cap_is : new.cap ≡ old.cap
  pub ended_is : new.ended ≡ true
  pub was_alone : old.above.items ≡ []
  pub alone : new.above.items ≡ []
  pub here_is : new.here ≡ old.here
  pub size_is : new.size ≡ old.size
  pub used_is : new.used ≡ old.used

-- What the tree asks of a key.
abbrev pub IsOrdered : Level → Type 0
IsOrdered level = RisingValues level.values.items × Rising name_cmp name_of level.subkeys.items

-- ---- what the calls give

-- A line was taken, or it can't stand there; where memory ran out nothing is said.
abbrev pub TakesLine : Line → Result Bool AllocError → Walk → Standing → Walk → Type 0
TakesLine line (Ok true) old s new = Follows old.cap s line × IsWalk new (behind line s) × (new.cap ≡ old.cap)
TakesLine line (Ok false) old s new = Follows old.cap s line → ⊥
TakesLine line (Err fault) old s new = Unit {0}

abbrev pub Steps : Line → Result Bool AllocError → Walk → Walk → Type 0
Steps line result old new = (s : Standing) → IsWalk old s → TakesLine line result old s new

-- The first line began the walk, or it isn't that of a root.
abbrev pub Begins : ℕ → Line → Option Walk → Type 0
Begins cap line (Some walk) = Follows cap nothing_named line × IsWalk walk (behind line nothing_named) × (walk.cap ≡ cap)
Begins cap line None = Follows cap nothing_named line → ⊥
