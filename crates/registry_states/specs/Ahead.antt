-- What is still to come of a state that was read in part, and all that it tells then.
use Rattle.std.specs.Prelude.{ℕ, List, [], ◌∷◌, Bool, true, false, Option, Some, None, Result, Ok}
use Rattle.std.specs.List.{last_or}
use Rattle.wire_fields.specs.Reading.{Reading}
use Rattle.registry_defs.specs.StateFields.{Stop, ◌>>=◌, alone}
use Rattle.registry_states.specs.declared.ahead.Level.{Level}
use Rattle.registry_states.specs.declared.ahead.Next.{Next}
use Rattle.registry_states.specs.declared.ahead.Next.TheVariants as nexts
use Rattle.registry_states.specs.declared.item.Item.{Item}
use Rattle.registry_states.specs.declared.item.Item.TheVariants as items
use Rattle.registry_states.specs.Items.{Told, behind, followed, items_at, items_below, items_left}

-- What comes next, and behind it the subkeys of the keys above, the lowest of them first.
pub record Course : Type 0 where
  pub next : Next
  pub above : List Level

abbrev pub is_nothing : Next → Bool
is_nothing nexts.Nothing = true
is_nothing next = false

-- The name of the value that an item is.
abbrev pub value_name : Option Item → Option (List ℕ)
value_name (Some (items.Value value)) = Some value.name
value_name item = None

-- The name of the value read last, where no other item came behind it.
abbrev pub last_value : List Item → Option (List ℕ)
last_value told = value_name (last_or None told)

abbrev pub level_at : ℕ → Level → Reading → Told
level_at end level s = items_below (items_at level.depth end) level.left level.last level.used end s

unfoldable pub above_at : ℕ → List Level → Reading → Told
above_at end [] s = Ok ([], s)
above_at end (level ∷ levels) s = followed (level_at end level s) (above_at end levels)

abbrev pub next_at : ℕ → List Item → Next → Reading → Told
next_at end told nexts.Root s = items_at 513 end [] 0 s
next_at end told (nexts.Values left used depth) s = items_left (items_at depth end) left (last_value told) used end s
next_at end told (nexts.Subkeys level) s = level_at end level s
next_at end told nexts.Nothing s = Ok ([], s)

-- What is to come behind these items.
abbrev pub rest_at : ℕ → List Item → Course → Reading → Told
rest_at end told ahead s = followed (next_at end told ahead.next s) (above_at end ahead.above)

-- These items and all to come; nothing stands behind them.
unfoldable pub all_at : ℕ → List Item → Course → Reading → Result (List Item) Stop
all_at end told ahead s = behind told (rest_at end told ahead s) >>= alone
