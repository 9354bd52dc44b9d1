-- A state item by item, in the order of its bytes: the head of a key, its values, the count of its subkeys, and behind it
-- each of them in the same way. The fields and their rules are those of the grammar.
use Rattle.std.specs.Prelude.{ℕ, zero, suc, ◌+◌, List, [], ◌∷◌, ◌++◌, length, map, true, Option, Some, None, Result, Ok, Err}
use Rattle.wire_fields.specs.Reading.{Reading, number_at}
use Rattle.registry_defs.specs.Keys.{ValueData}
use Rattle.registry_defs.specs.StateFields.{Stop, Bad, ◌>>=◌, field_at, alone}
use Rattle.registry_defs.specs.StateGrammar.{birth_in, fits_birth, part_at, start, tells_written, values_at, written_at}
use Rattle.registry_states.specs.declared.item.Head.{Head}
use Rattle.registry_states.specs.declared.item.Item.{Item}
use Rattle.registry_states.specs.declared.item.Item.TheVariants as items

-- Items, and the reader behind them.
abbrev pub Told : Type 0
Told = Result (List Item × Reading) Stop

-- With these before them.
abbrev pub behind : List Item → Told → Told
behind front read = read >>= λ x. Ok (front ++ x.0, x.1)

-- And what is read behind them.
abbrev pub followed : Told → (Reading → Told) → Told
followed first next = first >>= λ x. behind x.0 (next x.1)

abbrev pub value_item : ValueData → Item
value_item value = items.Value (record { name = value.name; kind = value.kind; bytes = value.bytes })

unfoldable pub head_at : List ℕ → ℕ → Reading → Result (Head × Reading) Stop
head_at part end s = do
  field ← field_at (number_at 8) (fits_birth part) end s
  written ← written_at (tells_written field.0) end field.1
  count ← field_at (number_at 4) (λ count. true) end written.1
  Ok (record { part = part; birth = birth_in field.0; written = written.0; values = count.0 }, count.1)

-- A key of a level so deep; its name stands before it.
abbrev pub deep_head_at : ℕ → List ℕ → ℕ → Reading → Result (Head × Reading) Stop
deep_head_at zero part end s = Err (Bad s.place)
deep_head_at (suc depth) part end s = head_at part end s

-- Its name and the key.
unfoldable pub subkey_at : ℕ → Option (List ℕ) → ℕ → ℕ → Reading → Result (Head × Reading) Stop
subkey_at depth last used end s = part_at last used end s >>= λ part. deep_head_at depth part.0 end part.1

-- So many values, the first of them behind the one with the name that is given.
abbrev pub value_items_at : ℕ → Option (List ℕ) → ℕ → Reading → Told
value_items_at count last end s = values_at count last end s >>= λ values. Ok (map (λ value. value_item value.1) values.0, values.1)

-- So many subkeys, each behind its name.
unfoldable pub items_below : (List ℕ → ℕ → Reading → Told) → ℕ → Option (List ℕ) → ℕ → ℕ → Reading → Told
items_below one zero last used end s = Ok ([], s)
items_below one (suc count) last used end s =
    part_at last used end s >>= λ part.
    followed (one part.0 (used + length part.0 + 1) part.1) (items_below one count (Some part.0) used end)

-- The count of the subkeys, and all of them.
abbrev pub counted_below : (List ℕ → ℕ → Reading → Told) → ℕ → ℕ → Reading → Told
counted_below one used end s =
    field_at (number_at 4) (λ count. true) end s >>= λ count.
    behind (items.Subkeys count.0 ∷ []) (items_below one count.0 None used end count.1)

-- What stands behind a key's head, or behind some of its values.
abbrev pub items_left : (List ℕ → ℕ → Reading → Told) → ℕ → Option (List ℕ) → ℕ → ℕ → Reading → Told
items_left one count last used end s = followed (value_items_at count last end s) (counted_below one used end)

-- A key whose name was read, and what stands below it, so many levels deep at most.
unfoldable pub items_at : ℕ → ℕ → List ℕ → ℕ → Reading → Told
items_at zero end part used s = Err (Bad s.place)
items_at (suc depth) end part used s =
    head_at part end s >>= λ head.
    behind (items.Head head.0 ∷ []) (items_left (items_at depth end) head.0.values None used end head.1)

unfoldable pub items_of : ℕ → List ℕ → Result (List Item) Stop
items_of cap bytes = items_at 513 cap [] 0 (start bytes) >>= alone
