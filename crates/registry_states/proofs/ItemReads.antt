-- What reading one item of each kind gives.
use Rattle.std.proofs.Common.{◌≡◌, ℕ, zero, suc, ◌-◌, ◌<◌, true, List, [], ◌++◌, Option, Result, Ok, Err, subst, arith}
use Rattle.wire_fields.specs.Reading.{Reading, number_at}
use Rattle.registry_defs.specs.Keys.{ValueData}
use Rattle.registry_defs.specs.StateFields.{Stop, field_at}
use Rattle.registry_defs.specs.StateFields as stops
use Rattle.registry_defs.specs.StateGrammar.{value_at}
use Rattle.registry_states.specs.declared.ahead.Level.{Level}
use Rattle.registry_states.specs.declared.ahead.Next.{Next}
use Rattle.registry_states.specs.declared.ahead.Next.TheVariants as nexts
use Rattle.registry_states.specs.declared.item.Head.{Head}
use Rattle.registry_states.specs.declared.item.Item.{Item}
use Rattle.registry_states.specs.declared.read_fault.ReadFault.{ReadFault}
use Rattle.registry_states.specs.Ahead.{Course, last_value}
use Rattle.registry_states.specs.Items.{head_at, subkey_at}
use Rattle.registry_states.specs.Readers.{FailsAt}
use Rattle.registry_states.specs.Turns.{Grew, Reads, Waits, WasRead, course}
use Rattle.registry_states.proofs.ItemKinds.{count_front, count_is, count_lighter, count_to, head_front, read_cut, read_fails, read_gives, root_is, root_lighter, root_to, subkey_is, subkey_lighter, subkey_to, value_front, value_is, value_lighter, value_to}
use Rattle.registry_states.proofs.Steady.{any_number_steady, head_steady, subkey_steady, value_steady}

-- What is told then, and what is ahead.
abbrev pub Given : ℕ → List Item → Next → Reading → List Item → (List Level → Course) → Reading → Type 0
Given end told next s told_now to t = Grew told told_now × ((above : List Level) → WasRead end told (course next above) s told_now (to above) t)

module _ (end : ℕ) (told : List Item) where
  pub root_given : (s : Reading) (x : Head) (t : Reading) (told_now : List Item) → head_at [] end s ≡ Ok (x, t) → told_now ≡ told ++ head_front x → Given end told nexts.Root s told_now (root_to x) t
  root_given = read_gives end told nexts.Root (head_at [] end) head_front root_to 12 20 (omega arith) (root_is end told) (root_lighter end told) (head_steady [] end)

  pub root_fails : {Y : Type 0} (view : Y → List Level → Course) (fault : ReadFault) (s t : Reading) (told_now : List Item) → FailsAt fault (head_at [] end s) → told_now ≡ told → Reads view (Err fault) end told nexts.Root s told_now t
  root_fails = read_fails end told nexts.Root (head_at [] end) head_front root_to 12 20 (omega arith) (root_is end told) (root_lighter end told) (head_steady [] end)

  pub root_waits : (s : Reading) (place : ℕ) → head_at [] end s ≡ Err (stops.Cut place) → (above : List Level) → Waits end told (course nexts.Root above) s place
  root_waits = read_cut end told nexts.Root (head_at [] end) head_front root_to 12 20 (omega arith) (root_is end told) (root_lighter end told) (head_steady [] end)

  module _ (left used depth : ℕ) where
    pub value_given : (s : Reading) (x : ValueData) (t : Reading) (told_now : List Item) → value_at (last_value told) end s ≡ Ok (x, t) → told_now ≡ told ++ value_front x
        → Given end told (nexts.Values (suc left) used depth) s told_now (value_to end told left used depth x) t
    value_given = read_gives end told (nexts.Values (suc left) used depth) (value_at (last_value told) end) value_front (value_to end told left used depth) 10 51208 (omega arith) (value_is end told left used depth) (value_lighter end told left used depth) (value_steady (last_value told) end)

    pub value_fails : {Y : Type 0} (view : Y → List Level → Course) (fault : ReadFault) (s t : Reading) (told_now : List Item) → FailsAt fault (value_at (last_value told) end s) → told_now ≡ told
        → Reads view (Err fault) end told (nexts.Values (suc left) used depth) s told_now t
    value_fails = read_fails end told (nexts.Values (suc left) used depth) (value_at (last_value told) end) value_front (value_to end told left used depth) 10 51208 (omega arith) (value_is end told left used depth) (value_lighter end told left used depth) (value_steady (last_value told) end)

  module _ (left used depth : ℕ) (some : left ≡ 0 → ⊥) where
    one_less : suc (left - 1) ≡ left
    one_less = omega (arith, some)

    pub values_given : (s : Reading) (x : ValueData) (t : Reading) (told_now : List Item) → value_at (last_value told) end s ≡ Ok (x, t) → told_now ≡ told ++ value_front x
        → Given end told (nexts.Values left used depth) s told_now (value_to end told (left - 1) used depth x) t
    values_given s x t told_now e grown =
        subst (λ (n : ℕ). Given end told (nexts.Values n used depth) s told_now (value_to end told (left - 1) used depth x) t) one_less (value_given (left - 1) used depth s x t told_now e grown)

    pub values_fail : {Y : Type 0} (view : Y → List Level → Course) (fault : ReadFault) (s t : Reading) (told_now : List Item) → FailsAt fault (value_at (last_value told) end s) → told_now ≡ told
        → Reads view (Err fault) end told (nexts.Values left used depth) s told_now t
    values_fail view fault s t told_now fails same =
        subst (λ (n : ℕ). Reads view (Err fault) end told (nexts.Values n used depth) s told_now t) one_less (value_fails (left - 1) used depth view fault s t told_now fails same)

  module _ (used depth : ℕ) where
    abbrev count_at : Reading → Result (ℕ × Reading) Stop
    count_at s = field_at (number_at 4) (λ count. true) end s

    pub count_given : (s : Reading) (x : ℕ) (t : Reading) (told_now : List Item) → count_at s ≡ Ok (x, t) → told_now ≡ told ++ count_front x
        → Given end told (nexts.Values zero used depth) s told_now (count_to end told used depth x) t
    count_given = read_gives end told (nexts.Values zero used depth) count_at count_front (count_to end told used depth) 4 4 (omega arith) (count_is end told used depth) (count_lighter end told used depth) (any_number_steady 4 (λ count. true) end)

    pub count_fails : {Y : Type 0} (view : Y → List Level → Course) (fault : ReadFault) (s t : Reading) (told_now : List Item) → FailsAt fault (count_at s) → told_now ≡ told
        → Reads view (Err fault) end told (nexts.Values zero used depth) s told_now t
    count_fails = read_fails end told (nexts.Values zero used depth) count_at count_front (count_to end told used depth) 4 4 (omega arith) (count_is end told used depth) (count_lighter end told used depth) (any_number_steady 4 (λ count. true) end)

  module _ (left used depth : ℕ) (last : Option (List ℕ)) where
    abbrev one_level : Level
    one_level = record { left = suc left; used = used; depth = depth; last = last }

    pub subkey_given : (s : Reading) (x : Head) (t : Reading) (told_now : List Item) → subkey_at depth last used end s ≡ Ok (x, t) → told_now ≡ told ++ head_front x
        → Given end told (nexts.Subkeys one_level) s told_now (subkey_to end told left used depth last x) t
    subkey_given = read_gives end told (nexts.Subkeys one_level) (subkey_at depth last used end) head_front (subkey_to end told left used depth last) 14 532 (omega arith) (subkey_is end told left used depth last) (subkey_lighter end told left used depth last) (subkey_steady depth last used end)

    pub subkey_fails : {Y : Type 0} (view : Y → List Level → Course) (fault : ReadFault) (s t : Reading) (told_now : List Item) → FailsAt fault (subkey_at depth last used end s) → told_now ≡ told
        → Reads view (Err fault) end told (nexts.Subkeys one_level) s told_now t
    subkey_fails = read_fails end told (nexts.Subkeys one_level) (subkey_at depth last used end) head_front (subkey_to end told left used depth last) 14 532 (omega arith) (subkey_is end told left used depth last) (subkey_lighter end told left used depth last) (subkey_steady depth last used end)

  module _ (level : Level) (some : 0 < level.left) where
    abbrev holding : ℕ → Next
    holding left = nexts.Subkeys (record { left = left; used = level.used; depth = level.depth; last = level.last })

    one_subkey_less : suc (level.left - 1) ≡ level.left
    one_subkey_less = omega (arith, some)

    pub level_given : (s : Reading) (x : Head) (t : Reading) (told_now : List Item) → subkey_at level.depth level.last level.used end s ≡ Ok (x, t) → told_now ≡ told ++ head_front x
        → Given end told (nexts.Subkeys level) s told_now (subkey_to end told (level.left - 1) level.used level.depth level.last x) t
    level_given s x t told_now e grown =
        subst (λ (n : ℕ). Given end told (holding n) s told_now (subkey_to end told (level.left - 1) level.used level.depth level.last x) t) one_subkey_less
        (subkey_given (level.left - 1) level.used level.depth level.last s x t told_now e grown)

    pub level_fails : {Y : Type 0} (view : Y → List Level → Course) (fault : ReadFault) (s t : Reading) (told_now : List Item) → FailsAt fault (subkey_at level.depth level.last level.used end s) → told_now ≡ told
        → Reads view (Err fault) end told (nexts.Subkeys level) s told_now t
    level_fails view fault s t told_now fails same =
        subst (λ (n : ℕ). Reads view (Err fault) end told (holding n) s told_now t) one_subkey_less (subkey_fails (level.left - 1) level.used level.depth level.last view fault s t told_now fails same)
