-- Reading on, item by item.
use Rattle.std.specs.Prelude.{◌≡◌, ℕ, ◌+◌, ◌-◌, ◌*◌, ◌<◌, ◌≤◌, List, [], ◌++◌, length, Option, Some, Result, Ok, Err}
use Rattle.wire_fields.specs.Reading.{Reading}
use Rattle.registry_defs.specs.StateFields as stops
use Rattle.registry_states.specs.declared.ahead.Level.{Level}
use Rattle.registry_states.specs.declared.ahead.Next.{Next}
use Rattle.registry_states.specs.declared.ahead.Next.TheVariants as nexts
use Rattle.registry_states.specs.declared.fault.StateFault.{StateFault}
use Rattle.registry_states.specs.declared.fault.StateFault.TheVariants as faults
use Rattle.registry_states.specs.declared.item.Head.{Head}
use Rattle.registry_states.specs.declared.item.Item.{Item}
use Rattle.registry_states.specs.declared.read_fault.ReadFault.{ReadFault}
use Rattle.registry_states.specs.declared.read_fault.ReadFault.TheVariants.{Cut, Bad, Memory}
use Rattle.registry_states.specs.declared.turning.Reach.{Reach}
use Rattle.registry_states.specs.declared.turning.Step.{Step}
use Rattle.registry_states.specs.declared.turning.Step.TheVariants as steps
use Rattle.registry_states.specs.Ahead.{Course, all_at}
use Rattle.registry_states.specs.Moves.{Advanced, further, end_of, StopsAt}

-- The longest item: a value with a name of 1,023 units and 49,152 bytes of data.
abbrev pub longest_item : ℕ
longest_item = 51208

-- Items were read: whatever follows the bytes, all is told as before.
pub record Follows (end : ℕ) (told : List Item) (ahead : Course) (s : Reading) (told_now : List Item) (ahead_now : Course) (t : Reading) : Type 0 where
  pub same : (more : List ℕ) → all_at end told ahead (further more s) ≡ all_at end told_now ahead_now (further more t)
  pub over : Advanced s t
  pub within : s.place ≤ end → t.place ≤ end

-- The next item isn't there whole: it is cut off in the field at the place.
pub record Waits (end : ℕ) (told : List Item) (ahead : Course) (s : Reading) (place : ℕ) : Type 0 where
  pub cut : all_at end told ahead s ≡ Err (stops.Cut place)
  pub short : length s.left ≤ longest_item
  -- this field ends past the end, if it ends
  pub past : end < end_of s → (more : List ℕ) → StopsAt place (all_at end told ahead (further more s))

-- The field at the place breaks a rule, whatever follows.
abbrev pub Breaks : ℕ → List Item → Course → Reading → ℕ → Type 0
Breaks end told ahead s place = (more : List ℕ) → all_at end told ahead (further more s) ≡ Err (stops.Bad place)

abbrev pub next_weight : Next → ℕ
next_weight nexts.Nothing = 0
next_weight next = 1

-- How much there is to do: bytes to read and keys to finish.
abbrev pub weight : Course → Reading → ℕ
weight ahead s = length s.left + (2 * length ahead.above + next_weight ahead.next)

abbrev pub course : Next → List Level → Course
course next above = record { next = next; above = above }

abbrev some_name : List ℕ → Option (List ℕ)
some_name name = Some name

-- What is left of a level behind the head of its next subkey.
abbrev pub level_behind : Level → Head → Level
level_behind level head = record { left = level.left - 1; used = level.used; depth = level.depth; last = some_name head.part }

-- The values of that subkey.
abbrev pub values_of : Level → Head → Next
values_of level head = nexts.Values head.values (level.used + length head.part + 1) (level.depth - 1)

-- An item was read, behind which `to` tells what is ahead.
pub record WasRead (end : ℕ) (told : List Item) (ahead : Course) (s : Reading) (told_now : List Item) (ahead_now : Course) (t : Reading) : Type 0 where
  pub follows : Follows end told ahead s told_now ahead_now t
  pub closer : weight ahead_now t < weight ahead s

pub record Grew (told told_now : List Item) : Type 0 where
  pub added : List Item
  pub all : told_now ≡ told ++ added

abbrev pub Reads : {X : Type 0} → (X → List Level → Course) → Result X ReadFault → ℕ → List Item → Next → Reading → List Item → Reading → Type 0
Reads to (Ok x) end told next s told_now t = Grew told told_now × ((above : List Level) → WasRead end told (course next above) s told_now (to x above) t)
Reads to (Err (Cut place)) end told next s told_now t = (told_now ≡ told) × ((above : List Level) → Waits end told (course next above) s place)
Reads to (Err (Bad place)) end told next s told_now t = (told_now ≡ told) × ((above : List Level) → Breaks end told (course next above) s place)
Reads to (Err Memory) end told next s told_now t = told_now ≡ told

-- Nothing is to come.
pub record IsDone (end : ℕ) (told : List Item) (ahead : Course) (s : Reading) : Type 0 where
  pub nothing : ahead.next ≡ nexts.Nothing
  pub all : all_at end told ahead s ≡ Ok told
  pub ended : s.left ≡ []

abbrev pub IsSomething : Next → Type 0
IsSomething nexts.Nothing = ⊥
IsSomething next = Unit {0}

abbrev pub Steps : Result Step ReadFault → ℕ → List Item → Course → Reading → List Item → Course → Reading → Type 0
Steps (Ok steps.On) end told ahead s told_now ahead_now t = Grew told told_now × WasRead end told ahead s told_now ahead_now t
Steps (Ok steps.End) end told ahead s told_now ahead_now t = (told_now ≡ told) × (ahead_now ≡ ahead) × IsDone end told ahead s
Steps (Err (Cut place)) end told ahead s told_now ahead_now t = (told_now ≡ told) × (ahead_now ≡ ahead) × IsSomething ahead.next × Waits end told ahead s place
Steps (Err (Bad place)) end told ahead s told_now ahead_now t = (told_now ≡ told) × Breaks end told ahead s place
Steps (Err Memory) end told ahead s told_now ahead_now t = told_now ≡ told

-- No further item is there whole.
abbrev pub Rests : Next → ℕ → List Item → Course → Reading → ℕ → Type 0
Rests nexts.Nothing end told ahead s place = IsDone end told ahead s
Rests next end told ahead s place = Waits end told ahead s place

abbrev pub Reaches : Result Reach StateFault → ℕ → List Item → Course → Reading → List Item → Course → Type 0
Reaches (Ok reach) end told ahead s told_now ahead_now =
    (t : Reading) × (t.place ≡ reach.taken) × Follows end told ahead s told_now ahead_now t × Rests ahead_now.next end told_now ahead_now t reach.cut
Reaches (Err (faults.Bad place)) end told ahead s told_now ahead_now = Breaks end told ahead s place
Reaches (Err faults.Memory) end told ahead s told_now ahead_now = Unit {0}
