-- What a state's build keeps of the pieces so far, and what its calls give.
use Rattle.std.specs.Prelude.{◌≡◌, ◌⊎◌, ℕ, ◌+◌, ◌-◌, ◌<◌, ◌≤◌, List, [], ◌++◌, length, min, take, Option, Some, None, Result, Ok, Err}
use Rattle.wire_fields.specs.Reading.{Reading}
use Rattle.wire_fields.specs.declared.endian.Endian.TheVariants.{Little}
use Rattle.registry_defs.specs.Nodes.{Node}
use Rattle.registry_defs.specs.StateFields.{Stop}
use Rattle.registry_defs.specs.StateFields as stops
use Rattle.registry_defs.specs.StateGrammar.{state_of}
use Rattle.registry_states.specs.declared.fault.StateFault.{StateFault}
use Rattle.registry_states.specs.declared.fault.StateFault.TheVariants as faults
use Rattle.registry_states.specs.declared.ahead.Next.TheVariants as nexts
use Rattle.registry_states.specs.declared.item.Item.{Item}
use Rattle.registry_states.specs.Ahead.{Course, all_at}
use Rattle.registry_states.specs.Items.{items_of}
use Rattle.registry_states.specs.Turns.{Rests, course, longest_item}

-- Where reading stands between two pieces: what is ahead, how many bytes were read whole, those behind them, and where the
-- field stands that is cut off.
pub record Place : Type 0 where
  pub ahead : Course
  pub taken : ℕ
  pub pending : List ℕ
  pub cut : ℕ

pub record Kept : Type 0 where
  pub cap : ℕ
  -- what the pieces so far tell
  pub told : List Item
  pub place : Place
  -- the fault that they have, once it was found
  pub fault : Option ℕ

abbrev pub reading_of : Place → List ℕ → Reading
reading_of place more = record { endian = Little; place = place.taken; left = place.pending ++ more }

-- Bytes that are at fault, whatever follows them: a field that is there whole breaks a rule, or bytes stand behind the root,
-- or there are more than cap, and then the first field at fault may be cut off.
abbrev pub IsAtFault : ℕ → List ℕ → ℕ → Type 0
IsAtFault cap bytes place = (state_of cap bytes ≡ Err (stops.Bad place)) ⊎ ((cap < length bytes) × (state_of cap bytes ≡ Err (stops.Cut place)))

abbrev pub IsWholeOrCut : Result Node Stop → Type 0
IsWholeOrCut (Ok root) = Unit {0}
IsWholeOrCut (Err (stops.Cut place)) = Unit {0}
IsWholeOrCut (Err (stops.Bad place)) = ⊥

-- Bytes without a fault so far.
pub record IsSound (cap : ℕ) (bytes : List ℕ) : Type 0 where
  pub fits : length bytes ≤ cap
  pub reads : IsWholeOrCut (state_of cap bytes)

-- Reading stands here after this stream: what it tells is known, and what it will tell with more bytes.
pub record Stands (cap : ℕ) (told : List Item) (place : Place) (stream : List ℕ) : Type 0 where
  pub goes_on : (more : List ℕ) → items_of cap (stream ++ more) ≡ all_at cap told place.ahead (reading_of place more)
  pub counted : length stream ≡ place.taken + length place.pending
  pub fits : length stream ≤ cap
  pub rests : Rests place.ahead.next cap told place.ahead (reading_of place []) place.cut

abbrev pub KeepsFault : Option ℕ → Kept → List ℕ → Type 0
KeepsFault None kept stream = Stands kept.cap kept.told kept.place stream
KeepsFault (Some place) kept stream = (more : List ℕ) → IsAtFault kept.cap (stream ++ more) place

-- The build was fed this stream.
abbrev pub IsFed : Kept → List ℕ → Type 0
IsFed kept stream = KeepsFault kept.fault kept stream

abbrev pub no_fault : Option ℕ
no_fault = None

-- ---- feed

-- Bad comes exactly where the stream so far is at fault, at the place of its first field at fault; where memory runs out
-- nothing was taken.
abbrev pub Feeds : {T : Type 0} → Result T StateFault → Kept → List ℕ → List ℕ → Type 0
Feeds (Ok done) now stream piece = IsFed now (stream ++ piece) × IsSound now.cap (stream ++ piece)
Feeds (Err (faults.Bad place)) now stream piece = IsFed now (stream ++ piece) × IsAtFault now.cap (stream ++ piece) place
Feeds (Err faults.Memory) now stream piece = IsFed now stream

abbrev pub FeedIs : {T : Type 0} → Result T StateFault → Kept → Kept → List ℕ → Type 0
FeedIs result old now piece = (stream : List ℕ) → IsFed old stream → Feeds result now stream piece

abbrev pub KeepsBad : {T : Type 0} → Result T StateFault → Kept → Type 0
KeepsBad (Err (faults.Bad place)) now = now.fault ≡ Some place
KeepsBad (Err faults.Memory) now = Unit {0}
KeepsBad (Ok done) now = now.fault ≡ no_fault

-- The same Bad again, whatever comes.
abbrev pub GivesAgain : {T : Type 0} → Result T StateFault → Kept → Kept → Type 0
GivesAgain result old now = (place : ℕ) → old.fault ≡ Some place → (result ≡ Err (faults.Bad place)) × (now ≡ old)

-- ---- one piece

-- The bytes behind the items: those that wait, and those of the piece that tell all, one past cap at most.
abbrev pub bytes_behind : ℕ → Place → List ℕ → List ℕ
bytes_behind cap place piece = place.pending ++ take (min (length piece) (cap + 1 - (place.taken + length place.pending))) piece

-- Where reading stands behind a further piece: it is that of these bytes.
abbrev pub PieceIs : Result Place StateFault → ℕ → List Item → List ℕ → Type 0
PieceIs (Ok place) cap told bytes = Stands cap told place bytes
PieceIs (Err (faults.Bad place)) cap told bytes = (more : List ℕ) → IsAtFault cap (bytes ++ more) place
PieceIs (Err faults.Memory) cap told bytes = Unit {0}

-- ---- what a build keeps

abbrev pub first_place : Place
first_place = record { ahead = course nexts.Root []; taken = 0; pending = []; cut = 0 }

pub record IsKept (kept : Kept) : Type 0 where
  pub most : kept.cap ≤ 16777216
  pub within : kept.place.taken + length kept.place.pending ≤ kept.cap
  pub short : length kept.place.pending ≤ longest_item
  pub stream : List ℕ
  pub fed : IsFed kept stream
