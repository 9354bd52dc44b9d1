-- The calls of a disk: what each does to its meaning.
use Rattle.std.specs.Prelude.{◌≡◌, ℕ, ◌-◌, ◌/◌, ◌<◌, ◌≤◌, ◌⊎◌, Bool, IsTrue, IsFalse, ◌==◌, ◌||◌, ◌&&◌, not, nat_lt, if◌then◌else◌, MatchBool, List, [], ◌∷◌, ◌++◌, length, take, Some, MatchOption, Result, Ok, Err, IsOk, ⊤}
use Rattle.causes.specs.Counts.{Rose}
use Rattle.disk_core.specs.declared.fault.DiskFault.{DiskFault}
use Rattle.disk_core.specs.declared.fault.DiskFault.TheVariants.{Failed, Fenced}
use Rattle.disk_core.specs.Images.{Moment, Has, SameOutside}
use Rattle.disk_core.specs.Views.{DiskView, Plan, moments}

-- A call that a moment counts. Each carries its fencing token first, then a write its place and bytes.
pub data Call : Type 0 where
  write : ℕ → ℕ → List ℕ → Call
  sync : ℕ → Call
  claim : ℕ → Call

abbrev pub token : Call → ℕ
token (write n at bytes) = n
token (sync n) = n
token (claim n) = n

-- These bytes were written there, and a range of that length is pending.
pub record Puts (at : ℕ) (bytes : List ℕ) (len : ℕ) (m m' : Moment) : Type 0 where
  pub pending : m'.pending ≡ m.pending ++ record { at = at; len = len } ∷ []
  pub held : m'.held ≡ m.held
  pub put : Has m'.seen at bytes
  pub outside : SameOutside at (length bytes) m.seen m'.seen

-- The range is pending, and a read may give anything in it.
pub record Tears (at len : ℕ) (m m' : Moment) : Type 0 where
  pub pending : m'.pending ≡ m.pending ++ record { at = at; len = len } ∷ []
  pub held : m'.held ≡ m.held
  pub outside : SameOutside at len m.seen m'.seen

-- What a call that is Ok does.
abbrev pub Did : Call → Moment → Moment → Type 0
Did (write n at bytes) m m' = Puts at bytes (length bytes) m m'
Did (sync n) m m' = m' ≡ record m { pending = [] }
Did (claim n) m m' = m' ≡ record m { held = n }

-- What a failed call may have done: a write has torn its range, or nothing has changed.
abbrev pub Tried : Call → Moment → Moment → Type 0
Tried (write n at bytes) m m' = Tears at (length bytes) m m' ⊎ (m' ≡ m)
Tried (sync n) m m' = m' ≡ m
Tried (claim n) m m' = m' ≡ m

-- The token that the disk holds after a call that is Ok.
abbrev pub held_after : Call → ℕ → ℕ
held_after (write n at bytes) held = held
held_after (sync n) held = held
held_after (claim n) held = n

abbrev pub Answers : Call → DiskView → Result ⊤ DiskFault → DiskView → Type 0
Answers c v (Ok ok) w =
    (v.current.held ≤ token c) × (w.current.held ≡ held_after c v.current.held) × (IsTrue v.tells → Did c v.current w.current)
Answers c v (Err Failed) w =
    (v.current.held ≤ token c) × Rose v.faults w.faults × (w.current.held ≡ v.current.held) × (IsTrue v.tells → Tried c v.current w.current)
Answers c v (Err (Fenced held)) w =
    (token c < v.current.held) × (held ≡ v.current.held) × (w.current ≡ v.current)

-- The bytes that a call takes of the room.
abbrev pub bytes_of : Call → ℕ
bytes_of (write n at bytes) = length bytes
bytes_of (sync n) = 0
bytes_of (claim n) = 0

abbrev pub passes_room : Call → Plan → Bool
passes_room (write n at bytes) p = (p.calls_left == 0) || nat_lt p.bytes_left (length bytes)
passes_room (sync n) p = p.calls_left == 0
passes_room (claim n) p = p.calls_left == 0

-- A write that was to fail has put the first half of its bytes; any other call has done nothing.
abbrev pub PutsHalf : Call → Moment → Moment → Type 0
PutsHalf (write n at bytes) m m' = Puts at (take (length bytes / 2) bytes) (length bytes) m m'
PutsHalf (sync n) m m' = m' ≡ m
PutsHalf (claim n) m m' = m' ≡ m

-- A call that isn't fenced fails exactly where it is awaited or passes the room. Past the room nothing is done.
abbrev pub FailsAsPlanned : Call → DiskView → Plan → Result ⊤ DiskFault → DiskView → Type 0
FailsAsPlanned c v p (Ok ok) w = IsFalse ((p.awaits == 1) || passes_room c p)
FailsAsPlanned c v p (Err Failed) w =
    IsTrue ((p.awaits == 1) || passes_room c p)
    × (IsTrue v.tells → MatchBool (passes_room c p) (w.current ≡ v.current) (PutsHalf c v.current w.current))
FailsAsPlanned c v p (Err (Fenced held)) w = Unit {0}

-- A call is noted where there is room: it then takes one call of it, and a write that isn't fenced its bytes.
abbrev pub is_noted : Call → Bool → Plan → Bool
is_noted c is_fenced p = if is_fenced then not (p.calls_left == 0) else not (passes_room c p)

abbrev pub next_plan : Call → Bool → Plan → Plan
next_plan c is_fenced p = record p {
  awaits = p.awaits - 1;
  calls_left = if is_noted c is_fenced p then p.calls_left - 1 else p.calls_left;
  bytes_left = if is_noted c is_fenced p && not is_fenced then p.bytes_left - bytes_of c else p.bytes_left;
}

abbrev pub is_fenced : Call → DiskView → Bool
is_fenced c v = nat_lt (token c) v.current.held

pub record Planned (c : Call) (v : DiskView) (p : Plan) (result : Result ⊤ DiskFault) (w : DiskView) : Type 0 where
  pub fails : FailsAsPlanned c v p result w
  pub next : w.plan ≡ Some (next_plan c (is_fenced c v) p)
  pub noted : IsTrue v.tells → IsTrue (is_noted c (is_fenced c v) p) → w.past ≡ moments v
  pub unnoted : IsTrue v.tells → IsFalse (is_noted c (is_fenced c v) p) → w.past ≡ v.past

-- It is the same disk: its size and what it tells never change, and its faults never become fewer.
pub record SameDisk (v w : DiskView) : Type 0 where
  pub size : w.size ≡ v.size
  pub tells : w.tells ≡ v.tells
  pub faults : v.faults ≤ w.faults

-- One call with its answer takes the disk from the first view to the second one.
pub record Step (c : Call) (v : DiskView) (result : Result ⊤ DiskFault) (w : DiskView) : Type 0 where
  pub same : SameDisk v w
  -- The call makes a moment, or, where there is no room to note it, changes nothing.
  pub time : IsTrue v.tells → (w.past ≡ moments v) ⊎ ((w.past ≡ v.past) × (w.current ≡ v.current))
  pub answer : Answers c v result w
  pub plan : MatchOption v.plan (Unit {0}) (λ p. Planned c v p result w)

abbrev pub ReadAnswers : DiskView → ℕ → List ℕ → Result ⊤ DiskFault → DiskView → Type 0
ReadAnswers v at bytes (Ok ok) w = IsTrue v.tells → Has v.current.seen at bytes
ReadAnswers v at bytes (Err Failed) w = Rose v.faults w.faults
ReadAnswers v at bytes (Err (Fenced held)) w = ⊥

-- A read takes no room, and fails exactly where it is awaited.
abbrev pub ReadFails : Plan → Result ⊤ DiskFault → Type 0
ReadFails p (Ok ok) = IsFalse (p.awaits == 1)
ReadFails p (Err fault) = IsTrue (p.awaits == 1)

pub record PlannedRead (p : Plan) (result : Result ⊤ DiskFault) (w : DiskView) : Type 0 where
  pub fails : ReadFails p result
  pub next : w.plan ≡ Some (record p { awaits = p.awaits - 1 })

-- A read of as many bytes as these, which it gave, makes no moment.
pub record ReadStep (v : DiskView) (at : ℕ) (bytes : List ℕ) (result : Result ⊤ DiskFault) (w : DiskView) : Type 0 where
  pub same : SameDisk v w
  pub past : w.past ≡ v.past
  pub current : w.current ≡ v.current
  pub answer : ReadAnswers v at bytes result w
  pub plan : MatchOption v.plan (Unit {0}) (λ p. PlannedRead p result w)

-- The calls are made in turn, each on the disk that the one before it left, and none behind one that is refused.
unfoldable pub Made : List Call → DiskView → Result ⊤ DiskFault → DiskView → Type 0
Made [] v result w = (w ≡ v) × IsOk result
Made (c ∷ cs) v result w =
    ((u : DiskView) × ((ok : ⊤) × Step c v (Ok ok) u) × Made cs u result w)
    ⊎ ((e : DiskFault) × Step c v (Err e) w × (result ≡ Err e))
