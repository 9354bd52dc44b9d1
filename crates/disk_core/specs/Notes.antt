-- What a disk in memory notes of its calls since the mark, and how its moments come back from the notes.
use Rattle.std.specs.Prelude.{◌≡◌, ℕ, ◌+◌, ◌-◌, ◌≤◌, ◌==◌, true, if◌then◌else◌, Some, List, [], ◌∷◌, ◌++◌, length, take, drop}
use Rattle.disk_core.specs.declared.span.Span.{Span}
use Rattle.disk_core.specs.declared.note.Note.{Note}
use Rattle.disk_core.specs.declared.note.Note.TheVariants.{Wrote, Synced, Claimed, Nothing}
use Rattle.disk_core.specs.Images.{Moment, overlay, total}
use Rattle.disk_core.specs.Views.{DiskView}

-- The moment behind the call that was noted so. What was written stands in the store.
abbrev pub after : List ℕ → Note → Moment → Moment
after store (Wrote at len from count) m =
    record m { seen = overlay m.seen at (take count (drop from store)); pending = m.pending ++ record { at = at; len = len } ∷ [] }
after store Synced m = record m { pending = [] }
after store (Claimed number) m = record m { held = number }
after store Nothing m = m

-- The call wrote nothing.
abbrev pub IsPlain : Note → Type 0
IsPlain (Wrote at len from count) = ⊥
IsPlain _ = Unit {0}

-- The moment behind all these calls.
unfoldable pub replay : List ℕ → List Note → Moment → Moment
replay store [] m = m
replay store (n ∷ ns) m = replay store ns (after store n m)

-- The moments before each of them.
unfoldable pub befores : List ℕ → List Note → Moment → List Moment
befores store [] m = []
befores store (n ∷ ns) m = m ∷ befores store ns (after store n m)

abbrev pub IsNoteWithin : ℕ → ℕ → Note → Type 0
IsNoteWithin size stored (Wrote at len from count) = (at + len ≤ size) × (count ≤ len) × (from + count ≤ stored)
IsNoteWithin size stored _ = Unit {0}

abbrev pub AreNotesWithin : ℕ → ℕ → List Note → Type 0
AreNotesWithin size stored [] = Unit {0}
AreNotesWithin size stored (n ∷ ns) = IsNoteWithin size stored n × AreNotesWithin size stored ns

-- Each range lies within the size.
abbrev pub AreWithin : ℕ → List Span → Type 0
AreWithin size [] = Unit {0}
AreWithin size (r ∷ rs) = (r.at + r.len ≤ size) × AreWithin size rs

-- What contracts see of a disk in memory.
pub record Memory : Type 0 where
  pub current : Moment
  pub past : List Moment
  pub faults : ℕ
  pub awaits : ℕ
  pub calls_left : ℕ
  pub bytes_left : ℕ

-- The calls that a record has room for.
abbrev pub most_calls : ℕ
most_calls = 4096

-- A disk in memory tells all.
abbrev pub view_of : Memory → DiskView
view_of m = record {
  size = length m.current.seen;
  faults = m.faults;
  tells = true;
  current = m.current;
  past = m.past;
  plan = Some (record {
    awaits = m.awaits;
    most_calls = most_calls;
    most_bytes = length m.current.seen;
    calls_left = m.calls_left;
    bytes_left = m.bytes_left;
  });
}

-- A call was noted that led to that moment, and took so many bytes of the room.
abbrev pub noted : Moment → ℕ → Memory → Memory
noted next bytes m = record m {
  current = next;
  past = m.past ++ m.current ∷ [];
  calls_left = m.calls_left - 1;
  bytes_left = m.bytes_left - bytes;
}

-- The bytes were written, and a range of that length is pending.
abbrev pub written : ℕ → List ℕ → ℕ → Moment → Moment
written at bytes len m = record m { seen = overlay m.seen at bytes; pending = m.pending ++ record { at = at; len = len } ∷ [] }

-- A fenced call is noted where there is room.
abbrev pub fenced : Memory → Memory
fenced m = if m.calls_left == 0 then m else noted m.current 0 m

-- The parts of a disk in memory fit together.
pub record IsSound (marked now : Moment) (notes : List Note) (store : List ℕ) (bytes_left : ℕ) : Type 0 where
  pub replayed : replay store notes marked ≡ now
  pub size : length marked.seen ≡ length now.seen
  pub notes_within : AreNotesWithin (length now.seen) (length store) notes
  pub marked_within : AreWithin (length now.seen) marked.pending
  pub within : AreWithin (length now.seen) now.pending
  pub calls : length marked.pending + length notes ≤ most_calls
  pub pending : length now.pending ≤ length marked.pending + length notes
  pub stored : length store + bytes_left ≤ length now.seen
  pub bytes : total now.pending + bytes_left ≤ length now.seen

-- There is room for all notes and all that the notes store.
pub record HasCapacity (notes store size : ℕ) : Type 0 where
  pub notes_room : most_calls ≤ notes
  pub store_room : size ≤ store
