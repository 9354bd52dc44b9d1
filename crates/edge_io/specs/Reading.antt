-- What reading a source to its end comes to.
use Rattle.std.specs.Prelude.{◌≡◌, ℕ, ◌+◌, ◌<◌, ◌≤◌, List, [], length, drop, Option, Some}
use Rattle.edge_io.specs.declared.reading.ReadAll.{ReadAll}
use Rattle.edge_io.specs.declared.reading.ReadAll.TheVariants.{Bytes, TooLong, Failed, Memory}

-- All the bytes that were left, where there were at most that many, and the source is at its end.
-- Too long exactly where there were more: then one byte more was read than is taken.
-- After a fault of the source or of memory some front was read.
abbrev pub ReadsAll : List ℕ → ℕ → ReadAll → Option (List ℕ) → Type 0
ReadsAll left most (Bytes bytes) now = (bytes.items ≡ left) × (length left ≤ most) × (now ≡ Some [])
ReadsAll left most TooLong now = (most < length left) × (now ≡ Some (drop (most + 1) left))
ReadsAll left most Failed now = (count : ℕ) × (count ≤ most) × (now ≡ Some (drop count left))
ReadsAll left most Memory now = (count : ℕ) × (count ≤ most) × (now ≡ Some (drop count left))

-- no more bytes are given than were asked for
abbrev pub IsWithin : ℕ → ReadAll → Type 0
IsWithin most (Bytes bytes) = length bytes.items ≤ most
IsWithin most _ = Unit {0}
