-- What the sources and sinks in memory hold.
use Rattle.std.specs.Prelude.{ℕ, ◌+◌, ◌≤◌, List, ◌++◌, length, drop, Result, Ok, Err, Option, Some, None, nat_le, if◌then◌else◌}
use Rattle.edge_io.specs.declared.failed.Failed.{Failed}
use Rattle.edge_io.specs.Plan.{Plan, after_call, after_fault}

-- A BytesSource: the bytes left, how many of them a call gives at most, and which calls fail.
pub record Supply : Type 0 where
  pub left : List ℕ
  pub piece : ℕ
  pub plan : Plan

-- A call that gave some bytes took them from the front; one that failed only counted.
abbrev pub supply_after : Supply → Result ℕ Failed → Supply
supply_after old (Ok count) = record { left = drop count old.left; piece = old.piece; plan = after_call old.plan }
supply_after old (Err fault) = record old { plan = after_fault (after_call old.plan) }

-- A BytesSink: the bytes written, and which calls fail.
pub record Store : Type 0 where
  pub written : List ℕ
  pub plan : Plan

-- A call that did not fail took the whole piece; one that failed only counted.
abbrev pub store_after : Store → List ℕ → Result ℕ Failed → Store
store_after old bytes (Ok count) = record { written = old.written ++ bytes; plan = after_call old.plan }
store_after old bytes (Err fault) = record old { plan = after_fault (after_call old.plan) }

-- What a SureSink tells after a call: it ceases to tell once it would hold more than 16,777,216 bytes.
abbrev pub kept_after : Option (List ℕ) → List ℕ → Option (List ℕ)
kept_after None bytes = None
kept_after (Some kept) bytes = if nat_le (length kept + length bytes) 16777216 then Some (kept ++ bytes) else None

-- the room of a SureSink was taken, and what it keeps lies within
pub record IsRoomy (capacity : ℕ) (kept : List ℕ) : Type 0 where
  pub taken : 16777216 ≤ capacity
  pub within : length kept ≤ 16777216
