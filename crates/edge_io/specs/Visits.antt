-- What a door tells of its connections, and what each call makes of it.
use Rattle.std.specs.Prelude.{◌≡◌, ℕ, ◌<◌, List, [], ◌∷◌, ◌++◌, length, take, drop, Bool, true, false, Option, None, Some, Result, Ok, Err, IfOk, IsErr}
use Rattle.std.specs.Option.{option_map, option_to_list}
use Rattle.edge_io.specs.declared.failed.Failed.{Failed}
use Rattle.edge_io.specs.Plan.{Plan, fresh_plan, one_more}

-- One connection: the bytes of the client that were read, those that are left, the bytes that it was sent, and how many
-- of its reads and of its writes failed.
pub record Visit : Type 0 where
  pub taken : List ℕ
  pub left : List ℕ
  pub written : List ℕ
  pub failed_reads : ℕ
  pub failed_writes : ℕ

pub record Visits : Type 0 where
  -- what the clients still to come will send
  pub coming : List (List ℕ)
  -- the connection that was accepted and not yet ended
  pub present : Option Visit
  -- those that were ended, in their order
  pub ended : List Visit

abbrev pub fresh_visits : List (List ℕ) → Visits
fresh_visits inputs = record { coming = inputs; present = None; ended = [] }

abbrev pub begun : List ℕ → Visit
begun input = record { taken = []; left = input; written = []; failed_reads = 0; failed_writes = 0 }

-- ---- accept and hang_up

abbrev pub hung_up : Visits → Visits
hung_up old = record { coming = old.coming; present = None; ended = old.ended ++ option_to_list old.present }

-- The present connection is ended, and the next one takes its place, where one is still to come.
abbrev pub Accepts : Result Bool Failed → Visits → Visits → Type 0
Accepts (Ok true) old now = (input : List ℕ) × (rest : List (List ℕ)) × (old.coming ≡ input ∷ rest)
    × (now ≡ record { coming = rest; present = Some (begun input); ended = (hung_up old).ended })
Accepts (Ok false) old now = (old.coming ≡ []) × (now ≡ hung_up old)
Accepts (Err fault) old now = now ≡ hung_up old

-- ---- read and write

abbrev pub failed_read : Visit → Visit
failed_read v = record v { failed_reads = one_more v.failed_reads }

abbrev pub failed_write : Visit → Visit
failed_write v = record v { failed_writes = one_more v.failed_writes }

abbrev pub with_read : Result ℕ Failed → Visit → Visit
with_read (Ok count) v = record v { taken = v.taken ++ take count v.left; left = drop count v.left }
with_read (Err fault) v = failed_read v

abbrev pub with_write : List ℕ → Result ℕ Failed → Visit → Visit
with_write bytes (Ok count) v = record v { written = v.written ++ take count bytes }
with_write bytes (Err fault) v = failed_write v

-- Something befalls the present connection.
abbrev pub at_present : (Visit → Visit) → Visits → Visits
at_present change old = record old { present = option_map change old.present }

-- What was read is the front of what was left; nothing is read only at its end, or into no room.
pub record IsFront (left into : List ℕ) (count : ℕ) : Type 0 where
  pub same : take count into ≡ take count left
  pub ends : count ≡ 0 → 0 < length into → left ≡ []

-- Where no connection is present, the call fails.
abbrev pub ReadsFront : Option Visit → List ℕ → Result ℕ Failed → Type 0
ReadsFront None into result = IsErr result
ReadsFront (Some v) into result = IfOk result (IsFront v.left into)

abbrev pub NeedsPresent : Option Visit → Result ℕ Failed → Type 0
NeedsPresent None result = IsErr result
NeedsPresent (Some v) result = Unit {0}

-- ---- what is told

-- A door tells throughout, or not at all.
abbrev pub Tells : Option Visits → Option Visits → (Visits → Visits → Type 0) → Type 0
Tells None None change = Unit {0}
Tells (Some old) (Some now) change = change old now
Tells old now change = ⊥

-- How many calls of accept, of read and of write failed so far. Each count stays at the end of its type.
pub record Faults : Type 0 where
  pub accept : ℕ
  pub read : ℕ
  pub write : ℕ

abbrev pub no_faults : Faults
no_faults = record { accept = 0; read = 0; write = 0 }

-- ---- a door in memory

pub record Script : Type 0 where
  pub visits : Visits
  pub plan : Plan
  pub faults : Faults

abbrev pub fresh_script : List (List ℕ) → List ℕ → Script
fresh_script inputs failing = record { visits = fresh_visits inputs; plan = fresh_plan failing; faults = no_faults }

-- One call more was counted.
pub record Counts (old now : Plan) : Type 0 where
  pub failing : now.failing ≡ old.failing
  pub calls : now.calls ≡ one_more old.calls
