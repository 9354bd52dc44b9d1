-- Calls are joined from their fragments, one at a time: what each part of a stream does.
use Rattle.std.specs.Prelude.{ℕ, ◌++◌, Bool, true, false, ◌==◌, nat_lt, length, Option, Some, None, Result, Ok, Err, if◌then◌else◌}
use Rattle.rpc_calls.specs.declared.call.Call.{Call}
use Rattle.rpc_calls.specs.declared.intake_fault.IntakeFault.{IntakeFault}
use Rattle.rpc_calls.specs.declared.intake_fault.IntakeFault.TheVariants.{Interleaved, StubTooLong}
use Rattle.rpc_calls.specs.declared.item.Item.{Item}
use Rattle.rpc_calls.specs.declared.item.Item.TheVariants as items
use Rattle.rpc_calls.specs.declared.side.Side.{Side}
use Rattle.rpc_calls.specs.Fragments.{fragment_of, is_first, is_last, orphan_of, with_stub}

-- How long the stub of a call may become.
abbrev pub most_stub : ℕ
most_stub = 131072

-- How much of a stub was joined.
abbrev pub stub_length : Option Call → ℕ
stub_length None = 0
stub_length (Some call) = length call.stub

-- The call that is unfinished behind a part, and the item that stands there; or the fault.
abbrev pub Outcome : Type 0
Outcome = Result (Option Call × Option Item) IntakeFault

abbrev pub goes_on : Option Call → Option Item → Outcome
goes_on unfinished item = Ok (unfinished, item)

abbrev pub no_call : Option Call
no_call = None

-- Behind its last fragment a call is an item, and before that it is unfinished.
abbrev pub finished_if : Bool → Call → Outcome
finished_if true call = goes_on None (Some (items.Call call))
finished_if false call = goes_on (Some call) None

abbrev pub as_item : Option Call → Option Item
as_item None = None
as_item (Some call) = Some (items.Call call)

-- A fragment with the first flag starts a call where none is unfinished. One without it goes on with
-- the unfinished call of its id. Nothing else is a fragment in its place.
abbrev pub extended : Option Call → Call → Bool → Option Call
extended None fragment true = Some fragment
extended None fragment false = None
extended (Some call) fragment true = None
extended (Some call) fragment false = if call.call_id == fragment.call_id then Some (with_stub call (call.stub ++ fragment.stub)) else no_call

-- The call may be too long, and ends or not.
abbrev pub ended : ℕ → Bool → Option Call → Outcome
ended place last None = Err (Interleaved place)
ended place last (Some call) = if nat_lt most_stub (length call.stub) then Err (StubTooLong place) else finished_if last call

-- What a fragment at this place does.
unfoldable pub joined : ℕ → Option Call → Call → ℕ → Outcome
joined place unfinished fragment flags = ended place (is_last flags) (extended unfinished fragment (is_first flags))

-- The unfinished call, but for one that is given up.
abbrev pub kept_by : Option ℕ → Option Call → Option Call
kept_by None unfinished = unfinished
kept_by (Some id) None = None
kept_by (Some id) (Some call) = if call.call_id == id then no_call else Some call

abbrev pub taken_as : Option (Call × ℕ) → ℕ → Option Call → Item → Outcome
taken_as (Some fragment) place unfinished part = joined place unfinished fragment.0 fragment.1
taken_as None place unfinished part = goes_on (kept_by (orphan_of part) unfinished) (Some part)

-- What a part at this place does, behind which this call is unfinished.
unfoldable pub taken : Side → ℕ → Option Call → Item → Outcome
taken side place unfinished part = taken_as (fragment_of side part) place unfinished part
