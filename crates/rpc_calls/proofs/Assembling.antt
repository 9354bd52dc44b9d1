-- Joining fragments keeps a stub short; which faults stand.
use Rattle.std.proofs.Common.{◌≡◌, ℕ, ◌≤◌, Bool, true, false, List, length, take, drop, refl, sym, ap, inr, arith}
use Rattle.std.specs.Prelude.{Option, Some, None, Ok, Err, ◌==◌, nat_lt, if◌then◌else◌}
use Rattle.std.proofs.lemmas.Bool.{ltb-false}
use Rattle.std.proofs.lemmas.List.{take-append-drop}
use Rattle.rpc_calls.specs.declared.call.Call.{Call}
use Rattle.rpc_calls.specs.declared.intake_fault.IntakeFault.{IntakeFault}
use Rattle.rpc_calls.specs.declared.intake_fault.IntakeFault.TheVariants as faults
use Rattle.rpc_calls.specs.declared.item.Item.{Item}
use Rattle.rpc_calls.specs.declared.item.Item.TheVariants as items
use Rattle.rpc_calls.specs.declared.side.Side.{Side}
use Rattle.rpc_calls.specs.Assembly.{ended, extended, finished_if, goes_on, joined, kept_by, most_stub, stub_length, taken, taken_as}
use Rattle.rpc_calls.specs.Fragments.{fragment_of, is_first, is_last, orphan_of}
use Rattle.rpc_calls.specs.Frames.{IsFrame}
use Rattle.rpc_calls.specs.Intakes.{Kept}
use Rattle.rpc_calls.specs.Steps.{FrameDoes}
use Rattle.rpc_calls.specs.Streams.{BadFrame, FaultAt}
use Rattle.rpc_calls.specs.Turns.{MayStand, refused}

abbrev both : Option Call → Option Item → Option Call × Option Item
both call item = (call, item)

pub goes_on-same : (a c : Option Call) (b d : Option Item) → goes_on a b ≡ goes_on c d → (a ≡ c) × (b ≡ d)
goes_on-same a c b d e =
    let pairs : both a b ≡ both c d = cc in
    (ap (λ (x : Option Call × Option Item). x.0) pairs, ap (λ (x : Option Call × Option Item). x.1) pairs)

-- ---- stubs stay short

finished_short : (last : Bool) (call : Call) (after : Option Call) (item : Option Item) → length call.stub ≤ most_stub
    → finished_if last call ≡ goes_on after item → stub_length after ≤ most_stub
finished_short true call after item short e = rw (← (goes_on-same None after (Some (items.Call call)) item e).0) (omega arith)
finished_short false call after item short e = rw (← (goes_on-same (Some call) after None item e).0) short

short_or_long : (long last : Bool) (place : ℕ) (call : Call) (after : Option Call) (item : Option Item) → nat_lt most_stub (length call.stub) ≡ long
    → (if long then Err (faults.StubTooLong place) else finished_if last call) ≡ goes_on after item → stub_length after ≤ most_stub
short_or_long true last place call after item is e = absurd cc
short_or_long false last place call after item is e = finished_short last call after item (ltb-false most_stub (length call.stub) is) e

ended_short : (place : ℕ) (last : Bool) (call after : Option Call) (item : Option Item) → ended place last call ≡ goes_on after item → stub_length after ≤ most_stub
ended_short place last None after item e = absurd cc
ended_short place last (Some call) after item e = short_or_long (nat_lt most_stub (length call.stub)) last place call after item refl e

kept_shorter : (given_up : Bool) (call : Call) → stub_length (if given_up then None else Some call) ≤ length call.stub
kept_shorter true call = omega arith
kept_shorter false call = omega arith

kept_short : (id : Option ℕ) (before : Option Call) → stub_length (kept_by id before) ≤ stub_length before
kept_short None before = omega arith
kept_short (Some id) None = omega arith
kept_short (Some id) (Some call) = kept_shorter (call.call_id == id) call

short_by_view : (fragment : Option (Call × ℕ)) (place : ℕ) (before after : Option Call) (part : Item) (item : Option Item) → stub_length before ≤ most_stub
    → taken_as fragment place before part ≡ goes_on after item → stub_length after ≤ most_stub
unfolding joined
short_by_view (Some fragment) place before after part item short e = ended_short place (is_last fragment.1) (extended before fragment.0 (is_first fragment.1)) after item e
short_by_view None place before after part item short e =
    rw (← (goes_on-same (kept_by (orphan_of part) before) after (Some part) item e).0) (omega (arith, kept_short (orphan_of part) before))

pub taken_short : (side : Side) (place : ℕ) (before after : Option Call) (part : Item) (item : Option Item) → stub_length before ≤ most_stub
    → taken side place before part ≡ goes_on after item → stub_length after ≤ most_stub
unfolding taken
taken_short side place before after part item short e = short_by_view (fragment_of side part) place before after part item short e

pub done_short : (side : Side) (place : ℕ) (before after : Option Call) (frame : List ℕ) (item : Option Item) → stub_length before ≤ most_stub
    → FrameDoes (Ok item) side place before after frame → stub_length after ≤ most_stub
done_short side place before after frame item short (part, stands, does) = taken_short side place before after part item short does

-- ---- a frame with a fault

fault_at : (kept : Kept) (size : ℕ) (fault : IntakeFault) → IsFrame (take size kept.rest) → BadFrame kept.side kept.place kept.left (take size kept.rest) fault
    → FaultAt kept.side kept.place kept.left kept.rest fault
fault_at kept size fault is bad = inr (take size kept.rest, drop size kept.rest, sym (take-append-drop size kept.rest), is, bad)

-- The intake before, with the unfinished call that the frame left.
abbrev with_left : Kept → Option Call → Kept
with_left kept left = record {
  side = kept.side;
  rest = kept.rest;
  left = left;
  place = kept.place;
  last_place = kept.last_place;
  fault = kept.fault;
  unprocessed = kept.unprocessed;
  unfinished = kept.unfinished;
}

pub turn_fails : (kept after : Kept) (left : Option Call) (size : ℕ) (fault : IntakeFault) → IsFrame (take size kept.rest)
    → FrameDoes (Err fault) kept.side kept.place kept.left left (take size kept.rest) → after ≡ refused (with_left kept left) fault
    → MayStand kept fault × (after ≡ refused kept fault)
turn_fails kept after left size faults.Memory is same kept_is = (tt, rw same at kept_is)
turn_fails kept after left size (faults.Pdu place inner) is (bad, lasts, same) kept_is =
    ((lasts, fault_at kept size (faults.Pdu place inner) is bad), rw same at kept_is)
turn_fails kept after left size (faults.Interleaved place) is (bad, lasts, same) kept_is =
    ((lasts, fault_at kept size (faults.Interleaved place) is bad), rw same at kept_is)
turn_fails kept after left size (faults.StubTooLong place) is (bad, lasts, same) kept_is =
    ((lasts, fault_at kept size (faults.StubTooLong place) is bad), rw same at kept_is)
