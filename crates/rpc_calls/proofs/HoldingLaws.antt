-- What an intake holds, from call to call.
use Rattle.std.proofs.Common.{◌≡◌, ℕ, List, [], ◌++◌, length, refl, sym, ap, subst, inl, inr, append_assoc, length-append, arith}
use Rattle.std.specs.Prelude.{Option, Some, None, Result, Ok, Err, OnOk}
use Rattle.std.specs.List.{concat}
use Rattle.rpc_calls.specs.declared.call.Call.{Call}
use Rattle.rpc_calls.specs.declared.feed_fault.FeedFault.{FeedFault}
use Rattle.rpc_calls.specs.declared.intake_fault.IntakeFault.{IntakeFault}
use Rattle.rpc_calls.specs.declared.item.Item.{Item}
use Rattle.rpc_calls.specs.declared.side.Side.{Side}
use Rattle.rpc_calls.specs.Intakes.{FaultStands, FeedIs, Holds, Kept, fed, fresh, stream_length}
use Rattle.rpc_calls.specs.Streams.{FaultAt, Items, Runs}
use Rattle.rpc_calls.proofs.FrameRuns.{TooShort-append}

-- ---- the beginning

pub holds_nothing : (side : Side) → Holds (fresh side) [] []
unfolding Runs
holds_nothing side = record { frames = []; reads = record { whole = refl; runs = (refl, refl) }; place = refl; faulty = tt }

-- ---- a further piece

fault_stands : (side : Side) (place : ℕ) (left : Option Call) (rest piece : List ℕ) (fault : IntakeFault) → FaultAt side place left rest fault → FaultAt side place left (rest ++ piece) fault
fault_stands side place left rest piece fault (inl (short, is)) = inl (TooShort-append rest piece short, is)
fault_stands side place left rest piece fault (inr (frame, more, cut, is, bad)) = inr (frame, more ++ piece, rw (cut, append_assoc) refl, is, bad)

still_faulty : (kept : Kept) (piece : List ℕ) (fault : Option IntakeFault) → FaultStands kept fault → FaultStands (fed kept piece) fault
still_faulty kept piece None stands = tt
still_faulty kept piece (Some fault) (stands, bytes, stub) =
    (fault_stands kept.side kept.place kept.left kept.rest piece fault stands, rw bytes (sym (length-append kept.rest piece)), stub)

pub holds_fed : (kept : Kept) (stream piece : List ℕ) (given : List Item) → Holds kept stream given → Holds (fed kept piece) (stream ++ piece) given
holds_fed kept stream piece given holds = record {
  frames = holds.frames;
  reads = record { whole = rw (holds.reads.whole, append_assoc) refl; runs = holds.reads.runs };
  place = holds.place;
  faulty = still_faulty kept piece kept.fault holds.faulty;
}

pub fed_holds : {X : Type 0} (result : Result X FeedFault) (old new : Kept) (piece : List ℕ) → FeedIs result old new piece
    → OnOk result ((stream : List ℕ) (given : List Item) → Holds old stream given → Holds new (stream ++ piece) given)
fed_holds (Ok x) old new piece (fits, is) = λ stream given holds. subst (λ (k : Kept). Holds k (stream ++ piece) given) (sym is) (holds_fed old stream piece given holds)
fed_holds (Err fault) old new piece is = tt

-- ---- a fault stands whatever comes behind it

pub fault_stays : (side : Side) (stream more : List ℕ) (given : List Item) (fault : IntakeFault) → Items side stream given (Some fault) → Items side (stream ++ more) given (Some fault)
fault_stays side stream more given fault (frames, left, rest, reads, stops) =
    (frames, left, rest ++ more, record { whole = rw (reads.whole, append_assoc) refl; runs = reads.runs }, fault_stands side (length (concat frames)) left rest more fault stops)

-- ---- how long the stream is

pub length_known : (kept : Kept) (stream : List ℕ) (given : List Item) → Holds kept stream given → stream_length kept ≡ length stream
length_known kept stream given holds = omega (arith, holds.place, ap length holds.reads.whole, length-append (concat holds.frames) kept.rest)
