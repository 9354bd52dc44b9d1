-- What an intake keeps of a stream, and what its calls give.
use Rattle.std.specs.Prelude.{◌≡◌, ℕ, ◌+◌, ◌<◌, ◌≤◌, List, [], ◌∷◌, ◌++◌, length, Option, Some, None, Result, Ok, Err}
use Rattle.std.specs.List.{concat}
use Rattle.rpc_pdu.specs.declared.pdu_fault.PduFault.TheVariants as pdu_faults
use Rattle.rpc_calls.specs.declared.call.Call.{Call}
use Rattle.rpc_calls.specs.declared.feed_fault.FeedFault.{FeedFault}
use Rattle.rpc_calls.specs.declared.feed_fault.FeedFault.TheVariants as feeds
use Rattle.rpc_calls.specs.declared.intake_fault.IntakeFault.{IntakeFault}
use Rattle.rpc_calls.specs.declared.intake_fault.IntakeFault.TheVariants as faults
use Rattle.rpc_calls.specs.declared.item.Item.{Item}
use Rattle.rpc_calls.specs.declared.side.Side.{Side}
use Rattle.rpc_calls.specs.Assembly.{stub_length}
use Rattle.rpc_calls.specs.Streams.{FaultAt, Items, Leave, Reads, StopsBy}

pub record Kept : Type 0 where
  pub side : Side
  -- the bytes behind the frames that were taken
  pub rest : List ℕ
  -- the call that these frames leave unfinished
  pub left : Option Call
  -- where the rest stands in the stream
  pub place : ℕ
  -- where the fragment stands that was taken last
  pub last_place : ℕ
  pub fault : Option IntakeFault
  pub unprocessed : ℕ
  pub unfinished : ℕ

abbrev pub no_fault : Option IntakeFault
no_fault = None

-- How many bytes may be unprocessed.
abbrev pub most_unprocessed : ℕ
most_unprocessed = 262144

-- How long the stream is.
abbrev pub stream_length : Kept → ℕ
stream_length kept = kept.place + length kept.rest

-- The fault is the stream's, and both numbers tell where it stands.
abbrev pub FaultStands : Kept → Option IntakeFault → Type 0
FaultStands kept None = Unit {0}
FaultStands kept (Some fault) =
    FaultAt kept.side kept.place kept.left kept.rest fault × (kept.unprocessed ≡ length kept.rest) × (kept.unfinished ≡ stub_length kept.left)

-- The intake was fed this stream, and has given these items.
pub record Holds (kept : Kept) (stream : List ℕ) (given : List Item) : Type 0 where
  pub frames : List (List ℕ)
  pub reads : Reads kept.side stream frames given kept.left kept.rest
  pub place : kept.place ≡ length (concat frames)
  pub faulty : FaultStands kept kept.fault

-- A fault of the stream, which stands whatever comes: memory that ran out is none.
abbrev pub IsLasting : IntakeFault → Type 0
IsLasting (faults.Pdu place pdu_faults.Memory) = ⊥
IsLasting (faults.Pdu place inner) = Unit {0}
IsLasting (faults.Interleaved place) = Unit {0}
IsLasting (faults.StubTooLong place) = Unit {0}
IsLasting faults.Memory = ⊥

abbrev pub LastsIfAny : Option IntakeFault → Type 0
LastsIfAny None = Unit {0}
LastsIfAny (Some fault) = IsLasting fault

-- An intake before its stream begins.
abbrev pub fresh : Side → Kept
fresh side = record { side = side; rest = []; left = None; place = 0; last_place = 0; fault = None; unprocessed = 0; unfinished = 0 }

-- ---- feed

-- An intake with a further piece of the stream.
abbrev pub fed : Kept → List ℕ → Kept
fed kept piece = record {
  side = kept.side;
  rest = kept.rest ++ piece;
  left = kept.left;
  place = kept.place;
  last_place = kept.last_place;
  fault = kept.fault;
  unprocessed = kept.unprocessed + length piece;
  unfinished = kept.unfinished;
}

abbrev pub FeedIs : {X : Type 0} → Result X FeedFault → Kept → Kept → List ℕ → Type 0
FeedIs (Ok taken) old new piece = (old.unprocessed + length piece ≤ most_unprocessed) × (new ≡ fed old piece)
FeedIs (Err feeds.Backlog) old new piece = (most_unprocessed < old.unprocessed + length piece) × (new ≡ old)
FeedIs (Err feeds.Memory) old new piece = (old.unprocessed + length piece ≤ most_unprocessed) × (new ≡ old)

-- ---- next

-- The fault of a PDU isn't that memory ran out: that is a fault of its own.
abbrev pub NoMemoryInside : IntakeFault → Type 0
NoMemoryInside (faults.Pdu place pdu_faults.Memory) = ⊥
NoMemoryInside fault = Unit {0}

abbrev pub Gives : Result (Option Item) IntakeFault → Kept → List ℕ → List Item → Type 0
Gives (Ok (Some item)) new stream given = Holds new stream (given ++ item ∷ [])
Gives (Ok None) new stream given = Holds new stream given × Items new.side stream given no_fault
Gives (Err faults.Memory) new stream given = Holds new stream given
Gives (Err fault) new stream given = Holds new stream given × Items new.side stream given (Some fault)

-- Whatever stream the intake was fed and whatever items it gave: this is the next item, the end, or the fault.
abbrev pub NextIs : Result (Option Item) IntakeFault → Kept → Kept → Type 0
NextIs result old new = (stream : List ℕ) (given : List Item) → Holds old stream given → Gives result new stream given

-- A fault of the stream is kept.
abbrev pub KeepsFault : Result (Option Item) IntakeFault → Kept → Type 0
KeepsFault (Ok item) new = Unit {0}
KeepsFault (Err faults.Memory) new = Unit {0}
KeepsFault (Err fault) new = new.fault ≡ Some fault

-- A fault that was kept is given again, whatever comes.
abbrev pub GivesAgain : Result (Option Item) IntakeFault → Kept → Type 0
GivesAgain result old = (fault : IntakeFault) → old.fault ≡ Some fault → result ≡ Err fault

-- Both numbers behind the frame where the item stands, and where this frame stands.
pub record BehindItem (side : Side) (stream : List ℕ) (given : List Item) (item : Item) (unprocessed unfinished place : ℕ) : Type 0 where
  pub before : List (List ℕ)
  pub frame : List ℕ
  pub behind : List ℕ
  pub held : Option Call
  pub not_before : Reads side stream before given held (frame ++ behind)
  pub stands : place ≡ length (concat before)
  pub here : Leave side stream (before ++ frame ∷ []) (given ++ item ∷ []) unprocessed unfinished

-- Both numbers at the end of what can be read.
pub record AtEnd (side : Side) (stream : List ℕ) (given : List Item) (fault : Option IntakeFault) (unprocessed unfinished : ℕ) : Type 0 where
  pub frames : List (List ℕ)
  pub leave : Leave side stream frames given unprocessed unfinished
  pub stops : StopsBy side (length (concat frames)) leave.left leave.rest fault

abbrev pub Tells : Result (Option Item) IntakeFault → Kept → Kept → List ℕ → List Item → Type 0
Tells (Ok (Some item)) old new stream given = BehindItem new.side stream given item new.unprocessed new.unfinished new.last_place
Tells (Ok None) old new stream given = AtEnd new.side stream given no_fault new.unprocessed new.unfinished
Tells (Err faults.Memory) old new stream given = (new.unprocessed ≡ old.unprocessed) × (new.unfinished ≡ old.unfinished)
Tells (Err fault) old new stream given = AtEnd new.side stream given (Some fault) new.unprocessed new.unfinished

-- Where no further item is whole, fewer bytes wait than the longest fragment has.
abbrev pub FewWait : Result (Option Item) IntakeFault → Kept → Type 0
FewWait (Ok None) new = length new.rest < 65536
FewWait _ new = Unit {0}

-- And these are all that is unprocessed.
abbrev pub CountsRest : Result (Option Item) IntakeFault → Kept → Type 0
CountsRest (Ok None) new = new.unprocessed ≡ length new.rest
CountsRest _ new = Unit {0}

-- The same of both numbers.
abbrev pub NumbersAre : Result (Option Item) IntakeFault → Kept → Kept → Type 0
NumbersAre result old new = (stream : List ℕ) (given : List Item) → Holds old stream given → Tells result old new stream given

-- What no call but `feed` changes.
pub record Stays (old new : Kept) : Type 0 where
  pub side : new.side ≡ old.side
  pub length : stream_length new ≡ stream_length old
