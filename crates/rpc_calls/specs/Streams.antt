-- The items of a stream, and its fault.
use Rattle.std.specs.Prelude.{◌≡◌, ◌⊎◌, ℕ, ◌+◌, List, [], ◌∷◌, ◌++◌, length, Option, Some, None, Err}
use Rattle.std.specs.List.{concat}
use Rattle.rpc_pdu.specs.declared.pdu_fault.PduFault.{PduFault}
use Rattle.rpc_pdu.specs.declared.pdu_fault.PduFault.TheVariants as pdu_faults
use Rattle.rpc_calls.specs.declared.call.Call.{Call}
use Rattle.rpc_calls.specs.declared.intake_fault.IntakeFault.{IntakeFault}
use Rattle.rpc_calls.specs.declared.intake_fault.IntakeFault.TheVariants as faults
use Rattle.rpc_calls.specs.declared.item.Item.{Item}
use Rattle.rpc_calls.specs.declared.side.Side.{Side}
use Rattle.rpc_calls.specs.Assembly.{goes_on, no_call, stub_length, taken}
use Rattle.rpc_calls.specs.Frames.{IsFrame, TooShort, Waits}
use Rattle.rpc_calls.specs.Parts.{FrameBad, IsPart}

-- An item in front of others, where there is one.
abbrev pub put : Option Item → List Item → List Item
put None items = items
put (Some item) items = item ∷ items

-- The frames, the first of them at this place, give these items, and leave this call unfinished.
unfoldable pub Runs : Side → ℕ → Option Call → List (List ℕ) → List Item → Option Call → Type 0
Runs side place before [] given left = (given ≡ []) × (left ≡ before)
Runs side place before (frame ∷ frames) given left =
    (part : Item) × (behind : Option Call) × (item : Option Item) × (more : List Item)
    × IsFrame frame × IsPart frame part × (taken side place before part ≡ goes_on behind item) × (given ≡ put item more)
    × Runs side (place + length frame) behind frames more left

-- These frames stand at the front of the stream; they give these items, leave this call unfinished,
-- and the rest lies behind them.
pub record Reads (side : Side) (stream : List ℕ) (frames : List (List ℕ)) (given : List Item) (left : Option Call) (rest : List ℕ) : Type 0 where
  pub whole : stream ≡ concat frames ++ rest
  pub runs : Runs side 0 no_call frames given left

-- A frame is no PDU, or is out of its place.
abbrev pub BadFrame : Side → ℕ → Option Call → List ℕ → IntakeFault → Type 0
BadFrame side place left frame fault =
    ((inner : PduFault) × FrameBad frame inner × (fault ≡ faults.Pdu place inner))
    ⊎ ((part : Item) × IsPart frame part × (taken side place left part ≡ Err fault))

-- The rest, at this place, begins with a frame that has this fault.
abbrev pub FaultAt : Side → ℕ → Option Call → List ℕ → IntakeFault → Type 0
FaultAt side place left rest fault =
    (TooShort rest × (fault ≡ faults.Pdu place pdu_faults.BadLength))
    ⊎ ((frame : List ℕ) × (more : List ℕ) × (rest ≡ frame ++ more) × IsFrame frame × BadFrame side place left frame fault)

-- Why there is no further item: the rest is no whole frame, or has the fault.
abbrev pub StopsBy : Side → ℕ → Option Call → List ℕ → Option IntakeFault → Type 0
StopsBy side place left rest None = Waits rest
StopsBy side place left rest (Some fault) = FaultAt side place left rest fault

-- All items of the stream before its fault, and that fault if it has one.
abbrev pub Items : Side → List ℕ → List Item → Option IntakeFault → Type 0
Items side stream given fault =
    (frames : List (List ℕ)) × (left : Option Call) × (rest : List ℕ)
    × Reads side stream frames given left rest × StopsBy side (length (concat frames)) left rest fault

-- How many bytes lie behind so many frames at the front of the stream, and how much of a stub they leave unfinished.
pub record Leave (side : Side) (stream : List ℕ) (frames : List (List ℕ)) (given : List Item) (unprocessed unfinished : ℕ) : Type 0 where
  pub left : Option Call
  pub rest : List ℕ
  pub reads : Reads side stream frames given left rest
  pub bytes : unprocessed ≡ length rest
  pub stub : unfinished ≡ stub_length left
