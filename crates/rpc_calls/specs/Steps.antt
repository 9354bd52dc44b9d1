-- What the parts of `next` do with one frame.
use Rattle.std.specs.Prelude.{◌≡◌, ◌≢◌, ℕ, ◌≤◌, ◌<◌, List, length, take, Option, Result, Ok, Err}
use Rattle.rpc_pdu.specs.declared.pdu_fault.PduFault.TheVariants as pdu_faults
use Rattle.rpc_calls.specs.declared.call.Call.{Call}
use Rattle.rpc_calls.specs.declared.fragments.Cut.{Cut}
use Rattle.rpc_calls.specs.declared.fragments.Cut.TheVariants as cuts
use Rattle.rpc_calls.specs.declared.intake_fault.IntakeFault.{IntakeFault}
use Rattle.rpc_calls.specs.declared.intake_fault.IntakeFault.TheVariants as faults
use Rattle.rpc_calls.specs.declared.item.Item.{Item}
use Rattle.rpc_calls.specs.declared.side.Side.{Side}
use Rattle.rpc_calls.specs.Assembly.{Outcome, goes_on, taken}
use Rattle.rpc_calls.specs.Frames.{IsFrame, TooShort, Waits}
use Rattle.rpc_calls.specs.Intakes.{IsLasting}
use Rattle.rpc_calls.specs.Parts.{FrameBad, IsPart}
use Rattle.rpc_calls.specs.Streams.{BadFrame}

-- What lies at the front of some bytes. Too few for a frame are fewer than the longest has.
abbrev pub CutIs : Cut → List ℕ → Type 0
CutIs cuts.Waits bytes = Waits bytes × (length bytes < 65536)
CutIs cuts.TooShort bytes = TooShort bytes
CutIs (cuts.Frame size) bytes = (size ≤ length bytes) × IsFrame (take size bytes)

-- What a frame at this place stands for, or why for nothing.
abbrev pub PartIs : Result Item IntakeFault → ℕ → List ℕ → Type 0
PartIs (Ok part) place frame = IsPart frame part
PartIs (Err (faults.Pdu at inner)) place frame = (at ≡ place) × FrameBad frame inner × (inner ≢ pdu_faults.Memory)
PartIs (Err faults.Memory) place frame = Unit {0}
PartIs (Err fault) place frame = ⊥

-- What a part did to the unfinished call, and the item that it gave.
abbrev pub Does : Result (Option Item) IntakeFault → Outcome → Option Call → Option Call → Type 0
Does (Ok item) outcome old new = outcome ≡ goes_on new item
Does (Err faults.Memory) outcome old new = new ≡ old
Does (Err (faults.Pdu at inner)) outcome old new = ⊥
Does (Err fault) outcome old new = (outcome ≡ Err fault) × (new ≡ old)

-- The same of a frame.
abbrev pub FrameDoes : Result (Option Item) IntakeFault → Side → ℕ → Option Call → Option Call → List ℕ → Type 0
FrameDoes (Ok item) side place old new frame = (part : Item) × IsPart frame part × (taken side place old part ≡ goes_on new item)
FrameDoes (Err faults.Memory) side place old new frame = new ≡ old
FrameDoes (Err fault) side place old new frame = BadFrame side place old frame fault × IsLasting fault × (new ≡ old)
