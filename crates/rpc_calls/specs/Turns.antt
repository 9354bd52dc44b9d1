-- What one turn of `next` does to an intake.
use Rattle.std.specs.Prelude.{◌≡◌, ℕ, ◌+◌, ◌<◌, List, ◌++◌, length, Option, Some, Result, Ok, Err}
use Rattle.rpc_calls.specs.declared.intake_fault.IntakeFault.{IntakeFault}
use Rattle.rpc_calls.specs.declared.intake_fault.IntakeFault.TheVariants as faults
use Rattle.rpc_calls.specs.declared.item.Item.{Item}
use Rattle.rpc_calls.specs.declared.turn.Turn.{Turn}
use Rattle.rpc_calls.specs.declared.turn.Turn.TheVariants as turns
use Rattle.rpc_calls.specs.Assembly.{goes_on, stub_length, taken}
use Rattle.rpc_calls.specs.Frames.{IsFrame, Waits}
use Rattle.rpc_calls.specs.Intakes.{IsLasting, Kept, no_fault}
use Rattle.rpc_calls.specs.Parts.{IsPart}
use Rattle.rpc_calls.specs.Streams.{FaultAt}

-- Both numbers tell where the intake stands.
abbrev pub reported : Kept → Kept
reported kept = record {
  side = kept.side;
  rest = kept.rest;
  left = kept.left;
  place = kept.place;
  last_place = kept.last_place;
  fault = kept.fault;
  unprocessed = length kept.rest;
  unfinished = stub_length kept.left;
}

-- The intake keeps a fault of its stream, but not that memory ran out.
abbrev pub refused : Kept → IntakeFault → Kept
refused kept faults.Memory = kept
refused kept fault = record {
  side = kept.side;
  rest = kept.rest;
  left = kept.left;
  place = kept.place;
  last_place = kept.last_place;
  fault = Some fault;
  unprocessed = length kept.rest;
  unfinished = stub_length kept.left;
}

-- One frame was taken.
pub record Goes (old new : Kept) (item : Option Item) : Type 0 where
  pub frame : List ℕ
  pub part : Item
  pub is : IsFrame frame
  pub cut : old.rest ≡ frame ++ new.rest
  pub stands : IsPart frame part
  pub does : taken old.side old.place old.left part ≡ goes_on new.left item
  pub side : new.side ≡ old.side
  pub place : new.place ≡ old.place + length frame
  pub last_place : new.last_place ≡ old.place
  pub healthy : new.fault ≡ no_fault
  pub numbers : (new.unprocessed ≡ old.unprocessed) × (new.unfinished ≡ old.unfinished)

abbrev pub MayStand : Kept → IntakeFault → Type 0
MayStand kept faults.Memory = Unit {0}
MayStand kept fault = IsLasting fault × FaultAt kept.side kept.place kept.left kept.rest fault

abbrev pub TurnIs : Result Turn IntakeFault → Kept → Kept → Type 0
TurnIs (Ok turns.Waits) old new = (new ≡ old) × Waits old.rest × (length old.rest < 65536)
TurnIs (Ok (turns.Went item)) old new = Goes old new item
TurnIs (Err fault) old new = MayStand old fault × (new ≡ refused old fault)
