-- What a call of the decoder gave, unless memory ran out.
use Rattle.std.specs.Prelude.{◌≡◌, ℕ, ◌+◌, ◌<◌, ◌^◌, Result, Ok, Err}
use Rattle.update_records.specs.declared.fault.RecordFault.{RecordFault}
use Rattle.update_records.specs.declared.fault.RecordFault.TheVariants as inner
use Rattle.gum_messages.specs.declared.fault.MessageFault.{MessageFault}
use Rattle.gum_messages.specs.declared.fault.MessageFault.TheVariants.{Bad, Memory}

abbrev pub message_fault : RecordFault → MessageFault
message_fault (inner.Bad place) = Bad place
message_fault inner.Memory = Memory

-- The fault of a part that starts so far behind the message's first byte.
abbrev pub shifted : ℕ → RecordFault → RecordFault
shifted start (inner.Bad place) = inner.Bad (start + place)
shifted start inner.Memory = inner.Memory

-- Its place is one that a number of the machine can tell.
abbrev pub IsInReach : ℕ → RecordFault → Type 0
IsInReach start (inner.Bad place) = start + place < 2 ^ 64
IsInReach start inner.Memory = Unit {0}

abbrev pub FailsAt : {A : Type 0} → MessageFault → Result A ℕ → Type 0
FailsAt (Bad place) read = read ≡ Err place
FailsAt Memory read = Unit {0}

-- The value that all of the bytes encode.
abbrev pub Decodes : {X : Type 0} → Result X MessageFault → Result X ℕ → Type 0
Decodes (Ok x) read = read ≡ Ok x
Decodes (Err fault) read = FailsAt fault read
