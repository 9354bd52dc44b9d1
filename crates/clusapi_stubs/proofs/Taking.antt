-- What a reader gave, from what it found and the fault that it told.
use Rattle.std.proofs.Common.{◌≡◌, Result, Ok, Err, IfOk}
use Rattle.std.specs.Prelude.{IfErr}
use Rattle.wire_fields.specs.Reading.{Reading}
use Rattle.ndr_values.specs.declared.fault.NdrFault.{NdrFault}
use Rattle.ndr_values.specs.Reading.{Takes}

pub taken : {X Y : Type 0} (view : X → Y) (P : Y → Type 0) (read : Result (Y × Reading) NdrFault) (now : Reading) → ((y : Y) → P y → read ≡ Ok (y, now))
    → (result : Result X NdrFault) → IfOk result (λ x. P (view x)) → IfErr result (λ fault. read ≡ Err fault) → Takes view result read now
taken view P read now only (Ok x) found fault = only (view x) found
taken view P read now only (Err e) found fault = fault
