-- The parameters of a call.
use Rattle.std.specs.Prelude.{◌≡◌, ℕ, Some, Result, Ok, Err, IsTrue}
use Rattle.clusapi_stubs.specs.declared.fault.InFault.{InFault}
use Rattle.clusapi_stubs.specs.declared.input.In.{In}
use Rattle.clusapi_stubs.specs.Inputs.{size_fits}
use Rattle.clusapi_methods.specs.Calls.{TextLacksZero, fault_status, stub_status}

-- The parameters, or the status of the fault where the stub doesn't give them.
abbrev pub or_status : Result In InFault → Result In ℕ
or_status (Ok input) = Ok input
or_status (Err fault) = Err (stub_status fault)

-- The text of a call that was read has no unit 0, and its size fits.
abbrev pub IsRead : Result In ℕ → Type 0
IsRead (Ok input) = TextLacksZero input
IsRead (Err status) = Unit {0}

abbrev pub IsSized : Result In ℕ → Type 0
IsSized (Ok input) = IsTrue (size_fits input)
IsSized (Err status) = Unit {0}

-- The fault says why there are no parameters.
abbrev pub IsFaultOf : InFault → Result In ℕ → Type 0
IsFaultOf fault (Ok input) = ⊥
IsFaultOf fault (Err status) = fault_status fault ≡ Some status
