-- Which stub has which parameters, and why one has none.
use Rattle.std.specs.Prelude.{◌≡◌, ◌⊎◌, ℕ, ◌-◌, false, List, Option, None, Some, Result, Ok, Err, IsTrue, if◌then◌else◌}
use Rattle.std.specs.Option.{option_map}
use Rattle.wire_fields.specs.declared.endian.Endian.{Endian}
use Rattle.wire_fields.specs.Reading.{Reading}
use Rattle.ndr_values.specs.declared.fault.NdrFault.{NdrFault}
use Rattle.ndr_values.specs.declared.fault.NdrFault.TheVariants.{BadCount}
use Rattle.ndr_values.specs.Spelling.{Value}
use Rattle.clusapi_stubs.specs.declared.fault.InFault.{InFault}
use Rattle.clusapi_stubs.specs.declared.fault.InFault.TheVariants.{Memory, Ndr, Opnum}
use Rattle.clusapi_stubs.specs.declared.input.In.{In}
use Rattle.clusapi_stubs.specs.Inputs.{kinds_of, opnum_of, parameters, size_fits}
use Rattle.clusapi_stubs.specs.Kinds.{ReadsAll, values_at}

abbrev pub start : Endian → List ℕ → Reading
start endian stub = record { endian = endian; place = 0; left = stub }

-- A prefix of the stub spells the parameters of the method with this number.
pub record Spells (opnum : ℕ) (endian : Endian) (stub : List ℕ) (input : In) (behind : Reading) : Type 0 where
  pub operation : opnum_of input ≡ opnum
  pub spelled : ReadsAll (parameters input) (start endian stub) behind

-- And its size fits.
pub record IsInput (opnum : ℕ) (endian : Endian) (stub : List ℕ) (input : In) : Type 0 where
  pub behind : Reading
  pub spells : Spells opnum endian stub input behind
  pub size : IsTrue (size_fits input)

-- The values of the method's parameters in turn, or the first fault; None where no method has the number.
abbrev pub values_in : ℕ → Reading → Option (Result (List Value × Reading) NdrFault)
values_in opnum s = option_map (λ kinds. values_at kinds s) (kinds_of opnum)

-- The size, which is the last parameter, doesn't fit.
pub record IsMissized (opnum : ℕ) (endian : Endian) (stub : List ℕ) (fault : NdrFault) : Type 0 where
  pub input : In
  pub behind : Reading
  pub spells : Spells opnum endian stub input behind
  pub size : size_fits input ≡ false
  pub place : fault ≡ BadCount (behind.place - 4)

-- The first field at fault.
abbrev pub NdrBad : ℕ → Endian → List ℕ → NdrFault → Type 0
NdrBad opnum endian stub fault = (values_in opnum (start endian stub) ≡ Some (Err fault)) ⊎ IsMissized opnum endian stub fault

abbrev pub InputBad : ℕ → Endian → List ℕ → InFault → Type 0
InputBad opnum endian stub Opnum = kinds_of opnum ≡ None
InputBad opnum endian stub (Ndr fault) = NdrBad opnum endian stub fault
InputBad opnum endian stub Memory = Unit {0}

-- The call gave these parameters, unless memory ran out.
abbrev pub GivesInput : Result In InFault → In → Type 0
GivesInput (Ok given) input = given ≡ input
GivesInput (Err Memory) input = Unit {0}
GivesInput (Err fault) input = ⊥

-- What a reader of parameters gave, before their size was tested.
abbrev pub TakesInput : ℕ → Result In InFault → Reading → Reading → Type 0
TakesInput opnum (Ok input) s now = (opnum_of input ≡ opnum) × (values_in opnum s ≡ Some (Ok (parameters input, now)))
TakesInput opnum (Err Opnum) s now = kinds_of opnum ≡ None
TakesInput opnum (Err (Ndr fault)) s now = values_in opnum s ≡ Some (Err fault)
TakesInput opnum (Err Memory) s now = Unit {0}

-- The parameters where their size fits. A size has 4 bytes, and nothing of the parameters is behind it.
abbrev pub sized : In → ℕ → Result In InFault
sized input behind = if size_fits input then Ok input else Err (Ndr (BadCount (behind - 4)))
