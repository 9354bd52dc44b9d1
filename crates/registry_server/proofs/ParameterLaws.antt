-- The parameters that are read of a stub are those that it gives, and what is planned for them is short.
use Rattle.std.proofs.Common.{◌≡◌, ℕ, Result, Ok, Err, IfOk, ap}
use Rattle.std.specs.Prelude.{IsTrue}
use Rattle.clusapi_stubs.specs.declared.fault.InFault.{InFault}
use Rattle.clusapi_stubs.specs.declared.fault.InFault.TheVariants.{Memory, Ndr, Opnum}
use Rattle.clusapi_stubs.specs.declared.input.In.{In}
use Rattle.clusapi_stubs.specs.Inputs.{size_fits}
use Rattle.clusapi_stubs.specs.Parameters.{IsReadAs}
use Rattle.clusapi_methods.specs.declared.planned.Planned.{Planned}
use Rattle.clusapi_methods.specs.declared.planned.Planned.TheVariants.{Answer, Close, Fault, Open, Send}
use Rattle.clusapi_methods.specs.Sizes.{IsShortFor}
use Rattle.registry_server.specs.Calls.{PlansShort}
use Rattle.registry_server.specs.Parameters.{IsFaultOf, or_status}

abbrev given : In → Result In ℕ
given input = Ok input

pub found : (input : In) (read : Result In InFault) → IsReadAs (Ok input) read → given input ≡ or_status read
found input read same = ap or_status same

-- The status of a fault is that of the stub.
fault_is : (fault : InFault) (read : Result In InFault) (input : Result In ℕ) → IsReadAs (Err fault) read → IsFaultOf fault input → input ≡ or_status read
fault_is fault read (Ok input) same is = absurd is
fault_is Opnum read (Err status) same is = let number : status ≡ 0x1C010002 = cc in rw number (ap or_status same)
fault_is (Ndr fault) read (Err status) same is = let number : status ≡ 1783 = cc in rw number (ap or_status same)
fault_is Memory read (Err status) same is = absurd (cc is)

pub faults : {E : Type 0} (fault : InFault) (read : Result In InFault) (result : Result (Result In ℕ) E) → IsReadAs (Err fault) read → IfOk result (IsFaultOf fault)
    → IfOk result (λ input. input ≡ or_status read)
faults fault read (Ok input) same is = fault_is fault read input same is
faults fault read (Err e) same is = tt

pub plans_short : (input : In) (planned : Planned) → IsTrue (size_fits input) → IsShortFor input planned → PlansShort planned
plans_short input (Answer out reads) fits short = short fits
plans_short input (Open opnum held reads) fits short = tt
plans_short input (Close opnum handle) fits short = tt
plans_short input (Send update) fits short = tt
plans_short input (Fault status) fits short = tt
