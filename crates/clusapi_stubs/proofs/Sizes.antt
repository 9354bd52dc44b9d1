-- What a reader of parameters took, and their size, decide what the stub spells.
use Rattle.std.proofs.Common.{◌≡◌, ℕ, ◌-◌, Bool, true, false, List, Option, None, Some, Result, Ok, Err, IfOk, inr, refl, sym, ap, ◌∙◌, subst}
use Rattle.std.specs.Prelude.{IfErr, if◌then◌else◌, map}
use Rattle.std.specs.Option.{option_map}
use Rattle.wire_fields.specs.declared.endian.Endian.{Endian}
use Rattle.wire_fields.specs.Numbers.{IsBytes}
use Rattle.wire_fields.specs.Reading.{Reading}
use Rattle.ndr_values.specs.declared.fault.NdrFault.{NdrFault}
use Rattle.ndr_values.specs.declared.fault.NdrFault.TheVariants.{BadCount}
use Rattle.ndr_values.specs.Spelling.{Value}
use Rattle.clusapi_stubs.specs.declared.fault.InFault.{InFault}
use Rattle.clusapi_stubs.specs.declared.fault.InFault.TheVariants.{Memory, Ndr, Opnum}
use Rattle.clusapi_stubs.specs.declared.input.In.{In}
use Rattle.clusapi_stubs.specs.Grammar.{GivesInput, InputBad, IsInput, Spells, TakesInput, sized, start, values_in}
use Rattle.clusapi_stubs.specs.Inputs.{LackZero, kinds_of, parameters, size_fits}
use Rattle.clusapi_stubs.specs.Kinds.{Kind, values_at}
use Rattle.clusapi_stubs.specs.Parameters.{IsReadAs, call_of, input_in}
use Rattle.clusapi_stubs.proofs.TextLaws.{lack_zero}
use Rattle.clusapi_stubs.proofs.InputLaws.{kind_of, kinds_are, one_call, one_input, values_only, values_read}

abbrev Read : Type 0
Read = Result (List Value × Reading) NdrFault

abbrev gave : List Value → Reading → Option Read
gave vs now = Some (Ok (vs, now))

abbrev failed : NdrFault → Option Read
failed fault = Some (Err fault)

kinds_there : (kinds : Option (List Kind)) (s : Reading) (vs : List Value) (now : Reading) → option_map (λ kinds. values_at kinds s) kinds ≡ gave vs now
    → (some : List Kind) × (values_at some s ≡ Ok (vs, now))
kinds_there None s vs now e = absurd cc
kinds_there (Some kinds) s vs now e = (kinds, cc)

spelled : (opnum : ℕ) (e : Endian) (stub : List ℕ) (input : In) (now : Reading) → IsBytes stub → TakesInput opnum (Ok input) (start e stub) now → Spells opnum e stub input now
spelled opnum e stub input now h took =
    let kinds = kinds_there (kinds_of opnum) (start e stub) (parameters input) now took.1 in
    record { operation = took.0; spelled = values_read kinds.0 (start e stub) (parameters input) now h kinds.1 }

-- The parameters that the stub spells are those that are read.
reads : (opnum : ℕ) (e : Endian) (stub : List ℕ) (input : In) (now : Reading) → Spells opnum e stub input now → values_in opnum (start e stub) ≡ gave (parameters input) now
reads opnum e stub input now is =
    let kinds : kinds_of opnum ≡ Some (map kind_of (parameters input)) = subst (λ (n : ℕ). kinds_of n ≡ Some (map kind_of (parameters input))) is.operation (kinds_are input) in
    rw (kinds, values_only (parameters input) (start e stub) now is.spelled) refl

abbrev both : List Value → Reading → List Value × Reading
both vs s = (vs, s)

same_given : (vs ws : List Value) (s t : Reading) (read : Option Read) → read ≡ gave vs s → read ≡ gave ws t → vs ≡ ws
same_given vs ws s t read a b =
    let one : both vs s ≡ both ws t = cc in
    ap (λ (p : List Value × Reading). p.0) one

same : (opnum : ℕ) (e : Endian) (stub : List ℕ) (input other : In) (now behind : Reading) → TakesInput opnum (Ok input) (start e stub) now → Spells opnum e stub other behind → input ≡ other
same opnum e stub input other now behind took is =
    one_input input other (took.0 ∙ sym is.operation)
    (same_given (parameters input) (parameters other) now behind (values_in opnum (start e stub)) took.1 (reads opnum e stub other behind is))

pub refused : (opnum : ℕ) (e : Endian) (stub : List ℕ) (fault : InFault) (now : Reading) → TakesInput opnum (Err fault) (start e stub) now → (input : In) → IsInput opnum e stub input
    → GivesInput (Err fault) input
refused opnum e stub Opnum now took input is =
    let kinds : kinds_of opnum ≡ Some (map kind_of (parameters input)) = subst (λ (n : ℕ). kinds_of n ≡ Some (map kind_of (parameters input))) is.spells.operation (kinds_are input) in
    absurd (cc (took, kinds))
refused opnum e stub (Ndr fault) now took input is =
    let read : values_in opnum (start e stub) ≡ gave (parameters input) is.behind = reads opnum e stub input is.behind is.spells in
    absurd (cc (took, read))
refused opnum e stub Memory now took input is = tt

-- ---- the size

abbrev sized_by : Bool → In → ℕ → Result In InFault
sized_by fits input place = if fits then Ok input else Err (Ndr (BadCount place))

found_by : (fits : Bool) (opnum : ℕ) (e : Endian) (stub : List ℕ) (input : In) (now : Reading) → size_fits input ≡ fits → Spells opnum e stub input now
    → IfOk (sized_by fits input (now.place - 4)) (λ given. IsInput opnum e stub given)
found_by true opnum e stub input now size is = record { behind = now; spells = is; size = size }
found_by false opnum e stub input now size is = tt

fault_by : (fits : Bool) (opnum : ℕ) (e : Endian) (stub : List ℕ) (input : In) (now : Reading) → size_fits input ≡ fits → Spells opnum e stub input now
    → IfErr (sized_by fits input (now.place - 4)) (λ fault. InputBad opnum e stub fault)
fault_by true opnum e stub input now size is = tt
fault_by false opnum e stub input now size is = inr (record { input = input; behind = now; spells = is; size = size; place = refl })

only_by : (fits : Bool) (input other : In) (place : ℕ) → size_fits input ≡ fits → input ≡ other → size_fits other ≡ true → GivesInput (sized_by fits input place) other
only_by true input other place size is fits = is
only_by false input other place size is fits = absurd (cc (size, is, fits))

texts_by : (fits : Bool) (input : In) (place : ℕ) → LackZero input → IfOk (sized_by fits input place) LackZero
texts_by true input place lack = lack
texts_by false input place lack = tt

pub texts : (opnum : ℕ) (e : Endian) (stub : List ℕ) (input : In) (now : Reading) → IsBytes stub → TakesInput opnum (Ok input) (start e stub) now → IfOk (sized input now.place) LackZero
texts opnum e stub input now h took =
    texts_by (size_fits input) input (now.place - 4) (lack_zero input (start e stub) now (spelled opnum e stub input now h took).spelled)

pub found : (opnum : ℕ) (e : Endian) (stub : List ℕ) (input : In) (now : Reading) → IsBytes stub → TakesInput opnum (Ok input) (start e stub) now
    → IfOk (sized input now.place) (λ given. IsInput opnum e stub given)
found opnum e stub input now h took = found_by (size_fits input) opnum e stub input now refl (spelled opnum e stub input now h took)

pub fault : (opnum : ℕ) (e : Endian) (stub : List ℕ) (input : In) (now : Reading) → IsBytes stub → TakesInput opnum (Ok input) (start e stub) now
    → IfErr (sized input now.place) (λ fault. InputBad opnum e stub fault)
fault opnum e stub input now h took = fault_by (size_fits input) opnum e stub input now refl (spelled opnum e stub input now h took)

pub only : (opnum : ℕ) (e : Endian) (stub : List ℕ) (input : In) (now : Reading) → TakesInput opnum (Ok input) (start e stub) now → (other : In) → IsInput opnum e stub other
    → GivesInput (sized input now.place) other
only opnum e stub input now took other is =
    only_by (size_fits input) input other (now.place - 4) refl (same opnum e stub input other now is.behind took is.spells) is.size

-- ---- the table read backwards

pub is_read : (result expected : Result In InFault) → result ≡ expected → IsReadAs result expected
is_read (Ok input) expected is = is
is_read (Err Opnum) expected is = is
is_read (Err (Ndr fault)) expected is = is
is_read (Err Memory) expected is = tt

pub reads_sized : (opnum : ℕ) (e : Endian) (stub : List ℕ) (input : In) (now : Reading) → TakesInput opnum (Ok input) (start e stub) now → IsReadAs (sized input now.place) (input_in opnum e stub)
reads_sized opnum e stub input now took =
    let call : call_of opnum (parameters input) ≡ Some input = subst (λ (n : ℕ). call_of n (parameters input) ≡ Some input) took.0 (one_call input) in
    let same : sized input now.place ≡ input_in opnum e stub = rw (took.1, call) refl in
    is_read (sized input now.place) (input_in opnum e stub) same

pub reads_fault : (opnum : ℕ) (e : Endian) (stub : List ℕ) (fault : InFault) (now : Reading) → TakesInput opnum (Err fault) (start e stub) now → IsReadAs (Err fault) (input_in opnum e stub)
reads_fault opnum e stub Opnum now took = rw took refl
reads_fault opnum e stub (Ndr fault) now took = rw took refl
reads_fault opnum e stub Memory now took = tt
