-- Parameters that were read are spelled, and parameters that are spelled are read.
use Rattle.std.proofs.Common.{◌≡◌, ℕ, List, [], ◌∷◌, ◌++◌, length, drop, Some, Result, Ok, refl, sym, ◌∙◌, subst}
use Rattle.std.specs.Prelude.{Option, map}
use Rattle.std.proofs.lemmas.List.{drop_at}
use Rattle.wire_fields.specs.Numbers.{IsBytes}
use Rattle.wire_fields.specs.Reading.{Reading}
use Rattle.wire_fields.proofs.NumberLaws.{IsBytes-drop}
use Rattle.ndr_values.specs.declared.fault.NdrFault.{NdrFault}
use Rattle.ndr_values.specs.Reading.{◌>>=◌, byte_array, handle, number, pointer, string, time}
use Rattle.ndr_values.specs.Spelling.{Bytes, Handle, Number, Pointer, Reads, Text, Time, Value}
use Rattle.ndr_values.proofs.Steps.{bind_ok, ok_is}
use Rattle.ndr_values.proofs.StringLaws.{string_only, string_reads}
use Rattle.ndr_values.proofs.ValueLaws.{bytes_only, bytes_reads, handle_only, handle_reads, number_only, number_reads, pointer_only, pointer_reads, time_only, time_reads}
use Rattle.clusapi_stubs.specs.declared.input.In.{In}
use Rattle.clusapi_stubs.specs.declared.input.In.TheVariants.{CloseCluster, CloseKey, CreateKey, DeleteKey, DeleteValue, EnumKey, EnumValue, GetClusterName, GetRootKey, OpenCluster, OpenKey, QueryInfoKey, QueryValue, SetValue}
use Rattle.clusapi_stubs.specs.Inputs.{kinds_of, opnum_of, parameters}
use Rattle.clusapi_stubs.specs.Parameters.{call_of}
use Rattle.clusapi_stubs.specs.Kinds.{AHandle, ANumber, APointer, AText, ATime, AnArray, Kind, ReadsAll, value_at, values_at}

abbrev valued : Value → Reading → Result (Value × Reading) NdrFault
valued v s = Ok (v, s)

abbrev listed : Value → List Value → Reading → Result (List Value × Reading) NdrFault
listed first others s = Ok (first ∷ others, s)

abbrev with_value : {A : Type 0} → (A → Value) → Result (A × Reading) NdrFault → Result (Value × Reading) NdrFault
with_value value read = read >>= λ x. valued (value x.0) x.1

-- ---- a value

pub bytes_behind : (value : Value) (s t : Reading) → IsBytes s.left → Reads value s t → IsBytes t.left
bytes_behind value s t h r =
    let all : IsBytes (r.bytes ++ t.left) = subst (λ (left : List ℕ). IsBytes left) r.parts h in
    let behind : IsBytes (drop (length r.bytes) (r.bytes ++ t.left)) = IsBytes-drop (length r.bytes) (r.bytes ++ t.left) all in
    subst (λ (left : List ℕ). IsBytes left) (drop_at r.bytes t.left (length r.bytes) refl) behind

made : {A : Type 0} (value : A → Value) (read : Result (A × Reading) NdrFault) (s : Reading) (v : Value) (t : Reading)
    → ((a : A) (t : Reading) → read ≡ Ok (a, t) → Reads (value a) s t) → with_value value read ≡ Ok (v, t) → Reads v s t
made {A} value read s v t law e =
    let x = bind_ok read (λ x. valued (value x.0) x.1) (v, t) e in
    subst (λ (y : Value × Reading). Reads y.0 s y.1) (ok_is (value x.0.0, x.0.1) (v, t) x.2) (law x.0.0 x.0.1 x.1)

pub value_reads : (kind : Kind) (s : Reading) (v : Value) (t : Reading) → IsBytes s.left → value_at kind s ≡ Ok (v, t) → Reads v s t
value_reads AText s v t h e = made Text (string s) s v t (λ a u. string_reads s a u h) e
value_reads AnArray s v t h e = made Bytes (byte_array s) s v t (λ a u. bytes_reads s a u h) e
value_reads APointer s v t h e = made Pointer (pointer s) s v t (λ a u. pointer_reads s a u h) e
value_reads AHandle s v t h e = made Handle (handle s) s v t (λ a u. handle_reads s a u h) e
value_reads ANumber s v t h e = made Number (number s) s v t (λ a u. number_reads s a u h) e
value_reads ATime s v t h e = made Time (time s) s v t (λ a u. time_reads s a u h) e

abbrev pub kind_of : Value → Kind
kind_of (Text text) = AText
kind_of (Bytes bytes) = AnArray
kind_of (Pointer present) = APointer
kind_of (Handle handle) = AHandle
kind_of (Number number) = ANumber
kind_of (Time time) = ATime

pub value_only : (v : Value) (s t : Reading) → Reads v s t → value_at (kind_of v) s ≡ Ok (v, t)
value_only (Text text) s t r = rw (string_only s text t r) refl
value_only (Bytes bytes) s t r = rw (bytes_only s bytes t r) refl
value_only (Pointer present) s t r = rw (pointer_only s present t r) refl
value_only (Handle sent) s t r = rw (handle_only s sent t r) refl
value_only (Number n) s t r = rw (number_only s n t r) refl
value_only (Time value) s t r = rw (time_only s value t r) refl

-- ---- values in turn

pub values_read : (kinds : List Kind) (s : Reading) (vs : List Value) (t : Reading) → IsBytes s.left → values_at kinds s ≡ Ok (vs, t) → ReadsAll vs s t
values_read [] s vs t h e =
    let same : ([], s) ≡ (vs, t) = ok_is ([], s) (vs, t) e in
    subst (λ (y : List Value × Reading). ReadsAll y.0 s y.1) same refl
values_read (kind ∷ kinds) s vs t h e =
    let first = bind_ok (value_at kind s) (λ first. values_at kinds first.1 >>= λ others. listed first.0 others.0 others.1) (vs, t) e in
    let others = bind_ok (values_at kinds first.0.1) (λ others. listed first.0.0 others.0 others.1) (vs, t) first.2 in
    let here : Reads first.0.0 s first.0.1 = value_reads kind s first.0.0 first.0.1 h first.1 in
    let behind : ReadsAll others.0.0 first.0.1 others.0.1 = values_read kinds first.0.1 others.0.0 others.0.1 (bytes_behind first.0.0 s first.0.1 h here) others.1 in
    let whole : ReadsAll (first.0.0 ∷ others.0.0) s others.0.1 = (first.0.1, here, behind) in
    subst (λ (y : List Value × Reading). ReadsAll y.0 s y.1) (ok_is (first.0.0 ∷ others.0.0, others.0.1) (vs, t) others.2) whole

pub values_only : (vs : List Value) (s t : Reading) → ReadsAll vs s t → values_at (map kind_of vs) s ≡ Ok (vs, t)
values_only [] s t r = rw r refl
values_only (v ∷ vs) s t r =
    let first : value_at (kind_of v) s ≡ Ok (v, r.0) = value_only v s r.0 r.1 in
    let others : values_at (map kind_of vs) r.0 ≡ Ok (vs, t) = values_only vs r.0 t r.2 in
    rw (first, others) refl

-- ---- methods

-- A call is told by its operation number and its parameters.
pub one_call : (input : In) → call_of (opnum_of input) (parameters input) ≡ Some input
one_call OpenCluster = refl
one_call (CloseCluster handle) = refl
one_call GetClusterName = refl
one_call (GetRootKey sam) = refl
one_call (CreateKey handle subkey options sam security) = refl
one_call (OpenKey handle subkey sam) = refl
one_call (EnumKey handle index) = refl
one_call (SetValue handle name kind bytes cb_data) = refl
one_call (DeleteValue handle name) = refl
one_call (QueryValue handle name cb_data) = refl
one_call (DeleteKey handle subkey) = refl
one_call (EnumValue handle index cb_data) = refl
one_call (CloseKey handle) = refl
one_call (QueryInfoKey handle) = refl

pub one_input : (a b : In) → opnum_of a ≡ opnum_of b → parameters a ≡ parameters b → a ≡ b
one_input a b same_number same_values =
    let same : call_of (opnum_of a) (parameters a) ≡ call_of (opnum_of b) (parameters b) = rw (same_number, same_values) refl in
    both (call_of (opnum_of b) (parameters b)) (sym same ∙ one_call a) (one_call b)
  where
    both : (call : Option In) → call ≡ Some a → call ≡ Some b → a ≡ b
    both call p q = cc

pub kinds_are : (input : In) → kinds_of (opnum_of input) ≡ Some (map kind_of (parameters input))
kinds_are OpenCluster = refl
kinds_are (CloseCluster handle) = refl
kinds_are GetClusterName = refl
kinds_are (GetRootKey sam) = refl
kinds_are (CreateKey handle subkey options sam security) = refl
kinds_are (OpenKey handle subkey sam) = refl
kinds_are (EnumKey handle index) = refl
kinds_are (SetValue handle name kind bytes cb_data) = refl
kinds_are (DeleteValue handle name) = refl
kinds_are (QueryValue handle name cb_data) = refl
kinds_are (DeleteKey handle subkey) = refl
kinds_are (EnumValue handle index cb_data) = refl
kinds_are (CloseKey handle) = refl
kinds_are (QueryInfoKey handle) = refl
