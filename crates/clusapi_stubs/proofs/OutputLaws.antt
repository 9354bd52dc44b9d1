-- Results that were read are spelled, and results that are spelled are read.
use Rattle.std.proofs.Common.{◌≡◌, ℕ, Bool, true, false, List, [], ◌∷◌, Option, None, Some, Result, Ok, Err, IfOk, refl, sym, ap, ◌∙◌, subst}
use Rattle.std.specs.Prelude.{IfErr, map}
use Rattle.std.specs.Option.{option_map}
use Rattle.wire_fields.specs.declared.endian.Endian.{Endian}
use Rattle.wire_fields.specs.Numbers.{IsBytes}
use Rattle.wire_fields.specs.Reading.{Reading}
use Rattle.ndr_values.specs.declared.fault.NdrFault.{NdrFault}
use Rattle.ndr_values.specs.Reading.{◌>>=◌, pointer, string}
use Rattle.ndr_values.specs.Spelling.{Pointer, Reads, Text, Value}
use Rattle.ndr_values.proofs.Steps.{bind_ok, ok_is}
use Rattle.ndr_values.proofs.StringLaws.{string_only, string_reads}
use Rattle.ndr_values.proofs.ValueLaws.{pointer_only, pointer_reads}
use Rattle.clusapi_stubs.specs.declared.fault.InFault.{InFault}
use Rattle.clusapi_stubs.specs.declared.fault.InFault.TheVariants.{Memory, Ndr, Opnum}
use Rattle.clusapi_stubs.specs.declared.output.Out.{Out}
use Rattle.clusapi_stubs.specs.declared.output.Out.TheVariants.{CloseCluster, CloseKey, CreateKey, DeleteKey, DeleteValue, EnumKey, EnumValue, GetClusterName, GetRootKey, OpenCluster, OpenKey, QueryInfoKey, QueryValue, SetValue}
use Rattle.clusapi_stubs.specs.Grammar.{start}
use Rattle.clusapi_stubs.specs.Kinds.{value_at}
use Rattle.clusapi_stubs.specs.Results.{APlain, ATarget, AreGiven, Given, GivenKind, GivesOutput, IsGiven, IsOutput, IsReadAsOutput, OutputBad, Plain, Pointed, TakesOutput, TargetLacksZero, TextsLackZero, all_given_at, given_at, given_by, given_in, method_of, output_in, output_of, result_kinds_of, target, target_at}
use Rattle.clusapi_stubs.proofs.InputLaws.{bytes_behind, kind_of, value_only, value_reads}
use Rattle.clusapi_stubs.proofs.TextLaws.{text_lacks_zero}

abbrev plain : Value → Reading → Result (Given × Reading) NdrFault
plain value s = Ok (Plain value, s)

abbrev pointed : Option (List ℕ) → Reading → Result (Given × Reading) NdrFault
pointed text s = Ok (Pointed text, s)

abbrev found_text : List ℕ → Reading → Result (Option (List ℕ) × Reading) NdrFault
found_text text s = Ok (Some text, s)

abbrev listed : Given → List Given → Reading → Result (List Given × Reading) NdrFault
listed first others s = Ok (first ∷ others, s)

abbrev text_and : Option (List ℕ) → Reading → Option (List ℕ) × Reading
text_and text s = (text, s)

-- ---- a result

text_reads : (present : Bool) (s next : Reading) (text : Option (List ℕ)) (t : Reading) → IsBytes next.left → Reads (Pointer present) s next → target_at present next ≡ Ok (text, t)
    → IsGiven (Pointed text) s t
text_reads false s next text t h r e = subst (λ (y : Option (List ℕ) × Reading). IsGiven (Pointed y.0) s y.1) (ok_is (text_and None next) (text, t) e) r
text_reads true s next text t h r e =
    let x = bind_ok (string next) (λ found. found_text found.0 found.1) (text, t) e in
    let whole : IsGiven (Pointed (Some x.0.0)) s x.0.1 = (next, r, string_reads next x.0.0 x.0.1 h x.1) in
    subst (λ (y : Option (List ℕ) × Reading). IsGiven (Pointed y.0) s y.1) (ok_is (text_and (Some x.0.0) x.0.1) (text, t) x.2) whole

target_reads : (s : Reading) (text : Option (List ℕ)) (t : Reading) → IsBytes s.left → target s ≡ Ok (text, t) → IsGiven (Pointed text) s t
target_reads s text t h e =
    let x = bind_ok (pointer s) (λ present. target_at present.0 present.1) (text, t) e in
    let is : Reads (Pointer x.0.0) s x.0.1 = pointer_reads s x.0.0 x.0.1 h x.1 in
    text_reads x.0.0 s x.0.1 text t (bytes_behind (Pointer x.0.0) s x.0.1 h is) is x.2

given_reads : (kind : GivenKind) (s : Reading) (given : Given) (t : Reading) → IsBytes s.left → given_at kind s ≡ Ok (given, t) → IsGiven given s t
given_reads (APlain kind) s given t h e =
    let x = bind_ok (value_at kind s) (λ value. plain value.0 value.1) (given, t) e in
    subst (λ (y : Given × Reading). IsGiven y.0 s y.1) (ok_is (Plain x.0.0, x.0.1) (given, t) x.2) (value_reads kind s x.0.0 x.0.1 h x.1)
given_reads ATarget s given t h e =
    let x = bind_ok (target s) (λ text. pointed text.0 text.1) (given, t) e in
    subst (λ (y : Given × Reading). IsGiven y.0 s y.1) (ok_is (Pointed x.0.0, x.0.1) (given, t) x.2) (target_reads s x.0.0 x.0.1 h x.1)

abbrev pub given_kind : Given → GivenKind
given_kind (Plain value) = APlain (kind_of value)
given_kind (Pointed text) = ATarget

given_only : (given : Given) (s t : Reading) → IsGiven given s t → given_at (given_kind given) s ≡ Ok (given, t)
given_only (Plain value) s t r = rw (value_only value s t r) refl
given_only (Pointed None) s t r = rw (pointer_only s false t r) refl
given_only (Pointed (Some text)) s t r = rw (pointer_only s true r.0 r.1, string_only r.0 text t r.2) refl

given_bytes : (given : Given) (s t : Reading) → IsBytes s.left → IsGiven given s t → IsBytes t.left
given_bytes (Plain value) s t h r = bytes_behind value s t h r
given_bytes (Pointed None) s t h r = bytes_behind (Pointer false) s t h r
given_bytes (Pointed (Some text)) s t h r = bytes_behind (Text text) r.0 t (bytes_behind (Pointer true) s r.0 h r.1) r.2

-- ---- results in turn

all_given_read : (kinds : List GivenKind) (s : Reading) (all : List Given) (t : Reading) → IsBytes s.left → all_given_at kinds s ≡ Ok (all, t) → AreGiven all s t
all_given_read [] s all t h e =
    let same : ([], s) ≡ (all, t) = ok_is ([], s) (all, t) e in
    subst (λ (y : List Given × Reading). AreGiven y.0 s y.1) same refl
all_given_read (kind ∷ kinds) s all t h e =
    let first = bind_ok (given_at kind s) (λ first. all_given_at kinds first.1 >>= λ others. listed first.0 others.0 others.1) (all, t) e in
    let others = bind_ok (all_given_at kinds first.0.1) (λ others. listed first.0.0 others.0 others.1) (all, t) first.2 in
    let here : IsGiven first.0.0 s first.0.1 = given_reads kind s first.0.0 first.0.1 h first.1 in
    let behind : AreGiven others.0.0 first.0.1 others.0.1 = all_given_read kinds first.0.1 others.0.0 others.0.1 (given_bytes first.0.0 s first.0.1 h here) others.1 in
    let whole : AreGiven (first.0.0 ∷ others.0.0) s others.0.1 = (first.0.1, here, behind) in
    subst (λ (y : List Given × Reading). AreGiven y.0 s y.1) (ok_is (first.0.0 ∷ others.0.0, others.0.1) (all, t) others.2) whole

all_given_only : (all : List Given) (s t : Reading) → AreGiven all s t → all_given_at (map given_kind all) s ≡ Ok (all, t)
all_given_only [] s t r = rw r refl
all_given_only (given ∷ all) s t r =
    let first : given_at (given_kind given) s ≡ Ok (given, r.0) = given_only given s r.0 r.1 in
    let others : all_given_at (map given_kind all) r.0 ≡ Ok (all, t) = all_given_only all r.0 t r.2 in
    rw (first, others) refl

-- ---- methods

-- Results are told by the operation number and their values.
one_output_of : (out : Out) → output_of (method_of out) (given_by out) ≡ Some out
one_output_of (OpenCluster status handle) = refl
one_output_of (CloseCluster handle status) = refl
one_output_of (GetClusterName cluster member status) = refl
one_output_of (GetRootKey status rpc_status handle) = refl
one_output_of (CreateKey disposition status rpc_status handle) = refl
one_output_of (OpenKey status rpc_status handle) = refl
one_output_of (EnumKey name written rpc_status status) = refl
one_output_of (SetValue rpc_status status) = refl
one_output_of (DeleteValue rpc_status status) = refl
one_output_of (QueryValue kind bytes required rpc_status status) = refl
one_output_of (DeleteKey rpc_status status) = refl
one_output_of (EnumValue name kind bytes cb_data total rpc_status status) = refl
one_output_of (CloseKey handle status) = refl
one_output_of (QueryInfoKey subkeys longest_subkey values longest_name longest_data security written rpc_status status) = refl

one_output : (a b : Out) → method_of a ≡ method_of b → given_by a ≡ given_by b → a ≡ b
one_output a b same_number same_values =
    let same : output_of (method_of a) (given_by a) ≡ output_of (method_of b) (given_by b) = rw (same_number, same_values) refl in
    both (output_of (method_of b) (given_by b)) (sym same ∙ one_output_of a) (one_output_of b)
  where
    both : (found : Option Out) → found ≡ Some a → found ≡ Some b → a ≡ b
    both found p q = cc

result_kinds_are : (out : Out) → result_kinds_of (method_of out) ≡ Some (map given_kind (given_by out))
result_kinds_are (OpenCluster status handle) = refl
result_kinds_are (CloseCluster handle status) = refl
result_kinds_are (GetClusterName cluster member status) = refl
result_kinds_are (GetRootKey status rpc_status handle) = refl
result_kinds_are (CreateKey disposition status rpc_status handle) = refl
result_kinds_are (OpenKey status rpc_status handle) = refl
result_kinds_are (EnumKey name written rpc_status status) = refl
result_kinds_are (SetValue rpc_status status) = refl
result_kinds_are (DeleteValue rpc_status status) = refl
result_kinds_are (QueryValue kind bytes required rpc_status status) = refl
result_kinds_are (DeleteKey rpc_status status) = refl
result_kinds_are (EnumValue name kind bytes cb_data total rpc_status status) = refl
result_kinds_are (CloseKey handle status) = refl
result_kinds_are (QueryInfoKey subkeys longest_subkey values longest_name longest_data security written rpc_status status) = refl

-- ---- what a stub gives

abbrev Read : Type 0
Read = Result (List Given × Reading) NdrFault

abbrev gave : List Given → Reading → Option Read
gave given now = Some (Ok (given, now))

kinds_there : (kinds : Option (List GivenKind)) (s : Reading) (given : List Given) (now : Reading) → option_map (λ kinds. all_given_at kinds s) kinds ≡ gave given now
    → (some : List GivenKind) × (all_given_at some s ≡ Ok (given, now))
kinds_there None s given now e = absurd cc
kinds_there (Some kinds) s given now e = (kinds, cc)

spelled : (opnum : ℕ) (e : Endian) (stub : List ℕ) (out : Out) (now : Reading) → IsBytes stub → TakesOutput opnum (Ok out) (start e stub) now → AreGiven (given_by out) (start e stub) now
spelled opnum e stub out now h took =
    let kinds = kinds_there (result_kinds_of opnum) (start e stub) (given_by out) now took.1 in
    all_given_read kinds.0 (start e stub) (given_by out) now h kinds.1

-- The results that the stub spells are those that are read.
reads : (opnum : ℕ) (e : Endian) (stub : List ℕ) (out : Out) (is : IsOutput opnum e stub out) → given_in opnum (start e stub) ≡ gave (given_by out) is.behind
reads opnum e stub out is =
    let kinds : result_kinds_of opnum ≡ Some (map given_kind (given_by out)) = subst (λ (n : ℕ). result_kinds_of n ≡ Some (map given_kind (given_by out))) is.operation (result_kinds_are out) in
    rw (kinds, all_given_only (given_by out) (start e stub) is.behind is.spelled) refl

abbrev both : List Given → Reading → List Given × Reading
both given s = (given, s)

same_given : (one other : List Given) (s t : Reading) (read : Option Read) → read ≡ gave one s → read ≡ gave other t → one ≡ other
same_given one other s t read a b =
    let same : both one s ≡ both other t = cc in
    ap (λ (p : List Given × Reading). p.0) same

pub found : (opnum : ℕ) (e : Endian) (stub : List ℕ) (result : Result Out InFault) (now : Reading) → IsBytes stub → TakesOutput opnum result (start e stub) now
    → IfOk result (λ out. IsOutput opnum e stub out)
found opnum e stub (Ok out) now h took = record { operation = took.0; behind = now; spelled = spelled opnum e stub out now h took }
found opnum e stub (Err why) now h took = tt

pub fault : (opnum : ℕ) (e : Endian) (stub : List ℕ) (result : Result Out InFault) (now : Reading) → TakesOutput opnum result (start e stub) now
    → IfErr result (λ why. OutputBad opnum e stub why)
fault opnum e stub (Ok out) now took = tt
fault opnum e stub (Err Opnum) now took = took
fault opnum e stub (Err (Ndr why)) now took = took
fault opnum e stub (Err Memory) now took = tt

pub only : (opnum : ℕ) (e : Endian) (stub : List ℕ) (result : Result Out InFault) (now : Reading) → TakesOutput opnum result (start e stub) now → (out : Out) → IsOutput opnum e stub out
    → GivesOutput result out
only opnum e stub (Ok given) now took out is =
    one_output given out (took.0 ∙ sym is.operation) (same_given (given_by given) (given_by out) now is.behind (given_in opnum (start e stub)) took.1 (reads opnum e stub out is))
only opnum e stub (Err Opnum) now took out is =
    let kinds : result_kinds_of opnum ≡ Some (map given_kind (given_by out)) = subst (λ (n : ℕ). result_kinds_of n ≡ Some (map given_kind (given_by out))) is.operation (result_kinds_are out) in
    absurd (cc (took, kinds))
only opnum e stub (Err (Ndr why)) now took out is =
    let read : given_in opnum (start e stub) ≡ gave (given_by out) is.behind = reads opnum e stub out is in
    absurd (cc (took, read))
only opnum e stub (Err Memory) now took out is = tt

pub is_read : (opnum : ℕ) (e : Endian) (stub : List ℕ) (result : Result Out InFault) (now : Reading) → TakesOutput opnum result (start e stub) now → IsReadAsOutput result (output_in opnum e stub)
is_read opnum e stub (Ok out) now took =
    let known : output_of opnum (given_by out) ≡ Some out = subst (λ (n : ℕ). output_of n (given_by out) ≡ Some out) took.0 (one_output_of out) in
    rw (took.1, known) refl
is_read opnum e stub (Err Opnum) now took = rw took refl
is_read opnum e stub (Err (Ndr why)) now took = rw took refl
is_read opnum e stub (Err Memory) now took = tt

-- ---- texts

target_lacks_zero : (text : Option (List ℕ)) (s t : Reading) → IsGiven (Pointed text) s t → TargetLacksZero text
target_lacks_zero None s t r = tt
target_lacks_zero (Some text) s t r = text_lacks_zero text r.0 t r.2

lack_zero : (out : Out) (s t : Reading) → AreGiven (given_by out) s t → TextsLackZero out
lack_zero (OpenCluster status handle) s t r = tt
lack_zero (CloseCluster handle status) s t r = tt
lack_zero (GetClusterName cluster member status) s t r = (target_lacks_zero cluster s r.0 r.1, target_lacks_zero member r.0 r.2.0 r.2.1)
lack_zero (GetRootKey status rpc_status handle) s t r = tt
lack_zero (CreateKey disposition status rpc_status handle) s t r = tt
lack_zero (OpenKey status rpc_status handle) s t r = tt
lack_zero (EnumKey name written rpc_status status) s t r = target_lacks_zero name s r.0 r.1
lack_zero (SetValue rpc_status status) s t r = tt
lack_zero (DeleteValue rpc_status status) s t r = tt
lack_zero (QueryValue kind bytes required rpc_status status) s t r = tt
lack_zero (DeleteKey rpc_status status) s t r = tt
lack_zero (EnumValue name kind bytes cb_data total rpc_status status) s t r = target_lacks_zero name s r.0 r.1
lack_zero (CloseKey handle status) s t r = tt
lack_zero (QueryInfoKey subkeys longest_subkey values longest_name longest_data security written rpc_status status) s t r = tt

pub texts : (opnum : ℕ) (e : Endian) (stub : List ℕ) (result : Result Out InFault) (now : Reading) → IsBytes stub → TakesOutput opnum result (start e stub) now → IfOk result TextsLackZero
texts opnum e stub (Ok out) now h took = lack_zero out (start e stub) now (spelled opnum e stub out now h took)
texts opnum e stub (Err why) now h took = tt
