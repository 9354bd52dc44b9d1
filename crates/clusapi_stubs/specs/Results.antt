-- Which stub has which results, and why one has none. Every referent is accepted.
use Rattle.std.specs.Prelude.{◌≡◌, ℕ, ◌==◌, Bool, true, false, List, [], ◌∷◌, find, Option, None, Some, Result, Ok, Err}
use Rattle.std.specs.Map.{lookup}
use Rattle.std.specs.Option.{option_map}
use Rattle.clus_names.specs.Limits.{LacksZero}
use Rattle.wire_fields.specs.declared.endian.Endian.{Endian}
use Rattle.wire_fields.specs.Reading.{Reading}
use Rattle.ndr_values.specs.declared.fault.NdrFault.{NdrFault}
use Rattle.ndr_values.specs.Reading.{◌>>=◌, pointer, string}
use Rattle.ndr_values.specs.Spelling.{Bytes, Handle, Number, Pointer, Reads, Text, Time, Value}
use Rattle.clusapi_stubs.specs.declared.fault.InFault.{InFault}
use Rattle.clusapi_stubs.specs.declared.fault.InFault.TheVariants.{Memory, Ndr, Opnum}
use Rattle.clusapi_stubs.specs.declared.output.Out.{Out}
use Rattle.clusapi_stubs.specs.declared.output.Out.TheVariants.{CloseCluster, CloseKey, CreateKey, DeleteKey, DeleteValue, EnumKey, EnumValue, GetClusterName, GetRootKey, OpenCluster, OpenKey, QueryInfoKey, QueryValue, SetValue}
use Rattle.clusapi_stubs.specs.Grammar.{start}
use Rattle.clusapi_stubs.specs.Kinds.{AHandle, ANumber, ATime, AnArray, Kind, value_at}

-- ---- results as they stand in a stub

-- A value by itself, or a pointer with the text that it points to; None where it is null.
pub data Given : Type 0 where
  Plain : Value → Given
  Pointed : Option (List ℕ) → Given

pub data GivenKind : Type 0 where
  APlain : Kind → GivenKind
  ATarget : GivenKind

abbrev pub given_by : Out → List Given
given_by (OpenCluster status handle) = Plain (Number status) ∷ Plain (Handle handle) ∷ []
given_by (CloseCluster handle status) = Plain (Handle handle) ∷ Plain (Number status) ∷ []
given_by (GetClusterName cluster member status) = Pointed cluster ∷ Pointed member ∷ Plain (Number status) ∷ []
given_by (GetRootKey status rpc_status handle) = Plain (Number status) ∷ Plain (Number rpc_status) ∷ Plain (Handle handle) ∷ []
given_by (CreateKey disposition status rpc_status handle) = Plain (Number disposition) ∷ Plain (Number status) ∷ Plain (Number rpc_status) ∷ Plain (Handle handle) ∷ []
given_by (OpenKey status rpc_status handle) = Plain (Number status) ∷ Plain (Number rpc_status) ∷ Plain (Handle handle) ∷ []
given_by (EnumKey name written rpc_status status) = Pointed name ∷ Plain (Time written) ∷ Plain (Number rpc_status) ∷ Plain (Number status) ∷ []
given_by (SetValue rpc_status status) = Plain (Number rpc_status) ∷ Plain (Number status) ∷ []
given_by (DeleteValue rpc_status status) = Plain (Number rpc_status) ∷ Plain (Number status) ∷ []
given_by (QueryValue kind bytes required rpc_status status) =
    Plain (Number kind) ∷ Plain (Bytes bytes) ∷ Plain (Number required) ∷ Plain (Number rpc_status) ∷ Plain (Number status) ∷ []
given_by (DeleteKey rpc_status status) = Plain (Number rpc_status) ∷ Plain (Number status) ∷ []
given_by (EnumValue name kind bytes cb_data total rpc_status status) =
    Pointed name ∷ Plain (Number kind) ∷ Plain (Bytes bytes) ∷ Plain (Number cb_data) ∷ Plain (Number total) ∷ Plain (Number rpc_status) ∷ Plain (Number status) ∷ []
given_by (CloseKey handle status) = Plain (Handle handle) ∷ Plain (Number status) ∷ []
given_by (QueryInfoKey subkeys longest_subkey values longest_name longest_data security written rpc_status status) =
    Plain (Number subkeys) ∷ Plain (Number longest_subkey) ∷ Plain (Number values) ∷ Plain (Number longest_name) ∷ Plain (Number longest_data) ∷ Plain (Number security)
    ∷ Plain (Time written) ∷ Plain (Number rpc_status) ∷ Plain (Number status) ∷ []

abbrev pub method_of : Out → ℕ
method_of (OpenCluster status handle) = 0
method_of (CloseCluster handle status) = 1
method_of (GetClusterName cluster member status) = 3
method_of (GetRootKey status rpc_status handle) = 28
method_of (CreateKey disposition status rpc_status handle) = 29
method_of (OpenKey status rpc_status handle) = 30
method_of (EnumKey name written rpc_status status) = 31
method_of (SetValue rpc_status status) = 32
method_of (DeleteValue rpc_status status) = 33
method_of (QueryValue kind bytes required rpc_status status) = 34
method_of (DeleteKey rpc_status status) = 35
method_of (EnumValue name kind bytes cb_data total rpc_status status) = 36
method_of (CloseKey handle status) = 37
method_of (QueryInfoKey subkeys longest_subkey values longest_name longest_data security written rpc_status status) = 38

-- ---- which stub has them

-- A prefix of the bytes left spells the result, and the reader now stands behind this prefix.
abbrev pub IsGiven : Given → Reading → Reading → Type 0
IsGiven (Plain value) before now = Reads value before now
IsGiven (Pointed None) before now = Reads (Pointer false) before now
IsGiven (Pointed (Some text)) before now = (target : Reading) × Reads (Pointer true) before target × Reads (Text text) target now

abbrev pub AreGiven : List Given → Reading → Reading → Type 0
AreGiven [] before now = now ≡ before
AreGiven (first ∷ others) before now = (next : Reading) × IsGiven first before next × AreGiven others next now

-- A prefix of the stub spells the results of the method with this number.
pub record IsOutput (opnum : ℕ) (endian : Endian) (stub : List ℕ) (out : Out) : Type 0 where
  pub operation : method_of out ≡ opnum
  pub behind : Reading
  pub spelled : AreGiven (given_by out) (start endian stub) behind

-- No text has a unit 0, which would have ended it.
abbrev pub TargetLacksZero : Option (List ℕ) → Type 0
TargetLacksZero None = Unit {0}
TargetLacksZero (Some text) = LacksZero text

abbrev pub TextsLackZero : Out → Type 0
TextsLackZero (GetClusterName cluster member status) = TargetLacksZero cluster × TargetLacksZero member
TextsLackZero (EnumKey name written rpc_status status) = TargetLacksZero name
TextsLackZero (EnumValue name kind bytes cb_data total rpc_status status) = TargetLacksZero name
TextsLackZero _ = Unit {0}

-- ---- the first field at fault

-- The text behind a pointer that isn't null.
abbrev pub target_at : Bool → Reading → Result (Option (List ℕ) × Reading) NdrFault
target_at false s = Ok (None, s)
target_at true s = string s >>= λ text. Ok (Some text.0, text.1)

abbrev pub target : Reading → Result (Option (List ℕ) × Reading) NdrFault
target s = pointer s >>= λ present. target_at present.0 present.1

abbrev pub given_at : GivenKind → Reading → Result (Given × Reading) NdrFault
given_at (APlain kind) s = value_at kind s >>= λ value. Ok (Plain value.0, value.1)
given_at ATarget s = target s >>= λ text. Ok (Pointed text.0, text.1)

-- Results of these kinds in turn, or the first fault.
abbrev pub all_given_at : List GivenKind → Reading → Result (List Given × Reading) NdrFault
all_given_at [] s = Ok ([], s)
all_given_at (kind ∷ kinds) s = do
  first ← given_at kind s
  others ← all_given_at kinds first.1
  Ok (first.0 ∷ others.0, others.1)

-- The kinds of the results, by operation number.
abbrev pub result_kinds : List (ℕ × List GivenKind)
result_kinds =
    (0, APlain ANumber ∷ APlain AHandle ∷ [])
    ∷ (1, APlain AHandle ∷ APlain ANumber ∷ [])
    ∷ (3, ATarget ∷ ATarget ∷ APlain ANumber ∷ [])
    ∷ (28, APlain ANumber ∷ APlain ANumber ∷ APlain AHandle ∷ [])
    ∷ (29, APlain ANumber ∷ APlain ANumber ∷ APlain ANumber ∷ APlain AHandle ∷ [])
    ∷ (30, APlain ANumber ∷ APlain ANumber ∷ APlain AHandle ∷ [])
    ∷ (31, ATarget ∷ APlain ATime ∷ APlain ANumber ∷ APlain ANumber ∷ [])
    ∷ (32, APlain ANumber ∷ APlain ANumber ∷ [])
    ∷ (33, APlain ANumber ∷ APlain ANumber ∷ [])
    ∷ (34, APlain ANumber ∷ APlain AnArray ∷ APlain ANumber ∷ APlain ANumber ∷ APlain ANumber ∷ [])
    ∷ (35, APlain ANumber ∷ APlain ANumber ∷ [])
    ∷ (36, ATarget ∷ APlain ANumber ∷ APlain AnArray ∷ APlain ANumber ∷ APlain ANumber ∷ APlain ANumber ∷ APlain ANumber ∷ [])
    ∷ (37, APlain AHandle ∷ APlain ANumber ∷ [])
    ∷ (38, APlain ANumber ∷ APlain ANumber ∷ APlain ANumber ∷ APlain ANumber ∷ APlain ANumber ∷ APlain ANumber ∷ APlain ATime ∷ APlain ANumber ∷ APlain ANumber ∷ [])
    ∷ []

-- None where no method has the number.
abbrev pub result_kinds_of : ℕ → Option (List GivenKind)
result_kinds_of opnum = lookup (λ number. opnum == number) result_kinds

-- The method's results in turn, or the first fault; None where no method has the number.
abbrev pub given_in : ℕ → Reading → Option (Result (List Given × Reading) NdrFault)
given_in opnum s = option_map (λ kinds. all_given_at kinds s) (result_kinds_of opnum)

-- Why the stub gives no results: no method has the number, or the first field at fault.
abbrev pub OutputBad : ℕ → Endian → List ℕ → InFault → Type 0
OutputBad opnum endian stub Opnum = result_kinds_of opnum ≡ None
OutputBad opnum endian stub (Ndr fault) = given_in opnum (start endian stub) ≡ Some (Err fault)
OutputBad opnum endian stub Memory = Unit {0}

-- The call gave these results, unless memory ran out.
abbrev pub GivesOutput : Result Out InFault → Out → Type 0
GivesOutput (Ok given) out = given ≡ out
GivesOutput (Err Memory) out = Unit {0}
GivesOutput (Err fault) out = ⊥

-- What a reader of results gave.
abbrev pub TakesOutput : ℕ → Result Out InFault → Reading → Reading → Type 0
TakesOutput opnum (Ok out) s now = (method_of out ≡ opnum) × (given_in opnum s ≡ Some (Ok (given_by out, now)))
TakesOutput opnum (Err Opnum) s now = result_kinds_of opnum ≡ None
TakesOutput opnum (Err (Ndr fault)) s now = given_in opnum s ≡ Some (Err fault)
TakesOutput opnum (Err Memory) s now = Unit {0}

-- ---- the table read backwards

-- The results that have these values.
abbrev pub outputs_with : List Given → List Out
outputs_with (Plain (Number a) ∷ Plain (Handle handle) ∷ []) = OpenCluster a handle ∷ []
outputs_with (Plain (Handle handle) ∷ Plain (Number a) ∷ []) = CloseCluster handle a ∷ CloseKey handle a ∷ []
outputs_with (Pointed cluster ∷ Pointed member ∷ Plain (Number a) ∷ []) = GetClusterName cluster member a ∷ []
outputs_with (Plain (Number a) ∷ Plain (Number b) ∷ Plain (Handle handle) ∷ []) = GetRootKey a b handle ∷ OpenKey a b handle ∷ []
outputs_with (Plain (Number a) ∷ Plain (Number b) ∷ Plain (Number c) ∷ Plain (Handle handle) ∷ []) = CreateKey a b c handle ∷ []
outputs_with (Pointed name ∷ Plain (Time written) ∷ Plain (Number a) ∷ Plain (Number b) ∷ []) = EnumKey name written a b ∷ []
outputs_with (Plain (Number a) ∷ Plain (Number b) ∷ []) = SetValue a b ∷ DeleteValue a b ∷ DeleteKey a b ∷ []
outputs_with (Plain (Number kind) ∷ Plain (Bytes bytes) ∷ Plain (Number a) ∷ Plain (Number b) ∷ Plain (Number c) ∷ []) = QueryValue kind bytes a b c ∷ []
outputs_with (Pointed name ∷ Plain (Number kind) ∷ Plain (Bytes bytes) ∷ Plain (Number a) ∷ Plain (Number b) ∷ Plain (Number c) ∷ Plain (Number d) ∷ []) = EnumValue name kind bytes a b c d ∷ []
outputs_with (Plain (Number a) ∷ Plain (Number b) ∷ Plain (Number c) ∷ Plain (Number d) ∷ Plain (Number e) ∷ Plain (Number f) ∷ Plain (Time written) ∷ Plain (Number g) ∷ Plain (Number h) ∷ []) =
    QueryInfoKey a b c d e f written g h ∷ []
outputs_with _ = []

-- The one with the operation number.
abbrev pub output_of : ℕ → List Given → Option Out
output_of opnum given = find (λ out. method_of out == opnum) (outputs_with given)

-- Results of the kinds of a method are always those of a call.
abbrev pub if_known : Option Out → Result Out InFault
if_known None = Err Opnum
if_known (Some out) = Ok out

abbrev pub output_from : ℕ → Option (Result (List Given × Reading) NdrFault) → Result Out InFault
output_from opnum None = Err Opnum
output_from opnum (Some (Err fault)) = Err (Ndr fault)
output_from opnum (Some (Ok given)) = if_known (output_of opnum given.0)

-- The results of the method with this number, or why the stub doesn't give them.
abbrev pub output_in : ℕ → Endian → List ℕ → Result Out InFault
output_in opnum endian stub = output_from opnum (given_in opnum (start endian stub))

-- The call gave this, unless memory ran out.
abbrev pub IsReadAsOutput : Result Out InFault → Result Out InFault → Type 0
IsReadAsOutput (Err Memory) out = Unit {0}
IsReadAsOutput result out = result ≡ out
