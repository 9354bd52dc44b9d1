-- What one side encodes, the other reads.
use Rattle.std.proofs.Common.{◌≡◌, false, true, List, [], ◌∷◌, None, Some, Ok, refl}
use Rattle.std.specs.Prelude.{IsTrue, map}
use Rattle.wire_fields.specs.declared.endian.Endian.TheVariants.{Little}
use Rattle.wire_fields.specs.Reading.{Reading}
use Rattle.ndr_values.proofs.StringLaws.{string_only}
use Rattle.ndr_values.proofs.ValueLaws.{pointer_only}
use Rattle.clusapi_stubs.specs.declared.input.In.{In}
use Rattle.clusapi_stubs.specs.declared.output.Out.{Out}
use Rattle.clusapi_stubs.specs.declared.output.Out.TheVariants.{CloseCluster, CloseKey, CreateKey, DeleteKey, DeleteValue, EnumKey, EnumValue, GetClusterName, GetRootKey, OpenCluster, OpenKey, QueryInfoKey, QueryValue, SetValue}
use Rattle.clusapi_stubs.specs.Grammar.{start}
use Rattle.clusapi_stubs.specs.Inputs.{opnum_of, parameters, size_fits}
use Rattle.clusapi_stubs.specs.Outputs.{encoding, results}
use Rattle.clusapi_stubs.specs.Parameters.{input_in}
use Rattle.clusapi_stubs.specs.Requests.{AllFit}
use Rattle.clusapi_stubs.specs.Results.{AreGiven, Given, IsGiven, Plain, Pointed, all_given_at, given_at, given_by, method_of, output_in, output_of, result_kinds_of}
use Rattle.clusapi_stubs.proofs.EncodingLaws.{parameters_read, results_read}
use Rattle.clusapi_stubs.proofs.InputLaws.{kinds_are, one_call, value_only, values_only}
use Rattle.clusapi_stubs.proofs.OutputLaws.{given_kind}

pub input_read : (input : In) → AllFit (parameters input) → IsTrue (size_fits input) → input_in (opnum_of input) Little (encoding Little [] (parameters input)) ≡ Ok input
input_read input fit size =
    let is = parameters_read Little input fit size in
    rw (kinds_are input, values_only (parameters input) (start Little (encoding Little [] (parameters input))) is.behind is.spells.spelled, one_call input, size) refl

given_only : (given : Given) (s t : Reading) → IsGiven given s t → given_at (given_kind given) s ≡ Ok (given, t)
given_only (Plain value) s t r = rw (value_only value s t r) refl
given_only (Pointed None) s t r = rw (pointer_only s false t r) refl
given_only (Pointed (Some text)) s t r = rw (pointer_only s true r.0 r.1, string_only r.0 text t r.2) refl

all_given_only : (all : List Given) (s t : Reading) → AreGiven all s t → all_given_at (map given_kind all) s ≡ Ok (all, t)
all_given_only [] s t r = rw r refl
all_given_only (given ∷ all) s t r =
    let first : given_at (given_kind given) s ≡ Ok (given, r.0) = given_only given s r.0 r.1 in
    let others : all_given_at (map given_kind all) r.0 ≡ Ok (all, t) = all_given_only all r.0 t r.2 in
    rw (first, others) refl

-- Results are told by the operation number and their values.
record AreKnown (out : Out) : Type 0 where
  kinds : result_kinds_of (method_of out) ≡ Some (map given_kind (given_by out))
  output : output_of (method_of out) (given_by out) ≡ Some out

known : (out : Out) → AreKnown out
known (OpenCluster status handle) = record { kinds = refl; output = refl }
known (CloseCluster handle status) = record { kinds = refl; output = refl }
known (GetClusterName cluster member status) = record { kinds = refl; output = refl }
known (GetRootKey status rpc_status handle) = record { kinds = refl; output = refl }
known (CreateKey disposition status rpc_status handle) = record { kinds = refl; output = refl }
known (OpenKey status rpc_status handle) = record { kinds = refl; output = refl }
known (EnumKey name written rpc_status status) = record { kinds = refl; output = refl }
known (SetValue rpc_status status) = record { kinds = refl; output = refl }
known (DeleteValue rpc_status status) = record { kinds = refl; output = refl }
known (QueryValue kind bytes required rpc_status status) = record { kinds = refl; output = refl }
known (DeleteKey rpc_status status) = record { kinds = refl; output = refl }
known (EnumValue name kind bytes cb_data total rpc_status status) = record { kinds = refl; output = refl }
known (CloseKey handle status) = record { kinds = refl; output = refl }
known (QueryInfoKey subkeys longest_subkey values longest_name longest_data security written rpc_status status) = record { kinds = refl; output = refl }

pub output_read : (out : Out) → AllFit (results out) → output_in (method_of out) Little (encoding Little [] (results out)) ≡ Ok out
output_read out fit =
    let is = results_read Little out fit in
    let knows = known out in
    rw (knows.kinds, all_given_only (given_by out) (start Little (encoding Little [] (results out))) is.behind is.spelled, knows.output) refl
