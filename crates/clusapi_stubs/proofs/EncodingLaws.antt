-- The canonical encoding of values in turn is read again.
use Rattle.std.proofs.Common.{◌≡◌, ℕ, ◌+◌, ◌*◌, ◌<◌, ◌≤◌, ◌^◌, true, false, List, [], ◌∷◌, ◌++◌, length, None, Some, refl, sym, ◌∙◌, subst, append_assoc, length-append, arith, lit<}
use Rattle.std.specs.Prelude.{IsTrue}
use Rattle.std.proofs.lemmas.Bool.Decides.{nat_tests}
use Rattle.std.proofs.lemmas.List.{append-nil}
use Rattle.wire_fields.specs.declared.endian.Endian.{Endian}
use Rattle.wire_fields.specs.Reading.{Reading}
use Rattle.ndr_values.specs.Spelling.{Bytes, Handle, Number, Pointer, Reads, Spells, Text, Time, Value}
use Rattle.ndr_values.proofs.CanonicalLaws.{all_spelled}
use Rattle.clusapi_stubs.specs.declared.input.In.{In}
use Rattle.clusapi_stubs.specs.declared.output.Out.{Out}
use Rattle.clusapi_stubs.specs.declared.output.Out.TheVariants.{CloseCluster, CloseKey, CreateKey, DeleteKey, DeleteValue, EnumKey, EnumValue, GetClusterName, GetRootKey, OpenCluster, OpenKey, QueryInfoKey, QueryValue, SetValue}
use Rattle.clusapi_stubs.specs.Grammar.{IsInput, start}
use Rattle.clusapi_stubs.specs.Inputs.{opnum_of, parameters, size_fits}
use Rattle.clusapi_stubs.specs.Kinds.{ReadsAll}
use Rattle.clusapi_stubs.specs.Outputs.{canonical, encoding, first_referent, referent_after, results, text_at}
use Rattle.clusapi_stubs.specs.Requests.{AllFit, Fits}
use Rattle.clusapi_stubs.specs.Results.{AreGiven, Given, IsGiven, IsOutput, Plain, Pointed, given_by, method_of}

abbrev from : Endian → ℕ → List ℕ → Reading
from e place left = record { endian = e; place = place; left = left }

spells : (e : Endian) (place : ℕ) (value : Value) → Fits value → Spells e place value (canonical e place value)
spells e place (Text text) fits = (all_spelled e place).text text fits.1 fits.0.units fits.0.short
spells e place (Bytes bytes) fits = (all_spelled e place).bytes bytes fits
spells e place (Pointer present) fits = rw fits ((all_spelled e place).pointer 0 (lit< tt))
spells e place (Handle handle) fits = (all_spelled e place).handle handle fits.0 fits.1
spells e place (Number number) fits = (all_spelled e place).number number fits
spells e place (Time time) fits = (all_spelled e place).time time fits

-- What is read where these bytes were appended.
one_read : (e : Endian) (done bytes rest : List ℕ) (value : Value) → Spells e (length done) value bytes → Reads value (from e (length done) (bytes ++ rest)) (from e (length (done ++ bytes)) rest)
one_read e done bytes rest value spelled = record { bytes = bytes; spelled = spelled; parts = refl; order = refl; further = length-append done bytes }

-- ---- values in turn

record AreRead (e : Endian) (done : List ℕ) (values : List Value) : Type 0 where
  pub rest : List ℕ
  pub behind : Reading
  pub whole : encoding e done values ≡ done ++ rest
  pub read : ReadsAll values (from e (length done) rest) behind

all_read : (e : Endian) (done : List ℕ) (values : List Value) → AllFit values → AreRead e done values
all_read e done [] fit = record { rest = []; behind = from e (length done) []; whole = sym (append-nil done); read = refl }
all_read e done (value ∷ values) fit =
    let bytes = canonical e (length done) value in
    let others = all_read e (done ++ bytes) values fit.1 in
    record {
      rest = bytes ++ others.rest;
      behind = others.behind;
      whole = others.whole ∙ append_assoc done bytes others.rest;
      read = (from e (length (done ++ bytes)) others.rest, one_read e done bytes others.rest value (spells e (length done) value fit.0), others.read);
    }

pub parameters_read : (e : Endian) (input : In) → AllFit (parameters input) → IsTrue (size_fits input) → IsInput (opnum_of input) e (encoding e [] (parameters input)) input
parameters_read e input fit size =
    let all = all_read e [] (parameters input) fit in
    let read : ReadsAll (parameters input) (start e (encoding e [] (parameters input))) all.behind = rw all.whole all.read in
    record { behind = all.behind; spells = record { operation = refl; spelled = read }; size = size }

-- ---- results in turn

-- The results as values, the first of whose pointers has this referent.
abbrev values_of : ℕ → List Given → List Value
values_of referent [] = []
values_of referent (Plain value ∷ all) = value ∷ values_of referent all
values_of referent (Pointed text ∷ all) = text_at referent text ++ values_of (referent_after referent text) all

values_are : (out : Out) → results out ≡ values_of first_referent (given_by out)
values_are (OpenCluster status handle) = refl
values_are (CloseCluster handle status) = refl
values_are (GetClusterName cluster member status) = refl
values_are (GetRootKey status rpc_status handle) = refl
values_are (CreateKey disposition status rpc_status handle) = refl
values_are (OpenKey status rpc_status handle) = refl
values_are (EnumKey name written rpc_status status) = refl
values_are (SetValue rpc_status status) = refl
values_are (DeleteValue rpc_status status) = refl
values_are (QueryValue kind bytes required rpc_status status) = refl
values_are (DeleteKey rpc_status status) = refl
values_are (EnumValue name kind bytes cb_data total rpc_status status) = refl
values_are (CloseKey handle status) = refl
values_are (QueryInfoKey subkeys longest_subkey values longest_name longest_data security written rpc_status status) = refl

record AreSpelled (e : Endian) (done : List ℕ) (values : List Value) (all : List Given) : Type 0 where
  pub rest : List ℕ
  pub behind : Reading
  pub whole : encoding e done values ≡ done ++ rest
  pub read : AreGiven all (from e (length done) rest) behind

is_pointer : (e : Endian) (done : List ℕ) (referent : ℕ) → 0 < referent → referent < 2 ^ 32 → Spells e (length done) (Pointer true) (canonical e (length done) (Number referent))
is_pointer e done referent some small =
    record { referent = referent; null_is_0 = grind (arith, nat_tests, some); number = (all_spelled e (length done)).number referent small }

text_given : (e : Endian) (done : List ℕ) (referent : ℕ) (text : List ℕ) (rest : List ℕ) → 0 < referent → referent < 2 ^ 32 → Fits (Text text)
    → let front = canonical e (length done) (Number referent) in
    let behind = canonical e (length (done ++ front)) (Text text) in
    IsGiven (Pointed (Some text)) (from e (length done) (front ++ (behind ++ rest))) (from e (length ((done ++ front) ++ behind)) rest)
text_given e done referent text rest some small fits =
    let front = canonical e (length done) (Number referent) in
    let behind = canonical e (length (done ++ front)) (Text text) in
    (from e (length (done ++ front)) (behind ++ rest), one_read e done front (behind ++ rest) (Pointer true) (is_pointer e done referent some small), one_read e (done ++ front) behind rest (Text text) (spells e (length (done ++ front)) (Text text) fits))

all_spelled_again : (e : Endian) (done : List ℕ) (referent : ℕ) (all : List Given) → 0 < referent → referent + 4 * length all < 2 ^ 32 → AllFit (values_of referent all)
    → AreSpelled e done (values_of referent all) all
all_spelled_again e done referent [] some small fit = record { rest = []; behind = from e (length done) []; whole = sym (append-nil done); read = refl }
all_spelled_again e done referent (Plain value ∷ all) some small fit =
    let bytes = canonical e (length done) value in
    let others = all_spelled_again e (done ++ bytes) referent all some (omega (arith, small)) fit.1 in
    record {
      rest = bytes ++ others.rest;
      behind = others.behind;
      whole = others.whole ∙ append_assoc done bytes others.rest;
      read = (from e (length (done ++ bytes)) others.rest, one_read e done bytes others.rest value (spells e (length done) value fit.0), others.read);
    }
all_spelled_again e done referent (Pointed None ∷ all) some small fit =
    let bytes = canonical e (length done) (Number 0) in
    let null : Spells e (length done) (Pointer false) bytes = (all_spelled e (length done)).pointer 0 (lit< tt) in
    let others = all_spelled_again e (done ++ bytes) referent all some (omega (arith, small)) fit.1 in
    record {
      rest = bytes ++ others.rest;
      behind = others.behind;
      whole = others.whole ∙ append_assoc done bytes others.rest;
      read = (from e (length (done ++ bytes)) others.rest, one_read e done bytes others.rest (Pointer false) null, others.read);
    }
all_spelled_again e done referent (Pointed (Some text) ∷ all) some small fit =
    let front = canonical e (length done) (Number referent) in
    let behind = canonical e (length (done ++ front)) (Text text) in
    let next : referent + 4 + 4 * length all < 2 ^ 32 = omega (arith, small) in
    let others = all_spelled_again e ((done ++ front) ++ behind) (referent + 4) all (omega (arith, some)) next fit.1.1 in
    record {
      rest = front ++ (behind ++ others.rest);
      behind = others.behind;
      whole = others.whole ∙ append_assoc (done ++ front) behind others.rest ∙ append_assoc done front (behind ++ others.rest);
      read = (from e (length ((done ++ front) ++ behind)) others.rest, text_given e done referent text others.rest some fit.0 fit.1.0, others.read);
    }

few : (out : Out) → length (given_by out) ≤ 9
few (OpenCluster status handle) =
    let count : length (given_by (OpenCluster status handle)) ≡ 2 = refl in
    omega (arith, count)
few (CloseCluster handle status) =
    let count : length (given_by (CloseCluster handle status)) ≡ 2 = refl in
    omega (arith, count)
few (GetClusterName cluster member status) =
    let count : length (given_by (GetClusterName cluster member status)) ≡ 3 = refl in
    omega (arith, count)
few (GetRootKey status rpc_status handle) =
    let count : length (given_by (GetRootKey status rpc_status handle)) ≡ 3 = refl in
    omega (arith, count)
few (CreateKey disposition status rpc_status handle) =
    let count : length (given_by (CreateKey disposition status rpc_status handle)) ≡ 4 = refl in
    omega (arith, count)
few (OpenKey status rpc_status handle) =
    let count : length (given_by (OpenKey status rpc_status handle)) ≡ 3 = refl in
    omega (arith, count)
few (EnumKey name written rpc_status status) =
    let count : length (given_by (EnumKey name written rpc_status status)) ≡ 4 = refl in
    omega (arith, count)
few (SetValue rpc_status status) =
    let count : length (given_by (SetValue rpc_status status)) ≡ 2 = refl in
    omega (arith, count)
few (DeleteValue rpc_status status) =
    let count : length (given_by (DeleteValue rpc_status status)) ≡ 2 = refl in
    omega (arith, count)
few (QueryValue kind bytes required rpc_status status) =
    let count : length (given_by (QueryValue kind bytes required rpc_status status)) ≡ 5 = refl in
    omega (arith, count)
few (DeleteKey rpc_status status) =
    let count : length (given_by (DeleteKey rpc_status status)) ≡ 2 = refl in
    omega (arith, count)
few (EnumValue name kind bytes cb_data total rpc_status status) =
    let count : length (given_by (EnumValue name kind bytes cb_data total rpc_status status)) ≡ 7 = refl in
    omega (arith, count)
few (CloseKey handle status) =
    let count : length (given_by (CloseKey handle status)) ≡ 2 = refl in
    omega (arith, count)
few (QueryInfoKey subkeys longest_subkey values longest_name longest_data security written rpc_status status) =
    let count : length (given_by (QueryInfoKey subkeys longest_subkey values longest_name longest_data security written rpc_status status)) ≡ 9 = refl in
    omega (arith, count)

results_read_by : (e : Endian) (out : Out) → AllFit (values_of first_referent (given_by out)) → IsOutput (method_of out) e (encoding e [] (values_of first_referent (given_by out))) out
results_read_by e out fit =
    let all = all_spelled_again e [] first_referent (given_by out) (lit< tt) (omega (arith, few out)) fit in
    let read : AreGiven (given_by out) (start e (encoding e [] (values_of first_referent (given_by out)))) all.behind = rw all.whole all.read in
    record { operation = refl; behind = all.behind; spelled = read }

pub results_read : (e : Endian) (out : Out) → AllFit (results out) → IsOutput (method_of out) e (encoding e [] (results out)) out
results_read e out =
    let P : List Value → Type 0 = λ values. AllFit values → IsOutput (method_of out) e (encoding e [] values) out in
    subst P (sym (values_are out)) (results_read_by e out)
