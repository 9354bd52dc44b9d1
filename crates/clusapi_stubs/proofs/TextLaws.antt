-- A text that was read ends before its first unit 0.
use Rattle.std.proofs.Common.{◌≡◌, ℕ, suc, ◌+◌, Bool, true, false, cond, not, List, [], ◌∷◌, take, refl, arith}
use Rattle.std.specs.Prelude.{◌==◌, nat_lt}
use Rattle.std.specs.List.{prefix_len}
use Rattle.std.proofs.lemmas.Bool.Decides.{nat_tests}
use Rattle.clus_names.specs.Limits.{LacksZero, lacks_zero}
use Rattle.wire_fields.specs.Reading.{Reading}
use Rattle.ndr_values.specs.Spelling.{Reads, Text}
use Rattle.ndr_values.specs.Text.{text_of}
use Rattle.clusapi_stubs.specs.declared.input.In.{In}
use Rattle.clusapi_stubs.specs.declared.input.In.TheVariants.{CloseCluster, CloseKey, CreateKey, DeleteKey, DeleteValue, EnumKey, EnumValue, GetClusterName, GetRootKey, OpenCluster, OpenKey, QueryInfoKey, QueryValue, SetValue}
use Rattle.clusapi_stubs.specs.Inputs.{LackZero, parameters}
use Rattle.clusapi_stubs.specs.Kinds.{ReadsAll}

front : (test : Bool) (unit count : ℕ) (units : List ℕ) → (unit == 0) ≡ test → lacks_zero (take count units) ≡ true → lacks_zero (take (cond (not test) (1 + count) 0) (unit ∷ units)) ≡ true
front true unit count units is rest = refl
front false unit count units is rest =
    let positive : nat_lt 0 unit ≡ true = grind (arith, nat_tests) in
    let next : 1 + count ≡ suc count = omega arith in
    rw (next, positive, rest) refl

before_zero : (units : List ℕ) → lacks_zero (text_of units) ≡ true
before_zero [] = refl
before_zero (unit ∷ units) = front (unit == 0) unit (prefix_len (λ other. not (other == 0)) units) units refl (before_zero units)

pub text_lacks_zero : (text : List ℕ) (s t : Reading) → Reads (Text text) s t → LacksZero text
text_lacks_zero text s t r = rw r.spelled.before_end (before_zero r.spelled.sent)

pub lack_zero : (input : In) (s t : Reading) → ReadsAll (parameters input) s t → LackZero input
lack_zero OpenCluster s t r = tt
lack_zero (CloseCluster handle) s t r = tt
lack_zero GetClusterName s t r = tt
lack_zero (GetRootKey sam) s t r = tt
lack_zero (CreateKey handle subkey options sam security) s t r = text_lacks_zero subkey r.0 r.2.0 r.2.1
lack_zero (OpenKey handle subkey sam) s t r = text_lacks_zero subkey r.0 r.2.0 r.2.1
lack_zero (EnumKey handle index) s t r = tt
lack_zero (SetValue handle name kind bytes cb_data) s t r = text_lacks_zero name r.0 r.2.0 r.2.1
lack_zero (DeleteValue handle name) s t r = text_lacks_zero name r.0 r.2.0 r.2.1
lack_zero (QueryValue handle name cb_data) s t r = text_lacks_zero name r.0 r.2.0 r.2.1
lack_zero (DeleteKey handle subkey) s t r = text_lacks_zero subkey r.0 r.2.0 r.2.1
lack_zero (EnumValue handle index cb_data) s t r = tt
lack_zero (CloseKey handle) s t r = tt
lack_zero (QueryInfoKey handle) s t r = tt
