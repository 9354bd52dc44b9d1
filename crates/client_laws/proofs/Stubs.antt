-- What a stub of bytes gives fits its types.
use Rattle.std.proofs.Common.{◌≡◌, inl, inr, ℕ, zero, suc, ◌-◌, ◌<◌, ◌^◌, Bool, true, false, List, [], ◌∷◌, ◌++◌, length, get_or, Option, Some, None, Result, Ok, Err, cond, if◌then◌else◌, refl, sym, subst, arith}
use Rattle.std.specs.Prelude.{All, ◌==◌, find}
use Rattle.std.specs.List.{AllByRecursion, before_first, position_or_len}
use Rattle.std.specs.Option.{option_map}
use Rattle.std.proofs.lemmas.Bool.{cases_lt}
use Rattle.std.proofs.lemmas.List.{get_or-take, get_or_past, length-take}
use Rattle.wire_fields.specs.declared.endian.Endian.{Endian}
use Rattle.wire_fields.specs.Lists.{IsList}
use Rattle.wire_fields.specs.Numbers.{IsBytes, num}
use Rattle.wire_fields.specs.Reading.{Reading}
use Rattle.clus_names.specs.Limits.{IsNameUnit}
use Rattle.clus_names.proofs.Texts.{name_units}
use Rattle.ndr_values.specs.declared.fault.NdrFault.{NdrFault}
use Rattle.ndr_values.specs.declared.fault.NdrFault.TheVariants.{BadCount}
use Rattle.ndr_values.specs.Spelling.{Bytes, Handle, IsUnit, Number, Reads, Text, Value}
use Rattle.clusapi_stubs.specs.declared.fault.InFault.{InFault}
use Rattle.clusapi_stubs.specs.declared.fault.InFault.TheVariants as reading
use Rattle.clusapi_stubs.specs.declared.input.In.{In}
use Rattle.clusapi_stubs.specs.declared.input.In.TheVariants.{CreateKey, DeleteKey, DeleteValue, OpenKey, SetValue}
use Rattle.clusapi_stubs.specs.Grammar.{sized, start}
use Rattle.clusapi_stubs.specs.Inputs.{kinds_of, opnum_of, parameters, size_fits}
use Rattle.clusapi_stubs.specs.Kinds.{Kind, ReadsAll, values_at}
use Rattle.clusapi_stubs.specs.Parameters.{call_of, calls_with, if_sized, input_from, input_in}
use Rattle.clusapi_stubs.proofs.InputLaws.{bytes_behind, values_read}
use Rattle.clusapi_stubs.proofs.TextLaws.{text_lacks_zero}
use Rattle.client_laws.proofs.Streams.{bytes_front, bytes_tail}

-- ---- a value that was read

abbrev Fits : Value → Type 0
Fits (Text text) = All IsNameUnit text
Fits (Bytes bytes) = IsBytes bytes
Fits (Number number) = number < 2 ^ 32
Fits value = Unit {0}

-- each unit has 16 bits
abbrev IsWide : List ℕ → Type 0
IsWide units = (i : ℕ) → get_or units i 0 < 2 ^ 16

wide_units : (e : Endian) (units bytes : List ℕ) → IsList (IsUnit e) units bytes → IsWide units
wide_units e [] bytes h i = omega arith
wide_units e (unit ∷ units) bytes h zero = let low = h.3.0 in omega (arith, low)
wide_units e (unit ∷ units) bytes h (suc i) = wide_units e units h.1 h.4 i

wide_before : (test : ℕ → Bool) (units : List ℕ) → IsWide units → IsWide (before_first test units)
wide_before test units h i = elim (cases_lt i (position_or_len test units)) [
  | inl lt ↦ rw (get_or-take (position_or_len test units) units i 0 lt) (h i)
  | inr le ↦ rw (get_or_past (before_first test units) i 0 (omega (arith, length-take (position_or_len test units) units))) (omega arith)
]

fits : (value : Value) (s t : Reading) → IsBytes s.left → Reads value s t → Fits value
fits (Text text) s t h r = name_units text (text_lacks_zero text s t r) (subst IsWide (sym r.spelled.before_end) (wide_before (λ unit. unit == 0) r.spelled.sent (wide_units s.endian r.spelled.sent r.spelled.sent_bytes r.spelled.units)))
fits (Bytes bytes) s t h r =
    let all : IsBytes (r.bytes ++ t.left) = subst (λ (l : List ℕ). IsBytes l) r.parts h in
    let here : IsBytes (r.spelled.padding ++ (num s.endian 4 (length bytes) ++ bytes)) = subst (λ (l : List ℕ). IsBytes l) r.spelled.parts (bytes_front r.bytes t.left all) in
    bytes_tail (num s.endian 4 (length bytes)) bytes (bytes_tail r.spelled.padding (num s.endian 4 (length bytes) ++ bytes) here)
fits (Number number) s t h r = let f = r.spelled.fits in omega (arith, f)
fits value s t h r = tt

all_fit : (values : List Value) (s t : Reading) → IsBytes s.left → ReadsAll values s t → AllByRecursion Fits values
all_fit [] s t h r = tt
all_fit (value ∷ values) s t h r = (fits value s r.0 h r.1, all_fit values r.0 t (bytes_behind value s r.0 h r.1) r.2)

-- ---- the call of values

abbrev IsOf : List Value → In → Type 0
IsOf values input = values ≡ parameters input

calls_of : (values : List Value) → AllByRecursion (IsOf values) (calls_with values)
calls_of [] = (refl, (refl, tt))
calls_of (Number sam ∷ []) = (refl, tt)
calls_of (Handle handle ∷ []) = (refl, (refl, (refl, tt)))
calls_of (Handle handle ∷ Number index ∷ []) = (refl, tt)
calls_of (Handle handle ∷ Number index ∷ Number cb_data ∷ []) = (refl, tt)
calls_of (Handle handle ∷ Text text ∷ []) = (refl, (refl, tt))
calls_of (Handle handle ∷ Text text ∷ Number number ∷ []) = (refl, (refl, tt))
calls_of (Handle handle ∷ Text subkey ∷ Number options ∷ Number sam ∷ Number security ∷ []) = (refl, tt)
calls_of (Handle handle ∷ Text name ∷ Number kind ∷ Bytes bytes ∷ Number cb_data ∷ []) = (refl, tt)
calls_of _ = tt

found_holds : {X : Type 0} (P : X → Type 0) (test : X → Bool) (xs : List X) (x : X) → AllByRecursion P xs → find test xs ≡ Some x → P x
found_holds P test [] x all e = absurd (cc)
found_holds P test (y ∷ ys) x all e = by (test y) e (λ more. found_holds P test ys x all.1 more)
  where
    by : (b : Bool) → cond b (Some y) (find test ys) ≡ Some x → (find test ys ≡ Some x → P x) → P x
    by true e behind = let q : y ≡ x = cc in subst P q all.0
    by false e behind = behind e

call_is : (opnum : ℕ) (values : List Value) (input : In) → call_of opnum values ≡ Some input → IsOf values input
call_is opnum values input e = found_holds (IsOf values) (λ input. opnum_of input == opnum) (calls_with values) input (calls_of values) e

-- ---- the parameters of a call

abbrev pub HasFields : In → Type 0
HasFields (CreateKey handle subkey options sam security) = All IsNameUnit subkey
HasFields (OpenKey handle subkey sam) = All IsNameUnit subkey
HasFields (SetValue handle name kind bytes cb_data) = All IsNameUnit name × (kind < 2 ^ 32) × IsBytes bytes
HasFields (DeleteValue handle name) = All IsNameUnit name
HasFields (DeleteKey handle subkey) = All IsNameUnit subkey
HasFields input = Unit {0}

has_fields : (input : In) → AllByRecursion Fits (parameters input) → HasFields input
has_fields (CreateKey handle subkey options sam security) all = all.1.0
has_fields (OpenKey handle subkey sam) all = all.1.0
has_fields (SetValue handle name kind bytes cb_data) all = (all.1.0, all.1.1.0, all.1.1.1.0)
has_fields (DeleteValue handle name) all = all.1.0
has_fields (DeleteKey handle subkey) all = all.1.0
has_fields input all = tt

sized_is : (input given : In) (behind : ℕ) → sized input behind ≡ Ok given → input ≡ given
sized_is input given behind e = by (size_fits input) e
  where
    by : (b : Bool) → ◌≡◌ {A = Result In InFault} (if b then Ok input else Err (reading.Ndr (BadCount (behind - 4)))) (Ok given) → input ≡ given
    by true e = cc
    by false e = absurd (cc)

pub input_fits : (opnum : ℕ) (e : Endian) (stub : List ℕ) (input : In) → IsBytes stub → input_in opnum e stub ≡ Ok input → HasFields input
input_fits opnum e stub input h is = by (kinds_of opnum) is
  where
    by_call : (values : List Value) (now : Reading) (o : Option In) → call_of opnum values ≡ o → AllByRecursion Fits values → if_sized o now.place ≡ Ok input → HasFields input
    by_call values now None call all is = absurd (cc)
    by_call values now (Some given) call all is =
        has_fields input (subst (λ (i : In). AllByRecursion Fits (parameters i)) (sized_is given input now.place is) (subst (λ (vs : List Value). AllByRecursion Fits vs) (call_is opnum values given call) all))

    by_values : (kinds : List Kind) (r : Result (List Value × Reading) NdrFault) → values_at kinds (start e stub) ≡ r → input_from opnum (Some r) ≡ Ok input → HasFields input
    by_values kinds (Err fault) read is = absurd (cc)
    by_values kinds (Ok values) read is =
        by_call values.0 values.1 (call_of opnum values.0) refl (all_fit values.0 (start e stub) values.1 h (values_read kinds (start e stub) values.0 values.1 h read)) is

    by : (kinds : Option (List Kind)) → input_from opnum (option_map (λ kinds. values_at kinds (start e stub)) kinds) ≡ Ok input → HasFields input
    by None is = absurd (cc)
    by (Some kinds) is = by_values kinds (values_at kinds (start e stub)) refl is
