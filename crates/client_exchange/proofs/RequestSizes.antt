-- A request is short, so that it can be cut into fragments.
use Rattle.std.proofs.Common.{◌≡◌, ℕ, ◌+◌, ◌-◌, ◌^◌, ◌≤◌, ◌<◌, Bool, true, false, List, [], ◌∷◌, ◌++◌, length, refl, length-append, arith}
use Rattle.std.specs.Prelude.{if◌then◌else◌, ◌==◌, ◌%◌}
use Rattle.std.specs.List.{flat_map}
use Rattle.std.proofs.lemmas.List.{length-replicate}
use Rattle.wire_fields.specs.declared.endian.Endian.TheVariants.{Little}
use Rattle.wire_fields.specs.Numbers.{num, uuid_text}
use Rattle.wire_fields.specs.Reading.{gap}
use Rattle.wire_fields.proofs.NumberLaws.{length-num}
use Rattle.ndr_values.specs.Spelling.{Bytes, Handle, Number, Pointer, Text, Time, Value, canonical_bytes, canonical_handle, canonical_number, canonical_text, canonical_time, zeros}
use Rattle.ndr_values.specs.declared.handle.WireHandle.{WireHandle}
use Rattle.clusapi_stubs.specs.declared.input.In.{In}
use Rattle.clusapi_stubs.specs.declared.input.In.TheVariants.{CloseCluster, CloseKey, CreateKey, DeleteKey, DeleteValue, EnumKey, EnumValue, GetClusterName, GetRootKey, OpenCluster, OpenKey, QueryInfoKey, QueryValue, SetValue}
use Rattle.clusapi_stubs.specs.Inputs.{parameters}
use Rattle.clusapi_stubs.specs.Outputs.{canonical, encoding}
use Rattle.client_commands.specs.Words.{IsNameText}
use Rattle.client_exchange.specs.Requests.{RequestFits}

-- ---- a value

gap_by : (test : Bool) (past : ℕ) → (if test then 0 else 4 - past) ≤ 4
gap_by true past = omega arith
gap_by false past = omega arith

zeros_few : (place : ℕ) → length (zeros place) ≤ 4
zeros_few place = let few : gap 4 place ≤ 4 = gap_by (place % 4 == 0) (place % 4) in omega (arith, few, length-replicate {A = ℕ} (gap 4 place) 0)

units_long : (text : List ℕ) → length (flat_map (num Little 2) text) ≡ length text + length text
units_long [] = refl
units_long (unit ∷ text) =
    omega (arith, units_long text, length-num Little 2 unit, length-append (num Little 2 unit) (flat_map (num Little 2) text))

id_long : (id : List ℕ) → length (uuid_text Little id) ≡ 16
unfolding uuid_text
id_long id = refl

-- How long the encoding of a value is at most.
abbrev most_of : Value → ℕ
most_of (Text text) = 32 + (length text + length text)
most_of (Bytes bytes) = 32 + length bytes
most_of value = 32

word_few : (place n : ℕ) → length (canonical_number Little place n) ≤ 8
word_few place n = omega (arith, zeros_few place, length-num Little 4 n, length-append (zeros place) (num Little 4 n))

text_few : (place : ℕ) (text : List ℕ) → length (canonical_text Little place text) ≤ 32 + (length text + length text)
text_few place text =
    omega (arith, zeros_few place, units_long text, length-num Little 4 (length text + 1), length-num Little 4 0, length-num Little 2 0, length-append {A = ℕ})

bytes_few : (place : ℕ) (bytes : List ℕ) → length (canonical_bytes Little place bytes) ≤ 32 + length bytes
bytes_few place bytes = omega (arith, zeros_few place, length-num Little 4 (length bytes), length-append {A = ℕ})

handle_few : (place : ℕ) (handle : WireHandle) → length (canonical_handle Little place handle) ≤ 32
handle_few place handle = omega (arith, zeros_few place, length-num Little 4 handle.attributes, id_long handle.id, length-append {A = ℕ})

time_few : (place time : ℕ) → length (canonical_time Little place time) ≤ 32
time_few place time = omega (arith, zeros_few place, length-num Little 4, length-append {A = ℕ})

value_few : (place : ℕ) (value : Value) → length (canonical Little place value) ≤ most_of value
value_few place (Text text) = text_few place text
value_few place (Bytes bytes) = bytes_few place bytes
value_few place (Pointer present) = omega (arith, word_few place 0)
value_few place (Handle handle) = handle_few place handle
value_few place (Number number) = omega (arith, word_few place number)
value_few place (Time time) = time_few place time

-- ---- values in turn

abbrev most_in : List Value → ℕ
most_in [] = 0
most_in (value ∷ values) = most_of value + most_in values

values_few : (bytes : List ℕ) (values : List Value) → length (encoding Little bytes values) ≤ length bytes + most_in values
values_few bytes [] = omega arith
values_few bytes (value ∷ values) =
    let more = canonical Little (length bytes) value in
    omega (arith, values_few (bytes ++ more) values, value_few (length bytes) value, length-append bytes more)

parameters_few : (request : In) → RequestFits request → most_in (parameters request) < 2 ^ 32
parameters_few OpenCluster fits = omega arith
parameters_few (CloseCluster handle) fits = omega arith
parameters_few GetClusterName fits = omega arith
parameters_few (GetRootKey sam) fits = omega arith
parameters_few (CreateKey handle subkey options sam security) fits = omega (arith, fits.few)
parameters_few (OpenKey handle subkey sam) fits = omega (arith, fits.few)
parameters_few (EnumKey handle index) fits = omega arith
parameters_few (SetValue handle name kind bytes cb_data) fits = omega (arith, fits.0.few, fits.1)
parameters_few (DeleteValue handle name) fits = omega (arith, fits.few)
parameters_few (QueryValue handle name cb_data) fits = omega (arith, fits.few)
parameters_few (DeleteKey handle subkey) fits = omega (arith, fits.few)
parameters_few (EnumValue handle index cb_data) fits = omega arith
parameters_few (CloseKey handle) fits = omega arith
parameters_few (QueryInfoKey handle) fits = omega arith

pub short_stub : (request : In) (stub : List ℕ) → RequestFits request → stub ≡ encoding Little [] (parameters request) → length stub < 2 ^ 32
short_stub request stub fits same = rw same (omega (arith, values_few [] (parameters request), parameters_few request fits))
