-- Which parameters have an encoding, and which values can be read again.
use Rattle.std.specs.Prelude.{◌≡◌, ◌<◌, ◌^◌, false, List, [], ◌∷◌, length, All}
use Rattle.ndr_values.specs.Spelling.{Bytes, Handle, Number, Pointer, Text, Time, Value}
use Rattle.clusapi_stubs.specs.declared.input.In.{In}
use Rattle.clusapi_stubs.specs.declared.input.In.TheVariants.{CreateKey, DeleteKey, DeleteValue, OpenKey, QueryValue, SetValue}
use Rattle.clusapi_stubs.specs.Outputs.{IsArray, IsText}

abbrev pub CanAsk : In → Type 0
CanAsk (CreateKey handle subkey options sam security) = IsText subkey
CanAsk (OpenKey handle subkey sam) = IsText subkey
CanAsk (SetValue handle name kind bytes cb_data) = IsText name × IsArray bytes
CanAsk (DeleteValue handle name) = IsText name
CanAsk (QueryValue handle name cb_data) = IsText name
CanAsk (DeleteKey handle subkey) = IsText subkey
CanAsk _ = Unit {0}

-- The value is one of its type, and has an encoding. A pointer stands among the results by its referent.
abbrev pub Fits : Value → Type 0
Fits (Text text) = IsText text × All (λ unit. unit < 2 ^ 16) text
Fits (Bytes bytes) = IsArray bytes
Fits (Pointer present) = present ≡ false
Fits (Handle handle) = (handle.attributes < 2 ^ 32) × (length handle.id ≡ 16)
Fits (Number number) = number < 2 ^ 32
Fits (Time time) = time < 2 ^ 64

abbrev pub AllFit : List Value → Type 0
AllFit [] = Unit {0}
AllFit (value ∷ values) = Fits value × AllFit values
