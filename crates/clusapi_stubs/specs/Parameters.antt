-- The parameters that a stub gives: the method table read backwards.
use Rattle.std.specs.Prelude.{◌≡◌, ℕ, ◌==◌, List, [], ◌∷◌, find, Option, None, Some, Result, Ok, Err}
use Rattle.wire_fields.specs.declared.endian.Endian.{Endian}
use Rattle.wire_fields.specs.Reading.{Reading}
use Rattle.ndr_values.specs.declared.fault.NdrFault.{NdrFault}
use Rattle.ndr_values.specs.Spelling.{Bytes, Handle, Number, Text, Value}
use Rattle.clusapi_stubs.specs.declared.fault.InFault.{InFault}
use Rattle.clusapi_stubs.specs.declared.fault.InFault.TheVariants.{Memory, Ndr, Opnum}
use Rattle.clusapi_stubs.specs.declared.input.In.{In}
use Rattle.clusapi_stubs.specs.declared.input.In.TheVariants.{CloseCluster, CloseKey, CreateKey, DeleteKey, DeleteValue, EnumKey, EnumValue, GetClusterName, GetRootKey, OpenCluster, OpenKey, QueryInfoKey, QueryValue, SetValue}
use Rattle.clusapi_stubs.specs.Grammar.{sized, start, values_in}
use Rattle.clusapi_stubs.specs.Inputs.{opnum_of}

-- The calls that have these parameters.
abbrev pub calls_with : List Value → List In
calls_with [] = OpenCluster ∷ GetClusterName ∷ []
calls_with (Number sam ∷ []) = GetRootKey sam ∷ []
calls_with (Handle handle ∷ []) = CloseCluster handle ∷ CloseKey handle ∷ QueryInfoKey handle ∷ []
calls_with (Handle handle ∷ Number index ∷ []) = EnumKey handle index ∷ []
calls_with (Handle handle ∷ Number index ∷ Number cb_data ∷ []) = EnumValue handle index cb_data ∷ []
calls_with (Handle handle ∷ Text text ∷ []) = DeleteValue handle text ∷ DeleteKey handle text ∷ []
calls_with (Handle handle ∷ Text text ∷ Number number ∷ []) = OpenKey handle text number ∷ QueryValue handle text number ∷ []
calls_with (Handle handle ∷ Text subkey ∷ Number options ∷ Number sam ∷ Number security ∷ []) = CreateKey handle subkey options sam security ∷ []
calls_with (Handle handle ∷ Text name ∷ Number kind ∷ Bytes bytes ∷ Number cb_data ∷ []) = SetValue handle name kind bytes cb_data ∷ []
calls_with _ = []

-- The one with the operation number.
abbrev pub call_of : ℕ → List Value → Option In
call_of opnum values = find (λ input. opnum_of input == opnum) (calls_with values)

-- The size that a call tells must fit. Values of the kinds of a method are always those of a call.
abbrev pub if_sized : Option In → ℕ → Result In InFault
if_sized None behind = Err Opnum
if_sized (Some input) behind = sized input behind

abbrev pub input_from : ℕ → Option (Result (List Value × Reading) NdrFault) → Result In InFault
input_from opnum None = Err Opnum
input_from opnum (Some (Err fault)) = Err (Ndr fault)
input_from opnum (Some (Ok values)) = if_sized (call_of opnum values.0) values.1.place

-- The parameters of the method with this number, or why the stub doesn't give them.
abbrev pub input_in : ℕ → Endian → List ℕ → Result In InFault
input_in opnum endian stub = input_from opnum (values_in opnum (start endian stub))

-- The call gave this, unless memory ran out.
abbrev pub IsReadAs : Result In InFault → Result In InFault → Type 0
IsReadAs (Err Memory) input = Unit {0}
IsReadAs result input = result ≡ input
