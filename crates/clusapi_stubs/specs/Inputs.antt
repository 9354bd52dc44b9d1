-- The parameters of each method, in the order in which they are sent.
use Rattle.std.specs.Prelude.{ℕ, ◌==◌, nat_le, Bool, true, List, [], ◌∷◌, length, Option}
use Rattle.std.specs.Map.{lookup}
use Rattle.clus_names.specs.Limits.{LacksZero}
use Rattle.ndr_values.specs.declared.fault.ReadFault.{ReadFault}
use Rattle.ndr_values.specs.declared.fault.ReadFault.TheVariants as reads
use Rattle.ndr_values.specs.Spelling.{Bytes, Handle, Number, Text, Value}
use Rattle.clusapi_stubs.specs.declared.fault.InFault.{InFault}
use Rattle.clusapi_stubs.specs.declared.fault.InFault.TheVariants.{Memory, Ndr}
use Rattle.clusapi_stubs.specs.declared.input.In.{In}
use Rattle.clusapi_stubs.specs.declared.input.In.TheVariants.{CloseCluster, CloseKey, CreateKey, DeleteKey, DeleteValue, EnumKey, EnumValue, GetClusterName, GetRootKey, OpenCluster, OpenKey, QueryInfoKey, QueryValue, SetValue}
use Rattle.clusapi_stubs.specs.Kinds.{AHandle, ANumber, AText, AnArray, Kind}

abbrev pub parameters : In → List Value
parameters OpenCluster = []
parameters (CloseCluster handle) = Handle handle ∷ []
parameters GetClusterName = []
parameters (GetRootKey sam) = Number sam ∷ []
parameters (CreateKey handle subkey options sam security) = Handle handle ∷ Text subkey ∷ Number options ∷ Number sam ∷ Number security ∷ []
parameters (OpenKey handle subkey sam) = Handle handle ∷ Text subkey ∷ Number sam ∷ []
parameters (EnumKey handle index) = Handle handle ∷ Number index ∷ []
parameters (SetValue handle name kind bytes cb_data) = Handle handle ∷ Text name ∷ Number kind ∷ Bytes bytes ∷ Number cb_data ∷ []
parameters (DeleteValue handle name) = Handle handle ∷ Text name ∷ []
parameters (QueryValue handle name cb_data) = Handle handle ∷ Text name ∷ Number cb_data ∷ []
parameters (DeleteKey handle subkey) = Handle handle ∷ Text subkey ∷ []
parameters (EnumValue handle index cb_data) = Handle handle ∷ Number index ∷ Number cb_data ∷ []
parameters (CloseKey handle) = Handle handle ∷ []
parameters (QueryInfoKey handle) = Handle handle ∷ []

abbrev pub opnum_of : In → ℕ
opnum_of OpenCluster = 0
opnum_of (CloseCluster handle) = 1
opnum_of GetClusterName = 3
opnum_of (GetRootKey sam) = 28
opnum_of (CreateKey handle subkey options sam security) = 29
opnum_of (OpenKey handle subkey sam) = 30
opnum_of (EnumKey handle index) = 31
opnum_of (SetValue handle name kind bytes cb_data) = 32
opnum_of (DeleteValue handle name) = 33
opnum_of (QueryValue handle name cb_data) = 34
opnum_of (DeleteKey handle subkey) = 35
opnum_of (EnumValue handle index cb_data) = 36
opnum_of (CloseKey handle) = 37
opnum_of (QueryInfoKey handle) = 38

-- The size of a value that is set is that of its array, and no more than 1,048,576 bytes of a value may be asked for.
abbrev pub size_fits : In → Bool
size_fits (SetValue handle name kind bytes cb_data) = length bytes == cb_data
size_fits (QueryValue handle name cb_data) = nat_le cb_data 1048576
size_fits (EnumValue handle index cb_data) = nat_le cb_data 1048576
size_fits _ = true

-- No text has a unit 0, which would have ended it.
abbrev pub LackZero : In → Type 0
LackZero (CreateKey handle subkey options sam security) = LacksZero subkey
LackZero (OpenKey handle subkey sam) = LacksZero subkey
LackZero (SetValue handle name kind bytes cb_data) = LacksZero name
LackZero (DeleteValue handle name) = LacksZero name
LackZero (QueryValue handle name cb_data) = LacksZero name
LackZero (DeleteKey handle subkey) = LacksZero subkey
LackZero _ = Unit {0}

-- The kinds of the parameters, by operation number.
abbrev pub methods : List (ℕ × List Kind)
methods =
    (0, [])
    ∷ (1, AHandle ∷ [])
    ∷ (3, [])
    ∷ (28, ANumber ∷ [])
    ∷ (29, AHandle ∷ AText ∷ ANumber ∷ ANumber ∷ ANumber ∷ [])
    ∷ (30, AHandle ∷ AText ∷ ANumber ∷ [])
    ∷ (31, AHandle ∷ ANumber ∷ [])
    ∷ (32, AHandle ∷ AText ∷ ANumber ∷ AnArray ∷ ANumber ∷ [])
    ∷ (33, AHandle ∷ AText ∷ [])
    ∷ (34, AHandle ∷ AText ∷ ANumber ∷ [])
    ∷ (35, AHandle ∷ AText ∷ [])
    ∷ (36, AHandle ∷ ANumber ∷ ANumber ∷ [])
    ∷ (37, AHandle ∷ [])
    ∷ (38, AHandle ∷ [])
    ∷ []

-- None where no method has the number.
abbrev pub kinds_of : ℕ → Option (List Kind)
kinds_of opnum = lookup (λ number. opnum == number) methods

abbrev pub fault_of : ReadFault → InFault
fault_of (reads.Ndr fault) = Ndr fault
fault_of reads.Memory = Memory
