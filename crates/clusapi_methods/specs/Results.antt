-- The results of the methods that read, from what is found in the registry.
use Rattle.std.specs.Prelude.{ℕ, ◌+◌, ◌*◌, ◌-◌, List, [], ◌∷◌, ◌++◌, length, replicate, codes, Option, None, Some, nat_lt, if◌then◌else◌}
use Rattle.std.specs.Fmt.{decimal}
use Rattle.clus_names.specs.Folding.{folded}
use Rattle.ndr_values.specs.Text.{text_of}
use Rattle.registry_defs.specs.declared.info.Info.{Info}
use Rattle.registry_defs.specs.Keys.{ValueData, KeyData, Keys}
use Rattle.registry_defs.specs.Readings.{value_in}
use Rattle.clusapi_stubs.specs.declared.input.In.{In}
use Rattle.clusapi_stubs.specs.declared.output.Out.{Out}
use Rattle.clusapi_stubs.specs.declared.output.Out.TheVariants.{EnumKey, EnumValue, GetClusterName, QueryInfoKey, QueryValue}
use Rattle.clusapi_methods.specs.Refusals.{refused}

-- ---- names

-- Little-endian units; an odd last byte is none.
abbrev pub units_in : List ℕ → List ℕ
units_in (low ∷ high ∷ bytes) = (low + 256 * high) ∷ units_in bytes
units_in _ = []

-- The text of a value's data, which ends before its first 0; the empty text where there is no value.
abbrev pub text_in : Option ValueData → List ℕ
text_in None = []
text_in (Some value) = text_of (units_in value.bytes)

-- The cluster's name is a value of the root.
abbrev pub cluster_name : Keys → List ℕ
cluster_name keys = text_in (value_in [] (folded (codes "ClusterName")) keys)

abbrev pub node_name : ℕ → List ℕ
node_name node = codes "NODE" ++ decimal node

abbrev pub names_told : ℕ → Keys → Out
names_told node keys = GetClusterName (Some (cluster_name keys)) (Some (node_name node)) 0

-- ---- keys and values

-- 259 where the index is past the last.
abbrev pub key_told : In → Option (List (List ℕ) × KeyData) → Out
key_told input None = refused 259 input
key_told input (Some entry) = EnumKey (Some entry.1.part) entry.1.written 0 0

-- 234 where the data is longer than what was asked for. The array has the size that was asked for.
abbrev pub value_out : ℕ → List ℕ → ℕ → Out
value_out kind bytes cb_data =
    if nat_lt cb_data (length bytes) then QueryValue kind (replicate cb_data 0) (length bytes) 0 234
    else QueryValue kind (bytes ++ replicate (cb_data - length bytes) 0) (length bytes) 0 0

-- 2 where there is no such value.
abbrev pub value_told : In → ℕ → Option ValueData → Out
value_told input cb_data None = refused 2 input
value_told input cb_data (Some value) = value_out value.kind value.bytes cb_data

abbrev pub entry_out : List ℕ → ℕ → List ℕ → ℕ → Out
entry_out name kind bytes cb_data =
    if nat_lt cb_data (length bytes) then EnumValue (Some name) kind [] 0 (length bytes) 0 234
    else EnumValue (Some name) kind bytes (length bytes) (length bytes) 0 0

abbrev pub entry_told : In → ℕ → Option (List ℕ × ValueData) → Out
entry_told input cb_data None = refused 259 input
entry_told input cb_data (Some entry) = entry_out entry.1.name entry.1.kind entry.1.bytes cb_data

abbrev pub info_out : Info → Out
info_out info = QueryInfoKey info.subkeys info.longest_subkey info.values info.longest_name info.longest_data 0 info.written 0 0

abbrev pub info_told : In → Option Info → Out
info_told input None = refused 1018 input
info_told input (Some info) = info_out info
