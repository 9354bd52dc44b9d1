-- What of a call's parameters the checks look at.
use Rattle.std.specs.Prelude.{ℕ, List, [], Option, None, Some}
use Rattle.clus_names.specs.Limits.{LacksZero}
use Rattle.clusapi_stubs.specs.declared.fault.InFault.{InFault}
use Rattle.clusapi_stubs.specs.declared.fault.InFault.TheVariants as reading
use Rattle.clusapi_stubs.specs.declared.input.In.{In}
use Rattle.clusapi_stubs.specs.declared.input.In.TheVariants.{CloseCluster, CloseKey, CreateKey, DeleteKey, DeleteValue, EnumKey, EnumValue, OpenKey, QueryInfoKey, QueryValue, SetValue}
use Rattle.context_handles.specs.declared.held.Kind.{Kind}
use Rattle.context_handles.specs.declared.held.Kind.TheVariants.{Cluster, Key}
use Rattle.ndr_values.specs.declared.handle.WireHandle.{WireHandle}

-- The status of the fault that answers a call whose parameters weren't read; None where memory ran out.
abbrev pub fault_status : InFault → Option ℕ
fault_status reading.Opnum = Some 0x1C010002
fault_status (reading.Ndr fault) = Some 1783
fault_status reading.Memory = None

-- The same where memory did not run out: nca_op_rng_error where no method has the number, and else bad stub data.
abbrev pub stub_status : InFault → ℕ
stub_status reading.Opnum = 0x1C010002
stub_status fault = 1783

-- The handle of a call, and what it must have been opened on.
abbrev pub handle_in : In → Option (Kind × WireHandle)
handle_in (CloseCluster handle) = Some (Cluster, handle)
handle_in (CreateKey handle subkey options sam security) = Some (Key, handle)
handle_in (OpenKey handle subkey sam) = Some (Key, handle)
handle_in (EnumKey handle index) = Some (Key, handle)
handle_in (SetValue handle name kind bytes cb_data) = Some (Key, handle)
handle_in (DeleteValue handle name) = Some (Key, handle)
handle_in (QueryValue handle name cb_data) = Some (Key, handle)
handle_in (DeleteKey handle subkey) = Some (Key, handle)
handle_in (EnumValue handle index cb_data) = Some (Key, handle)
handle_in (CloseKey handle) = Some (Key, handle)
handle_in (QueryInfoKey handle) = Some (Key, handle)
handle_in _ = None

-- The subkey or the name of a value.
abbrev pub text_in : In → List ℕ
text_in (CreateKey handle subkey options sam security) = subkey
text_in (OpenKey handle subkey sam) = subkey
text_in (SetValue handle name kind bytes cb_data) = name
text_in (DeleteValue handle name) = name
text_in (QueryValue handle name cb_data) = name
text_in (DeleteKey handle subkey) = subkey
text_in _ = []

-- As the text of each stub, which ends before its first 0.
abbrev pub TextLacksZero : In → Type 0
TextLacksZero input = LacksZero (text_in input)
