-- The results of a call that is answered by a status other than 0.
use Rattle.std.specs.Prelude.{ℕ, [], None, replicate}
use Rattle.ndr_values.specs.declared.handle.WireHandle.{WireHandle}
use Rattle.clusapi_stubs.specs.declared.input.In.{In}
use Rattle.clusapi_stubs.specs.declared.input.In.TheVariants as call
use Rattle.clusapi_stubs.specs.declared.output.Out.{Out}
use Rattle.clusapi_stubs.specs.declared.output.Out.TheVariants.{CloseCluster, CloseKey, CreateKey, DeleteKey, DeleteValue, EnumKey, EnumValue, GetClusterName, GetRootKey, OpenCluster, OpenKey, QueryInfoKey, QueryValue, SetValue}

abbrev pub null_handle : WireHandle
null_handle = record { attributes = 0; id = replicate 16 0 }

-- Pointers and handles are null, numbers are 0 and arrays are empty, but the array of a queried value always has the size that was asked for.
abbrev pub refused : ℕ → In → Out
refused status call.OpenCluster = OpenCluster status null_handle
refused status (call.CloseCluster handle) = CloseCluster null_handle status
refused status call.GetClusterName = GetClusterName None None status
refused status (call.GetRootKey sam) = GetRootKey status 0 null_handle
refused status (call.CreateKey handle subkey options sam security) = CreateKey 0 status 0 null_handle
refused status (call.OpenKey handle subkey sam) = OpenKey status 0 null_handle
refused status (call.EnumKey handle index) = EnumKey None 0 0 status
refused status (call.SetValue handle name kind bytes cb_data) = SetValue 0 status
refused status (call.DeleteValue handle name) = DeleteValue 0 status
refused status (call.QueryValue handle name cb_data) = QueryValue 0 (replicate cb_data 0) 0 0 status
refused status (call.DeleteKey handle subkey) = DeleteKey 0 status
refused status (call.EnumValue handle index cb_data) = EnumValue None 0 [] 0 0 0 status
refused status (call.CloseKey handle) = CloseKey null_handle status
refused status (call.QueryInfoKey handle) = QueryInfoKey 0 0 0 0 0 0 0 0 status
