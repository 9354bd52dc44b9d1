-- What a call comes to. The checks are in order: the handle, the arguments, the node, the registry.
use Rattle.std.specs.Prelude.{ℕ, List, [], ◌++◌, Bool, true, false, Option, None, Some, if◌then◌else◌}
use Rattle.clus_names.specs.Folding.{folded, folded_parts}
use Rattle.clus_names.specs.Parts.{parts_of}
use Rattle.ndr_values.specs.declared.handle.WireHandle.{WireHandle}
use Rattle.update_records.specs.declared.update.Update.TheVariants as update
use Rattle.registry_defs.specs.Keys.{Keys, key_at}
use Rattle.registry_defs.specs.Applying.{is_born}
use Rattle.registry_defs.specs.Readings.{birth_at, value_in, nth_subkey, nth_value, info_at}
use Rattle.context_handles.specs.declared.held.Held.{Held}
use Rattle.context_handles.specs.declared.held.Kind.{Kind}
use Rattle.context_handles.specs.declared.held.Kind.TheVariants.{Cluster, Key}
use Rattle.context_handles.specs.Table.{Table, found}
use Rattle.clusapi_stubs.specs.declared.input.In.{In}
use Rattle.clusapi_stubs.specs.declared.input.In.TheVariants.{CloseCluster, CloseKey, CreateKey, DeleteKey, DeleteValue, EnumKey, EnumValue, GetClusterName, GetRootKey, OpenCluster, OpenKey, QueryInfoKey, QueryValue, SetValue}
use Rattle.clusapi_stubs.specs.declared.output.Out.{Out}
use Rattle.clusapi_methods.specs.declared.planned.Planned.{Planned}
use Rattle.clusapi_methods.specs.declared.planned.Planned.TheVariants.{Answer, Close, Fault, Open, Send}
use Rattle.clusapi_methods.specs.Calls.{handle_in}
use Rattle.clusapi_methods.specs.Arguments.{refusal}
use Rattle.clusapi_methods.specs.Refusals.{refused}
use Rattle.clusapi_methods.specs.Results.{entry_told, info_told, key_told, names_told, value_told}

-- ---- the handle

abbrev pub is_kind : Kind → Kind → Bool
is_kind Cluster Cluster = true
is_kind Key Key = true
is_kind wanted kind = false

abbrev pub of_kind : Kind → Option Held → Option Held
of_kind wanted None = None
of_kind wanted (Some held) = if is_kind wanted held.kind then Some held else None

abbrev pub root_as : Kind → Held
root_as kind = record { kind = kind; path = []; birth = 0 }

-- What a call is about: the cluster itself where it has no handle. None where its handle isn't open in the group, or was opened on something else.
abbrev pub held_for : Option (Kind × WireHandle) → Table → ℕ → Option Held
held_for None table group = Some (root_as Cluster)
held_for (Some wanted) table group = of_kind wanted.0 (found table group wanted.1)

-- ---- the registry

-- The registry is None where the node isn't open: 70.
abbrev pub if_open : Option Keys → In → (Keys → Planned) → Planned
if_open None input next = Answer (refused 70 input) false
if_open (Some keys) input next = next keys

-- 1018 where the key of the handle was deleted, also where another one is at its path now.
abbrev pub if_alive : Held → Keys → In → Planned → Planned
if_alive held keys input planned = if is_born held.birth (key_at (folded_parts held.path) keys) then planned else Answer (refused 1018 input) true

-- The results that are read of a key which is there.
abbrev pub told : Option Keys → Held → In → (Keys → Out) → Planned
told registry held input results = if_open registry input (λ keys. if_alive held keys input (Answer (results keys) true))

-- A handle is opened under the names that the client wrote. 2 where there is no such key.
abbrev pub opened_at : In → List (List ℕ) → Option ℕ → Planned
opened_at input path None = Answer (refused 2 input) true
opened_at input path (Some birth) = Open 30 (record { kind = Key; path = path; birth = birth }) true

abbrev pub opened_below : Held → Keys → In → List (List ℕ) → Planned
opened_below held keys input path = if_alive held keys input (opened_at input path (birth_at (folded_parts path) keys))

-- Handles are opened on the cluster and its root, and closed, without the registry.
abbrev pub performed : In → Held → ℕ → Option Keys → Planned
performed OpenCluster held node registry = Open 0 (root_as Cluster) false
performed (CloseCluster handle) held node registry = Close 1 handle
performed GetClusterName held node registry = if_open registry GetClusterName (λ keys. Answer (names_told node keys) true)
performed (GetRootKey sam) held node registry = Open 28 (root_as Key) false
performed (CreateKey handle subkey options sam security) held node registry =
    if_open registry (CreateKey handle subkey options sam security) (λ keys. Send (update.Create held.path held.birth (parts_of subkey)))
performed (OpenKey handle subkey sam) held node registry =
    if_open registry (OpenKey handle subkey sam) (λ keys. opened_below held keys (OpenKey handle subkey sam) (held.path ++ parts_of subkey))
performed (EnumKey handle index) held node registry =
    told registry held (EnumKey handle index) (λ keys. key_told (EnumKey handle index) (nth_subkey (folded_parts held.path) index keys))
performed (SetValue handle name kind bytes cb_data) held node registry =
    if_open registry (SetValue handle name kind bytes cb_data) (λ keys. Send (update.SetValue held.path held.birth name kind bytes))
performed (DeleteValue handle name) held node registry =
    if_open registry (DeleteValue handle name) (λ keys. Send (update.DeleteValue held.path held.birth name))
performed (QueryValue handle name cb_data) held node registry =
    told registry held (QueryValue handle name cb_data)
    (λ keys. value_told (QueryValue handle name cb_data) cb_data (value_in (folded_parts held.path) (folded name) keys))
performed (DeleteKey handle subkey) held node registry =
    if_open registry (DeleteKey handle subkey) (λ keys. Send (update.DeleteKey held.path held.birth (parts_of subkey)))
performed (EnumValue handle index cb_data) held node registry =
    told registry held (EnumValue handle index cb_data)
    (λ keys. entry_told (EnumValue handle index cb_data) cb_data (nth_value (folded_parts held.path) index keys))
performed (CloseKey handle) held node registry = Close 37 handle
performed (QueryInfoKey handle) held node registry =
    told registry held (QueryInfoKey handle) (λ keys. info_told (QueryInfoKey handle) (info_at (folded_parts held.path) keys))

-- ---- the checks in order

abbrev pub unless_refused : Option ℕ → In → Planned → Planned
unless_refused (Some status) input planned = Answer (refused status input) false
unless_refused None input planned = planned

abbrev pub planned_at : Option Held → In → ℕ → Option Keys → Planned
planned_at None input node registry = Fault 0x1C00001A
planned_at (Some held) input node registry = unless_refused (refusal held.path input) input (performed input held node registry)

-- The handle of the call is looked up in the group of its connection.
abbrev pub planned_for : In → Table → ℕ → Option Keys → Planned
planned_for input table group registry = planned_at (held_for (handle_in input) table group) input table.node registry
