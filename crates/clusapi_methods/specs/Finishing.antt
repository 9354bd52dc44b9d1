-- How an updating call ends, once its update came to an outcome.
use Rattle.std.specs.Prelude.{◌≡◌, ℕ, ◌++◌, ◌==◌, Option, None, Some, is_some, if◌then◌else◌}
use Rattle.clus_names.specs.Limits.{IsPath}
use Rattle.ndr_values.specs.declared.handle.WireHandle.{WireHandle}
use Rattle.update_records.specs.declared.update.Update.{Update}
use Rattle.update_records.specs.declared.update.Update.TheVariants as update
use Rattle.update_records.specs.Validity.{IsValid}
use Rattle.registry_defs.specs.declared.outcome.Outcome.{Outcome}
use Rattle.context_handles.specs.declared.held.Held.{Held}
use Rattle.context_handles.specs.declared.held.Kind.TheVariants.{Key}
use Rattle.clusapi_stubs.specs.declared.input.In.{In}
use Rattle.clusapi_stubs.specs.declared.input.In.TheVariants as call
use Rattle.clusapi_stubs.specs.declared.output.Out.{Out}
use Rattle.clusapi_stubs.specs.declared.output.Out.TheVariants.{CloseCluster, CloseKey, CreateKey, DeleteKey, DeleteValue, GetRootKey, OpenCluster, OpenKey, SetValue}
use Rattle.clusapi_stubs.specs.Inputs.{opnum_of}
use Rattle.clusapi_stubs.specs.Outputs.{CanSpell}
use Rattle.clusapi_methods.specs.declared.planned.Planned.{Planned}
use Rattle.clusapi_methods.specs.declared.planned.Planned.TheVariants.{Answer, Close, Fault, Open, Send}
use Rattle.clusapi_methods.specs.Refusals.{null_handle}

-- A Create that was made opens a handle on its key, whether it made the key or found it.
abbrev pub opened_by : Update → Outcome → Option Held
opened_by (update.Create key birth subkey) outcome =
    if outcome.status == 0 then Some (record { kind = Key; path = key ++ subkey; birth = outcome.birth }) else None
opened_by update outcome = None

abbrev pub created : Outcome → Option WireHandle → Out
created outcome None = CreateKey 0 outcome.status 0 null_handle
created outcome (Some handle) = CreateKey outcome.disposition 0 0 handle

-- The results of a call that updates, by its operation number. But for a key that was created they are the statuses alone.
abbrev pub finished_as : ℕ → Outcome → Option WireHandle → Out
finished_as opnum outcome opened =
    if opnum == 29 then created outcome opened
    else if opnum == 32 then SetValue 0 outcome.status
    else if opnum == 33 then DeleteValue 0 outcome.status
    else DeleteKey 0 outcome.status

abbrev pub finished : In → Outcome → Option WireHandle → Out
finished input outcome opened = finished_as (opnum_of input) outcome opened

-- A call that updates, with a handle exactly where it is CreateKey and was made.
abbrev pub IsFinishable : In → Outcome → Option WireHandle → Type 0
IsFinishable (call.CreateKey handle subkey options sam security) outcome opened = is_some opened ≡ (outcome.status == 0)
IsFinishable (call.SetValue handle name kind bytes cb_data) outcome opened = opened ≡ None
IsFinishable (call.DeleteValue handle name) outcome opened = opened ≡ None
IsFinishable (call.DeleteKey handle subkey) outcome opened = opened ≡ None
IsFinishable input outcome opened = ⊥

-- The update is of the call's kind.
abbrev pub IsUpdateOf : In → Update → Type 0
IsUpdateOf (call.CreateKey handle subkey options sam security) (update.Create key birth below) = Unit {0}
IsUpdateOf (call.SetValue handle name kind bytes cb_data) (update.SetValue key birth set kind_set bytes_set) = Unit {0}
IsUpdateOf (call.DeleteValue handle name) (update.DeleteValue key birth deleted) = Unit {0}
IsUpdateOf (call.DeleteKey handle subkey) (update.DeleteKey key birth below) = Unit {0}
IsUpdateOf input update = ⊥

-- The results of a call that opened a handle, by its operation number.
abbrev pub opened_as : ℕ → WireHandle → Out
opened_as opnum handle =
    if opnum == 0 then OpenCluster 0 handle
    else if opnum == 28 then GetRootKey 0 0 handle
    else OpenKey 0 0 handle

-- And of one that closed its handle.
abbrev pub closed_as : ℕ → Out
closed_as opnum = if opnum == 1 then CloseCluster null_handle 0 else CloseKey null_handle 0

-- What the calls that follow ask for: results have an encoding, updates are valid and paths are bounded.
abbrev pub CanFollow : Planned → Type 0
CanFollow (Answer out reads) = CanSpell out
CanFollow (Open opnum held reads) = IsPath held.path
CanFollow (Close opnum handle) = Unit {0}
CanFollow (Send update) = IsValid update
CanFollow (Fault status) = Unit {0}

-- An update is that of the call.
abbrev pub IsFor : In → Planned → Type 0
IsFor input (Send update) = IsUpdateOf input update
IsFor input planned = Unit {0}
