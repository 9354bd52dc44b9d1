-- What a call comes to, and the server behind it.
use Rattle.std.specs.Prelude.{ℕ, ◌+◌, Option, None, Some, Result, Ok, Err}
use Rattle.ndr_values.specs.declared.handle.WireHandle.{WireHandle}
use Rattle.update_records.specs.declared.update.Update.{Update}
use Rattle.registry_defs.specs.declared.outcome.Outcome.{Outcome}
use Rattle.registry_defs.specs.Applying.{Applied, update_applied}
use Rattle.context_handles.specs.declared.held.Held.{Held}
use Rattle.context_handles.specs.Encoding.{handle_of}
use Rattle.context_handles.specs.Table.{Table, closed, opened}
use Rattle.clusapi_stubs.specs.declared.input.In.{In}
use Rattle.clusapi_stubs.specs.Outputs.{CanSpell}
use Rattle.clusapi_stubs.specs.Parameters.{input_in}
use Rattle.clusapi_methods.specs.declared.planned.Planned.{Planned}
use Rattle.clusapi_methods.specs.declared.planned.Planned.TheVariants.{Answer, Close, Fault, Open, Send}
use Rattle.clusapi_methods.specs.Finishing.{closed_as, finished, opened_as, opened_by}
use Rattle.clusapi_methods.specs.Plans.{planned_for}
use Rattle.clusapi_methods.specs.Sizes.{IsShort}
use Rattle.rpc_calls.specs.declared.call.Call.{Call}
use Rattle.registry_server.specs.declared.effect.Effect.{Effect}
use Rattle.registry_server.specs.declared.effect.Effect.TheVariants as effects
use Rattle.registry_server.specs.Parameters.{or_status}
use Rattle.registry_server.specs.Servers.{ServerState, most_size}

-- ---- handles

-- The handle that is given next.
abbrev pub next_handle : ServerState → WireHandle
next_handle s = handle_of s.handles.node (s.handles.serials + 1)

abbrev pub with_handles : ServerState → Table → ServerState
with_handles s handles = record s { handles = handles }

-- ---- updates

-- The server behind an update, which was counted.
abbrev pub with_keys : ServerState → Applied → ServerState
with_keys s applied = record s { keys = applied.keys; updates = s.updates + 1 }

-- A key that was created is answered by a handle.
abbrev pub ended : ServerState → ℕ → In → Outcome → Option Held → Effect × ServerState
ended s group input outcome None = (effects.Results (finished input outcome None), s)
ended s group input outcome (Some held) = (effects.Results (finished input outcome (Some (next_handle s))), with_handles s (opened s.handles group held))

-- An update was made: its call ends by its outcome.
abbrev pub made : ServerState → ℕ → In → Update → Applied → Effect × ServerState
made s group input update applied = ended (with_keys s applied) group input applied.outcome (opened_by update applied.outcome)

-- The sequence number of an update is its place among the updating calls, from 1. Its stamp is 0.
abbrev pub updated : ServerState → ℕ → In → Update → Effect × ServerState
updated s group input update = made s group input update (update_applied most_size (s.updates + 1) 0 update s.keys)

-- ---- a call

-- What was planned is done.
abbrev pub performed : ServerState → ℕ → In → Planned → Effect × ServerState
performed s group input (Answer out reads) = (effects.Results out, s)
performed s group input (Open opnum held reads) = (effects.Results (opened_as opnum (next_handle s)), with_handles s (opened s.handles group held))
performed s group input (Close opnum handle) = (effects.Results (closed_as opnum), with_handles s (closed s.handles group handle))
performed s group input (Send update) = updated s group input update
performed s group input (Fault status) = (effects.Fault status, s)

-- The call is planned with the registry, since the node is open.
abbrev pub called_with : ServerState → ℕ → Result In ℕ → Effect × ServerState
called_with s group (Err status) = (effects.Fault status, s)
called_with s group (Ok input) = performed s group input (planned_for input s.handles group (Some s.keys))

-- A call of a connection in this group.
abbrev pub called : ServerState → ℕ → Call → Effect × ServerState
called s group call = called_with s group (or_status (input_in call.opnum call.endian call.stub))

-- Results have an encoding.
abbrev pub HasEncoding : Effect → Type 0
HasEncoding (effects.Results out) = CanSpell out
HasEncoding (effects.Fault status) = Unit {0}

-- And they are short.
abbrev pub HasShortResults : Effect → Type 0
HasShortResults (effects.Results out) = IsShort out
HasShortResults (effects.Fault status) = Unit {0}

abbrev pub PlansShort : Planned → Type 0
PlansShort (Answer out reads) = IsShort out
PlansShort planned = Unit {0}
