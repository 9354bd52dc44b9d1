-- What one item of a client's stream comes to, and what it changes.
use Rattle.std.specs.Prelude.{◌≡◌, ℕ, ◌+◌, ◌-◌, ◌++◌, false, List, [], ◌∷◌, Option, Some, None, Result, Ok, Err}
use Rattle.wire_fields.specs.declared.endian.Endian.TheVariants.{Little}
use Rattle.ndr_values.specs.declared.handle.WireHandle.{WireHandle}
use Rattle.update_records.specs.declared.update.Update.{Update}
use Rattle.update_records.specs.declared.update.Update.TheVariants as update
use Rattle.update_records.specs.Validity.{IsValid}
use Rattle.registry_defs.specs.Keys.{Keys}
use Rattle.context_handles.specs.Encoding.{handle_of}
use Rattle.context_handles.specs.Table.{Table, closed, group_for, joined, opened}
use Rattle.clusapi_stubs.specs.declared.input.In.{In}
use Rattle.clusapi_stubs.specs.declared.output.Out.{Out}
use Rattle.clusapi_stubs.specs.Outputs.{CanSpell, encoding, results}
use Rattle.clusapi_stubs.specs.Parameters.{input_in}
use Rattle.clusapi_methods.specs.declared.planned.Planned.{Planned}
use Rattle.clusapi_methods.specs.declared.planned.Planned.TheVariants.{Answer, Close, Open, Send}
use Rattle.clusapi_methods.specs.declared.planned.Planned.TheVariants as planned
use Rattle.clusapi_methods.specs.Finishing.{closed_as, opened_as}
use Rattle.clusapi_methods.specs.Plans.{planned_for}
use Rattle.clusapi_methods.specs.Sizes.{IsShort}
use Rattle.rpc_calls.specs.declared.call.Call as calls
use Rattle.rpc_calls.specs.declared.item.Item.{Item}
use Rattle.rpc_calls.specs.Cutting.{reply_pieces}
use Rattle.rpc_assoc.specs.declared.assoc.AssocOut.{AssocOut}
use Rattle.rpc_assoc.specs.declared.assoc.AssocOut.TheVariants as assoc
use Rattle.rpc_assoc.specs.Answers.{fault_on}
use Rattle.rpc_assoc.specs.Association.{group_wanted, reply_size, step_of}
use Rattle.rpc_assoc.specs.State.{State, group_of}
use Rattle.registry_server.specs.Answers.{text_of}
use Rattle.registry_server.specs.Parameters.{or_status}
use Rattle.client_connections.specs.declared.origin.Origin.TheVariants.{Call}
use Rattle.client_connections.specs.declared.took.CallEnd.{CallEnd}
use Rattle.client_connections.specs.declared.took.CallEnd.TheVariants.{Results, Fault, Sends}
use Rattle.client_connections.specs.declared.took.Took.{Took}
use Rattle.client_connections.specs.declared.took.Took.TheVariants.{Nothing, Reply, Queues}

-- What an item of one connection may change.
pub record ClientState : Type 0 where
  -- the groups and handles of the node
  pub handles : Table
  -- the association of the connection
  pub association : State

abbrev pub state : Table → State → ClientState
state handles association = record { handles = handles; association = association }

-- How many items and batches a node takes, and how many handles it gives.
abbrev pub most_taken : ℕ
most_taken = 9223372036854775807

-- ---- groups

-- What the table gives to a bind that asks for a group.
abbrev pub group_given : Table → Option ℕ → Option ℕ
group_given handles None = None
group_given handles (Some asked) = group_for handles asked

-- The group that the item gets, where it is a bind that may have one.
abbrev pub given_group : ClientState → Item → Option ℕ
given_group s item = group_given s.handles (group_wanted s.association item)

-- What comes of the association's step.
abbrev pub stepped : Table → AssocOut × State → AssocOut × ClientState
stepped handles (out, next) = (out, state handles next)

-- The association takes the item, in the group that it gets.
abbrev pub taken : ClientState → Item → AssocOut × ClientState
taken s item = stepped (joined s.handles (given_group s item)) (step_of s.association item (given_group s item))

-- ---- a call

-- The handle that is given next.
abbrev pub next_handle : Table → WireHandle
next_handle handles = handle_of handles.node (handles.serials + 1)

-- What was planned is done, but for an update.
abbrev pub performed : Table → ℕ → Planned → CallEnd × Table
performed handles group (Answer out reads) = (Results out reads, handles)
performed handles group (Open opnum held reads) = (Results (opened_as opnum (next_handle handles)) reads, opened handles group held)
performed handles group (Close opnum handle) = (Results (closed_as opnum) false, closed handles group handle)
performed handles group (Send u) = (Sends u, handles)
performed handles group (planned.Fault status) = (Fault status, handles)

-- The call is planned with the keys of the registry, which are there where the node is open.
abbrev pub called_with : Option Keys → Table → ℕ → Result In ℕ → CallEnd × Table
called_with keys handles group (Err status) = (Fault status, handles)
called_with keys handles group (Ok input) = performed handles group (planned_for input handles group keys)

-- A call of a connection in this group.
abbrev pub called : Option Keys → Table → ℕ → calls.Call → CallEnd × Table
called keys handles group call = called_with keys handles group (or_status (input_in call.opnum call.endian call.stub))

-- Results have an encoding, and are short.
abbrev pub HasEncoding : CallEnd → Type 0
HasEncoding (Results out reads) = CanSpell out
HasEncoding end = Unit {0}

abbrev pub HasShortResults : CallEnd → Type 0
HasShortResults (Results out reads) = IsShort out
HasShortResults end = Unit {0}

-- An update that is sent is valid.
abbrev pub IsSendable : CallEnd → Type 0
IsSendable (Sends u) = IsValid u
IsSendable end = Unit {0}

-- A call that waits opened no handle.
abbrev pub GivesNoHandle : CallEnd → ℕ → ℕ → Type 0
GivesNoHandle (Sends u) before after = after ≡ before
GivesNoHandle end before after = Unit {0}

-- ---- its reply

-- The fragments that hand results on, of at most `max_xmit` bytes each; 24 of them are no stub.
abbrev pub results_text : ℕ → ℕ → ℕ → Out → List ℕ
results_text max_xmit call_id context out = text_of (reply_pieces call_id context (max_xmit - 24) (encoding Little [] (results out)))

abbrev pub fault_text : ℕ → ℕ → ℕ → List ℕ
fault_text call_id context status = text_of (fault_on call_id context status ∷ [])

-- The path of the key that the update creates.
abbrev pub target_of : Update → Option (List (List ℕ))
target_of (update.Create key birth subkey) = Some (key ++ subkey)
target_of u = None

-- A call that updates waits; any other is answered.
abbrev pub ended : ℕ → ℕ → calls.Call → CallEnd → Took
ended conn max_xmit call (Results out reads) = Reply (results_text max_xmit call.call_id call.context out) reads
ended conn max_xmit call (Fault status) = Reply (fault_text call.call_id call.context status) false
ended conn max_xmit call (Sends u) = Queues (Call conn call.call_id call.context call.opnum (target_of u)) u

abbrev pub replied : ℕ → State → calls.Call → CallEnd × Table → Took × ClientState
replied conn association call (end, handles) = (ended conn (reply_size association.terms) call end, state handles association)

-- A call that is taken is that of a connection in a group, since no context is accepted before the bind.
abbrev pub call_answered : Option Keys → ℕ → ClientState → calls.Call → Option ℕ → Took × ClientState
call_answered keys conn s call None = (Nothing, s)
call_answered keys conn s call (Some group) = replied conn s.association call (called keys s.handles group call)

-- ---- one item

abbrev pub answered : Option Keys → ℕ → AssocOut × ClientState → Took × ClientState
answered keys conn (assoc.Reply pdu, s) = (Reply (text_of (pdu ∷ [])) false, s)
answered keys conn (assoc.Call call, s) = call_answered keys conn s call (group_of s.association)
answered keys conn (assoc.Nothing, s) = (Nothing, s)

-- What an item of the connection with this number comes to, given the node's keys where it is open.
unfoldable pub item_of : Option Keys → ℕ → ClientState → Item → Took × ClientState
item_of keys conn s item = answered keys conn (taken s item)

-- An item that waits opened no handle.
abbrev pub QueuesNoHandle : Took → ℕ → ℕ → Type 0
QueuesNoHandle (Queues origin u) before after = after ≡ before
QueuesNoHandle took before after = Unit {0}

-- An update that waits is valid.
abbrev pub QueuesValid : Took → Type 0
QueuesValid (Queues origin u) = IsValid u
QueuesValid took = Unit {0}
