-- What an item of a stream of bytes queues is an update.
use Rattle.std.proofs.Common.{◌≡◌, ℕ, Bool, true, false, List, [], ◌∷◌, Option, Some, None, Result, Ok, Err, if◌then◌else◌, refl}
use Rattle.std.specs.Prelude.{IfSome, is_some, ◌==◌}
use Rattle.std.specs.List.{AllByRecursion, list_any}
use Rattle.wire_fields.specs.Numbers.{IsBytes}
use Rattle.clus_names.specs.Limits.{IsPath}
use Rattle.update_records.specs.declared.update.Update.{Update}
use Rattle.update_records.specs.declared.update.Update.TheVariants as update
use Rattle.update_records.specs.Limits.{IsUpdate}
use Rattle.registry_defs.specs.Keys.{Keys}
use Rattle.context_handles.specs.Table.{Table, joined}
use Rattle.clusapi_stubs.specs.declared.fault.InFault.{InFault}
use Rattle.clusapi_stubs.specs.declared.input.In.{In}
use Rattle.clusapi_stubs.specs.Parameters.{input_in}
use Rattle.clusapi_methods.specs.declared.planned.Planned.{Planned}
use Rattle.clusapi_methods.specs.declared.planned.Planned.TheVariants as planned
use Rattle.clusapi_methods.specs.Calls.{handle_in}
use Rattle.clusapi_methods.specs.Plans.{held_for, planned_for}
use Rattle.rpc_pdu.specs.declared.pdu.Pdu.{Pdu}
use Rattle.rpc_pdu.specs.declared.pdu.Pdu.TheVariants.{Bind, AlterContext}
use Rattle.rpc_pdu.specs.declared.proposal.Proposal.{Proposal}
use Rattle.rpc_calls.specs.declared.call.Call as calls
use Rattle.rpc_calls.specs.declared.item.Item.{Item}
use Rattle.rpc_calls.specs.declared.item.Item.TheVariants as items
use Rattle.rpc_assoc.specs.declared.assoc.AssocOut.{AssocOut}
use Rattle.rpc_assoc.specs.declared.assoc.AssocOut.TheVariants as assoc
use Rattle.rpc_assoc.specs.declared.terms.Terms.{Terms}
use Rattle.rpc_assoc.specs.Answers.{fault_on, nak}
use Rattle.rpc_assoc.specs.Association.{alter_answer, alter_by, bind_answer, call_answer, in_group, is_too_small, reply_size, single_answer, step_of}
use Rattle.rpc_assoc.specs.State.{State, group_of}
use Rattle.registry_server.specs.Parameters.{or_status}
use Rattle.client_connections.specs.declared.took.CallEnd.{CallEnd}
use Rattle.client_connections.specs.declared.took.CallEnd.TheVariants.{Results, Fault, Sends}
use Rattle.client_connections.specs.declared.took.Took.{Took}
use Rattle.client_connections.specs.declared.took.Took.TheVariants as took
use Rattle.client_connections.specs.Items.{ClientState, answered, call_answered, called, called_with, ended, given_group, item_of, performed, replied, state, target_of}
use Rattle.client_connections.specs.Taking.{Course, Serving, takes_all, takes_one, took_by}
use Rattle.client_laws.specs.Typed.{AreBornIn, IsTarget, IsTypedCommon}
use Rattle.client_laws.proofs.Handles.{AreHeld, held_closed, held_joined, held_opened, held_wanted}
use Rattle.client_laws.proofs.Lists.{all_snoc}
use Rattle.client_laws.proofs.Plans.{PlansTyped, joined_path, typed_planned}
use Rattle.client_laws.proofs.Streams.{HasStub}
use Rattle.client_laws.proofs.Stubs.{input_fits}

-- ---- a call

abbrev SendsUpdate : CallEnd → Type 0
SendsUpdate (Sends u) = IsUpdate u
SendsUpdate end = Unit {0}

record EndsTyped (end : CallEnd × Table) : Type 0 where
  handles : AreHeld end.1
  sends : SendsUpdate end.0

typed_end : (handles : Table) (group : ℕ) (plan : Planned) → AreHeld handles → PlansTyped plan → EndsTyped (performed handles group plan)
typed_end handles group (planned.Answer out reads) all is = record { handles = all; sends = tt }
typed_end handles group (planned.Open opnum held reads) all is = record { handles = held_opened handles group held all is; sends = tt }
typed_end handles group (planned.Close opnum handle) all is = record { handles = held_closed handles group handle all; sends = tt }
typed_end handles group (planned.Send u) all is = record { handles = all; sends = is }
typed_end handles group (planned.Fault status) all is = record { handles = all; sends = tt }

typed_call : (keys : Option Keys) (handles : Table) (group : ℕ) (call : calls.Call) → AreHeld handles → AreBornIn keys → IsBytes call.stub → EndsTyped (called keys handles group call)
typed_call keys handles group call all born stub = by (input_in call.opnum call.endian call.stub) refl
  where
    by : (r : Result In InFault) → input_in call.opnum call.endian call.stub ≡ r → EndsTyped (called_with keys handles group (or_status r))
    by (Err fault) e = record { handles = all; sends = tt }
    by (Ok input) e =
        typed_end handles group (planned_for input handles group keys) all
        (typed_planned (held_for (handle_in input) handles group) input handles.node keys (held_wanted (handle_in input) handles group all) (input_fits call.opnum call.endian call.stub input stub e) born)

-- ---- what an item comes to

abbrev QueuesTyped : Took → Type 0
QueuesTyped (took.Queues origin u) = IsUpdate u × IsTarget origin
QueuesTyped took = Unit {0}

record TookTyped (out : Took × ClientState) : Type 0 where
  handles : AreHeld out.1.handles
  queues : QueuesTyped out.0

typed_target : (u : Update) → IsUpdate u → IfSome (target_of u) IsPath
typed_target (update.Create key birth subkey) is = joined_path key subkey is.fields.0.path is.fields.1 is.valid
typed_target (update.SetValue key birth name kind bytes) is = tt
typed_target (update.DeleteValue key birth name) is = tt
typed_target (update.DeleteKey key birth subkey) is = tt
typed_target (update.Batch changes) is = tt

typed_ended : (conn max_xmit : ℕ) (call : calls.Call) (end : CallEnd) → SendsUpdate end → QueuesTyped (ended conn max_xmit call end)
typed_ended conn max_xmit call (Results out reads) is = tt
typed_ended conn max_xmit call (Fault status) is = tt
typed_ended conn max_xmit call (Sends u) is = (is, typed_target u is)

typed_replied : (conn : ℕ) (association : State) (call : calls.Call) (end : CallEnd × Table) → EndsTyped end → TookTyped (replied conn association call end)
typed_replied conn association call (end, handles) is = record { handles = is.handles; queues = typed_ended conn (reply_size association.terms) call end is.sends }

abbrev HasCall : AssocOut → Type 0
HasCall (assoc.Call call) = IsBytes call.stub
HasCall out = Unit {0}

module _ (keys : Option Keys) (conn : ℕ) (born : AreBornIn keys) where
  typed_in_group : (s : ClientState) (call : calls.Call) (group : Option ℕ) → AreHeld s.handles → IsBytes call.stub → TookTyped (call_answered keys conn s call group)
  typed_in_group s call None all stub = record { handles = all; queues = tt }
  typed_in_group s call (Some group) all stub = typed_replied conn s.association call (called keys s.handles group call) (typed_call keys s.handles group call all born stub)

  typed_answered : (out : AssocOut) (s : ClientState) → AreHeld s.handles → HasCall out → TookTyped (answered keys conn (out, s))
  typed_answered (assoc.Reply pdu) s all is = record { handles = all; queues = tt }
  typed_answered (assoc.Call call) s all is = typed_in_group s call (group_of s.association) all is
  typed_answered assoc.Nothing s all is = record { handles = all; queues = tt }

-- ---- a step of the association

no_call_in_group : (s : State) (call_id max_xmit max_recv : ℕ) (proposals : List Proposal) (group : Option ℕ) → HasCall (in_group s call_id max_xmit max_recv proposals group).0
no_call_in_group s call_id max_xmit max_recv proposals None = tt
no_call_in_group s call_id max_xmit max_recv proposals (Some group) = tt

no_call_bind : (s : State) (call_id max_xmit max_recv : ℕ) (proposals : List Proposal) (group : Option ℕ) → HasCall (bind_answer s call_id max_xmit max_recv proposals group).0
unfolding bind_answer
no_call_bind s call_id max_xmit max_recv proposals group = by (is_some s.terms) (is_too_small max_xmit max_recv)
  where
    by : (bound small : Bool) → HasCall (if bound then (assoc.Reply (nak call_id 0), s) else (if small then (assoc.Reply (nak call_id 2), s) else in_group s call_id max_xmit max_recv proposals group)).0
    by true small = tt
    by false true = tt
    by false false = no_call_in_group s call_id max_xmit max_recv proposals group

no_call_alter : (s : State) (call_id : ℕ) (proposals : List Proposal) (terms : Option Terms) → HasCall (alter_by s call_id proposals terms).0
no_call_alter s call_id proposals None = tt
no_call_alter s call_id proposals (Some terms) = tt

no_call_single : (s : State) (pdu : Pdu) (group : Option ℕ) → HasCall (single_answer s pdu group).0
unfolding single_answer alter_answer
no_call_single s (Bind head max_xmit max_recv wanted proposals) group = no_call_bind s head.call_id max_xmit max_recv proposals group
no_call_single s (AlterContext head max_xmit max_recv wanted proposals) group = no_call_alter s head.call_id proposals s.terms
no_call_single s pdu group = tt

step_has_call : (s : State) (item : Item) (group : Option ℕ) → HasStub item → HasCall (step_of s item group).0
unfolding step_of call_answer
step_has_call s (items.Call call) group stub = by (list_any (λ id. id == call.context) s.accepted)
  where
    by : (b : Bool) → HasCall (if◌then◌else◌ {A = AssocOut × State} b (assoc.Call call, s) (assoc.Reply (fault_on call.call_id call.context 0x1C010003), s)).0
    by true = stub
    by false = tt
step_has_call s (items.Single pdu) group stub = no_call_single s pdu group
step_has_call s (items.BadBind call_id reason) group stub = tt

typed_item : (keys : Option Keys) (conn : ℕ) (s : ClientState) (item : Item) → AreBornIn keys → AreHeld s.handles → HasStub item → TookTyped (item_of keys conn s item)
unfolding item_of
typed_item keys conn s item born all stub =
    let out : AssocOut × State = step_of s.association item (given_group s item) in
    let handles : Table = joined s.handles (given_group s item) in
    typed_answered keys conn born out.0 (state handles out.1) (held_joined s.handles (given_group s item) all) (step_has_call s.association item (given_group s item) stub)

-- ---- items in turn

pub record IsTypedCourse (p : Course) : Type 0 where
  pub common : IsTypedCommon p.common
  pub update : IfSome p.update IsUpdate

typed_took : (v : Serving) (conn : ℕ) (p : Course) (out : Took) (s : ClientState) → IsTypedCourse p → TookTyped (out, s) → IsTypedCourse (took_by v conn p (out, s))
typed_took v conn p took.Nothing s is t = record { common = record { handles = t.handles; targets = is.common.targets }; update = is.update }
typed_took v conn p (took.Reply bytes reads) s is t = record { common = record { handles = t.handles; targets = is.common.targets }; update = is.update }
typed_took v conn p (took.Queues origin u) s is t = record {
  common = record { handles = t.handles; targets = all_snoc IsTarget p.common.waiting origin is.common.targets t.queues.1 };
  update = t.queues.0;
}

typed_one : (v : Serving) (conn : ℕ) (p : Course) (item : Item) → AreBornIn v.keys → IsTypedCourse p → HasStub item → IsTypedCourse (takes_one v conn p item)
typed_one v conn p item born is stub =
    let s = state p.common.table p.association in
    let out = item_of v.keys conn s item in
    typed_took v conn p out.0 out.1 is (typed_item v.keys conn s item born is.common.handles stub)

pub typed_all : (v : Serving) (conn : ℕ) (items : List Item) (p : Course) → AreBornIn v.keys → IsTypedCourse p → AllByRecursion HasStub items → IsTypedCourse (takes_all v conn p items)
typed_all v conn [] p born is stubs = is
typed_all v conn (item ∷ items) p born is stubs = typed_all v conn items (takes_one v conn p item) born (typed_one v conn p item born is stubs.0) stubs.1
