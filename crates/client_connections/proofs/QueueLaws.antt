-- What a connection queues: one update at most, at a node that is open, and with the connection itself as the one that waits.
use Rattle.std.proofs.Common.{◌≡◌, ℕ, ◌+◌, ◌<◌, Bool, true, false, not, ◌&&◌, List, [], ◌∷◌, ◌++◌, Option, Some, None, Result, Ok, Err, IsTrue, is_some, nat_lt, refl, sym, ap, ◌∙◌, subst, arith, nat_eq, length-append}
use Rattle.std.specs.Prelude.{◌||◌}
use Rattle.std.specs.List.{list_any}
use Rattle.std.proofs.lemmas.List.Folds.{list_any-append}
use Rattle.update_records.specs.declared.update.Update.{Update}
use Rattle.registry_defs.specs.Keys.{Keys}
use Rattle.context_handles.specs.Table.{Table}
use Rattle.context_handles.specs.declared.held.Held.{Held}
use Rattle.clusapi_stubs.specs.declared.input.In.{In}
use Rattle.clusapi_stubs.specs.declared.input.In.TheVariants as input
use Rattle.clusapi_methods.specs.Arguments.{refusal}
use Rattle.clusapi_methods.specs.Calls.{handle_in}
use Rattle.clusapi_methods.specs.Plans.{held_for, planned_at, planned_for, unless_refused}
use Rattle.clusapi_methods.specs.Plans as plans
use Rattle.clusapi_methods.specs.declared.planned.Planned.{Planned}
use Rattle.clusapi_methods.specs.declared.planned.Planned.TheVariants as planned
use Rattle.clusapi_stubs.specs.Parameters.{input_in}
use Rattle.registry_server.specs.Parameters.{or_status}
use Rattle.rpc_assoc.specs.declared.assoc.AssocOut.{AssocOut}
use Rattle.rpc_assoc.specs.declared.assoc.AssocOut.TheVariants as assoc
use Rattle.rpc_assoc.specs.State.{State, group_of}
use Rattle.rpc_calls.specs.Intakes.{Kept}
use Rattle.rpc_calls.specs.declared.call.Call as calls
use Rattle.rpc_calls.specs.declared.item.Item.{Item}
use Rattle.client_connections.specs.declared.origin.Origin.{Origin}
use Rattle.client_connections.specs.declared.took.CallEnd.{CallEnd}
use Rattle.client_connections.specs.declared.took.CallEnd.TheVariants.{Results, Fault, Sends}
use Rattle.client_connections.specs.declared.took.Ending.{Ending}
use Rattle.client_connections.specs.declared.took.Ending.TheVariants.{Fails, Rests, Waits}
use Rattle.client_connections.specs.declared.took.Took.{Took}
use Rattle.client_connections.specs.declared.took.Took.TheVariants.{Nothing, Reply, Queues}
use Rattle.cluster_rules.specs.declared.effect.CloseCause.{CloseCause}
use Rattle.cluster_rules.specs.declared.effect.Effect.{Effect}
use Rattle.client_connections.specs.Clients.{Client, Clients, Common, has_waiting, left_by, may_take, waits_at}
use Rattle.client_connections.specs.Items.{ClientState, answered, call_answered, called, called_with, ended, item_of, most_taken, performed, replied, state, taken}
use Rattle.client_connections.specs.Taking.{Course, GoesOn, Hears, HearsBy, MayAll, QueuesOne, Resumes, Serving, Tells, closes, counted, course_from, fed_client, goes_on, refusal as piece_refusal, takes_all, took_by}

-- ---- what an item queues

abbrev PlansAtOpen : Option Keys → Planned → Type 0
PlansAtOpen keys (planned.Send u) = IsTrue (is_some keys)
PlansAtOpen keys plan = Unit {0}

plan_at_some : (keys : Keys) (plan : Planned) → PlansAtOpen (Some keys) plan
plan_at_some keys (planned.Send u) = refl
plan_at_some keys (planned.Answer out reads) = tt
plan_at_some keys (planned.Open opnum held reads) = tt
plan_at_some keys (planned.Close opnum handle) = tt
plan_at_some keys (planned.Fault status) = tt

plan_at_none : (i : In) (held : Held) (node : ℕ) → PlansAtOpen None (plans.performed i held node None)
plan_at_none input.OpenCluster held node = tt
plan_at_none (input.CloseCluster handle) held node = tt
plan_at_none input.GetClusterName held node = tt
plan_at_none (input.GetRootKey sam) held node = tt
plan_at_none (input.CreateKey handle subkey options sam security) held node = tt
plan_at_none (input.OpenKey handle subkey sam) held node = tt
plan_at_none (input.EnumKey handle index) held node = tt
plan_at_none (input.SetValue handle name kind bytes cb_data) held node = tt
plan_at_none (input.DeleteValue handle name) held node = tt
plan_at_none (input.QueryValue handle name cb_data) held node = tt
plan_at_none (input.DeleteKey handle subkey) held node = tt
plan_at_none (input.EnumValue handle index cb_data) held node = tt
plan_at_none (input.CloseKey handle) held node = tt
plan_at_none (input.QueryInfoKey handle) held node = tt

unless_at_none : (refused : Option ℕ) (i : In) (held : Held) (node : ℕ) → PlansAtOpen None (unless_refused refused i (plans.performed i held node None))
unless_at_none (Some status) i held node = tt
unless_at_none None i held node = plan_at_none i held node

held_at_none : (held : Option Held) (i : In) (node : ℕ) → PlansAtOpen None (planned_at held i node None)
held_at_none None i node = tt
held_at_none (Some held) i node = unless_at_none (refusal held.path i) i held node

plan_is : (keys : Option Keys) (i : In) (handles : Table) (group : ℕ) → PlansAtOpen keys (planned_for i handles group keys)
plan_is None i handles group = held_at_none (held_for (handle_in i) handles group) i handles.node
plan_is (Some keys) i handles group = plan_at_some keys (planned_for i handles group (Some keys))

abbrev EndsAtOpen : Option Keys → CallEnd → Type 0
EndsAtOpen keys (Sends u) = IsTrue (is_some keys)
EndsAtOpen keys end = Unit {0}

end_of_plan : (keys : Option Keys) (handles : Table) (group : ℕ) (plan : Planned) → PlansAtOpen keys plan → EndsAtOpen keys (performed handles group plan).0
end_of_plan keys handles group (planned.Send u) at_open = at_open
end_of_plan keys handles group (planned.Answer out reads) at_open = tt
end_of_plan keys handles group (planned.Open opnum held reads) at_open = tt
end_of_plan keys handles group (planned.Close opnum handle) at_open = tt
end_of_plan keys handles group (planned.Fault status) at_open = tt

end_is : (keys : Option Keys) (handles : Table) (group : ℕ) (read : Result In ℕ) → EndsAtOpen keys (called_with keys handles group read).0
end_is keys handles group (Err status) = tt
end_is keys handles group (Ok i) = end_of_plan keys handles group (planned_for i handles group keys) (plan_is keys i handles group)

-- An item that waits is that of the connection, at a node that is open.
abbrev WaitsFor : Option Keys → ℕ → Took → Type 0
WaitsFor keys c (Queues origin u) = (waits_at c origin ≡ true) × IsTrue (is_some keys)
WaitsFor keys c took = Unit {0}

same_number : (n : ℕ) → nat_eq n n ≡ true
same_number n = grind arith

waits_for_end : (keys : Option Keys) (c max_xmit : ℕ) (call : calls.Call) (end : CallEnd) → EndsAtOpen keys end → WaitsFor keys c (ended c max_xmit call end)
waits_for_end keys c max_xmit call (Results out reads) at_open = tt
waits_for_end keys c max_xmit call (Fault status) at_open = tt
waits_for_end keys c max_xmit call (Sends u) at_open = (same_number c, at_open)

waits_for_call : (keys : Option Keys) (c : ℕ) (association : State) (call : calls.Call) (end : CallEnd × Table) → EndsAtOpen keys end.0 → WaitsFor keys c (replied c association call end).0
waits_for_call keys c association call (end, handles) at_open = waits_for_end keys c _ call end at_open

waits_in_group : (keys : Option Keys) (c : ℕ) (s : ClientState) (call : calls.Call) (group : Option ℕ) → WaitsFor keys c (call_answered keys c s call group).0
waits_in_group keys c s call None = tt
waits_in_group keys c s call (Some group) =
    waits_for_call keys c s.association call (called keys s.handles group call) (end_is keys s.handles group (or_status (input_in call.opnum call.endian call.stub)))

waits_for_step : (keys : Option Keys) (c : ℕ) (out : AssocOut × ClientState) → WaitsFor keys c (answered keys c out).0
waits_for_step keys c (assoc.Reply pdu, s) = tt
waits_for_step keys c (assoc.Call call, s) = waits_in_group keys c s call (group_of s.association)
waits_for_step keys c (assoc.Nothing, s) = tt

pub waits_for : (keys : Option Keys) (c : ℕ) (s : ClientState) (item : Item) → WaitsFor keys c (item_of keys c s item).0
unfolding item_of
waits_for keys c s item = waits_for_step keys c (taken s item)

-- ---- what items queue

abbrev Queued : Serving → Course → Course → Type 0
Queued v p q = QueuesOne v p.common q.common q.update

now_waiting : (c : ℕ) (s : Common) (origin : Origin) (table : Table) (n : ℕ) → waits_at c origin ≡ true
    → may_take c (record { table = table; waiting = s.waiting ++ origin ∷ []; taken = n }) ≡ true → ⊥
now_waiting c s origin table n waits may =
    let any : list_any (waits_at c) (s.waiting ++ origin ∷ []) ≡ (list_any (waits_at c) s.waiting || list_any (waits_at c) (origin ∷ [])) = list_any-append (waits_at c) s.waiting (origin ∷ []) in
    now_not (list_any (waits_at c) s.waiting) (waits_at c origin) (list_any (waits_at c) (s.waiting ++ origin ∷ [])) _ any waits may
  where
    now_not : (before is now few : Bool) → now ≡ (before || (is || false)) → is ≡ true → (not now && few) ≡ true → ⊥
    now_not true is true few any waits may = absurd (cc)
    now_not true is false few any waits may = absurd (cc)
    now_not false true true few any waits may = absurd (cc)
    now_not false true false few any waits may = absurd (cc)
    now_not false false now few any waits may = absurd (cc)

none_queued : (v : Serving) (p : Course) → p.update ≡ None → Queued v p p
none_queued v p none = record {
  waiting = rw none (omega arith);
  taken = rw none (omega arith);
  few = λ few. few;
  at_open = rw none tt;
}

-- The rest of the items, behind one.
Behind : Serving → ℕ → List Item → Type 0
Behind v c items = (p : Course) → MayAll v c p items → p.update ≡ None → Queued v p (takes_all v c p items)

behind_one : (v : Serving) (c : ℕ) (p : Course) (n : ClientState) (took : Took) (items : List Item) → WaitsFor v.keys c took → Behind v c items
    → MayAll v c (took_by v c p (took, n)) items → p.update ≡ None → p.common.taken < most_taken → Queued v p (takes_all v c (took_by v c p (took, n)) items)
unfolding Behind MayAll
behind_one v c p n Nothing items waits behind may none lt =
    let more = behind (counted p n) may none in
    record { waiting = more.waiting; taken = omega (arith, more.taken); few = λ few. more.few (omega (arith, lt)); at_open = more.at_open }
behind_one v c p n (Reply bytes reads) items waits behind may none lt =
    let more = behind (took_by v c p (Reply bytes reads, n)) may none in
    record { waiting = more.waiting; taken = omega (arith, more.taken); few = λ few. more.few (omega (arith, lt)); at_open = more.at_open }
behind_one v c p n (Queues origin u) [] waits behind may none lt =
    record { waiting = omega (arith, length-append {A = Origin}); taken = omega arith; few = λ few. omega (arith, lt); at_open = waits.1 }
behind_one v c p n (Queues origin u) (i ∷ items) waits behind may none lt = absurd (now_waiting c p.common origin n.handles (p.common.taken + 1) waits.0 may.0)

few_taken : (c : ℕ) (s : Common) → may_take c s ≡ true → s.taken < most_taken
few_taken c s may = less_by (not (has_waiting c s)) s.taken most_taken may
  where
    less_by : (free : Bool) (a b : ℕ) → (free && nat_lt a b) ≡ true → a < b
    less_by free a b e = grind arith

items_queue : (v : Serving) (c : ℕ) (items : List Item) → Behind v c items
unfolding Behind MayAll
items_queue v c [] p may none = none_queued v p none
items_queue v c (i ∷ items) p may none =
    let s = state p.common.table p.association in
    let one = item_of v.keys c s i in
    behind_one v c p one.1 one.0 items (waits_for v.keys c s i) (items_queue v c items) may.1 none (few_taken c p.common may.0)

-- ---- the events

goes_queue : (v : Serving) (c : ℕ) (s t : Clients) (p q : Course) (ending : Ending) (k : Client) (told : List Effect) (queued : Option Update)
    → Queued v p q → p.common ≡ s.common → t.common.waiting ≡ q.common.waiting → t.common.taken ≡ q.common.taken → queued ≡ q.update → QueuesOne v s.common t.common queued
goes_queue v c s t p q ending k told queued done from waiting taken update = record {
  waiting = rw (update, waiting, sym from) done.waiting;
  taken = rw (update, taken, sym from) done.taken;
  few = rw (taken, sym from) done.few;
  at_open = rw update done.at_open;
}

goes_on_keeps : (c : ℕ) (k : Client) (q : Course) (ending : Ending) (s : Clients) (intake : Kept)
    → ((goes_on c intake q ending s).common.waiting ≡ q.common.waiting) × ((goes_on c intake q ending s).common.taken ≡ q.common.taken)
goes_on_keeps c k q Waits s intake = (refl, refl)
goes_on_keeps c k q Rests s intake = (refl, refl)
goes_on_keeps c k q (Fails fault) s intake = (refl, refl)

goes_queue_one : (v : Serving) (c : ℕ) (k : Client) (s t : Clients) (told : List Effect) (queued : Option Update) → GoesOn v c k s t told queued → QueuesOne v s.common t.common queued
unfolding Behind
goes_queue_one v c k s t told queued goes =
    let begin = course_from s.common k in
    let all : Queued v begin goes.course =
    subst (λ (q : Course). Queued v begin q) (sym goes.takes.course) (items_queue v c goes.takes.items begin goes.takes.may refl) in
    let kept = goes_on_keeps c k goes.course goes.ending s goes.intake in
    goes_queue v c s t begin goes.course goes.ending k told queued all refl
    (ap (λ (u : Clients). u.common.waiting) goes.clients ∙ kept.0) (ap (λ (u : Clients). u.common.taken) goes.clients ∙ kept.1) goes.update

tells_queue_none : (v : Serving) (s m t : Clients) (wanted told : List Effect) (queued : Option Update) → Tells m t wanted told queued
    → m.common.waiting ≡ s.common.waiting → m.common.taken ≡ s.common.taken → QueuesOne v s.common t.common queued
tells_queue_none v s m t wanted told queued tells waiting taken = record {
  waiting = rw (tells.update, tells.clients, waiting) (omega arith);
  taken = rw (tells.update, tells.clients, taken) (omega arith);
  few = λ few. rw (tells.clients, taken) few;
  at_open = rw tells.update tt;
}

-- When a connection goes on.
pub resumes_queue : (v : Serving) (c : ℕ) (client : Option Client) (s t : Clients) (told : List Effect) (queued : Option Update)
    → Resumes v c client s t told queued → QueuesOne v s.common t.common queued
resumes_queue v c None s t told queued tells = tells_queue_none v s s t [] told queued tells refl refl
resumes_queue v c (Some k) s t told queued goes = goes_queue_one v c k s t told queued goes

heard_by : (v : Serving) (c : ℕ) (piece : List ℕ) (k : Client) (refused : Option CloseCause) (s t : Clients) (told : List Effect) (queued : Option Update)
    → HearsBy refused v c piece k s t told queued → QueuesOne v s.common t.common queued
heard_by v c piece k (Some cause) s t told queued tells = tells_queue_none v s (left_by c k s) t (closes c cause) told queued tells refl refl
heard_by v c piece k None s t told queued goes = goes_queue_one v c (fed_client k piece) s t told queued goes

-- When it hears a piece.
pub hears_queue : (v : Serving) (c : ℕ) (piece : List ℕ) (client : Option Client) (s t : Clients) (told : List Effect) (queued : Option Update)
    → Hears v c piece client s t told queued → QueuesOne v s.common t.common queued
hears_queue v c piece None s t told queued tells = tells_queue_none v s s t [] told queued tells refl refl
hears_queue v c piece (Some k) s t told queued hears = heard_by v c piece k (piece_refusal k.intake piece) s t told queued hears
