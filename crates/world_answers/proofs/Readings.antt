-- The points at which one step answers clients: that of the update that was acknowledged, and then the node's own place, where it is open.
use Rattle.std.proofs.Common.{◌≡◌, ℕ, zero, suc, ◌<◌, Bool, true, false, IsTrue, List, [], ◌∷◌, ◌++◌, Option, Some, None, Result, Ok, Err, is_some, if◌then◌else◌, replicate, refl, sym, ap, ◌∙◌, subst, append-nil, arith}
use Rattle.update_records.specs.declared.update.Update.{Update}
use Rattle.registry_defs.specs.Keys.{Keys}
use Rattle.context_handles.specs.Table.{Table}
use Rattle.context_handles.specs.declared.held.Held.{Held}
use Rattle.clusapi_stubs.specs.declared.input.In.{In}
use Rattle.clusapi_stubs.specs.declared.input.In.TheVariants as input
use Rattle.clusapi_stubs.specs.Parameters.{input_in}
use Rattle.clusapi_methods.specs.Arguments.{refusal}
use Rattle.clusapi_methods.specs.Calls.{handle_in}
use Rattle.clusapi_methods.specs.Plans.{held_for, planned_at, planned_for, unless_refused}
use Rattle.clusapi_methods.specs.Plans as plans
use Rattle.clusapi_methods.specs.declared.planned.Planned.{Planned}
use Rattle.clusapi_methods.specs.declared.planned.Planned.TheVariants as planned
use Rattle.registry_server.specs.Parameters.{or_status}
use Rattle.rpc_assoc.specs.declared.assoc.AssocOut.{AssocOut}
use Rattle.rpc_assoc.specs.declared.assoc.AssocOut.TheVariants as assoc
use Rattle.rpc_assoc.specs.State.{State, group_of}
use Rattle.rpc_calls.specs.declared.call.Call as calls
use Rattle.rpc_calls.specs.declared.item.Item.{Item}
use Rattle.cluster_rules.specs.declared.effect.CloseCause.{CloseCause}
use Rattle.cluster_rules.specs.declared.effect.Effect.{Effect}
use Rattle.cluster_rules.specs.declared.effect.Effect.TheVariants as effects
use Rattle.client_connections.specs.declared.took.CallEnd.{CallEnd}
use Rattle.client_connections.specs.declared.took.CallEnd.TheVariants.{Results, Fault, Sends}
use Rattle.client_connections.specs.declared.took.Ending.{Ending}
use Rattle.client_connections.specs.declared.took.Ending.TheVariants.{Fails, Rests, Waits}
use Rattle.client_connections.specs.declared.took.Took.{Took}
use Rattle.client_connections.specs.declared.took.Took.TheVariants.{Nothing, Reply, Queues}
use Rattle.client_connections.specs.Clients.{Client, Clients}
use Rattle.client_connections.specs.Items.{ClientState, answered, call_answered, called, called_with, ended, item_of, performed, replied, state, taken}
use Rattle.client_connections.specs.Taking.{Course, GoesOn, Hears, HearsBy, Resumes, Serving, Tells, course_from, effects_of, refusal as piece_refusal, takes_all, took_by}
use Rattle.world_answers.specs.Histories.{points_in}

-- ---- an item is answered from the registry where the node is open

abbrev PlansOpen : Option Keys → Planned → Type 0
PlansOpen keys (planned.Answer out reads) = reads ≡ true → IsTrue (is_some keys)
PlansOpen keys (planned.Open opnum held reads) = reads ≡ true → IsTrue (is_some keys)
PlansOpen keys plan = Unit {0}

plan_at_some : (keys : Keys) (plan : Planned) → PlansOpen (Some keys) plan
plan_at_some keys (planned.Send u) = tt
plan_at_some keys (planned.Answer out reads) = λ e. refl
plan_at_some keys (planned.Open opnum held reads) = λ e. refl
plan_at_some keys (planned.Close opnum handle) = tt
plan_at_some keys (planned.Fault status) = tt

plan_at_none : (i : In) (held : Held) (node : ℕ) → PlansOpen None (plans.performed i held node None)
plan_at_none input.OpenCluster held node = λ e. absurd (cc)
plan_at_none (input.CloseCluster handle) held node = tt
plan_at_none input.GetClusterName held node = λ e. absurd (cc)
plan_at_none (input.GetRootKey sam) held node = λ e. absurd (cc)
plan_at_none (input.CreateKey handle subkey options sam security) held node = λ e. absurd (cc)
plan_at_none (input.OpenKey handle subkey sam) held node = λ e. absurd (cc)
plan_at_none (input.EnumKey handle index) held node = λ e. absurd (cc)
plan_at_none (input.SetValue handle name kind bytes cb_data) held node = λ e. absurd (cc)
plan_at_none (input.DeleteValue handle name) held node = λ e. absurd (cc)
plan_at_none (input.QueryValue handle name cb_data) held node = λ e. absurd (cc)
plan_at_none (input.DeleteKey handle subkey) held node = λ e. absurd (cc)
plan_at_none (input.EnumValue handle index cb_data) held node = λ e. absurd (cc)
plan_at_none (input.CloseKey handle) held node = tt
plan_at_none (input.QueryInfoKey handle) held node = λ e. absurd (cc)

unless_at_none : (refused : Option ℕ) (i : In) (held : Held) (node : ℕ) → PlansOpen None (unless_refused refused i (plans.performed i held node None))
unless_at_none (Some status) i held node = λ e. absurd (cc)
unless_at_none None i held node = plan_at_none i held node

held_at_none : (held : Option Held) (i : In) (node : ℕ) → PlansOpen None (planned_at held i node None)
held_at_none None i node = tt
held_at_none (Some held) i node = unless_at_none (refusal held.path i) i held node

plan_is : (keys : Option Keys) (i : In) (handles : Table) (group : ℕ) → PlansOpen keys (planned_for i handles group keys)
plan_is None i handles group = held_at_none (held_for (handle_in i) handles group) i handles.node
plan_is (Some keys) i handles group = plan_at_some keys (planned_for i handles group (Some keys))

abbrev EndsOpen : Option Keys → CallEnd → Type 0
EndsOpen keys (Results out reads) = reads ≡ true → IsTrue (is_some keys)
EndsOpen keys end = Unit {0}

end_of_plan : (keys : Option Keys) (handles : Table) (group : ℕ) (plan : Planned) → PlansOpen keys plan → EndsOpen keys (performed handles group plan).0
end_of_plan keys handles group (planned.Send u) at_open = tt
end_of_plan keys handles group (planned.Answer out reads) at_open = at_open
end_of_plan keys handles group (planned.Open opnum held reads) at_open = at_open
end_of_plan keys handles group (planned.Close opnum handle) at_open = λ e. absurd (cc)
end_of_plan keys handles group (planned.Fault status) at_open = tt

end_is : (keys : Option Keys) (handles : Table) (group : ℕ) (read : Result In ℕ) → EndsOpen keys (called_with keys handles group read).0
end_is keys handles group (Err status) = tt
end_is keys handles group (Ok i) = end_of_plan keys handles group (planned_for i handles group keys) (plan_is keys i handles group)

abbrev ReadsOpen : Option Keys → Took → Type 0
ReadsOpen keys (Reply bytes reads) = reads ≡ true → IsTrue (is_some keys)
ReadsOpen keys took = Unit {0}

end_reads : (keys : Option Keys) (c max_xmit : ℕ) (call : calls.Call) (end : CallEnd) → EndsOpen keys end → ReadsOpen keys (ended c max_xmit call end)
end_reads keys c max_xmit call (Results out reads) at_open = at_open
end_reads keys c max_xmit call (Fault status) at_open = λ e. absurd (cc)
end_reads keys c max_xmit call (Sends u) at_open = tt

call_reads : (keys : Option Keys) (c : ℕ) (association : State) (call : calls.Call) (end : CallEnd × Table) → EndsOpen keys end.0 → ReadsOpen keys (replied c association call end).0
call_reads keys c association call (end, handles) at_open = end_reads keys c _ call end at_open

group_reads : (keys : Option Keys) (c : ℕ) (s : ClientState) (call : calls.Call) (group : Option ℕ) → ReadsOpen keys (call_answered keys c s call group).0
group_reads keys c s call None = tt
group_reads keys c s call (Some group) = call_reads keys c s.association call (called keys s.handles group call) (end_is keys s.handles group (or_status (input_in call.opnum call.endian call.stub)))

step_reads : (keys : Option Keys) (c : ℕ) (out : AssocOut × ClientState) → ReadsOpen keys (answered keys c out).0
step_reads keys c (assoc.Reply pdu, s) = λ e. absurd (cc)
step_reads keys c (assoc.Call call, s) = group_reads keys c s call (group_of s.association)
step_reads keys c (assoc.Nothing, s) = tt

item_reads : (keys : Option Keys) (c : ℕ) (s : ClientState) (item : Item) → ReadsOpen keys (item_of keys c s item).0
unfolding item_of
item_reads keys c s item = step_reads keys c (taken s item)

-- ---- points of effects

pub points_both : (es fs : List Effect) → points_in (es ++ fs) ≡ points_in es ++ points_in fs
unfolding points_in
points_both [] fs = refl
points_both (effects.Send p ∷ es) fs = points_both es fs
points_both (effects.Reply conn (Some point) bytes ∷ es) fs = ap (λ (l : List ℕ). point ∷ l) (points_both es fs)
points_both (effects.Reply conn None bytes ∷ es) fs = points_both es fs
points_both (effects.Closed conn cause ∷ es) fs = points_both es fs
points_both (effects.Acked view place ∷ es) fs = points_both es fs
points_both (effects.Opened view ∷ es) fs = points_both es fs
points_both (effects.Batched req (Some point) status index ∷ es) fs = ap (λ (l : List ℕ). point ∷ l) (points_both es fs)
points_both (effects.Batched req None status index ∷ es) fs = points_both es fs
points_both (effects.Halted cause ∷ es) fs = points_both es fs

-- They are all at the node's place, and there are none where it isn't open.
pub record AllAt (v : Serving) (es : List Effect) : Type 0 where
  pub count : ℕ
  pub points : points_in es ≡ replicate count v.done
  pub at_open : 0 < count → IsTrue (is_some v.keys)

none_at : (v : Serving) (es : List Effect) → points_in es ≡ [] → AllAt v es
none_at v es none = record { count = 0; points = none; at_open = λ pos. absurd (omega (arith, pos)) }

one_more : (n d : ℕ) → replicate n d ++ d ∷ [] ≡ replicate (suc n) d
one_more zero d = refl
one_more (suc n) d = ap (λ (l : List ℕ). d ∷ l) (one_more n d)

same_points : (v : Serving) (es fs : List Effect) → points_in fs ≡ points_in es → AllAt v es → AllAt v fs
same_points v es fs same a = record { count = a.count; points = same ∙ a.points; at_open = a.at_open }

behind_point : (v : Serving) (c : ℕ) (reads : Bool) (bytes : List ℕ) (es : List Effect) → (reads ≡ true → IsTrue (is_some v.keys)) → AllAt v es → AllAt v (es ++ effects.Reply c (if reads then Some v.done else None) bytes ∷ [])
unfolding points_in
behind_point v c true bytes es at_open a = record {
  count = suc a.count;
  points = points_both es (effects.Reply c (Some v.done) bytes ∷ []) ∙ ap (λ (l : List ℕ). l ++ v.done ∷ []) a.points ∙ one_more a.count v.done;
  at_open = λ pos. at_open refl;
}
behind_point v c false bytes es at_open a = same_points v es (es ++ effects.Reply c None bytes ∷ []) (points_both es (effects.Reply c None bytes ∷ []) ∙ append-nil (points_in es)) a

-- ---- items

took_at : (v : Serving) (c : ℕ) (p : Course) (n : ClientState) (took : Took) → ReadsOpen v.keys took → AllAt v p.effects → AllAt v (took_by v c p (took, n)).effects
took_at v c p n Nothing reads a = a
took_at v c p n (Reply bytes is_read) reads a = behind_point v c is_read bytes p.effects reads a
took_at v c p n (Queues origin u) reads a = a

all_at : (v : Serving) (c : ℕ) (items : List Item) (p : Course) → AllAt v p.effects → AllAt v (takes_all v c p items).effects
all_at v c [] p a = a
all_at v c (i ∷ items) p a =
    let s = state p.common.table p.association in
    let one = item_of v.keys c s i in
    all_at v c items (took_by v c p one) (took_at v c p one.1 one.0 (item_reads v.keys c s i) a)

ending_at : (v : Serving) (c : ℕ) (q : Course) (ending : Ending) → AllAt v q.effects → AllAt v (effects_of c q ending)
unfolding points_in
ending_at v c q Waits a = a
ending_at v c q Rests a = a
ending_at v c q (Fails fault) a = same_points v q.effects _ (points_both q.effects _ ∙ append-nil (points_in q.effects)) a

goes_at : (v : Serving) (c : ℕ) (k : Client) (s t : Clients) (told : List Effect) (queued : Option Update) → GoesOn v c k s t told queued → AllAt v told
unfolding points_in
goes_at v c k s t told queued g =
    let all : AllAt v g.course.effects = subst (λ (q : Course). AllAt v q.effects) (sym g.takes.course) (all_at v c g.takes.items (course_from s.common k) (none_at v [] refl)) in
    subst (λ (es : List Effect). AllAt v es) (sym g.effects) (ending_at v c g.course g.ending all)

tells_at : (v : Serving) (s t : Clients) (wanted told : List Effect) (queued : Option Update) → points_in wanted ≡ [] → Tells s t wanted told queued → AllAt v told
tells_at v s t wanted told queued none g = subst (λ (es : List Effect). AllAt v es) (sym g.effects) (none_at v wanted none)

pub resumes_at : (v : Serving) (c : ℕ) (client : Option Client) (s t : Clients) (told : List Effect) (queued : Option Update) → Resumes v c client s t told queued → AllAt v told
unfolding points_in
resumes_at v c None s t told queued r = tells_at v s t [] told queued refl r
resumes_at v c (Some k) s t told queued r = goes_at v c k s t told queued r

hears_by : (v : Serving) (c : ℕ) (piece : List ℕ) (k : Client) (refused : Option CloseCause) (s t : Clients) (told : List Effect) (queued : Option Update) → HearsBy refused v c piece k s t told queued → AllAt v told
unfolding points_in
hears_by v c piece k (Some cause) s t told queued r = tells_at v _ t _ told queued refl r
hears_by v c piece k None s t told queued r = goes_at v c _ s t told queued r

pub hears_at : (v : Serving) (c : ℕ) (piece : List ℕ) (client : Option Client) (s t : Clients) (told : List Effect) (queued : Option Update) → Hears v c piece client s t told queued → AllAt v told
unfolding points_in
hears_at v c piece None s t told queued r = tells_at v s t [] told queued refl r
hears_at v c piece (Some k) s t told queued r = hears_by v c piece k (piece_refusal k.intake piece) s t told queued r
