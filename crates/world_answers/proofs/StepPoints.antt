-- The points of a step.
use Rattle.std.proofs.Common.{◌≡◌, ◌⊎◌, inl, inr, ⊎_elim, ℕ, ◌+◌, ◌-◌, ◌<◌, Bool, true, false, IsTrue, List, [], ◌∷◌, ◌++◌, length, Option, Some, None, is_some, nat_lt, if◌then◌else◌, replicate, refl, sym, ap, ◌∙◌, subst, arith}
use Rattle.std.specs.Prelude.{map, option_to_list, unwrap_or}
use Rattle.std.specs.Map.{keys_of}
use Rattle.update_records.specs.Entry.{Entry}
use Rattle.update_records.specs.declared.update.Update.{Update}
use Rattle.registry_defs.specs.Keys.{Keys}
use Rattle.registry_defs.specs.declared.outcome.Outcome.{Outcome}
use Rattle.ndr_values.specs.declared.handle.WireHandle.{WireHandle}
use Rattle.context_handles.specs.Table.{Table}
use Rattle.rpc_assoc.specs.State.{State, group_of}
use Rattle.cluster_rules.specs.Machines.{outcome_at, registry_at}
use Rattle.cluster_rules.specs.declared.effect.CloseCause.TheVariants.{Limit, NodeStopped}
use Rattle.cluster_rules.specs.declared.effect.Effect.{Effect}
use Rattle.cluster_rules.specs.declared.effect.Effect.TheVariants.{Batched, Closed}
use Rattle.registry_machine.specs.Machine.{registry_machine}
use Rattle.client_connections.specs.declared.origin.Origin.{Origin}
use Rattle.client_connections.specs.declared.origin.Origin.TheVariants.{Batch, Call}
use Rattle.client_connections.specs.Clients.{Client, Clients, client_at, hung_up, most_clients, with_new}
use Rattle.client_connections.specs.Finishing.{Finish, batched, call_finished, finished, finished_for, may_batch, not_applied, opened_in, opened_on, queued, refused_batch, replied, without_first}
use Rattle.client_connections.specs.Taking.{Serving}
use Rattle.cluster_node.specs.Explained.{Answered, Batches, BatchedBy, Brings, Connects, Finishes, HangsUp, Incarnation, Input, IsStepBy, Other, ResumedAt, Step, Stops, acknowledged, serving_at}
use Rattle.world_answers.specs.Histories.{points_in}
use Rattle.world_answers.proofs.Readings.{AllAt, hears_at, points_both, resumes_at}

-- First that of the update that was acknowledged, and then the node's own place, where it is open.
pub record StepPoints (input : Input) (t : Step) : Type 0 where
  pub front : List ℕ
  pub count : ℕ
  pub is : points_in t.told ≡ front ++ replicate count t.done
  pub at_open : 0 < count → t.is_open ≡ true
  pub acked : (front ≡ []) ⊎ ((view place : ℕ) × (input ≡ Finishes view place) × (front ≡ place ∷ []))

none_told : (input : Input) (t : Step) (es : List Effect) → t.told ≡ es → points_in es ≡ [] → StepPoints input t
none_told input t es is none = record { front = []; count = 0; is = ap points_in is ∙ none; at_open = λ pos. absurd (omega (arith, pos)); acked = inl refl }

-- where the node serves its clients it is open
served_open : (c : Bool) (keys : Keys) → IsTrue (is_some (if c then Some keys else None)) → c ≡ true
served_open true keys e = refl
served_open false keys e = absurd (cc)

open_at : (cap : ℕ) (order : List Entry) (t : Step) → IsTrue (is_some (serving_at cap order t).keys) → t.is_open ≡ true
open_at cap order t e = served_open t.is_open (registry_at registry_machine cap order t.done).keys e

all_told : (input : Input) (cap : ℕ) (order : List Entry) (t : Step) → AllAt (serving_at cap order t) t.told → StepPoints input t
all_told input cap order t a = record { front = []; count = a.count; is = a.points; at_open = λ pos. open_at cap order t (a.at_open pos); acked = inl refl }

-- ---- closings

closed_none : (conns : List ℕ) → points_in (map (λ conn. Closed conn NodeStopped) conns) ≡ []
unfolding points_in
closed_none [] = refl
closed_none (c ∷ cs) = closed_none cs

connected_none : (conn : ℕ) (s : Clients) (room : Bool) → points_in (option_to_list (let r : Clients × Option Effect = if room then (with_new conn s, None) else (s, Some (Closed conn Limit)) in r.1)) ≡ []
unfolding points_in
connected_none conn s true = refl
connected_none conn s false = refl

hung_up_none : (conn : ℕ) (client : Option Client) (s : Clients) → points_in (option_to_list (hung_up conn client s).1) ≡ []
unfolding points_in
hung_up_none conn None s = refl
hung_up_none conn (Some k) s = refl

-- ---- the answer of an update

OneAt : ℕ → List Effect → Type 0
OneAt place es = (points_in es ≡ []) ⊎ (points_in es ≡ place ∷ [])

replied_one : (conn call_id context opnum place : ℕ) (outcome : Outcome) (association : State) (opened : Option WireHandle × Table) (s : Clients)
    → OneAt place (option_to_list (replied conn call_id context opnum outcome place association opened s).effect)
unfolding points_in OneAt
replied_one conn call_id context opnum place outcome association (handle, table) s = inr refl

call_one : (conn call_id context opnum : ℕ) (target : Option (List (List ℕ))) (place : ℕ) (outcome : Outcome) (client : Option Client) (s : Clients)
    → OneAt place (option_to_list (call_finished conn call_id context opnum target place outcome client s).effect)
unfolding points_in OneAt
call_one conn call_id context opnum target place outcome None s = inl refl
call_one conn call_id context opnum target place outcome (Some k) s =
    replied_one conn call_id context opnum place outcome k.association (opened_in (group_of k.association) (opened_on target outcome) s.common.table) s

origin_one : (origin : Origin) (req place : ℕ) (outcome : Outcome) (s : Clients) → OneAt place (option_to_list (finished_for origin req place outcome s).effect)
unfolding points_in OneAt
origin_one Batch req place outcome s = inr refl
origin_one (Call conn call_id context opnum target) req place outcome s = call_one conn call_id context opnum target place outcome (client_at conn s) s

finished_one : (waiting : List Origin) (req place : ℕ) (outcome : Option Outcome) (s : Clients) → OneAt place (option_to_list (finished waiting req place outcome s).effect)
unfolding points_in OneAt
finished_one [] req place outcome s = inl refl
finished_one (origin ∷ others) req place outcome s = origin_one origin req place (unwrap_or outcome not_applied) (without_first s others)

resumed_at : (resumes : Option ℕ) (v : Serving) (told : List Effect) (s u : Incarnation) → ResumedAt resumes v told s u → AllAt v told
unfolding points_in
resumed_at None v told s u r = subst (λ (es : List Effect). AllAt v es) (sym r.0) (record { count = 0; points = refl; at_open = λ pos. absurd (omega (arith, pos)) })
resumed_at (Some conn) v told s u r = resumes_at v conn (client_at conn s.clients) s.clients u.clients told r.queued r.resumes

answered_points : (cap : ℕ) (order : List Entry) (node inc : ℕ) (t : Step) (view place : ℕ) (s u : Incarnation) → Answered cap order node inc t view place s u → StepPoints (Finishes view place) t
unfolding points_in OneAt
answered_points cap order node inc t view place s u h =
    let rest : AllAt (serving_at cap order t) h.more = resumed_at h.end.resumes (serving_at cap order t) h.more (acknowledged s h.end.clients) u h.continues in
    let one : OneAt place (option_to_list h.end.effect) = subst (λ (e : Finish). OneAt place (option_to_list e.effect)) (sym h.finishes) (finished_one s.clients.common.waiting (s.passed + 1) place (Some (outcome_at registry_machine cap order (place - 1) h.entry)) s.clients) in
    let whole : points_in t.told ≡ points_in (option_to_list h.end.effect) ++ replicate rest.count t.done =
    ap points_in h.told ∙ points_both (option_to_list h.end.effect) h.more ∙ ap (λ (l : List ℕ). points_in (option_to_list h.end.effect) ++ l) rest.points in
    record {
      front = points_in (option_to_list h.end.effect);
      count = rest.count;
      is = whole;
      at_open = λ pos. open_at cap order t (rest.at_open pos);
      acked = ⊎_elim (λ (none : points_in (option_to_list h.end.effect) ≡ []). inl none) (λ (e : points_in (option_to_list h.end.effect) ≡ place ∷ []). inr (view, place, refl, e)) one;
    }

batched_points : (update : Update) (changed : Clients × Option Effect) (t : Step) (s u : Incarnation) → ((e : Effect) → changed.1 ≡ Some e → points_in (e ∷ []) ≡ []) → BatchedBy update changed t s u → StepPoints (Batches update) t
unfolding points_in
batched_points update (clients, None) t s u none h = none_told (Batches update) t [] h.0 refl
batched_points update (clients, Some refused) t s u none h = none_told (Batches update) t (refused ∷ []) h.0 (none refused refl)

batched_none : (may : Bool) (s t : Clients) (e : Effect) → (let r : Clients × Option Effect = if may then (t, None) else (s, refused_batch) in r.1) ≡ Some e → points_in (e ∷ []) ≡ []
unfolding points_in
batched_none true s t e is = absurd (cc)
batched_none false s t e is = let q : Batched 0 None 70 0 ≡ e = cc in ap (λ (e : Effect). points_in (e ∷ [])) (sym q)

pub step_points : (input : Input) (cap : ℕ) (order : List Entry) (node inc : ℕ) (t : Step) (s u : Incarnation) → IsStepBy input cap order node inc t s u → StepPoints input t
unfolding points_in
step_points (Connects conn) cap order node inc t s u h = none_told (Connects conn) t _ h.0 (connected_none conn s.clients (nat_lt (length s.clients.conns) most_clients))
step_points (Brings conn piece) cap order node inc t s u h = all_told (Brings conn piece) cap order t (hears_at (serving_at cap order t) conn piece (client_at conn s.clients) s.clients u.clients t.told h.queued h.hears)
step_points (HangsUp conn) cap order node inc t s u h = none_told (HangsUp conn) t _ h.0 (hung_up_none conn (client_at conn s.clients) s.clients)
step_points (Finishes view place) cap order node inc t s u h = answered_points cap order node inc t view place s u h
step_points (Batches update) cap order node inc t s u h = batched_points update (batched t.is_open s.clients) t s u (λ e is. batched_none (may_batch t.is_open s.clients.common) s.clients (record (s.clients) { common = queued Batch s.clients.common }) e is) h
step_points Stops cap order node inc t s u h = none_told Stops t _ h.0 (closed_none (keys_of s.clients.conns))
step_points Other cap order node inc t s u h = none_told Other t [] h.0 refl
