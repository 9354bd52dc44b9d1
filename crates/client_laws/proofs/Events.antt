-- The clients of a node stay typed over each event.
use Rattle.std.proofs.Common.{◌≡◌, ℕ, Bool, true, false, List, [], ◌∷◌, length, Option, Some, None, nat_lt, if◌then◌else◌, refl, sym, subst, arith}
use Rattle.std.specs.Prelude.{IfSome, ◌==◌}
use Rattle.std.specs.BTreeMap.{is_at}
use Rattle.std.specs.List.{AllByRecursion}
use Rattle.std.specs.Option.{unwrap_or}
use Rattle.std.specs.Ordering.{nat_cmp}
use Rattle.wire_fields.specs.Numbers.{IsBytes}
use Rattle.clus_names.specs.Limits.{IsPath}
use Rattle.update_records.specs.declared.update.Update.{Update}
use Rattle.update_records.specs.Limits.{IsUpdate}
use Rattle.registry_defs.specs.declared.outcome.Outcome.{Outcome}
use Rattle.context_handles.specs.declared.held.Held.{Held}
use Rattle.context_handles.specs.declared.held.Kind.TheVariants.{Key}
use Rattle.context_handles.specs.Table.{Table}
use Rattle.rpc_calls.specs.declared.side.Side.TheVariants.{Server}
use Rattle.rpc_calls.specs.Intakes.{Kept}
use Rattle.rpc_assoc.specs.State.{group_of}
use Rattle.cluster_rules.specs.declared.effect.CloseCause.{CloseCause}
use Rattle.cluster_rules.specs.declared.effect.CloseCause.TheVariants.{Limit}
use Rattle.cluster_rules.specs.declared.effect.Effect.{Effect}
use Rattle.cluster_rules.specs.declared.effect.Effect.TheVariants.{Closed}
use Rattle.client_connections.specs.declared.origin.Origin.{Origin}
use Rattle.client_connections.specs.declared.origin.Origin.TheVariants.{Call, Batch}
use Rattle.client_connections.specs.declared.took.Ending.{Ending}
use Rattle.client_connections.specs.declared.took.Ending.TheVariants.{Fails}
use Rattle.client_connections.specs.Clients.{Client, Clients, Common, client_at, connected, fresh_client, hung_up, left_by, most_clients, no_clients, put_back, with_new}
use Rattle.client_connections.specs.Finishing.{batched, call_finished, finished, finished_for, may_batch, not_applied, opened_in, opened_on, queued, refused_batch, without_first}
use Rattle.client_connections.specs.Taking.{Course, GoesOn, Hears, HearsBy, Resumes, Serving, Tells, client_after, closes, course_from, fed_client, goes_on, refusal}
use Rattle.client_laws.specs.Laws.{QueuesUpdate}
use Rattle.client_laws.specs.Typed.{AreBornIn, AreTyped, IsBorn, IsFed, IsFedClient, IsTarget, IsTypedCommon}
use Rattle.client_laws.proofs.Handles.{AreHeld, held_opened, held_without}
use Rattle.client_laws.proofs.Items.{IsTypedCourse, typed_all}
use Rattle.client_laws.proofs.Lists.{all_insert, all_lookup, all_remove, all_set, all_snoc}
use Rattle.client_laws.proofs.Plans.{IsHeldKey}
use Rattle.client_laws.proofs.Streams.{fed_fresh, fed_gives, fed_more}

pub begin_typed : (node : ℕ) → AreTyped (no_clients node)
begin_typed node = record { common = record { handles = tt; targets = tt }; conns = tt }

-- ---- the list of connections

typed_back : (c : ℕ) (common : Common) (k : Client) (s : Clients) → AreTyped s → IsTypedCommon common → IsFed k.intake → AreTyped (put_back c common k s)
typed_back c common k s is typed fed = record { common = typed; conns = all_set IsFedClient (is_at (nat_cmp c)) s.conns k is.conns (λ conn. fed) }

typed_left : (c : ℕ) (k : Client) (s : Clients) → AreTyped s → AreTyped (left_by c k s)
typed_left c k s is = record {
  common = record { handles = held_without (group_of k.association) s.common.table is.common.handles; targets = is.common.targets };
  conns = all_remove IsFedClient (is_at (nat_cmp c)) s.conns is.conns;
}

fed_at : (c : ℕ) (s : Clients) (k : Client) → AreTyped s → client_at c s ≡ Some k → IsFed k.intake
fed_at c s k is e = (all_lookup IsFedClient (is_at (nat_cmp c)) s.conns k is.conns e).1

-- ---- a connection goes on

typed_on : (c : ℕ) (intake : Kept) (q : Course) (ending : Ending) (s : Clients) → AreTyped s → IsTypedCourse q → IsFed intake → AreTyped (goes_on c intake q ending s)
typed_on c intake q (Fails fault) s is course fed = typed_left c (client_after intake q) (put_back c q.common (client_after intake q) s) (typed_back c q.common (client_after intake q) s is course.common fed)
typed_on c intake q ending s is course fed = typed_back c q.common (client_after intake q) s is course.common fed

typed_goes : (v : Serving) (c : ℕ) (k : Client) (s t : Clients) (told : List Effect) (queued : Option Update) → AreTyped s → AreBornIn v.keys → IsFed k.intake → GoesOn v c k s t told queued → QueuesUpdate t queued
typed_goes v c k s t told queued is born fed goes =
    let g = fed_gives k.intake goes.intake goes.takes.items fed (λ stream given holds. (goes.takes.stands stream given holds).0) in
    let begin : IsTypedCourse (course_from s.common k) = record { common = is.common; update = tt } in
    let course : IsTypedCourse goes.course = subst (λ (q : Course). IsTypedCourse q) (sym goes.takes.course) (typed_all v c goes.takes.items (course_from s.common k) born begin g.stubs) in
    record {
      clients = subst (λ (u : Clients). AreTyped u) (sym goes.clients) (typed_on c goes.intake goes.course goes.ending s is course g.fed);
      update = subst (λ (o : Option Update). IfSome o IsUpdate) (sym goes.update) course.update;
    }

typed_tells : (s t : Clients) (wanted told : List Effect) (queued : Option Update) → AreTyped s → Tells s t wanted told queued → QueuesUpdate t queued
typed_tells s t wanted told queued is tells = record {
  clients = subst (λ (u : Clients). AreTyped u) (sym tells.clients) is;
  update = subst (λ (o : Option Update). IfSome o IsUpdate) (sym tells.update) tt;
}

pub resumes_typed : (v : Serving) (c : ℕ) (s t : Clients) (told : List Effect) (queued : Option Update) → AreTyped s → AreBornIn v.keys → Resumes v c (client_at c s) s t told queued → QueuesUpdate t queued
resumes_typed v c s t told queued is born r = by (client_at c s) refl r
  where
    by : (o : Option Client) → client_at c s ≡ o → Resumes v c o s t told queued → QueuesUpdate t queued
    by None e r = typed_tells s t [] told queued is r
    by (Some k) e r = typed_goes v c k s t told queued is born (fed_at c s k is e) r

typed_heard : (v : Serving) (c : ℕ) (piece : List ℕ) (k : Client) (refused : Option CloseCause) (s t : Clients) (told : List Effect) (queued : Option Update) → AreTyped s → AreBornIn v.keys → IsBytes piece → IsFed k.intake
    → HearsBy refused v c piece k s t told queued → QueuesUpdate t queued
typed_heard v c piece k (Some cause) s t told queued is born bytes fed h = typed_tells (left_by c k s) t (closes c cause) told queued (typed_left c k s is) h
typed_heard v c piece k None s t told queued is born bytes fed h = typed_goes v c (fed_client k piece) s t told queued is born (fed_more k.intake piece fed bytes) h

pub hears_typed : (v : Serving) (c : ℕ) (piece : List ℕ) (s t : Clients) (told : List Effect) (queued : Option Update) → AreTyped s → AreBornIn v.keys → IsBytes piece → Hears v c piece (client_at c s) s t told queued
    → QueuesUpdate t queued
hears_typed v c piece s t told queued is born bytes h = by (client_at c s) refl h
  where
    by : (o : Option Client) → client_at c s ≡ o → Hears v c piece o s t told queued → QueuesUpdate t queued
    by None e h = typed_tells s t [] told queued is h
    by (Some k) e h = typed_heard v c piece k (refusal k.intake piece) s t told queued is born bytes (fed_at c s k is e) h

-- ---- an update came to its outcome

held_on : (target : Option (List (List ℕ))) (outcome : Outcome) → IfSome target IsPath → IsBorn outcome → IfSome (opened_on target outcome) IsHeldKey
held_on None outcome is born = tt
held_on (Some path) outcome is born = by (outcome.status == 0)
  where
    by : (b : Bool) → IfSome (if b then Some (record { kind = Key; path = path; birth = outcome.birth }) else None) IsHeldKey
    by true = record { path = is; in_range = born }
    by false = tt

held_in_group : (group : Option ℕ) (held : Option Held) (table : Table) → AreHeld table → IfSome held IsHeldKey → AreHeld (opened_in group held table).1
held_in_group (Some group) (Some held) table all is = held_opened table group held all is
held_in_group (Some group) None table all is = all
held_in_group None held table all is = all

typed_finished : (conn call_id context opnum : ℕ) (target : Option (List (List ℕ))) (place : ℕ) (outcome : Outcome) (o : Option Client) (s : Clients) → AreTyped s → IfSome target IsPath → IsBorn outcome
    → AreTyped (call_finished conn call_id context opnum target place outcome o s).clients
typed_finished conn call_id context opnum target place outcome None s is path born = is
typed_finished conn call_id context opnum target place outcome (Some k) s is path born = record {
  common = record {
    handles = held_in_group (group_of k.association) (opened_on target outcome) s.common.table is.common.handles (held_on target outcome path born);
    targets = is.common.targets;
  };
  conns = is.conns;
}

typed_for : (origin : Origin) (req place : ℕ) (outcome : Outcome) (s : Clients) → AreTyped s → IsTarget origin → IsBorn outcome → AreTyped (finished_for origin req place outcome s).clients
typed_for Batch req place outcome s is path born = is
typed_for (Call conn call_id context opnum target) req place outcome s is path born = typed_finished conn call_id context opnum target place outcome (client_at conn s) s is path born

born_or : (outcome : Option Outcome) → IfSome outcome IsBorn → IsBorn (unwrap_or outcome not_applied)
born_or None born = omega arith
born_or (Some outcome) born = born

finished_at : (waiting : List Origin) (s : Clients) (req place : ℕ) (outcome : Option Outcome) → AreTyped s → AllByRecursion IsTarget waiting → IfSome outcome IsBorn
    → AreTyped (finished waiting req place outcome s).clients
finished_at [] s req place outcome is all born = is
finished_at (origin ∷ others) s req place outcome is all born =
    let rest : AreTyped (without_first s others) = record { common = record { handles = is.common.handles; targets = all.1 }; conns = is.conns } in
    typed_for origin req place (unwrap_or outcome not_applied) (without_first s others) rest all.0 (born_or outcome born)

pub finished_typed : (s : Clients) (req place : ℕ) (outcome : Option Outcome) → AreTyped s → IfSome outcome IsBorn → AreTyped (finished s.common.waiting req place outcome s).clients
finished_typed s req place outcome is born = finished_at s.common.waiting s req place outcome is is.common.targets born

-- ---- the other events

pub connected_typed : (s : Clients) (c : ℕ) → AreTyped s → AreTyped (connected c s).0
connected_typed s c is = by (nat_lt (length s.conns) most_clients)
  where
    by : (b : Bool) → AreTyped (if◌then◌else◌ {A = Clients × Option Effect} b (with_new c s, None) (s, Some (Closed c Limit))).0
    by true = record { common = is.common; conns = all_insert IsFedClient nat_cmp s.conns c fresh_client is.conns (λ conn. fed_fresh Server) }
    by false = is

hung_up_at : (o : Option Client) (s : Clients) (c : ℕ) → AreTyped s → AreTyped (hung_up c o s).0
hung_up_at None s c is = is
hung_up_at (Some k) s c is = typed_left c k s is

pub hung_up_typed : (s : Clients) (c : ℕ) → AreTyped s → AreTyped (hung_up c (client_at c s) s).0
hung_up_typed s c is = hung_up_at (client_at c s) s c is

pub batched_typed : (s : Clients) (is_open : Bool) → AreTyped s → AreTyped (batched is_open s).0
batched_typed s is_open is = by (may_batch is_open s.common)
  where
    by : (b : Bool) → AreTyped (if◌then◌else◌ {A = Clients × Option Effect} b (record s { common = queued Batch s.common }, None) (s, refused_batch)).0
    by true = record { common = record { handles = is.common.handles; targets = all_snoc IsTarget s.common.waiting Batch is.common.targets tt }; conns = is.conns }
    by false = is
