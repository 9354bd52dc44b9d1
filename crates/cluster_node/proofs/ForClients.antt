-- What is told to clients: all that connections tell, and nothing of what the member sends.
use Rattle.std.proofs.Common.{◌≡◌, ℕ, Bool, true, false, List, [], ◌∷◌, ◌++◌, Option, Some, None, if◌then◌else◌, refl, sym, ap, ◌∙◌, subst}
use Rattle.std.specs.Prelude.{filter, map, option_to_list, unwrap_or}
use Rattle.std.specs.Map.{keys_of}
use Rattle.std.proofs.lemmas.List.{append-nil}
use Rattle.std.proofs.lemmas.List.Elements.{filter-append}
use Rattle.gum_messages.specs.declared.body.Body.TheVariants.{Ask}
use Rattle.gum_messages.proofs.Branches.{list_cases, option_cases}
use Rattle.gum_core.specs.Updating as updating
use Rattle.update_records.specs.declared.update.Update.{Update}
use Rattle.rpc_calls.specs.declared.item.Item.{Item}
use Rattle.cluster_rules.specs.declared.effect.CloseCause.{CloseCause}
use Rattle.cluster_rules.specs.declared.effect.CloseCause.TheVariants.{NodeStopped}
use Rattle.cluster_rules.specs.declared.effect.Effect.{Effect}
use Rattle.cluster_rules.specs.declared.effect.Effect.TheVariants.{Acked, Batched, Closed, Halted, Opened, Reply, Send}
use Rattle.cluster_rules.specs.Machines.{Machine}
use Rattle.cluster_rules.specs.Nodes.{NodeState, Out, asks, locker_at, nothing, packet}
use Rattle.cluster_rules.specs.Updates.{may_submit, submit, submits}
use Rattle.cluster_rules.specs.Worlds.{acked}
use Rattle.registry_machine.specs.Machine.{registry_machine}
use Rattle.client_connections.specs.declared.took.Ending.{Ending}
use Rattle.client_connections.specs.declared.took.Ending.TheVariants.{Fails, Rests, Waits}
use Rattle.client_connections.specs.declared.took.Took.{Took}
use Rattle.client_connections.specs.declared.took.Took.TheVariants as took
use Rattle.client_connections.specs.declared.origin.Origin.{Origin}
use Rattle.client_connections.specs.declared.origin.Origin.TheVariants.{Batch, Call}
use Rattle.client_connections.specs.Clients.{Client, Clients, client_at, closings, left_by}
use Rattle.client_connections.specs.Finishing.{call_finished, finished, finished_for, not_applied, opened_in, opened_on, replied, without_first}
use Rattle.context_handles.specs.Table.{Table}
use Rattle.ndr_values.specs.declared.handle.WireHandle.{WireHandle}
use Rattle.registry_defs.specs.declared.outcome.Outcome.{Outcome}
use Rattle.rpc_assoc.specs.State.{State, group_of}
use Rattle.client_connections.specs.Items.{ClientState, item_of, state}
use Rattle.client_connections.specs.Taking.{Course, GoesOn, Hears, HearsBy, Resumes, Serving, Tells, closes, course_from, effects_of, fed_client, refusal, takes_all, takes_one, took_by}
use Rattle.cluster_node.specs.Acting.{answered_with, submitted_by}
use Rattle.cluster_node.specs.Explained.{is_for_clients, told_to_clients}

-- All of it is for clients.
abbrev pub AreFor : List Effect → Type 0
AreFor es = told_to_clients es ≡ es

pub joins : (es fs : List Effect) → told_to_clients (es ++ fs) ≡ told_to_clients es ++ told_to_clients fs
joins es fs = filter-append is_for_clients es fs

both : (es fs : List Effect) → AreFor es → AreFor fs → AreFor (es ++ fs)
both es fs e f = joins es fs ∙ ap (λ (t : List Effect). t ++ told_to_clients fs) e ∙ ap (λ (t : List Effect). es ++ t) f

-- ---- acknowledgements

abbrev pub told_acks : List (ℕ × ℕ) → List Effect
told_acks [] = []
told_acks (ack ∷ acks) = Acked ack.0 ack.1 ∷ told_acks acks

acked_of : (es : List Effect) → acked es ≡ acked (told_to_clients es)
acked_of [] = refl
acked_of (Acked view place ∷ es) = ap (λ (acks : List (ℕ × ℕ)). (view, place) ∷ acks) (acked_of es)
acked_of (Send p ∷ es) = acked_of es
acked_of (Reply conn point bytes ∷ es) = acked_of es
acked_of (Closed conn cause ∷ es) = acked_of es
acked_of (Opened view ∷ es) = acked_of es
acked_of (Batched req point status index ∷ es) = acked_of es
acked_of (Halted cause ∷ es) = acked_of es

pub none_acked : (es : List Effect) → told_to_clients es ≡ [] → acked es ≡ []
none_acked es none = acked_of es ∙ ap acked none

-- ---- connections

took_for : (v : Serving) (c : ℕ) (p : Course) (took : Took) (n : ClientState) → AreFor p.effects → AreFor (took_by v c p (took, n)).effects
took_for v c p took.Nothing n so_far = so_far
took_for v c p (took.Reply bytes reads) n so_far = both p.effects _ so_far refl
took_for v c p (took.Queues origin update) n so_far = so_far

takes_for : (v : Serving) (c : ℕ) (p : Course) (items : List Item) → AreFor p.effects → AreFor (takes_all v c p items).effects
takes_for v c p [] so_far = so_far
takes_for v c p (i ∷ items) so_far =
    let one = item_of v.keys c (state p.common.table p.association) i in
    takes_for v c (takes_one v c p i) items (took_for v c p one.0 one.1 so_far)

ending_for : (c : ℕ) (q : Course) (ending : Ending) → AreFor q.effects → AreFor (effects_of c q ending)
ending_for c q Waits all = all
ending_for c q Rests all = all
ending_for c q (Fails fault) all = both q.effects _ all refl

goes_for : (v : Serving) (c : ℕ) (k : Client) (s t : Clients) (told : List Effect) (queued : Option Update) → GoesOn v c k s t told queued → AreFor told
goes_for v c k s t told queued goes =
    let begin = course_from s.common k in
    let all : AreFor goes.course.effects = subst (λ (q : Course). AreFor q.effects) (sym goes.takes.course) (takes_for v c begin goes.takes.items refl) in
    subst AreFor (sym goes.effects) (ending_for c goes.course goes.ending all)

pub resumes_for : (v : Serving) (c : ℕ) (client : Option Client) (s t : Clients) (told : List Effect) (queued : Option Update) → Resumes v c client s t told queued → AreFor told
resumes_for v c None s t told queued tells = subst AreFor (sym tells.effects) refl
resumes_for v c (Some k) s t told queued goes = goes_for v c k s t told queued goes

heard_for : (v : Serving) (c : ℕ) (piece : List ℕ) (k : Client) (refused : Option CloseCause) (s t : Clients) (told : List Effect) (queued : Option Update)
    → HearsBy refused v c piece k s t told queued → AreFor told
heard_for v c piece k (Some cause) s t told queued tells = subst AreFor (sym tells.effects) refl
heard_for v c piece k None s t told queued goes = goes_for v c (fed_client k piece) s t told queued goes

pub hears_for : (v : Serving) (c : ℕ) (piece : List ℕ) (client : Option Client) (s t : Clients) (told : List Effect) (queued : Option Update) → Hears v c piece client s t told queued → AreFor told
hears_for v c piece None s t told queued tells = subst AreFor (sym tells.effects) refl
hears_for v c piece (Some k) s t told queued hears = heard_for v c piece k (refusal k.intake piece) s t told queued hears

-- ---- the member

pub asks_none : {M : Machine} (y : NodeState M) (next : Option ℕ) → told_to_clients (asks y next) ≡ []
asks_none y next =
    let Q : List Effect → Type 0 = λ es. told_to_clients es ≡ [] in
    option_cases Q next [] (λ req. elim y.core.queue [ [] ↦ [] | u ∷ us ↦ Send (packet y (locker_at y) (Ask req u)) ∷ [] ])
    (λ none. refl)
    (λ req some. list_cases Q y.core.queue [] (λ u us. Send (packet y (locker_at y) (Ask req u)) ∷ []) (λ empty. refl) (λ u us full. refl))

submit_none : (x : NodeState registry_machine) (u : Update) (may : Bool)
    → told_to_clients (let o : Out registry_machine = if may then submits x (updating.submitted x.core u) else nothing x in o.effects) ≡ []
submit_none x u true = asks_none (record x { core = (updating.submitted x.core u).0 }) _
submit_none x u false = refl

pub submitted_none : (handed : Option Update) (x : NodeState registry_machine) → told_to_clients (submitted_by handed x).effects ≡ []
submitted_none None x = refl
submitted_none (Some u) x = submit_none x u (may_submit x)

-- What a connection told, and behind it what the member sends.
pub told_before : (told all : List Effect) (handed : Option Update) (x : NodeState registry_machine) → AreFor told → all ≡ told ++ (submitted_by handed x).effects → told_to_clients all ≡ told
told_before told all handed x whole is =
    ap told_to_clients is ∙ joins told (submitted_by handed x).effects ∙ ap (λ (t : List Effect). told_to_clients told ++ t) (submitted_none handed x) ∙ append-nil (told_to_clients told) ∙ whole

-- ---- answers

answers_for : (answer : Option Effect) (view place : ℕ) (rest : List Effect) → AreFor (option_to_list answer) → told_to_clients rest ≡ []
    → told_to_clients (option_to_list answer ++ rest) ≡ option_to_list answer
answers_for answer view place rest whole none = joins (option_to_list answer) rest ∙ ap (λ (t : List Effect). told_to_clients (option_to_list answer) ++ t) none
    ∙ append-nil (told_to_clients (option_to_list answer)) ∙ whole

-- Where the member's effects tell clients one acknowledgement, the answer stands behind it.
pub told_answered : (answer : Option Effect) (view place : ℕ) (es : List Effect) → AreFor (option_to_list answer) → told_to_clients es ≡ Acked view place ∷ []
    → told_to_clients (answered_with answer es) ≡ Acked view place ∷ option_to_list answer
unfolding answered_with
told_answered answer view place [] whole one = absurd (cc)
told_answered answer view place (Acked v p ∷ es) whole one =
    let none : told_to_clients es ≡ [] = cc in
    let same : Acked v p ≡ Acked view place = cc in
    ap (λ (e : Effect). e ∷ told_to_clients (option_to_list answer ++ es)) same ∙ ap (λ (t : List Effect). Acked view place ∷ t) (answers_for answer view place es whole none)
told_answered answer view place (Send p ∷ es) whole one = told_answered answer view place es whole one
told_answered answer view place (Opened v ∷ es) whole one = told_answered answer view place es whole one
told_answered answer view place (Halted cause ∷ es) whole one = told_answered answer view place es whole one
told_answered answer view place (Reply conn point bytes ∷ es) whole one = absurd (let bad : Reply conn point bytes ≡ Acked view place = cc in cc)
told_answered answer view place (Closed conn cause ∷ es) whole one = absurd (let bad : ◌≡◌ {A = Effect} (Closed conn cause) (Acked view place) = cc in cc)
told_answered answer view place (Batched req point status index ∷ es) whole one = absurd (let bad : ◌≡◌ {A = Effect} (Batched req point status index) (Acked view place) = cc in cc)

replied_for : (conn call_id context opnum place : ℕ) (outcome : Outcome) (association : State) (opened : Option WireHandle × Table) (s : Clients)
    → AreFor (option_to_list (replied conn call_id context opnum outcome place association opened s).effect)
replied_for conn call_id context opnum place outcome association (handle, table) s = refl

call_for : (conn call_id context opnum : ℕ) (target : Option (List (List ℕ))) (place : ℕ) (outcome : Outcome) (client : Option Client) (s : Clients)
    → AreFor (option_to_list (call_finished conn call_id context opnum target place outcome client s).effect)
call_for conn call_id context opnum target place outcome None s = refl
call_for conn call_id context opnum target place outcome (Some k) s =
    replied_for conn call_id context opnum place outcome k.association (opened_in (group_of k.association) (opened_on target outcome) s.common.table) s

origin_for : (origin : Origin) (req place : ℕ) (outcome : Outcome) (s : Clients) → AreFor (option_to_list (finished_for origin req place outcome s).effect)
origin_for Batch req place outcome s = refl
origin_for (Call conn call_id context opnum target) req place outcome s = call_for conn call_id context opnum target place outcome (client_at conn s) s

pub finished_is_for : (waiting : List Origin) (req place : ℕ) (outcome : Option Outcome) (s : Clients) → AreFor (option_to_list (finished waiting req place outcome s).effect)
finished_is_for [] req place outcome s = refl
finished_is_for (origin ∷ others) req place outcome s = origin_for origin req place (unwrap_or outcome not_applied) (without_first s others)

-- ---- the end

closed_for : (conns : List ℕ) → AreFor (map (λ conn. Closed conn NodeStopped) conns)
closed_for [] = refl
closed_for (conn ∷ conns) = ap (λ (t : List Effect). Closed conn NodeStopped ∷ t) (closed_for conns)

pub closings_for : (conns : List (ℕ × Client)) → AreFor (closings conns)
closings_for conns = closed_for (keys_of conns)
