-- At each event as many wait as there are updates in the queue.
use Rattle.std.proofs.Common.{◌≡◌, ℕ, ◌+◌, ◌-◌, ◌<◌, ◌≤◌, Bool, true, false, ◌&&◌, IsTrue, MatchBool, List, [], ◌∷◌, ◌++◌, length, drop, Option, Some, None, Result, Ok, Err, IfSome, OnErr, is_some, nat_lt, if◌then◌else◌, refl, sym, ap, ◌∙◌, subst, arith, length-append, length-drop}
use Rattle.std.specs.Prelude.{option_map, unwrap_or}
use Rattle.std.specs.declared.alloc.AllocError.{AllocError}
use Rattle.disk_core.specs.Views.{DiskView}
use Rattle.update_records.specs.declared.update.Update.{Update}
use Rattle.registry_defs.specs.Keys.{Keys}
use Rattle.registry_defs.specs.declared.outcome.Outcome.{Outcome}
use Rattle.ndr_values.specs.declared.handle.WireHandle.{WireHandle}
use Rattle.context_handles.specs.Table.{Table}
use Rattle.gum_messages.specs.declared.view.View.{View}
use Rattle.gum_messages.specs.Members.{is_locker}
use Rattle.gum_core.specs.Updating.{CoreState}
use Rattle.gum_core.specs.Updating as updating
use Rattle.rpc_assoc.specs.State.{State, group_of}
use Rattle.quorum_log.specs.Logs.{LogValue}
use Rattle.cluster_rules.specs.declared.effect.Effect.{Effect}
use Rattle.cluster_rules.specs.declared.effect.HaltCause.TheVariants as halt
use Rattle.cluster_rules.specs.Joins.{entered, takes_view}
use Rattle.cluster_rules.specs.Nodes.{NodeState, Out, becomes, nothing}
use Rattle.cluster_rules.specs.Updates.{may_submit, submit, submits}
use Rattle.cluster_rules.specs.Worlds.{acked}
use Rattle.registry_machine.specs.Machine.{registry_machine, replicated}
use Rattle.record_log.specs.declared.recovered.Recovered.{Recovered}
use Rattle.record_log.specs.declared.fault.RecordFault.{RecordFault}
use Rattle.record_log.specs.declared.fault.RecordFault.TheVariants as records
use Rattle.cluster_member.specs.declared.stop.Stop.{Stop}
use Rattle.cluster_member.specs.declared.stop.Stop.TheVariants as stop
use Rattle.member_rules.specs.declared.told.Told.{Told}
use Rattle.cluster_member.specs.Events.{Comes, Enters, Installs, Recovers, recovered_as}
use Rattle.cluster_member.specs.States.{MemberState}
use Rattle.client_connections.proofs.QueueLaws.{hears_queue, resumes_queue}
use Rattle.client_connections.specs.declared.origin.Origin.{Origin}
use Rattle.client_connections.specs.declared.origin.Origin.TheVariants.{Batch, Call}
use Rattle.client_connections.specs.Clients.{Client, Clients, Common, client_at, connected, hung_up, most_clients, with_new}
use Rattle.client_connections.specs.Finishing.{Finish, batched, call_finished, finished, finished_for, not_applied, opened_in, opened_on, queued, refused_batch, replied, without_first}
use Rattle.client_connections.specs.Items.{most_taken}
use Rattle.client_connections.specs.Taking.{QueuesOne, count_of}
use Rattle.cluster_node.specs.Acting.{Acts, Continues, ContinuesAt, Finishes, Follows, HearsPiece, Submits, keys_if_open, serving_of}
use Rattle.cluster_node.specs.Events.{BatchesAt, Leads, Refuses}
use Rattle.cluster_node.specs.InStep.{AreInStep, BatchesInStep, ChecksInStep, ClocksInStep, ConnectsInStep, HangsUpInStep, HearsInStep, InStep, InstallsInStep, ReceivesInStep, StartsInStep, TicksInStep}
use Rattle.cluster_node.specs.States.{RunningNode, with_stamp}
use Rattle.cluster_node.specs.Explained.{told_to_clients}
use Rattle.cluster_node.proofs.ForClients.{told_acks}
use Rattle.cluster_node.proofs.JoinTurns.{checkpoint_turn, entered_headed, entered_turn, receive_turn, recovers_turn}
use Rattle.cluster_node.proofs.Turns.{Headed, Moves, Popped, Same, Turn, halted, still}

-- ---- nothing is queued

-- The queue and what waits stay.
kept : (c d : CoreState) (s t : Common) → Same c d → Headed d → t.waiting ≡ s.waiting → t.taken ≡ s.taken → AreInStep c s → AreInStep d t
kept c d s t same h waiting taken before = record {
  waiting = rw (same.queue, waiting) before.waiting;
  requests = rw (same.passed, same.queue, taken) before.requests;
  few = rw taken before.few;
  headed = h;
}

-- The connections change, and none of them waits more or less.
record Stays (s t : Common) : Type 0 where
  waiting : t.waiting ≡ s.waiting
  taken : t.taken ≡ s.taken

stays : (c : CoreState) (s t : Common) → Stays s t → AreInStep c s → AreInStep c t
stays c s t same before = kept c c s t (record { passed = refl; queue = refl }) before.headed same.waiting same.taken before

connected_by : (conn : ℕ) (s : Clients) (room : Bool) (effect : Option Effect) → Stays s.common (let r : Clients × Option Effect = if room then (with_new conn s, None) else (s, effect) in r.0.common)
connected_by conn s true effect = record { waiting = refl; taken = refl }
connected_by conn s false effect = record { waiting = refl; taken = refl }

hung_up_by : (conn : ℕ) (s : Clients) (client : Option Client) → Stays s.common (hung_up conn client s).0.common
hung_up_by conn s None = record { waiting = refl; taken = refl }
hung_up_by conn s (Some k) = record { waiting = refl; taken = refl }

-- ---- an update is queued

-- What the connections hand on, where the node is open or not.
pub record Hands (is_open : Bool) (s t : Common) (handed : Option Update) : Type 0 where
  pub waiting : length t.waiting ≡ length s.waiting + count_of handed
  pub taken : s.taken + count_of handed ≤ t.taken
  pub few : s.taken ≤ most_taken → t.taken ≤ most_taken
  pub at_open : IfSome handed (λ _. is_open ≡ true)

open_known : (is_open : Bool) (keys : Option Keys) → IsTrue (is_some (if is_open then keys else None)) → is_open ≡ true
open_known true keys known = refl
open_known false keys known = absurd (cc)

open_for : (m : MemberState) (handed : Option Update) → IfSome handed (λ _. IsTrue (is_some (keys_if_open m.rules))) → IfSome handed (λ _. m.rules.core.is_open ≡ true)
open_for m None known = tt
open_for m (Some u) known = open_known m.rules.core.is_open (option_map (λ r. r.registry.keys) m.rules.replica) known

pub hands : (m : MemberState) (s t : Common) (handed : Option Update) → QueuesOne (serving_of m) s t handed → Hands m.rules.core.is_open s t handed
hands m s t handed q = record { waiting = q.waiting; taken = q.taken; few = q.few; at_open = open_for m handed q.at_open }

with_more : CoreState → Update → CoreState
with_more c u = record c { queue = c.queue ++ u ∷ [] }

one_more : (c : CoreState) (s t : Common) (u : Update) → AreInStep c s → Hands c.is_open s t (Some u) → AreInStep (with_more c u) t
unfolding with_more
one_more c s t u before q = record {
  waiting = omega (arith, length-append {A = Update}, before.waiting, q.waiting);
  requests = omega (arith, length-append {A = Update}, before.requests, q.taken);
  few = q.few before.few;
  headed = λ spreading is. omega (arith, length-append {A = Update});
}

pub may_be : (c : CoreState) (s t : Common) (u : Update) → AreInStep c s → Hands c.is_open s t (Some u) → (c.is_open && nat_lt (c.passed + length c.queue) updating.last_request) ≡ true
may_be c s t u before q = opened_below c.is_open (c.passed + length c.queue) q.at_open (omega (arith, before.requests, q.taken, q.few before.few))
  where
    opened_below : (is_open : Bool) (n : ℕ) → is_open ≡ true → n < updating.last_request → (is_open && nat_lt n updating.last_request) ≡ true
    opened_below true n is lt = grind arith
    opened_below false n is lt = absurd (cc)

submits_by : (x y : NodeState registry_machine) (u : Update) (may : Bool) → may ≡ true
    → (let o : Out registry_machine = if may then submits x (updating.submitted x.core u) else nothing x in o.node) ≡ Some y → y.core ≡ with_more x.core u
unfolding with_more
submits_by x y u true is node = let same : record x { core = (updating.submitted x.core u).0 } ≡ y = cc in ap (λ (z : NodeState registry_machine). z.core) (sym same)
submits_by x y u false is node = absurd (cc)

submitted : (m n : MemberState) (s t : Common) (handed : Option Update) (told all : List Effect) → Hands m.rules.core.is_open s t handed → Submits handed told m n all
    → AreInStep m.rules.core s → AreInStep n.rules.core t
submitted m n s t None told all q submits before =
    let same : m.rules ≡ n.rules = let node : Some m.rules ≡ Some n.rules = submits.rules in cc in
    subst (λ (x : NodeState registry_machine). AreInStep x.core t) same (record {
      waiting = omega (arith, before.waiting, q.waiting);
      requests = omega (arith, before.requests, q.taken);
      few = q.few before.few;
      headed = before.headed;
    })
submitted m n s t (Some u) told all q submits before =
    let queued : n.rules.core ≡ with_more m.rules.core u = submits_by m.rules n.rules u (may_submit m.rules) (may_be m.rules.core s t u before q) submits.rules in
    subst (λ (c : CoreState). AreInStep c t) (sym queued) (one_more m.rules.core s t u before q)

continues : (conn : ℕ) (m n : MemberState) (s t : Clients) (all : List Effect) → Continues conn m s n t all → AreInStep m.rules.core s.common → AreInStep n.rules.core t.common
continues conn m n s t all c before =
    submitted m n s.common t.common c.queued c.told all
    (hands m s.common t.common c.queued (resumes_queue (serving_of m) conn (client_at conn s) s t c.told c.queued c.resumes)) c.submits before

continues_at : (resumes : Option ℕ) (m n : MemberState) (s t : Clients) (all : List Effect) → ContinuesAt resumes m s n t all → AreInStep m.rules.core s.common → AreInStep n.rules.core t.common
continues_at None m n s t all (same, clients, none) before = rw (same, clients) before
continues_at (Some conn) m n s t all c before = continues conn m n s t all c before

-- ---- the head is acknowledged

replied_stays : (conn call_id context opnum place : ℕ) (outcome : Outcome) (association : State) (opened : Option WireHandle × Table) (s : Clients)
    → Stays s.common (replied conn call_id context opnum outcome place association opened s).clients.common
replied_stays conn call_id context opnum place outcome association (handle, table) s = record { waiting = refl; taken = refl }

call_stays : (conn call_id context opnum : ℕ) (target : Option (List (List ℕ))) (place : ℕ) (outcome : Outcome) (client : Option Client) (s : Clients)
    → Stays s.common (call_finished conn call_id context opnum target place outcome client s).clients.common
call_stays conn call_id context opnum target place outcome None s = record { waiting = refl; taken = refl }
call_stays conn call_id context opnum target place outcome (Some k) s =
    replied_stays conn call_id context opnum place outcome k.association (opened_in (group_of k.association) (opened_on target outcome) s.common.table) s

finish_stays : (origin : Origin) (req place : ℕ) (outcome : Outcome) (s : Clients) → Stays s.common (finished_for origin req place outcome s).clients.common
finish_stays Batch req place outcome s = record { waiting = refl; taken = refl }
finish_stays (Call conn call_id context opnum target) req place outcome s = call_stays conn call_id context opnum target place outcome (client_at conn s) s

one_less : (c d : CoreState) (s : Clients) (origin : Origin) (others : List Origin) → s.common.waiting ≡ origin ∷ others → Popped c d → Headed d → AreInStep c s.common
    → AreInStep d (without_first s others).common
one_less c d s origin others is popped h before =
    let whole : length (origin ∷ others) ≡ length c.queue = ap length (sym is) ∙ before.waiting in
    let count : length others + 1 ≡ length c.queue = omega (arith, whole) in
    record {
      waiting = rw popped.queue (omega (arith, length-drop {A = Update} 1 c.queue, count));
      requests = rw (popped.passed, popped.queue) (omega (arith, length-drop {A = Update} 1 c.queue, before.requests, popped.had));
      few = before.few;
      headed = h;
    }

pub finished_in : (c d : CoreState) (waiting : List Origin) (s : Clients) (req place : ℕ) (outcome : Option Outcome) → s.common.waiting ≡ waiting → Popped c d → Headed d
    → AreInStep c s.common → AreInStep d (finished waiting req place outcome s).clients.common
finished_in c d [] s req place outcome is popped h before = absurd (let none : 0 ≡ length c.queue = ap length (sym is) ∙ before.waiting in omega (arith, popped.had))
finished_in c d (origin ∷ others) s req place outcome is popped h before =
    stays d (without_first s others).common _ (finish_stays origin req place (unwrap_or outcome not_applied) (without_first s others)) (one_less c d s origin others is popped h before)

acts : (c : CoreState) (acks : List (ℕ × ℕ)) (req : ℕ) (m n : MemberState) (s t : Clients) (told : Told) (all : List Effect) → Moves c acks m.rules.core → Headed m.rules.core
    → Acts acks req m s told n t all → AreInStep c s.common → AreInStep n.rules.core t.common
acts c [] req m n s t told all moves h (same, clients, effects) before = rw (same, clients) (kept c m.rules.core s.common s.common moves h refl refl before)
acts c (ack ∷ acks) req m n s t told all (popped, alone) h finishes before =
    let end : Finish = finished s.common.waiting req ack.1 told.outcome s in
    continues_at end.resumes m n end.clients t finishes.more finishes.continues (finished_in c m.rules.core s.common.waiting s req ack.1 told.outcome refl popped h before)

-- ---- an event of the member

-- The member goes on, with the queue as its effects tell.
pub record IsTurned (c : CoreState) (m : MemberState) (told : Told) : Type 0 where
  pub moves : Moves c (acked told.effects) m.rules.core
  pub headed : Headed m.rules.core
  pub clients : told_to_clients told.effects ≡ told_acks (acked told.effects)

abbrev pub Turned : CoreState → Result Told Stop → MemberState → Type 0
Turned c (Ok told) m = IsTurned c m told
Turned c (Err fault) m = Unit {0}

follows : (c : CoreState) (came : Result Told Stop) (req : ℕ) (m : MemberState) (s : Clients) (y : Option RunningNode) (all : List Effect) → Turned c came m
    → Follows came req m s y all → AreInStep c s.common → InStep y
follows c (Ok told) req m s (Some y) all turned follow before = acts c (acked told.effects) req m y.member s y.clients told all turned.moves turned.headed follow before
follows c (Ok told) req m s None all turned follow before = tt
follows c (Err (stop.Halted cause)) req m s None all turned follow before = tt
follows c (Err (stop.Halted cause)) req m s (Some y) all turned follow before = absurd follow
follows c (Err stop.Memory) req m s None all turned follow before = tt
follows c (Err stop.Memory) req m s (Some y) all turned follow before = absurd follow

leads : (Event : Result Told Stop → MemberState → Type 0) (x : RunningNode) (r : Result (List Effect) AllocError) (y : Option RunningNode)
    → ((came : Result Told Stop) (m : MemberState) → Event came m → Turned x.member.rules.core came m) → Leads Event x r y → InStep (Some x) → InStep y
leads Event x (Ok effects) y turn l before = follows x.member.rules.core l.came _ l.member x.clients y effects (turn l.came l.member l.event) l.follows before
leads Event x (Err fault) y turn l before = subst InStep (sym l.stops) tt

pub comes : (c : CoreState) (out : Out registry_machine) (came : Result Told Stop) (m : MemberState) → Turn c out → Comes out came m.rules → Turned c came m
comes c out (Ok told) m turn goes = record {
  moves = subst (λ (effects : List Effect). Moves c (acked effects) m.rules.core) goes.effects (turn.moves m.rules goes.node);
  headed = turn.headed m.rules goes.node;
  clients = subst (λ (effects : List Effect). told_to_clients effects ≡ told_acks (acked effects)) goes.effects turn.clients;
}
comes c out (Err fault) m turn goes = tt

recovered_turn : (x : NodeState registry_machine) (opened : Result (LogValue × Recovered) RecordFault) → Headed x.core → Turn x.core (recovered_as x opened)
recovered_turn x (Ok (log, r)) h = recovers_turn x (record { count = r.count; cap = r.cap; last = r.last }) (replicated r.registry) h
recovered_turn x (Err records.Failed) h = halted x.core halt.Disk
recovered_turn x (Err (records.Fenced held)) h = halted x.core (halt.Fenced held)
recovered_turn x (Err (records.Image place)) h = halted x.core (halt.Image place)
recovered_turn x (Err records.Memory) h = halted x.core halt.Disk

pub installs_by : (v w : DiskView) (x : MemberState) (view : View) (takes locks : Bool) (came : Result Told Stop) (m : MemberState) → Headed x.rules.core
    → MatchBool takes (MatchBool locks (Recovers v x view came m w) (Enters v (nothing (entered view x.rules)) None came m w)) (Enters v (nothing x.rules) x.log came m w)
    → Turned x.rules.core came m
installs_by v w x view true true came m h installs =
    comes x.rules.core _ came m (entered_turn view x.rules _ (recovered_turn (entered view x.rules) installs.opened (entered_headed view x.rules))) installs.comes
installs_by v w x view true false came m h installs =
    comes x.rules.core _ came m (entered_turn view x.rules _ (still (entered view x.rules) [] refl (entered_headed view x.rules))) installs.comes
installs_by v w x view false locks came m h installs = comes x.rules.core _ came m (still x.rules [] refl h) installs.comes

-- ---- the events

pub starts_in_step : StartsInStep
starts_in_step number inc = record { waiting = refl; requests = omega arith; few = omega arith; headed = λ spreading is. absurd (cc) }

pub installs_in_step : InstallsInStep
installs_in_step v w None y view r silent before = subst InStep (sym silent.stopped) tt
installs_in_step v w (Some x) y view r l before =
    leads _ x r y (λ came m event. installs_by v w x.member view (takes_view x.member.rules view) (is_locker view.members x.member.rules.join.node) came m before.headed event) l before

pub receives_in_step : ReceivesInStep
receives_in_step v w None y p r silent before = subst InStep (sym silent.stopped) tt
receives_in_step v w (Some x) y p r l before =
    leads _ x r y (λ came m event. comes x.member.rules.core _ came m (receive_turn x.member.rules p v.current.held _ before.headed) event.comes) l before

pub checks_in_step : ChecksInStep
checks_in_step v w None y r silent before = subst InStep (sym silent.stopped) tt
checks_in_step v w (Some x) y r l before =
    leads _ x r y (λ came m event. comes x.member.rules.core _ came m (checkpoint_turn x.member.rules v.current.held _ before.headed) event.comes) l before

pub ticks_in_step : TicksInStep
ticks_in_step None None effects ticks before = tt
ticks_in_step None (Some y) effects ticks before = absurd ticks
ticks_in_step (Some x) None effects ticks before = absurd ticks
ticks_in_step (Some x) (Some y) effects (same, told) before = rw same before

clocked_by : (stamp : ℕ) (running : Option RunningNode) → InStep running → InStep (option_map (with_stamp stamp) running)
clocked_by stamp None before = tt
clocked_by stamp (Some x) before = record { waiting = before.waiting; requests = before.requests; few = before.few; headed = before.headed }

pub clocks_in_step : ClocksInStep
clocks_in_step stamp n before = clocked_by stamp n.running before

pub connects_in_step : ConnectsInStep
connects_in_step conn None None effects told before = tt
connects_in_step conn None (Some y) effects told before = absurd told
connects_in_step conn (Some x) None effects told before = absurd told
connects_in_step conn (Some x) (Some y) effects (same, told) before =
    rw same (stays x.member.rules.core x.clients.common (connected conn x.clients).0.common (connected_by conn x.clients (nat_lt (length x.clients.conns) most_clients) _) before)

pub hangs_up_in_step : HangsUpInStep
hangs_up_in_step conn None None effects told before = tt
hangs_up_in_step conn None (Some y) effects told before = absurd told
hangs_up_in_step conn (Some x) None effects told before = absurd told
hangs_up_in_step conn (Some x) (Some y) effects (same, told) before =
    rw same (stays x.member.rules.core x.clients.common _ (hung_up_by conn x.clients (client_at conn x.clients)) before)

hears : (conn : ℕ) (piece : List ℕ) (m n : MemberState) (s t : Clients) (all : List Effect) → HearsPiece conn piece m s n t all → AreInStep m.rules.core s.common → AreInStep n.rules.core t.common
hears conn piece m n s t all h before =
    submitted m n s.common t.common h.queued h.told all
    (hands m s.common t.common h.queued (hears_queue (serving_of m) conn piece (client_at conn s) s t h.told h.queued h.hears)) h.submits before

pub hears_in_step : HearsInStep
hears_in_step conn piece None None effects heard before = tt
hears_in_step conn piece None (Some y) effects heard before = absurd heard
hears_in_step conn piece (Some x) None effects heard before = absurd heard
hears_in_step conn piece (Some x) (Some y) effects heard before = hears conn piece x.member y.member x.clients y.clients effects heard before

abbrev pub batched_if : Bool → Clients → Clients × Option Effect
batched_if may s = if may then (record s { common = queued Batch s.common }, None) else (s, refused_batch)

pub batch_hands : (is_open : Bool) (s : Common) (u : Update) → (is_open && nat_lt s.taken most_taken) ≡ true → Hands is_open s (queued Batch s) (Some u)
batch_hands true s u may = record {
  waiting = omega (arith, length-append {A = Origin});
  taken = omega arith;
  few = λ few. let lt : s.taken < most_taken = grind arith in omega arith;
  at_open = refl;
}
batch_hands false s u may = absurd (cc)

batch_by : (m n : MemberState) (s t : Clients) (u : Update) (may : Bool) (all : List Effect) → (m.rules.core.is_open && nat_lt s.common.taken most_taken) ≡ may
    → t ≡ (batched_if may s).0 → Refuses (batched_if may s).1 u m n all → AreInStep m.rules.core s.common → AreInStep n.rules.core t.common
batch_by m n s t u true all is clients submits before =
    subst (λ (q : Clients). AreInStep n.rules.core q.common) (sym clients)
    (submitted m n s.common (queued Batch s.common) (Some u) [] all (batch_hands m.rules.core.is_open s.common u is) submits before)
batch_by m n s t u false all is clients (same, told) before = rw (same, clients) before

pub batches_in_step : BatchesInStep
batches_in_step update None None effects batch before = tt
batches_in_step update None (Some y) effects batch before = absurd batch
batches_in_step update (Some x) None effects batch before = absurd batch
batches_in_step update (Some x) (Some y) effects batch before =
    batch_by x.member y.member x.clients y.clients update (x.member.rules.core.is_open && nat_lt x.clients.common.taken most_taken) effects refl batch.clients batch.submits before
