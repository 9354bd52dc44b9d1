-- What follows of an event of the member, as a step of the node's incarnation.
use Rattle.std.proofs.Common.{◌≡◌, ℕ, ◌+◌, ◌-◌, ◌<◌, ◌≤◌, List, [], ◌∷◌, ◌++◌, length, drop, get_or, slice_get, nat_lt, true, Option, Some, None, Result, Ok, Err, refl, sym, ap, ◌∙◌, subst, arith, length-drop, add-one, add-zero}
use Rattle.std.specs.Prelude.{option_to_list, unwrap_or}
use Rattle.std.proofs.lemmas.List.{append-nil, drop-drop, get_or-drop}
use Rattle.std.proofs.lemmas.Option.{slice_get_read}
use Rattle.disk_core.specs.Views.{DiskView}
use Rattle.gum_messages.specs.Members.{is_locker}
use Rattle.gum_messages.specs.Places.{at_place}
use Rattle.update_records.specs.Entry.{Entry}
use Rattle.update_records.specs.declared.update.Update.{Update}
use Rattle.update_records.specs.declared.update_id.UpdateId.{UpdateId}
use Rattle.gum_core.specs.Updating.{CoreState}
use Rattle.gum_core.specs.Updating as updating
use Rattle.cluster_rules.specs.Joins.{takes_view}
use Rattle.cluster_rules.specs.Nodes.{NodeState}
use Rattle.cluster_rules.specs.Worlds.{acked}
use Rattle.cluster_rules.specs.declared.effect.Effect.{Effect}
use Rattle.cluster_rules.specs.declared.effect.Effect.TheVariants.{Acked}
use Rattle.cluster_rules.specs.declared.effect.HaltCause.{HaltCause}
use Rattle.registry_machine.specs.Machine.{registry_machine}
use Rattle.cluster_member.specs.declared.stop.Stop.{Stop}
use Rattle.cluster_member.specs.declared.stop.Stop.TheVariants as stop
use Rattle.member_rules.specs.declared.told.Told.{Told}
use Rattle.cluster_member.specs.States.{MemberState}
use Rattle.client_connections.proofs.QueueLaws.{resumes_queue}
use Rattle.client_connections.specs.Clients.{Clients, client_at, closings, without_any}
use Rattle.client_connections.specs.Finishing.{Finish, finished}
use Rattle.client_connections.specs.Taking.{Resumes, Serving}
use Rattle.cluster_node.specs.Acting.{Acts, Continues, ContinuesAt, Finishes, Follows, answered_with, serving_of}
use Rattle.cluster_node.specs.Events.{head_request}
use Rattle.cluster_node.specs.Explained.{Answered, Incarnation, Input, IsStepBy, Resumed, ResumedAt, acknowledged, serving_at, told_to_clients, with_clients, with_request}
use Rattle.cluster_node.specs.InStep.{AreInStep, InStep}
use Rattle.cluster_node.specs.States.{RunningNode, runs}
use Rattle.cluster_node.specs.Steps.{AreHeads, CheckpointSteps, FollowsAsStep, HasFold, InstallSteps, IsHead, ReceiveSteps, StandsFor, StepsBy, StepsTo, input_for, step_at}
use Rattle.cluster_node.proofs.ForClients.{closings_for, finished_is_for, joins, resumes_for, told_acks, told_answered, told_before}
use Rattle.cluster_node.proofs.JoinTurns.{checkpoint_turn, receive_turn}
use Rattle.cluster_node.proofs.StayingInStep.{IsTurned, Turned, comes, finished_in, hands, installs_by}
use Rattle.cluster_node.proofs.Stepping.{rules_behind, serves, stands_with}
use Rattle.cluster_node.proofs.Turns.{Headed, Moves, Popped, Same}

-- ---- a connection goes on

record GoesOn (cap : ℕ) (order : List Entry) (t : Input) (y : RunningNode) (told : List Effect) (resumes : Option ℕ) (s : Incarnation) : Type 0 where
  more : List Effect
  state : Incarnation
  same : told_to_clients told ≡ more
  resumed : ResumedAt resumes (serving_at cap order (step_at t y [])) more s state
  stands : StandsFor y state

goes_on_at : (cap : ℕ) (order : List Entry) (t : Input) (conn : ℕ) (x y : RunningNode) (all : List Effect) (s : Incarnation) → Continues conn x.member x.clients y.member y.clients all
    → AreInStep x.member.rules.core x.clients.common → HasFold cap order x.member → StandsFor x s → GoesOn cap order t y all (Some conn) s
goes_on_at cap order t conn x y all s c in_step fold stands =
    let q = hands x.member x.clients.common y.clients.common c.queued (resumes_queue (serving_of x.member) conn (client_at conn x.clients) x.clients y.clients c.told c.queued c.resumes) in
    let rules = rules_behind x.member y.member x.clients.common y.clients.common c.queued c.told all q c.submits in_step in
    let whole = resumes_for (serving_of x.member) conn (client_at conn x.clients) x.clients y.clients c.told c.queued c.resumes in
    let from = serves cap order x.member.rules y.member.rules _ rules fold in
    record {
      more = c.told;
      state = with_request s y.clients c.queued;
      same = told_before c.told all c.queued x.member.rules whole c.submits.effects;
      resumed = record {
        queued = c.queued;
        resumes = subst (λ (v : Serving). Resumes v conn (client_at conn s.clients) s.clients y.clients c.told c.queued) from
            (subst (λ (k : Clients). Resumes (serving_of x.member) conn (client_at conn k) k y.clients c.told c.queued) (sym stands.clients) c.resumes);
        state = refl;
      };
      stands = stands_with x y s c.queued stands rules;
    }

goes_on : (cap : ℕ) (order : List Entry) (t : Input) (resumes : Option ℕ) (x y : RunningNode) (all : List Effect) (s : Incarnation) → ContinuesAt resumes x.member x.clients y.member y.clients all
    → AreInStep x.member.rules.core x.clients.common → HasFold cap order x.member → StandsFor x s → GoesOn cap order t y all resumes s
goes_on cap order t None x y all s (same, clients, none) in_step fold stands = record {
  more = [];
  state = s;
  same = ap told_to_clients none;
  resumed = (refl, refl);
  stands = record {
    clients = stands.clients ∙ sym clients;
    passed = stands.passed ∙ ap (λ (m : MemberState). m.rules.core.passed) (sym same);
    counted = stands.counted;
    queue = stands.queue ∙ ap (λ (m : MemberState). m.rules.core.queue) (sym same);
  };
}
goes_on cap order t (Some conn) x y all s c in_step fold stands = goes_on_at cap order t conn x y all s c in_step fold stands

-- ---- the head is acknowledged

abbrev id_of : ℕ → ℕ → ℕ → UpdateId
id_of node inc req = record { node = node; inc = inc; req = req }

request_at : (p : ℕ) (requests : List Update) (u : Update) (others : List Update) → drop p requests ≡ u ∷ others → at_place requests (p + 1) ≡ Some u
request_at p requests u others is =
    let count : length (drop p requests) ≡ length (u ∷ others) = ap length is in
    let lt : p < length requests = omega (arith, length-drop {A = Update} p requests, count) in
    let here : get_or requests (p + 0) u ≡ u = sym (get_or-drop p requests 0 u) ∙ ap (λ (l : List Update). get_or l 0 u) is in
    let there : get_or requests p u ≡ u = rw add-zero at here in
    rw add-one (slice_get_read requests (length requests) p u refl lt (sym there))

above : (n : ℕ) → 0 < n → nat_lt 0 n ≡ true
above n e = grind arith

head_is : (c : CoreState) → 0 < length c.queue → unwrap_or (updating.head_request c) 0 ≡ c.passed + 1
head_is c some = rw (above (length c.queue) some) refl

stands_popped : (x : RunningNode) (m : MemberState) (clients : Clients) (s : Incarnation) → Popped x.member.rules.core m.rules.core → StandsFor x s
    → StandsFor (runs m clients) (acknowledged s clients)
stands_popped x m clients s popped stands = record {
  clients = refl;
  passed = ap (λ (n : ℕ). n + 1) stands.passed ∙ sym popped.passed;
  counted = let count : length (drop s.passed s.requests) ≡ length x.member.rules.core.queue = ap length stands.queue in
      omega (arith, length-drop {A = Update} s.passed s.requests, count, popped.had, stands.counted);
  queue = sym (drop-drop 1 s.passed s.requests) ∙ ap (λ (l : List Update). drop 1 l) stands.queue ∙ sym popped.queue;
}

acked_step : (cap : ℕ) (order : List Entry) (node inc : ℕ) (x : RunningNode) (m : MemberState) (told : Told) (y : RunningNode) (effects : List Effect) (s : Incarnation) (view place : ℕ)
    → Popped x.member.rules.core m.rules.core → Headed m.rules.core → told_to_clients told.effects ≡ Acked view place ∷ []
    → Finishes (finished x.clients.common.waiting (head_request x) place told.outcome x.clients) m told.effects y.member y.clients effects
    → AreInStep x.member.rules.core x.clients.common → IsHead cap order node inc x place told.outcome → HasFold cap order m → StandsFor x s
    → StepsBy (input_for ((view, place) ∷ [])) cap order node inc y effects s
acked_step cap order node inc x m told y effects s view place popped h one f in_step head fold stands =
    let end : Finish = finished x.clients.common.waiting (head_request x) place told.outcome x.clients in
    let req : head_request x ≡ s.passed + 1 = head_is x.member.rules.core popped.had ∙ ap (λ (p : ℕ). p + 1) (sym stands.passed) in
    let behind : AreInStep m.rules.core end.clients.common = finished_in x.member.rules.core m.rules.core x.clients.common.waiting x.clients (head_request x) place told.outcome refl popped h in_step in
    let g = goes_on cap order (input_for ((view, place) ∷ [])) end.resumes (runs m end.clients) y f.more (acknowledged s end.clients) f.continues behind fold (stands_popped x m end.clients s popped stands) in
    let answered = told_answered end.effect view place told.effects (finished_is_for x.clients.common.waiting (head_request x) place told.outcome x.clients) one in (
      g.state,
      record {
        entry = head.entry;
        stands = head.stands;
        id = head.id ∙ ap (λ (r : ℕ). id_of node inc r) req;
        update = request_at s.passed s.requests head.entry.update head.others (stands.queue ∙ head.update);
        end = end;
        finishes = rw (stands.clients, ← req, ← head.outcome) refl;
        more = g.more;
        told = ap told_to_clients f.effects ∙ joins (answered_with end.effect told.effects) f.more
            ∙ ap (λ (front : List Effect). front ++ told_to_clients f.more) answered ∙ ap (λ (more : List Effect). (Acked view place ∷ option_to_list end.effect) ++ more) g.same;
        continues = g.resumed;
      },
      g.stands,
    )

acts_step : (cap : ℕ) (order : List Entry) (node inc : ℕ) (x : RunningNode) (m : MemberState) (told : Told) (y : RunningNode) (effects : List Effect) (s : Incarnation) (acks : List (ℕ × ℕ))
    → Moves x.member.rules.core acks m.rules.core → Headed m.rules.core → told_to_clients told.effects ≡ told_acks acks
    → Acts acks (head_request x) m x.clients told y.member y.clients effects → AreInStep x.member.rules.core x.clients.common
    → ((view place : ℕ) → acks ≡ (view, place) ∷ [] → IsHead cap order node inc x place told.outcome) → HasFold cap order m → StandsFor x s
    → StepsBy (input_for acks) cap order node inc y effects s
acts_step cap order node inc x m told y effects s [] kept h clients (same, others, is) in_step heads fold stands = (
  s,
  (ap told_to_clients is ∙ clients, refl),
  record {
    clients = stands.clients ∙ sym others;
    passed = stands.passed ∙ sym kept.passed ∙ ap (λ (n : MemberState). n.rules.core.passed) (sym same);
    counted = stands.counted;
    queue = stands.queue ∙ sym kept.queue ∙ ap (λ (n : MemberState). n.rules.core.queue) (sym same);
  },
)
acts_step cap order node inc x m told y effects s ((view, place) ∷ acks) (popped, alone) h clients f in_step heads fold stands =
    let single : (view, place) ∷ acks ≡ (view, place) ∷ [] = ap (λ (rest : List (ℕ × ℕ)). (view, place) ∷ rest) alone in
    let one : told_to_clients told.effects ≡ Acked view place ∷ [] = clients ∙ ap told_acks single in
    acked_step cap order node inc x m told y effects s view place popped h one f in_step (heads view place single) fold stands

-- ---- the events

pub follows_step : (x : RunningNode) (came : Result Told Stop) (m : MemberState) → Turned x.member.rules.core came m → FollowsAsStep x came m
follows_step x (Ok told) m turned cap order node inc (Some y) effects s follow in_step heads fold stands =
    acts_step cap order node inc x m told y effects s (acked told.effects) turned.moves turned.headed turned.clients follow in_step heads fold stands
follows_step x (Ok told) m turned cap order node inc None effects s follow in_step heads fold stands = absurd follow
follows_step x (Err (stop.Halted cause)) m turned cap order node inc None effects s follow in_step heads fold stands = (
  with_clients s (without_any s.clients),
  (ap told_to_clients follow ∙ closings_for x.clients.conns ∙ ap (λ (c : Clients). closings c.conns) (sym stands.clients), refl),
)
follows_step x (Err (stop.Halted cause)) m turned cap order node inc (Some y) effects s follow in_step heads fold stands = absurd follow
follows_step x (Err stop.Memory) m turned cap order node inc None effects s follow in_step heads fold stands = absurd follow
follows_step x (Err stop.Memory) m turned cap order node inc (Some y) effects s follow in_step heads fold stands = absurd follow

pub receive_steps : ReceiveSteps
receive_steps v w x p came m event in_step = follows_step x came m (comes x.member.rules.core _ came m (receive_turn x.member.rules p v.current.held _ in_step.headed) event.comes)

pub install_steps : InstallSteps
install_steps v w x view came m event in_step =
    follows_step x came m (installs_by v w x.member view (takes_view x.member.rules view) (is_locker view.members x.member.rules.join.node) came m in_step.headed event)

pub checkpoint_steps : CheckpointSteps
checkpoint_steps v w x came m event in_step = follows_step x came m (comes x.member.rules.core _ came m (checkpoint_turn x.member.rules v.current.held _ in_step.headed) event.comes)
