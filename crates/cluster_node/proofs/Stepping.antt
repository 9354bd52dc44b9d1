-- The events of a node's clients, as steps of its incarnation.
use Rattle.std.proofs.Common.{◌≡◌, ℕ, ◌+◌, ◌≤◌, Bool, true, false, ◌&&◌, List, [], ◌∷◌, ◌++◌, length, drop, Option, Some, None, nat_lt, if◌then◌else◌, refl, sym, ap, ◌∙◌, subst, arith, length-append}
use Rattle.std.specs.Prelude.{option_to_list}
use Rattle.std.proofs.lemmas.List.{append-nil, drop-append-le}
use Rattle.update_records.specs.Entry.{Entry}
use Rattle.update_records.specs.declared.update.Update.{Update}
use Rattle.registry_defs.specs.Keys.{Keys}
use Rattle.cluster_rules.specs.Nodes.{NodeState, Out, done_of, nothing}
use Rattle.cluster_rules.specs.Updates.{may_submit, submits}
use Rattle.cluster_rules.specs.declared.effect.Effect.{Effect}
use Rattle.gum_core.specs.Updating as updating
use Rattle.registry_machine.specs.Machine.{registry_machine}
use Rattle.cluster_member.specs.States.{MemberState}
use Rattle.client_connections.proofs.QueueLaws.{hears_queue}
use Rattle.cluster_rules.specs.declared.effect.CloseCause.TheVariants.{Limit}
use Rattle.cluster_rules.specs.declared.effect.Effect.TheVariants.{Closed}
use Rattle.client_connections.specs.declared.origin.Origin.TheVariants.{Batch}
use Rattle.client_connections.specs.Clients.{Client, Clients, Common, client_at, connected, hung_up, most_clients, with_new}
use Rattle.client_connections.specs.Finishing.{batched, queued}
use Rattle.client_connections.specs.Items.{most_taken}
use Rattle.client_connections.specs.Taking.{Hears, Serving, serving}
use Rattle.cluster_node.specs.Acting.{HearsPiece, Submits, keys_if_open, serving_of, submitted_by}
use Rattle.cluster_node.specs.Events.{Refuses}
use Rattle.cluster_node.specs.Explained.{BatchedBy, Brings, Heard, Incarnation, IsStepBy, told_to_clients, with_clients, with_request}
use Rattle.cluster_node.specs.Explained as explained
use Rattle.cluster_node.specs.InStep.{AreInStep}
use Rattle.cluster_node.specs.States.{RunningNode, runs}
use Rattle.cluster_node.specs.Steps.{BatchSteps, BytesStep, ConnectSteps, HangUpSteps, HasFold, StandsFor, StepsBy, keys_behind, step_at}
use Rattle.cluster_node.proofs.ForClients.{AreFor, hears_for, told_before}
use Rattle.cluster_node.proofs.StayingInStep.{Hands, batch_hands, batched_if, hands, may_be}

-- ---- the member behind an update that was handed on

abbrev pub with_queue : NodeState registry_machine → List Update → NodeState registry_machine
with_queue x queue = record x { core = record (x.core) { queue = queue } }

submits_to : (x y : NodeState registry_machine) (u : Update) (may : Bool) → may ≡ true
    → (let o : Out registry_machine = if may then submits x (updating.submitted x.core u) else nothing x in o.node) ≡ Some y → y ≡ with_queue x (x.core.queue ++ u ∷ [])
submits_to x y u true is node = let same : with_queue x (x.core.queue ++ u ∷ []) ≡ y = cc in sym same
submits_to x y u false is node = absurd (cc)

pub rules_behind : (m n : MemberState) (s t : Common) (handed : Option Update) (told all : List Effect) → Hands m.rules.core.is_open s t handed → Submits handed told m n all
    → AreInStep m.rules.core s → n.rules ≡ with_queue m.rules (m.rules.core.queue ++ option_to_list handed)
rules_behind m n s t None told all q submits before =
    let same : n.rules ≡ m.rules = let node : Some m.rules ≡ Some n.rules = submits.rules in cc in
    same ∙ ap (with_queue m.rules) (sym (append-nil m.rules.core.queue))
rules_behind m n s t (Some u) told all q submits before = submits_to m.rules n.rules u (may_submit m.rules) (may_be m.rules.core s t u before q) submits.rules

-- ---- where the incarnation stands then

queue_behind : (requests more queue : List Update) (passed : ℕ) → passed ≤ length requests → drop passed requests ≡ queue → drop passed (requests ++ more) ≡ queue ++ more
queue_behind requests more queue passed le is = drop-append-le passed requests more le ∙ ap (λ (front : List Update). front ++ more) is

pub stands_with : (x : RunningNode) (y : RunningNode) (s : Incarnation) (handed : Option Update) → StandsFor x s
    → y.member.rules ≡ with_queue x.member.rules (x.member.rules.core.queue ++ option_to_list handed) → StandsFor y (with_request s y.clients handed)
stands_with x y s handed stands is = record {
  clients = refl;
  passed = stands.passed ∙ ap (λ (r : NodeState registry_machine). r.core.passed) (sym is);
  counted = omega (arith, length-append {A = Update}, stands.counted);
  queue = queue_behind s.requests (option_to_list handed) x.member.rules.core.queue s.passed stands.counted stands.queue ∙ ap (λ (r : NodeState registry_machine). r.core.queue) (sym is);
}

-- The member stays as it is.
stands_still : (x y : RunningNode) (s : Incarnation) → StandsFor x s → y.member ≡ x.member → StandsFor y (with_clients s y.clients)
stands_still x y s stands same = record {
  clients = refl;
  passed = stands.passed ∙ ap (λ (m : MemberState). m.rules.core.passed) (sym same);
  counted = stands.counted;
  queue = stands.queue ∙ ap (λ (m : MemberState). m.rules.core.queue) (sym same);
}

-- What clients are answered from is the registry behind the records of the order.
pub serves : (cap : ℕ) (order : List Entry) (x y : NodeState registry_machine) (queue : List Update) → y ≡ with_queue x queue → keys_if_open x ≡ keys_behind cap order x
    → serving (keys_if_open x) (done_of x) ≡ serving (keys_behind cap order y) (done_of y)
serves cap order x y queue is fold =
    ap (λ (keys : Option Keys). serving keys (done_of x)) fold ∙ ap (λ (z : NodeState registry_machine). serving (keys_behind cap order z) (done_of z)) (sym is)

-- ---- the events

pub bytes_step : BytesStep
bytes_step cap order node inc conn piece x y effects s heard in_step fold stands =
    let q = hands x.member x.clients.common y.clients.common heard.queued
    (hears_queue (serving_of x.member) conn piece (client_at conn x.clients) x.clients y.clients heard.told heard.queued heard.hears) in
    let rules = rules_behind x.member y.member x.clients.common y.clients.common heard.queued heard.told effects q heard.submits in_step in
    let all_for = hears_for (serving_of x.member) conn piece (client_at conn x.clients) x.clients y.clients heard.told heard.queued heard.hears in
    let told : told_to_clients effects ≡ heard.told = told_before heard.told effects heard.queued x.member.rules all_for heard.submits.effects in
    let from = serves cap order x.member.rules y.member.rules _ rules fold in (
      with_request s y.clients heard.queued,
      record {
        queued = heard.queued;
        hears = subst (λ (v : Serving). Hears v conn piece (client_at conn s.clients) s.clients y.clients (told_to_clients effects) heard.queued) from
            (subst (λ (c : Clients). Hears (serving_of x.member) conn piece (client_at conn c) c y.clients (told_to_clients effects) heard.queued) (sym stands.clients)
            (subst (λ (t : List Effect). Hears (serving_of x.member) conn piece (client_at conn x.clients) x.clients y.clients t heard.queued) (sym told) heard.hears));
        state = refl;
      },
      stands_with x y s heard.queued stands rules,
    )

-- The connections change, and tell one effect at most.
record Changed (f : Clients → Clients × Option Effect) (y : RunningNode) (effects : List Effect) (s : Incarnation) : Type 0 where
  told : told_to_clients effects ≡ option_to_list (f s.clients).1
  state : with_clients s y.clients ≡ with_clients s (f s.clients).0

changed : (f : Clients → Clients × Option Effect) (x y : RunningNode) (effects : List Effect) (s : Incarnation) → y ≡ runs x.member (f x.clients).0
    → effects ≡ option_to_list (f x.clients).1 → AreFor (option_to_list (f x.clients).1) → s.clients ≡ x.clients → Changed f y effects s
changed f x y effects s same told whole is = record {
  told = ap told_to_clients told ∙ whole ∙ ap (λ (c : Clients). option_to_list (f c).1) (sym is);
  state = ap (λ (n : RunningNode). with_clients s n.clients) same ∙ ap (λ (c : Clients). with_clients s (f c).0) (sym is);
}

connect_for : (conn : ℕ) (s : Clients) (room : Bool) → AreFor (option_to_list (let r : Clients × Option Effect = if room then (with_new conn s, None) else (s, Some (Closed conn Limit)) in r.1))
connect_for conn s true = refl
connect_for conn s false = refl

hang_up_for : (conn : ℕ) (s : Clients) (client : Option Client) → AreFor (option_to_list (hung_up conn client s).1)
hang_up_for conn s None = refl
hang_up_for conn s (Some k) = refl

pub connect_steps : ConnectSteps
connect_steps cap order node inc conn x y effects s (same, told) stands =
    let c = changed (connected conn) x y effects s same told (connect_for conn x.clients (nat_lt (length x.clients.conns) most_clients)) stands.clients in
    (with_clients s y.clients, (c.told, c.state), stands_still x y s stands (ap (λ (n : RunningNode). n.member) same))

pub hang_up_steps : HangUpSteps
hang_up_steps cap order node inc conn x y effects s (same, told) stands =
    let c = changed (λ (q : Clients). hung_up conn (client_at conn q) q) x y effects s same told (hang_up_for conn x.clients (client_at conn x.clients)) stands.clients in
    (with_clients s y.clients, (c.told, c.state), stands_still x y s stands (ap (λ (n : RunningNode). n.member) same))

-- ---- a batch

record BatchDone (update : Update) (x y : RunningNode) (may : Bool) (effects : List Effect) (s : Incarnation) : Type 0 where
  state : Incarnation
  is_open : y.member.rules.core.is_open ≡ x.member.rules.core.is_open
  batch : BatchedBy update (batched_if may x.clients) (step_at (explained.Batches update) y effects) s state
  stands : StandsFor y state

batch_done : (update : Update) (x y : RunningNode) (may : Bool) (effects : List Effect) (s : Incarnation) → (x.member.rules.core.is_open && nat_lt x.clients.common.taken most_taken) ≡ may
    → y.clients ≡ (batched_if may x.clients).0 → Refuses (batched_if may x.clients).1 update x.member y.member effects → AreInStep x.member.rules.core x.clients.common → StandsFor x s
    → BatchDone update x y may effects s
batch_done update x y true effects s is clients submits in_step stands =
    let q = batch_hands x.member.rules.core.is_open x.clients.common update is in
    let rules = rules_behind x.member y.member x.clients.common (queued Batch x.clients.common) (Some update) [] effects q submits in_step in
    record {
      state = with_request s y.clients (Some update);
      is_open = ap (λ (r : NodeState registry_machine). r.core.is_open) rules;
      batch = (told_before [] effects (Some update) x.member.rules refl submits.effects, ap (λ (c : Clients). with_request s c (Some update)) clients);
      stands = stands_with x y s (Some update) stands rules;
    }
batch_done update x y false effects s is clients (same, told) in_step stands = record {
  state = with_clients s y.clients;
  is_open = ap (λ (m : MemberState). m.rules.core.is_open) same;
  batch = (ap told_to_clients told, ap (with_clients s) clients);
  stands = stands_still x y s stands same;
}

pub batch_steps : BatchSteps
batch_steps cap order node inc update x y effects s batch in_step stands =
    let may : Bool = x.member.rules.core.is_open && nat_lt x.clients.common.taken most_taken in
    let d = batch_done update x y may effects s refl batch.clients batch.submits in_step stands in
    let t = step_at (explained.Batches update) y effects in (
      d.state,
      subst (λ (c : Clients). BatchedBy update (batched y.member.rules.core.is_open c) t s d.state) (sym stands.clients)
          (subst (λ (is_open : Bool). BatchedBy update (batched is_open x.clients) t s d.state) (sym d.is_open) d.batch),
      d.stands,
    )
