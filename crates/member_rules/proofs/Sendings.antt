-- A message to each of some members.
use Rattle.std.proofs.Common.{◌≡◌, ℕ, ◌+◌, ◌<◌, ◌≤◌, Bool, true, false, not, ◌&&◌, Option, Some, None, List, [], ◌∷◌, ◌++◌, length, drop, get_or, cond, nat_lt, refl, sym, ap, ◌∙◌, append_assoc}
use Rattle.std.specs.Prelude.{IsTrue}
use Rattle.std.proofs.lemmas.List.{append-nil, drop_all, drop_more}
use Rattle.gum_messages.proofs.Branches.{if_cases, option_cases}
use Rattle.gum_messages.specs.declared.body.Body.{Body}
use Rattle.gum_messages.specs.declared.member.Member.{Member}
use Rattle.view_reconcile.specs.declared.step.Step.{Step}
use Rattle.view_reconcile.specs.declared.step.Step.TheVariants as step
use Rattle.view_reconcile.specs.Joining.{ReconcileState, awaited, is_open, is_ready, locks, pulled_bytes, ticked, waits_for}
use Rattle.cluster_rules.specs.declared.effect.Effect.{Effect}
use Rattle.cluster_rules.specs.declared.effect.Effect.TheVariants.{Send}
use Rattle.cluster_rules.specs.Nodes.{NodeState, packet, to_each}
use Rattle.cluster_rules.specs.Joins.{offer_each}
use Rattle.registry_machine.specs.Machine.{registry_machine}
use Rattle.member_rules.specs.Steps.{one_of}

next_of : (ms : List Member) (i : ℕ) (m : Member) → i < length ms → m ≡ get_or ms i m → drop i ms ≡ m ∷ drop (i + 1) ms
next_of ms i m within is = drop_more ms i m within ∙ ap (λ (y : Member). y ∷ drop (i + 1) ms) (sym is)

-- One more was sent.
pub sent_more : (x : NodeState registry_machine) (body : Body) (ms : List Member) (i : ℕ) (m : Member) (effects : List Effect) → i < length ms → m ≡ get_or ms i m
    → (effects ++ Send (packet x m.node body) ∷ []) ++ to_each x body (drop (i + 1) ms) ≡ effects ++ to_each x body (drop i ms)
sent_more x body ms i m effects within is =
    append_assoc effects (Send (packet x m.node body) ∷ []) (to_each x body (drop (i + 1) ms))
    ∙ ap (λ l. effects ++ to_each x body l) (sym (next_of ms i m within is))

offers_one : (x : NodeState registry_machine) (body : Body) (m : Member) (ms : List Member) → one_of x body m.node ++ offer_each x body ms ≡ offer_each x body (m ∷ ms)
offers_one x body m ms = by (waits_for x.join m.node)
  where
    by : (b : Bool) → cond b (Send (packet x m.node body) ∷ []) [] ++ offer_each x body ms ≡ cond b (Send (packet x m.node body) ∷ offer_each x body ms) (offer_each x body ms)
    by true = refl
    by false = refl

-- One more was offered the log, where it is waited for.
pub offered_more : (x : NodeState registry_machine) (body : Body) (ms : List Member) (i : ℕ) (m : Member) (effects : List Effect) → i < length ms → m ≡ get_or ms i m
    → (effects ++ one_of x body m.node) ++ offer_each x body (drop (i + 1) ms) ≡ effects ++ offer_each x body (drop i ms)
offered_more x body ms i m effects within is =
    append_assoc effects (one_of x body m.node) (offer_each x body (drop (i + 1) ms))
    ∙ (ap (λ l. effects ++ l) (offers_one x body m (drop (i + 1) ms)) ∙ ap (λ l. effects ++ offer_each x body l) (sym (next_of ms i m within is)))

-- Behind the last member all were sent.
pub sent_all : (x : NodeState registry_machine) (body : Body) (ms : List Member) (i : ℕ) (effects total : List Effect) → length ms ≤ i
    → effects ++ to_each x body (drop i ms) ≡ total → effects ≡ total
sent_all x body ms i effects total past is =
    sym (append-nil effects) ∙ ap (λ l. effects ++ to_each x body l) (sym (drop_all i ms past)) ∙ is

pub offered_all : (x : NodeState registry_machine) (body : Body) (ms : List Member) (i : ℕ) (effects total : List Effect) → length ms ≤ i
    → effects ++ offer_each x body (drop i ms) ≡ total → effects ≡ total
offered_all x body ms i effects total past is =
    sym (append-nil effects) ∙ ap (λ l. effects ++ offer_each x body l) (sym (drop_all i ms past)) ∙ is

-- A locker alone offers.
offers_by : (here : Bool) (count : ℕ) (s : ReconcileState) (rest : Step) → ((count : ℕ) → rest ≡ step.OfferTo count → ⊥)
    → cond here (cond (nat_lt 0 (awaited s)) (step.OfferTo (awaited s)) step.Nothing) rest ≡ step.OfferTo count → here ≡ true
offers_by true count s rest no_ e = refl
offers_by false count s rest no_ e = absurd (no_ count e)

abbrev elsewhere : ReconcileState → Step
elsewhere s = elim (pulled_bytes s) [ Some got ↦ step.Pull got | None ↦ cond (is_ready s && not (is_open s)) step.Ready step.Nothing ]

no_offer : (s : ReconcileState) (count : ℕ) → elsewhere s ≡ step.OfferTo count → ⊥
no_offer s count =
    option_cases (λ r. r ≡ step.OfferTo count → ⊥) (pulled_bytes s) (cond (is_ready s && not (is_open s)) step.Ready step.Nothing) (λ got. step.Pull got)
    (λ none. if_cases (λ r. r ≡ step.OfferTo count → ⊥) (is_ready s && not (is_open s)) step.Ready step.Nothing (λ t e. cc) (λ f e. cc))
    (λ got some e. cc)

pub offers_here : (s : ReconcileState) (count : ℕ) → ticked s ≡ step.OfferTo count → IsTrue (locks s)
offers_here s count e = offers_by (locks s) count s (elsewhere s) (λ n. no_offer s n) e
