-- How the view opens, by the step that is taken and what the core decided.
use Rattle.std.proofs.Common.{◌≡◌, ℕ, ◌+◌, Bool, true, false, MatchBool, ◌&&◌, List, [], ◌∷◌, ◌++◌, IsTrue, Option, nat_eq, refl, sym, ap, ◌∙◌, subst}
use Rattle.gum_messages.specs.declared.body.Body.{Body}
use Rattle.gum_messages.specs.declared.body.Body.TheVariants.{OpenView}
use Rattle.gum_messages.specs.declared.member.Member.{Member}
use Rattle.gum_messages.specs.declared.view.View.{View}
use Rattle.gum_messages.specs.Members.{is_locker, spread_of}
use Rattle.gum_core.specs.declared.decision.Decision.{Decision}
use Rattle.gum_core.specs.declared.decision.Decision.TheVariants as decision
use Rattle.gum_core.specs.Updating.{CoreState}
use Rattle.gum_core.specs.Updating as updating
use Rattle.view_reconcile.specs.declared.stage.Stage.{Stage}
use Rattle.view_reconcile.specs.declared.stage.Stage.TheVariants as stage
use Rattle.view_reconcile.specs.declared.step.Step.{Step}
use Rattle.view_reconcile.specs.declared.step.Step.TheVariants as step
use Rattle.view_reconcile.specs.Joining.{ReconcileState, is_ready, locks, readied}
use Rattle.view_reconcile.specs.Joining as joining
use Rattle.cluster_rules.specs.declared.effect.Effect.{Effect}
use Rattle.cluster_rules.specs.declared.effect.Effect.TheVariants.{Opened, Send}
use Rattle.cluster_rules.specs.Nodes.{NodeState, Out, after, locker_at, members_of, nothing, number_of, packet, tells, to_each}
use Rattle.cluster_rules.specs.Updates.{begins}
use Rattle.cluster_rules.specs.Joins.{marks_ready, on_open_view, on_ready, opens_view}
use Rattle.registry_machine.specs.Machine.{registry_machine}
use Rattle.member_rules.specs.Opening.{HasHeard}
use Rattle.member_rules.specs.States.{AddsNothing}
use Rattle.member_rules.specs.Steps.{begins_by, marks_by, opens_all_by, opens_by}
use Rattle.member_rules.proofs.Opened.{has_begun, has_heard}

-- ---- the rules

abbrev with_join : NodeState registry_machine → ReconcileState → NodeState registry_machine
with_join x t = record x { join = t }

abbrev with_both : NodeState registry_machine → ReconcileState → CoreState → NodeState registry_machine
with_both x t c = record x { join = t; core = c }

pub begins_is : (y : NodeState registry_machine) (k : CoreState) (d : Decision) → begins y (k, d) ≡ begins_by (record y { core = k }) d
begins_is y k decision.Nothing = refl
begins_is y k (decision.Ask req) = refl
begins_is y k (decision.Write from req) = refl
begins_is y k (decision.Grant to req place) = refl
begins_is y k (decision.Spread to place) = refl
begins_is y k (decision.Finish req place next) = refl
begins_is y k decision.Free = refl
begins_is y k (decision.ReleaseAgain req) = refl
begins_is y k decision.Take = refl
begins_is y k decision.Again = refl

same_each : (x : NodeState registry_machine) (t : ReconcileState) (c : CoreState) (body : Body) (ms : List Member)
    → to_each (with_join x t) body ms ≡ to_each (with_both x t c) body ms
same_each x t c body [] = refl
same_each x t c body (m ∷ ms) = ap (λ l. Send (packet (with_join x t) m.node body) ∷ l) (same_each x t c body ms)

opens_all_is : (x : NodeState registry_machine) (t : ReconcileState) (c : CoreState) (d : Decision)
    → (c, d) ≡ updating.opened x.core x.settled → opens_view (with_join x t) ≡ opens_all_by (with_both x t c) d
opens_all_is x t c d is =
    let members : List Member = spread_of t.view.members in
    ap (λ r. after (Opened t.view.number ∷ to_each (with_join x t) OpenView members) (begins (with_join x t) r)) (sym is)
    ∙ ap (λ o. after (Opened t.view.number ∷ to_each (with_join x t) OpenView members) o) (begins_is (with_join x t) c d)
    ∙ ap (λ l. after (Opened t.view.number ∷ l) (begins_by (with_both x t c) d)) (same_each x t c OpenView members)

pub ready_opens_is : (x z : NodeState registry_machine) (from : ℕ) (d : Decision)
    → (z.join, step.Open) ≡ readied x.join from → (z.core, d) ≡ updating.opened x.core x.settled → z ≡ record x { join = z.join; core = z.core }
    → on_ready x from ≡ opens_all_by z d
ready_opens_is x z from d heard opened others =
    ap (λ r. marks_ready x r) (sym heard) ∙ opens_all_is x z.join z.core d opened ∙ ap (λ (y : NodeState registry_machine). opens_all_by y d) (sym others)

again_is : (x : NodeState registry_machine) (t : ReconcileState) (to : ℕ) → t ≡ x.join → tells x to OpenView ≡ tells (with_join x t) to OpenView
again_is x t to is = ap (λ (j : ReconcileState). tells (with_join x j) to OpenView) (sym is)

by_step : (x : NodeState registry_machine) (t : ReconcileState) (s : Step) → HasHeard x.join t s → marks_ready x (t, s) ≡ marks_by (with_join x t) s
by_step x t step.Nothing h = refl
by_step x t step.Ready h = refl
by_step x t step.ApplyLast h = refl
by_step x t (step.Pull offset) h = refl
by_step x t step.Whole h = refl
by_step x t step.Open h = refl
by_step x t (step.OpenAgain to) h = again_is x t to h
by_step x t (step.OfferTo count) h = refl

pub ready_is : (x y : NodeState registry_machine) (from : ℕ) (s : Step)
    → (y.join, s) ≡ readied x.join from → y ≡ record x { join = y.join } → on_ready x from ≡ marks_by y s
ready_is x y from s is others =
    ap (λ r. marks_ready x r) (sym is) ∙ by_step x y.join s (has_heard x.join y.join from s is) ∙ ap (λ (z : NodeState registry_machine). marks_by z s) (sym others)

opens_is : (x : NodeState registry_machine) (t : ReconcileState) (c : CoreState) (d : Decision)
    → (c, d) ≡ updating.opened x.core x.settled
    → after (Opened t.view.number ∷ []) (begins (with_join x t) (updating.opened x.core x.settled)) ≡ opens_by (with_both x t c) d
opens_is x t c d is =
    ap (λ r. after (Opened t.view.number ∷ []) (begins (with_join x t) r)) (sym is)
    ∙ ap (λ o. after (Opened t.view.number ∷ []) o) (begins_is (with_join x t) c d)

heard_from : (x : NodeState registry_machine) (from : ℕ) (t : ReconcileState) → nat_eq from (locker_at x) ≡ true → (t, true) ≡ joining.opened x.join
    → on_open_view x from ≡ after (Opened t.view.number ∷ []) (begins (with_join x t) (updating.opened x.core x.settled))
heard_from x from t here is = rw (here, ← is) refl

pub open_view_is : (x z : NodeState registry_machine) (from : ℕ) (d : Decision)
    → nat_eq from (locker_at x) ≡ true → (z.join, true) ≡ joining.opened x.join → (z.core, d) ≡ updating.opened x.core x.settled → z ≡ record x { join = z.join; core = z.core }
    → on_open_view x from ≡ opens_by z d
open_view_is x z from d here begun opened others =
    heard_from x from z.join here begun ∙ opens_is x z.join z.core d opened ∙ ap (λ (y : NodeState registry_machine). opens_by y d) (sym others)

elsewhere : (x : NodeState registry_machine) (from : ℕ) → nat_eq from (locker_at x) ≡ false → on_open_view x from ≡ nothing x
elsewhere x from other = rw other refl

unopened : (x : NodeState registry_machine) (from : ℕ) (t : ReconcileState) → nat_eq from (locker_at x) ≡ true → (t, false) ≡ joining.opened x.join → on_open_view x from ≡ nothing x
unopened x from t here is = rw (here, ← is) refl

pub stranger_opens_nothing : (x : NodeState registry_machine) (from : ℕ) → nat_eq from (locker_at x) ≡ false → on_open_view x from ≡ nothing x
stranger_opens_nothing x from other = elsewhere x from other

same_join : (x y : NodeState registry_machine) → y.join ≡ x.join → y ≡ record x { join = y.join } → x ≡ y
same_join x y is others = ap (λ (j : ReconcileState). with_join x j) (sym is) ∙ sym others

pub not_opened_is : (x y : NodeState registry_machine) (from : ℕ)
    → nat_eq from (locker_at x) ≡ true → (y.join, false) ≡ joining.opened x.join → y ≡ record x { join = y.join } → on_open_view x from ≡ nothing y
not_opened_is x y from here is others =
    unopened x from y.join here is ∙ ap (λ (z : NodeState registry_machine). nothing z) (same_join x y (has_begun x.join y.join false is) others)

-- ---- the locker's log

-- It was ready before, in the same view.
record Follows (s t : ReconcileState) : Type 0 where
  ready : is_ready t ≡ true → is_ready s ≡ true
  view : t.view ≡ s.view
  node : t.node ≡ s.node

same_follows : (s t : ReconcileState) → t ≡ s → Follows s t
same_follows s t is = subst (λ (x : ReconcileState). Follows s x) (sym is) (record { ready = λ e. e; view = refl; node = refl })

heard_follows : (s t : ReconcileState) (r : Step) → HasHeard s t r → Follows s t
heard_follows s t step.Nothing h = subst (λ (x : ReconcileState). Follows s x) (sym h) (record { ready = λ e. e; view = refl; node = refl })
heard_follows s t step.Ready h = absurd h
heard_follows s t step.ApplyLast h = absurd h
heard_follows s t (step.Pull offset) h = absurd h
heard_follows s t step.Whole h = absurd h
heard_follows s t step.Open h = subst (λ (x : ReconcileState). Follows s x) (sym h.1) (record { ready = λ e. h.0; view = refl; node = refl })
heard_follows s t (step.OpenAgain to) h = same_follows s t h
heard_follows s t (step.OfferTo count) h = absurd h

begun_follows : (s t : ReconcileState) (b : Bool) → MatchBool b ((is_ready s ≡ true) × (t ≡ record s { stage = stage.Open; ready = t.ready })) (t ≡ s) → Follows s t
begun_follows s t true h = subst (λ (x : ReconcileState). Follows s x) (sym h.1) (record { ready = λ e. h.0; view = refl; node = refl })
begun_follows s t false h = same_follows s t h

locks_alike : (s t : ReconcileState) → Follows s t → locks t ≡ locks s
locks_alike s t f = ap (λ (v : View). is_locker v.members t.node) f.view ∙ ap (λ n. is_locker s.view.members n) f.node

is_true : (b : Bool) → IsTrue b → b ≡ true
is_true true e = refl
is_true false e = cc

adds_nothing : (x y : NodeState registry_machine) → Follows x.join y.join → y.replica ≡ x.replica → y.last ≡ x.last → AddsNothing x y
adds_nothing x y f replica last = record {
  stays = λ ready here. record {
    ready = f.ready (is_true (is_ready y.join) ready);
    locks = sym (locks_alike x.join y.join f) ∙ is_true (locks y.join) here;
    number = ap (λ (v : View). v.number) f.view;
    replica = replica;
    last = last;
  };
}

pub ready_adds_nothing : (x y : NodeState registry_machine) (t : ReconcileState) (from : ℕ) (s : Step)
    → (t, s) ≡ readied x.join from → y.join ≡ t → y.replica ≡ x.replica → y.last ≡ x.last → AddsNothing x y
ready_adds_nothing x y t from s is join replica last =
    adds_nothing x y (subst (λ (j : ReconcileState). Follows x.join j) (sym join) (heard_follows x.join t s (has_heard x.join t from s is))) replica last

pub open_view_adds_nothing : (x y : NodeState registry_machine) (t : ReconcileState) (b : Bool)
    → (t, b) ≡ joining.opened x.join → y.join ≡ t → y.replica ≡ x.replica → y.last ≡ x.last → AddsNothing x y
open_view_adds_nothing x y t b is join replica last =
    adds_nothing x y (subst (λ (j : ReconcileState). Follows x.join j) (sym join) (begun_follows x.join t b (has_begun x.join t b is))) replica last

pub same_adds_nothing : (x : NodeState registry_machine) → AddsNothing x x
same_adds_nothing x = adds_nothing x x (same_follows x.join x.join refl) refl refl

not_here : (b : Bool) → b ≡ false → IsTrue b → ⊥
not_here true e t = cc
not_here false e t = cc

-- At a member that isn't the locker.
pub follower_adds_nothing : (x y : NodeState registry_machine) → locks y.join ≡ false → AddsNothing x y
follower_adds_nothing x y other = record { stays = λ ready here. absurd (not_here (locks y.join) other here) }

pub unready_adds_nothing : (x y : NodeState registry_machine) → is_ready y.join ≡ false → AddsNothing x y
unready_adds_nothing x y waits = record { stays = λ ready here. absurd (not_here (is_ready y.join) waits ready) }
