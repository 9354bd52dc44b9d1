-- The locker of a view hears its own offer of the log that it recovered.
use Rattle.std.proofs.Common.{◌≡◌, ℕ, ◌+◌, ◌-◌, ◌<◌, ◌≤◌, ◌^◌, Bool, true, false, ◌&&◌, IsTrue, Option, Some, None, cond, nat_eq, nat_lt, refl, sym, ap, ◌∙◌, subst, arith}
use Rattle.std.specs.Prelude.{IsSome, unwrap_or}
use Rattle.update_records.specs.Entry.{Entry}
use Rattle.gum_messages.proofs.Branches.{if_cases}
use Rattle.view_reconcile.specs.declared.stage.Stage.TheVariants as stage
use Rattle.view_reconcile.specs.declared.step.Step.{Step}
use Rattle.view_reconcile.specs.declared.step.Step.TheVariants as step
use Rattle.view_reconcile.specs.Joining.{ReconcileState, becomes_ready, has_all, lacks_last, locks, offered, pulls_on, taken}
use Rattle.view_reconcile.specs.Joining as joining
use Rattle.view_reconcile.proofs.Cases.{becomes_ready_cases, lacks_last_says}
use Rattle.cluster_rules.specs.declared.offering.Offering.{Offering}
use Rattle.cluster_rules.specs.Nodes.{NodeState, Out, Replica, place_of}
use Rattle.cluster_rules.specs.Joins.{done_within, goes_on, hears_itself, joined, recovers_from}
use Rattle.registry_machine.specs.Machine.{ReplicatedRegistry, registry_machine}
use Rattle.member_rules.specs.declared.lack.Lack.{Lack}
use Rattle.member_rules.specs.declared.lack.Lack.TheVariants as lack
use Rattle.member_rules.specs.Recovery.{HasStoodUp, caught_up, lack_of, on_its_way, stands_up, with_lacked}

-- ---- the rule

abbrev offer_of : ℕ → ℕ → Option Entry → Offering
offer_of count cap last = record { count = count; cap = cap; last = last }

abbrev steps : ReconcileState → Bool → Bool → ReconcileState × Step
steps j all_ next = cond all_ (becomes_ready j) (cond {A = ReconcileState × Step} next (record j { stage = stage.Taking }, step.ApplyLast) (pulls_on j))

abbrev lacks : Bool → Bool → Lack
lacks all_ next = cond all_ lack.Nothing (cond next lack.Last lack.State)

ready_goes_on : (x : NodeState registry_machine) (o : Offering) (registry : ReplicatedRegistry)
    → hears_itself x o registry (becomes_ready x.join) ≡ goes_on (joined x o.count o.last (becomes_ready x.join).0) o (becomes_ready x.join).1
ready_goes_on x o registry =
    becomes_ready_cases (λ r. hears_itself x o registry r ≡ goes_on (joined x o.count o.last r.0) o r.1) x.join (λ alone. refl) (λ others. refl)

by_lack : (x : NodeState registry_machine) (count cap : ℕ) (last : Option Entry) (registry : ReplicatedRegistry) (all_ next : Bool) → (next ≡ true → IsSome last)
    → hears_itself x (offer_of count cap last) registry (steps x.join all_ next) ≡ stands_up (with_lacked x count last registry (lacks all_ next)) count cap last
by_lack x count cap last registry true next some = ready_goes_on x (offer_of count cap last) registry
by_lack x count cap None registry false true some = let none : IsSome {T = Entry} None = some refl in absurd (cc)
by_lack x count cap (Some e) registry false true some = refl
by_lack x count cap last registry false false some = refl

some_last : (last : Option Entry) (count : ℕ) → place_of last ≡ Some count → IsSome last
some_last None count e = cc
some_last (Some d) count e = refl

offered_steps : (s : ReconcileState) (count : ℕ) (last known : Option ℕ) → nat_eq s.view.number 0 ≡ false → joining.is_ready s ≡ false
    → offered s count last known ≡ steps s (has_all known count) (lacks_last known count last)
offered_steps s count last known some waits = rw (some, waits) refl

pub recovers_as : (x : NodeState registry_machine) (count cap : ℕ) (last : Option Entry) (registry : ReplicatedRegistry)
    → nat_eq x.join.view.number 0 ≡ false → joining.is_ready x.join ≡ false
    → recovers_from x (offer_of count cap last) registry ≡ stands_up (caught_up x count cap last registry) count cap last
recovers_as x count cap last registry some waits =
    let known : Option ℕ = done_within x cap in
    ap (λ r. hears_itself x (offer_of count cap last) registry r) (offered_steps x.join count (place_of last) known some waits)
    ∙ by_lack x count cap last registry (has_all known count) (lacks_last known count (place_of last))
    (λ e. some_last last count (lacks_last_says known count (place_of last) e).3)

-- ---- the steps

pub sets_out : (s t : ReconcileState) (r : Step) → nat_eq s.view.number 0 ≡ false → s.stage ≡ stage.Waiting → locks s ≡ true → (t, r) ≡ offered s 0 None None → t ≡ record s { stage = stage.Taking }
sets_out s t r some waits here is =
    let ready : joining.is_ready s ≡ false = subst (λ g. joining.is_ready (record s { stage = g }) ≡ false) (sym waits) refl in
    ap (λ p. p.0) (is ∙ offered_steps s 0 None None some ready) ∙ ap (λ b. record s { stage = cond b stage.Taking (stage.Pulling (unwrap_or (joining.pulled_bytes s) 0)) }) here

pub has_stood_up : (s t : ReconcileState) (r : Step) → (t, r) ≡ becomes_ready s → HasStoodUp s t r
has_stood_up s t r is =
    let P : ReconcileState × Step → Type 0 = λ p. HasStoodUp s p.0 p.1 in
    subst P (sym is) (becomes_ready_cases P s (λ alone. refl) (λ others. refl))
