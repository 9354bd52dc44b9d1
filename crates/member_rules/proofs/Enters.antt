-- A node takes a view, and its locker catches up with the log.
use Rattle.std.proofs.Common.{◌≡◌, ℕ, ◌+◌, Bool, true, false, [], ◌∷◌, Option, Some, None, cond, nat_eq, nat_lt, refl, sym, ap, ◌∙◌, subst, arith}
use Rattle.std.specs.Prelude.{IfSome, IsSome}
use Rattle.update_records.specs.Entry.{Entry}
use Rattle.gum_messages.specs.declared.view.View.{View}
use Rattle.gum_messages.specs.declared.body.Body.TheVariants.{Offer}
use Rattle.gum_messages.specs.Members.{is_locker, spread_of}
use Rattle.gum_core.specs.declared.decision.Decision.{Decision}
use Rattle.gum_core.specs.Updating.{CoreState}
use Rattle.gum_core.specs.Updating as updating
use Rattle.view_reconcile.specs.declared.stage.Stage.{Stage}
use Rattle.view_reconcile.specs.declared.stage.Stage.TheVariants as stage
use Rattle.view_reconcile.specs.declared.step.Step.{Step}
use Rattle.view_reconcile.specs.declared.step.Step.TheVariants as step
use Rattle.view_reconcile.specs.Joining.{ReconcileState, has_all, is_ready, lacks_last, locks, offered, pulled_bytes, taken}
use Rattle.view_reconcile.proofs.Cases.{has_all_says, lacks_last_says}
use Rattle.cluster_rules.specs.declared.effect.Effect.TheVariants.{Opened}
use Rattle.cluster_rules.specs.Nodes.{NodeState, Out, Replica, after, becomes, done_of, members_of, place_of, to_each}
use Rattle.cluster_rules.specs.Joins.{done_within, entered, goes_on, joined, recovers_from, takes_view}
use Rattle.cluster_rules.specs.Updates.{applied, begins, replica_after}
use Rattle.registry_machine.specs.Machine.{ReplicatedRegistry, record_applied, registry_machine}
use Rattle.member_rules.specs.declared.lack.Lack.{Lack}
use Rattle.member_rules.specs.declared.lack.Lack.TheVariants as lack
use Rattle.member_rules.specs.Recovery.{HasCaughtUp, caught_up, lack_of, on_its_way, stands_up, with_lacked, with_last}
use Rattle.member_rules.specs.Steps.{opens_by}
use Rattle.member_rules.proofs.Entered.{installed_here, says}
use Rattle.member_rules.proofs.Follows.{next_last}
use Rattle.member_rules.proofs.Openings.{begins_is}
use Rattle.member_rules.proofs.Recoveries.{recovers_as, sets_out}

-- ---- what the locker lacks

is_some_number : (n m : ℕ) → nat_lt n m ≡ true → nat_eq m 0 ≡ false
is_some_number n m e = grind arith

eq_true : (a b : ℕ) → nat_eq a b ≡ true → a ≡ b
eq_true a b e = grind arith

within_cap : (q : Replica registry_machine) (cap k : ℕ) (b : Bool) → nat_eq q.registry.cap cap ≡ b → cond {A = Option ℕ} b (Some q.done) None ≡ Some k
    → HasCaughtUp (Some q) k cap
within_cap q cap k true same e = (cc, eq_true q.registry.cap cap same)
within_cap q cap k false same e = absurd (cc)

within : (r : Option (Replica registry_machine)) (cap k : ℕ)
    → (elim r [ None ↦ None | Some q ↦ cond {A = Option ℕ} (nat_eq q.registry.cap cap) (Some q.done) None ]) ≡ Some k → HasCaughtUp r k cap
within None cap k e = absurd (cc)
within (Some q) cap k e = within_cap q cap k (nat_eq q.registry.cap cap) refl e

same_cap_after : (e : Entry) (registry : ReplicatedRegistry) → (record_applied e registry).0.cap ≡ registry.cap
unfolding record_applied
same_cap_after e registry = refl

caught_after : (e : Entry) (r : Option (Replica registry_machine)) (k count cap : ℕ) → HasCaughtUp r k cap → k + 1 ≡ count
    → HasCaughtUp (replica_after e r) count cap
caught_after e None k count cap has next = absurd has
caught_after e (Some q) k count cap has next = (ap (λ n. n + 1) has.0 ∙ next, same_cap_after e q.registry ∙ has.1)

caught_last : (x : NodeState registry_machine) (last : Option Entry) (k count cap : ℕ) → HasCaughtUp x.replica k cap → k + 1 ≡ count
    → place_of last ≡ Some count
    → HasCaughtUp (with_last x last).replica count cap
caught_last x None k count cap has next some = absurd (cc)
caught_last x (Some e) k count cap has next some = caught_after e x.replica k count cap has next

abbrev lacks : Bool → Bool → Lack
lacks all_ next = cond all_ lack.Nothing (cond next lack.Last lack.State)

module _ (x : NodeState registry_machine) (count cap : ℕ) (last : Option Entry) (registry : ReplicatedRegistry) where
  caught_by : (all_ next : Bool) → registry.cap ≡ cap → has_all (done_within x cap) count ≡ all_ → lacks_last (done_within x cap) count (place_of last) ≡ next
      → HasCaughtUp (with_lacked x count last registry (lacks all_ next)).replica count cap
  caught_by true next same all_is next_is = within x.replica cap count (has_all_says (done_within x cap) count all_is)
  caught_by false true same all_is next_is =
      let h = lacks_last_says (done_within x cap) count (place_of last) next_is in
      caught_last x last h.0 count cap (within x.replica cap h.0 h.1) h.2 h.3
  caught_by false false same all_is next_is = (refl, same)

  pub has_caught_up : registry.cap ≡ cap → HasCaughtUp (caught_up x count cap last registry).replica count cap
  has_caught_up same = caught_by (has_all (done_within x cap) count) (lacks_last (done_within x cap) count (place_of last)) same refl refl

  join_by : (l : Lack) → (with_lacked x count last registry l).join ≡ x.join
  join_by lack.Nothing = refl
  join_by lack.Last = last_join last
    where
      last_join : (last : Option Entry) → (with_last x last).join ≡ x.join
      last_join None = refl
      last_join (Some e) = refl
  join_by lack.State = refl

  pub caught_join : (caught_up x count cap last registry).join ≡ x.join
  caught_join = join_by (lack_of (done_within x cap) count (place_of last))

pub caught_some : (r : Option (Replica registry_machine)) (count cap : ℕ) → HasCaughtUp r count cap → IsSome r
caught_some None count cap has = absurd has
caught_some (Some q) count cap has = refl

done_in : (r : Option (Replica registry_machine)) (k cap : ℕ) → HasCaughtUp r k cap → (elim r [ None ↦ 0 | Some q ↦ q.done ]) ≡ k
done_in None k cap has = absurd has
done_in (Some q) k cap has = has.0

last_by : (x : NodeState registry_machine) (count cap : ℕ) (last : Option Entry) (all_ next : Bool)
    → lacks_last (done_within x cap) count (place_of last) ≡ next
    → lacks all_ next ≡ lack.Last → IfSome last (λ e. e.place ≡ done_of x + 1)
last_by x count cap last true next next_is e = absurd (cc)
last_by x count cap last false true next_is e =
    let h = lacks_last_says (done_within x cap) count (place_of last) next_is in
    next_last last count (done_of x) h.3 (ap (λ n. n + 1) (done_in x.replica h.0 cap (within x.replica cap h.0 h.1)) ∙ h.2)
last_by x count cap last false false next_is e = absurd (cc)

-- The last record alone is the one that comes next.
pub last_comes_next : (x : NodeState registry_machine) (count cap : ℕ) (last : Option Entry) → lack.Last ≡ lack_of (done_within x cap) count (place_of last)
    → IfSome last (λ e. e.place ≡ done_of x + 1)
last_comes_next x count cap last is =
    last_by x count cap last (has_all (done_within x cap) count) (lacks_last (done_within x cap) count (place_of last)) refl (sym is)

-- ---- catching up before the view is entered

abbrev enters : NodeState registry_machine → View → ReconcileState → NodeState registry_machine
enters x v j = record x { core = updating.entered x.core v; join = j; offer = None; bytes = []; spreads = None }

module _ (x : NodeState registry_machine) (v : View) (count : ℕ) (registry : ReplicatedRegistry) (takes : takes_view x v ≡ true) where
  enters_last : (last : Option Entry) → with_last (entered v x) last ≡ entered v (with_last x last)
  enters_last None = refl
  enters_last (Some e) =
      subst (λ (j : ReconcileState). applied e (enters x v j) ≡ enters (applied e x) v j) (sym (installed_here x v takes)) refl

  enters_lacked : (last : Option Entry) (l : Lack) → with_lacked (entered v x) count last registry l ≡ entered v (with_lacked x count last registry l)
  enters_lacked last lack.Nothing = refl
  enters_lacked last lack.Last = enters_last last
  enters_lacked last lack.State = refl

  some_number : nat_eq (entered v x).join.view.number 0 ≡ false
  some_number = ap (λ (j : ReconcileState). nat_eq j.view.number 0) (installed_here x v takes) ∙ is_some_number x.join.view.number v.number (says x v takes).0

  not_ready : is_ready (entered v x).join ≡ false
  not_ready = ap is_ready (installed_here x v takes)

  on_the_way : (z : NodeState registry_machine) (cap : ℕ) (last : Option Entry) → stands_up z count cap last ≡ stands_up (on_its_way z) count cap last
  on_the_way z cap last = refl

  pub recovers_is : (y : NodeState registry_machine) (cap : ℕ) (last : Option Entry) → y ≡ on_its_way (entered v (caught_up x count cap last registry))
      → recovers_from (entered v x) (record { count = count; cap = cap; last = last }) registry ≡ stands_up y count cap last
  recovers_is y cap last others =
      recovers_as (entered v x) count cap last registry some_number not_ready
      ∙ ap (λ (z : NodeState registry_machine). stands_up z count cap last) (enters_lacked last (lack_of (done_within x cap) count (place_of last)))
      ∙ on_the_way (entered v (caught_up x count cap last registry)) cap last
      ∙ ap (λ (z : NodeState registry_machine). stands_up z count cap last) (sym others)

-- ---- the locker sets out

pub sets_out_at : (x : NodeState registry_machine) (j t : ReconcileState) (r : Step) (v : View) → takes_view x v ≡ true → is_locker v.members x.join.node ≡ true
    → j ≡ record (x.join) { view = v; stage = stage.Waiting; ready = j.ready } → (t, r) ≡ offered j 0 None None → t ≡ record j { stage = stage.Taking }
sets_out_at x j t r v takes here begins is =
    sets_out j t r
    (ap (λ (k : ReconcileState). nat_eq k.view.number 0) begins ∙ is_some_number x.join.view.number v.number (says x v takes).0)
    (ap (λ (k : ReconcileState). k.stage) begins) (ap locks begins ∙ here) is

-- ---- the locker stands up

pub taking_past : (s : ReconcileState) → s.stage ≡ stage.Taking → pulled_bytes s ≡ None
taking_past s is = ap (λ (g : Stage). pulled_bytes (record s { stage = g })) is

abbrev log_of : ℕ → ℕ → Option Entry → NodeState registry_machine → Out registry_machine
log_of count cap last z = becomes z (to_each z (Offer count cap last) (spread_of (members_of z)))

pub stands_ready_is : (x y : NodeState registry_machine) (count cap : ℕ) (last : Option Entry) → (y.join, step.Ready) ≡ taken x.join true
    → y ≡ joined x count last y.join
    → stands_up x count cap last ≡ becomes y (to_each y (Offer count cap y.last) (spread_of (members_of y)))
stands_ready_is x y count cap last is others =
    ap (λ r. goes_on (joined x count last r.0) (record { count = count; cap = cap; last = last }) r.1) (sym is)
    ∙ ap (λ (z : NodeState registry_machine). log_of count cap z.last z) (sym others)

pub stands_open_is : (x y : NodeState registry_machine) (count cap : ℕ) (last : Option Entry) (d : Decision) → (y.join, step.Open) ≡ taken x.join true
    → (y.core, d) ≡ updating.opened x.core (joined x count last x.join).settled → y ≡ record (joined x count last y.join) { core = y.core }
    → stands_up x count cap last ≡ opens_by y d
stands_open_is x y count cap last d is opens others =
    let z : NodeState registry_machine = joined x count last y.join in
    ap (λ r. goes_on (joined x count last r.0) (record { count = count; cap = cap; last = last }) r.1) (sym is)
    ∙ ap (λ r. after (Opened z.join.view.number ∷ []) (begins z r)) (sym opens)
    ∙ ap (λ o. after (Opened z.join.view.number ∷ []) o) (begins_is z y.core d)
    ∙ ap (λ (n : NodeState registry_machine). opens_by n d) (sym others)
