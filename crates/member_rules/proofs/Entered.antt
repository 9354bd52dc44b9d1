-- A view is taken.
use Rattle.std.proofs.Common.{◌≡◌, ℕ, Bool, true, false, ◌&&◌, List, IsTrue, Option, Some, None, length, replicate, nat_eq, nat_lt, refl, sym, ap, ◌∙◌, subst, arith}
use Rattle.std.specs.Prelude.{IsSome}
use Rattle.gum_messages.specs.declared.view.View.{View}
use Rattle.gum_messages.specs.Members.{is_locker, is_member}
use Rattle.gum_core.specs.Updating.{CoreState}
use Rattle.gum_core.specs.Updating as updating
use Rattle.view_reconcile.specs.declared.stage.Stage.TheVariants as stage
use Rattle.view_reconcile.specs.Joining.{ReconcileState, fresh, installed, is_open, locks}
use Rattle.cluster_rules.specs.declared.offering.Offering.{Offering}
use Rattle.cluster_rules.specs.Nodes.{NodeState, Replica}
use Rattle.cluster_rules.specs.Joins.{takes_view}
use Rattle.registry_machine.specs.Machine.{registry_machine}
use Rattle.member_rules.specs.States.{Agree, IsOf, IsStanding}

abbrev at_view : ReconcileState → View → ReconcileState
at_view s v = record s { view = v; stage = stage.Waiting; ready = replicate (length v.members) false }

both_true : (a b : Bool) → (a && b) ≡ true → (a ≡ true) × (b ≡ true)
both_true true b e = (refl, e)
both_true false b e = cc

above_zero : (n v : ℕ) → nat_lt n v ≡ true → nat_lt 0 v ≡ true
above_zero n v e = grind arith

installed_at : (s : ReconcileState) (v : View) → nat_lt s.view.number v.number ≡ true → is_member v.members s.node s.inc ≡ true → installed s v ≡ (at_view s v, true)
installed_at s v above member = rw (above, member) refl

module _ (x : NodeState registry_machine) (v : View) (takes : takes_view x v ≡ true) where
  pub says : (nat_lt x.join.view.number v.number ≡ true) × (is_member v.members x.join.node x.join.inc ≡ true)
  says = both_true (nat_lt x.join.view.number v.number) (is_member v.members x.join.node x.join.inc) takes

  pub installed_here : (installed x.join v).0 ≡ at_view x.join v
  installed_here = ap (λ r. r.0) (installed_at x.join v says.0 says.1)

  installed_anew : (installed (fresh x.join.node x.join.inc) v).0 ≡ at_view x.join v
  installed_anew = ap (λ r. r.0) (installed_at (fresh x.join.node x.join.inc) v (above_zero x.join.view.number v.number says.0) says.1)

  -- A node before its first view takes the view in the same way.
  pub way_is : (s t : ReconcileState) (b : Bool) → s ≡ fresh x.join.node x.join.inc → (t, b) ≡ installed s v → t ≡ (installed x.join v).0
  way_is s t b new is =
      ap (λ r. r.0) is ∙ ap (λ (y : ReconcileState). (installed y v).0) new ∙ installed_anew ∙ sym installed_here

  pub way_begins : (s t : ReconcileState) (b : Bool) → s ≡ fresh x.join.node x.join.inc → (t, b) ≡ installed s v → t ≡ record (x.join) { view = v; stage = stage.Waiting; ready = t.ready }
  way_begins s t b new is =
      let at : t ≡ at_view x.join v = ap (λ r. r.0) is ∙ ap (λ (y : ReconcileState). (installed y v).0) new ∙ installed_anew in
      at ∙ ap (λ r. record (x.join) { view = v; stage = stage.Waiting; ready = r }) (sym (ap (λ (y : ReconcileState). y.ready) at))

pub agrees_entered : (c d : CoreState) (s t : ReconcileState) (v : View) → Agree c s → d ≡ updating.entered c v → t ≡ record s { view = v; stage = stage.Waiting; ready = t.ready } → Agree d t
agrees_entered c d s t v a entered is =
    subst (λ (y : CoreState). Agree y t) (sym entered)
    (subst (λ (y : ReconcileState). Agree (updating.entered c v) y) (sym is) (record { node = a.node; members = refl; opened = refl }))

not_both : (b : Bool) → b ≡ false → IsTrue b → ⊥
not_both true e t = cc
not_both false e t = cc

-- At another member than the locker.
pub stands_entered : (s t : ReconcileState) (v : View) (replica : Option (Replica registry_machine)) (offer : Option Offering)
    → t ≡ record s { view = v; stage = stage.Waiting; ready = t.ready } → is_locker v.members s.node ≡ false → IsStanding t replica offer
stands_entered s t v replica offer is other =
    subst (λ (y : ReconcileState). IsStanding y replica offer) (sym is)
    (record { ready = λ e. absurd (cc); keeps = λ l. absurd (not_both (is_locker v.members s.node) other l); pulls = λ e. absurd (cc); follows = λ e. absurd (cc) })

pub of_entered : (node inc : ℕ) (s t : ReconcileState) (v : View) → IsOf node inc s → t ≡ record s { view = v; stage = stage.Waiting; ready = t.ready } → IsOf node inc t
of_entered node inc s t v o is = subst (λ (y : ReconcileState). IsOf node inc y) (sym is) o
