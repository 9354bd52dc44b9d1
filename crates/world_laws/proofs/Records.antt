-- Each record of the order is one that a log may hold.
use Rattle.std.proofs.Common.{◌≡◌, ℕ, zero, suc, ◌<◌, ◌≤◌, ◌^◌, Bool, true, false, List, [], ◌∷◌, ◌++◌, length, Some, nat_eq, slice_get, if◌then◌else◌, refl, sym, ap, ◌∙◌, subst, add-one, arith}
use Rattle.std.specs.List.{AllByRecursion}
use Rattle.gum_messages.specs.declared.member.Member.{Member}
use Rattle.gum_messages.specs.declared.view.View.{View}
use Rattle.gum_messages.specs.Members.{inc_of}
use Rattle.gum_messages.specs.Places.{at_place}
use Rattle.gum_messages.specs.Views.{Ascend}
use Rattle.gum_messages.proofs.Placing.{get_new, place_within}
use Rattle.update_records.specs.Entry.{Entry, IsId, IsRecord}
use Rattle.update_records.proofs.RecordLaws.{is_valid}
use Rattle.view_reconcile.specs.Chains.{view_in}
use Rattle.cluster_rules.specs.Worlds.{Event, World, happens, run}
use Rattle.cluster_laws.proofs.Applying.{eq_true}
use Rattle.cluster_laws.proofs.Answering.{Answering}
use Rattle.cluster_laws.proofs.Inv.{Stands}
use Rattle.cluster_laws.proofs.Replies.{happens_answers}
use Rattle.cluster_laws.proofs.Shapes.{Shapes, shapes_keep}
use Rattle.cluster_laws.proofs.Theorem.{Holds, happens_holds}
use Rattle.registry_machine.specs.Machine.{IsFitting, registry_machine}
use Rattle.registry_machine.proofs.Instance.{is_machine}
use Rattle.log_order.specs.OrderLaws.{IsNext}
use Rattle.world_laws.proofs.Requests.{Few, few_keep}

-- what holds of each world of a run
pub record Good (w : World registry_machine) : Type 0 where
  pub holds : Holds registry_machine w
  pub shapes : Shapes w
  pub few : Few w
  pub answering : Answering w

pub good_keeps : (w : World registry_machine) (e : Event) → Good w → Good (happens w e)
good_keeps w e g = record { holds = happens_holds registry_machine is_machine w e g.holds; shapes = shapes_keep w e g.shapes; few = few_keep w e g.holds.invariant g.few; answering = happens_answers is_machine w e g.holds g.answering }

pub run_good : (es : List Event) (w : World registry_machine) → Good w → Good (run es w)
run_good [] w g = g
run_good (e ∷ es) w g = run_good es (happens w e) (good_keeps w e g)

-- the incarnations of declared views have 64 bits
abbrev pub Bounded : List View → Type 0
Bounded chain = (k : ℕ) (v : View) (n : ℕ) → view_in chain k ≡ Some v → inc_of v.members n < 2 ^ 64

-- a member is one of the nodes 1 to 16
member_node : (floor : ℕ) (ms : List Member) (n : ℕ) → Ascend floor ms → 0 < inc_of ms n → (floor < n) × (n ≤ 16)
unfolding Ascend
member_node floor [] n a pos = absurd (omega (arith, pos))
member_node floor (m ∷ ms) n a pos = by (nat_eq m.node n) (λ e. eq_true m.node n e) (λ p. member_node m.node ms n a.3 p) pos
  where
    by : (c : Bool) → (c ≡ true → m.node ≡ n) → (0 < inc_of ms n → (m.node < n) × (n ≤ 16)) → 0 < (if c then m.inc else inc_of ms n) → (floor < n) × (n ≤ 16)
    by true same behind p = let s : m.node ≡ n = same refl in (omega (arith, s, a.0), omega (arith, s, a.1))
    by false same behind p = let r = behind p in (omega (arith, r.0, a.0), r.1)

module _ (w : World registry_machine) (g : Good w) (b : Bounded w.chain) where
  id_is : (e : Entry) → Stands w.log e → IsId e.id
  id_is e s =
      let j = g.holds.invariant in
      let l = j.log.logged e s in
      let pos : 0 < inc_of l.0.members e.id.node = omega (arith, l.2, l.3) in
      let node = member_node 0 l.0.members e.id.node (g.shapes (w.log.view_at e.place) l.0 l.1).ascending pos in
      let low : inc_of l.0.members e.id.node < 2 ^ 64 = b (w.log.view_at e.place) l.0 e.id.node l.1 in
      let asked = (j.log.asked e s).0 in
      let req = (place_within (w.requests e.id.node e.id.inc) e.id.req e.update (j.log.requested e s)).1 in
      let few = g.few e.id.node e.id.inc in
      record { node = node.0; last_node = node.1; inc = l.3; last_inc = omega (arith, l.2, low); req = asked; last_req = omega (arith, req, few) }

  record_is : (e : Entry) → Stands w.log e → IsFitting e → IsRecord e
  record_is e s fit = record {
    placed = record { first = fit.first; last = fit.last; valid = is_valid e.update fit.update };
    stamp = fit.stamp;
    id = id_is e s;
    update = fit.update;
  }

all_of : (P : Entry → Type 0) (l : List Entry) → AllByRecursion IsFitting l → ((k : ℕ) (e : Entry) → slice_get l k ≡ Some e → IsFitting e → P e) → AllByRecursion P l
all_of P [] fits each = tt
all_of P (e ∷ es) fits each = (each zero e refl fits.0, all_of P es fits.1 (λ k a at. each (suc k) a at))

pub all_records : (w : World registry_machine) → Good w → Bounded w.chain → AllByRecursion IsRecord w.log.order
all_records w g b = all_of IsRecord w.log.order g.holds.fitting.log.records (λ k e at fit.
    let place : e.place ≡ suc k = g.holds.invariant.log.places (suc k) e at in
    record_is w g b e (record { at = ap (at_place w.log.order) place ∙ at }) fit)

all_last : (P : Entry → Type 0) (l : List Entry) (e : Entry) → AllByRecursion P (l ++ e ∷ []) → P e
all_last P [] e all = all.0
all_last P (x ∷ l) e all = all_last P l e all.1

-- a record that joins the order is the next one
pub next_is : (w w' : World registry_machine) (e : Entry) → w'.log.order ≡ w.log.order ++ e ∷ [] → Good w' → Bounded w'.chain → IsNext w.log.order e
next_is w w' e more g b =
    let all : AllByRecursion IsRecord (w.log.order ++ e ∷ []) = subst (λ (l : List Entry). AllByRecursion IsRecord l) more (all_records w' g b) in
    let there : slice_get w'.log.order (length w.log.order) ≡ Some e = ap (λ (l : List Entry). slice_get l (length w.log.order)) more ∙ get_new w.log.order e in
    let place : e.place ≡ suc (length w.log.order) = g.holds.invariant.log.places (suc (length w.log.order)) e there in
    record { valid = all_last IsRecord w.log.order e all; place_is = place ∙ sym (add-one (length w.log.order)) }
