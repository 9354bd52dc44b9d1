-- The world of the protocol behind an event of a member that goes on, with what the rule of that event tells.
use Rattle.std.proofs.Common.{◌≡◌, ◌≢◌, ◌⊎◌, inl, inr, ℕ, ◌<◌, ◌≤◌, Bool, true, false, List, [], ◌∷◌, ◌++◌, length, Some, None, nat_lt, if◌then◌else◌, MatchBool, Result, Ok, Err, refl, sym, ap, ◌∙◌, subst, arith}
use Rattle.std.specs.List.{AllByRecursion}
use Rattle.update_records.specs.Entry.{Entry, IsRecord}
use Rattle.gum_messages.specs.declared.view.View.{View}
use Rattle.gum_messages.specs.Members.{is_locker}
use Rattle.gum_messages.specs.Messages.{Sent}
use Rattle.gum_messages.specs.Places.{at_place}
use Rattle.view_reconcile.specs.Chains.{view_in}
use Rattle.view_reconcile.specs.Joining as joining
use Rattle.disk_core.specs.Views.{DiskView}
use Rattle.quorum_log.specs.declared.fault.OpenFault.{OpenFault}
use Rattle.quorum_log.specs.declared.found.Found.{Found}
use Rattle.quorum_log.specs.Logs.{LogValue}
use Rattle.quorum_log.specs.Opening.{OpenCalls}
use Rattle.cluster_rules.specs.declared.effect.HaltCause.TheVariants as halt
use Rattle.cluster_rules.specs.Joins.{entered, recovers, recovers_from, takes_view}
use Rattle.cluster_rules.specs.Nodes.{NodeState, Out, done_of, halts, nothing, number_of}
use Rattle.cluster_rules.specs.Receiving.{checkpoint, receive}
use Rattle.cluster_rules.specs.Worlds.{Checkpoint, Deliver, Event, Install, Log, Recovered, World, absorb, claimed, found_log, happens, recover, with_log}
use Rattle.cluster_laws.proofs.Answering.{tells_grow}
use Rattle.cluster_laws.proofs.Applying.{and_true, lt_true}
use Rattle.cluster_laws.proofs.Inv.{Invariant}
use Rattle.cluster_laws.proofs.Lockers.{recovers_ready}
use Rattle.cluster_laws.proofs.Orders.{happens_step}
use Rattle.cluster_laws.proofs.Recovering.{entered_is, taken_view}
use Rattle.cluster_laws.proofs.Silent.{checkpoint_silent}
use Rattle.cluster_laws.proofs.Telling.{Quiet, Tells, still}
use Rattle.registry_machine.specs.Machine.{registry_machine}
use Rattle.registry_machine.proofs.Instance.{is_machine}
use Rattle.log_order.specs.Orders.{IsOrderOf}
use Rattle.record_log.specs.declared.fault.RecordFault.{RecordFault}
use Rattle.record_log.specs.declared.fault.RecordFault.TheVariants as records
use Rattle.record_log.specs.declared.recovered.Recovered as recovered
use Rattle.record_log.specs.Opening.{ComesOf, HasOpened, OpensTo}
use Rattle.cluster_member.specs.Events.{Comes, Enters, Installs, Receives, Recovers, WritesCheckpoint, recovered_as}
use Rattle.cluster_member.specs.Logging.{answer_to, is_good}
use Rattle.cluster_member.specs.States.{MemberState}
use Rattle.member_rules.specs.declared.told.Told.{Told}
use Rattle.world_laws.proofs.Absorbing.{at_self}
use Rattle.world_laws.proofs.Coming.{Grows}
use Rattle.world_laws.proofs.Installing.{install_is}
use Rattle.world_laws.proofs.Installing as installing
use Rattle.world_laws.proofs.Opening.{IsAll, IsOpened, opens, recovered_all}
use Rattle.world_laws.proofs.Quiet.{node_at}
use Rattle.world_laws.proofs.Receiving as receiving
use Rattle.world_laws.proofs.Records.{Bounded, Good, all_records, good_keeps}
use Rattle.world_laws.proofs.Recovering.{recovers_in}
use Rattle.world_laws.proofs.Saving as saving
use Rattle.world_laws.proofs.Tied.{Abstracts, Bare, rules_in}
use Rattle.world_answers.proofs.Changing.{same_requests}
use Rattle.world_answers.proofs.Heads.{receive_tells, recover_tells}

-- The member was m before, and is y now.
pub record Side (cap : ℕ) (before : List Entry) (w : World registry_machine) (n : ℕ) (m y : MemberState) (told : Told) : Type 0 where
  pub world : World registry_machine
  pub invariant : Invariant world
  pub there : world.nodes n ≡ Some y.rules
  pub size : world.log.cap ≡ cap
  pub requests : world.requests ≡ w.requests
  pub grows : Grows before world.log.order (Some y)
  pub out : Out registry_machine
  pub tells : Tells world.log.cap world.log.order n m.rules.join.inc m.rules.core.passed out
  pub comes : Comes out (Ok told) y.rules

module _ (cap : ℕ) (b : Bare) (w : World registry_machine) (n : ℕ) (m : MemberState) (a : Abstracts cap b w) (g : Good w) (bd : Bounded w.chain) (there : b.members n ≡ Some m) (told : Told) (y : MemberState) (d : DiskView) where
  node_is : w.nodes n ≡ Some m.rules
  node_is = node_at cap b w n m a there

  pub checkpoint_side : WritesCheckpoint b.disk m (Ok told) y d → saving.Came cap b w n m a g bd there (Ok told) y d → Side cap b.order w n m y told
  checkpoint_side r c = record {
    world = happens w (Checkpoint n c.good);
    invariant = (good_keeps w (Checkpoint n c.good) g).holds.invariant;
    there = c.ties.nodes n ∙ ap rules_in (at_self b.members n (Some y));
    size = c.ties.cap_is;
    requests = same_requests w (Checkpoint n c.good) tt;
    grows = inl c.ties.order;
    out = checkpoint m.rules b.disk.current.held (is_good r.written);
    tells = inl (checkpoint_silent m.rules b.disk.current.held (is_good r.written));
    comes = r.comes;
  }

  -- ---- a view

  module _ (number : ℕ) (v : View) (view : view_in w.chain number ≡ Some v) where
    -- no log is opened
    quiet_side : (out : Out registry_machine) → Quiet m.rules.join.inc m.rules.core.passed out → Comes out (Ok told) y.rules → installing.Came cap b w n number v m a g bd view there (Ok told) y d → Side cap b.order w n m y told
    quiet_side out quiet comes c = record {
      world = happens w (Install n number c.opening);
      invariant = (good_keeps w (Install n number c.opening) g).holds.invariant;
      there = c.ties.nodes n ∙ ap rules_in (at_self b.members n (Some y));
      size = c.ties.cap_is;
      requests = same_requests w (Install n number c.opening) tt;
      grows = c.grows;
      out = out;
      tells = inl quiet;
      comes = comes;
    }

    -- the log is recovered
    module _ (in_ : takes_view m.rules v ≡ true) (locks : is_locker v.members m.rules.join.node ≡ true) where
      above : number_of m.rules < v.number
      above = lt_true (number_of m.rules) v.number (and_true (nat_lt (number_of m.rules) v.number) _ in_).0

      entered_view : (entered v m.rules).join.view ≡ v
      entered_view = ap (λ (x : NodeState registry_machine). x.join.view) (entered_is m.rules v in_)

      entered_node : (entered v m.rules).join.node ≡ m.rules.join.node
      entered_node = ap (λ (x : NodeState registry_machine). x.join.node) (entered_is m.rules v in_)

      entered_unready : joining.is_ready (entered v m.rules).join ≡ false
      entered_unready = ap (λ (x : NodeState registry_machine). joining.is_ready x.join) (entered_is m.rules v in_)

      nz : number_of (entered v m.rules) ≢ 0
      nz e = absurd (let up = above in let same : number_of (entered v m.rules) ≡ v.number = ap (λ (t : View). t.number) entered_view in omega (arith, up, same, e))

      opened_is : (found : Bool) → nat_lt v.number w.log.held ≡ false
          → happens w (Install n number (Recovered found)) ≡ absorb n (recovers (entered v m.rules) w.log.cap (found_log found w.log).order) (with_log (claimed v.number (found_log found w.log)) w)
      opened_is found high =
          let behind : World registry_machine = absorb n (recovers (entered v m.rules) w.log.cap (found_log found w.log).order) (with_log (claimed v.number (found_log found w.log)) w) in
          install_is w n number m.rules v (Recovered found) node_is view
          ∙ ap (λ (c : Bool). if c then (if is_locker v.members m.rules.join.node then recover w n m.rules v (Recovered found) else absorb n (nothing (entered v m.rules)) w) else w) in_
          ∙ ap (λ (c : Bool). if c then recover w n m.rules v (Recovered found) else absorb n (nothing (entered v m.rules)) w) locks
          ∙ ap (λ (c : Bool). if c then absorb n (halts (halt.Fenced w.log.held)) w else behind) high

      recovered_is : (r : recovered.Recovered) (log : LogValue) (order : List Entry) → IsAll w.log.cap order r → recovered_as (entered v m.rules) (Ok (log, r)) ≡ recovers (entered v m.rules) w.log.cap order
      recovered_is r log order all = λ i. recovers_from (entered v m.rules) (record { count = all.count i; cap = all.cap_is i; last = all.last i }) (all.registry i)

      recovered_side : (log : LogValue) (r : recovered.Recovered) (found : Found) → HasOpened v.number b.disk log r d → OpenCalls v.number b.disk (Ok found) d
          → Comes (recovered_as (entered v m.rules) (Ok (log, r))) (Ok told) y.rules → Side cap b.order w n m y told
      recovered_side log r found h calls comes =
          let least : w.log.held ≤ v.number = let l = h.held_before in let same = a.refines.now.0 in omega (arith, l, same) in
          let claim : log.claim ≡ v.number = ap (λ (t : LogValue). t.claim) h.value in
          let o : IsOpened w.log v.number d log h.found = opens w.log b.disk d v.number log h.found found a.refines calls (h.stands a.refines.tells) claim h.held in
          let f : Log = found_log o.found w.log in
          let u : World registry_machine = absorb n (recovers (entered v m.rules) w.log.cap f.order) (with_log (claimed v.number f) w) in
          let e : Event = Install n number (Recovered o.found) in
          let whole : happens w e ≡ u = opened_is o.found (not_above v.number w.log.held least) in
          let good : Good u = subst (λ (t : World registry_machine). Good t) whole (good_keeps w e g) in
          let all : AllByRecursion IsRecord f.order = all_records u good bd in
          let order : IsAll w.log.cap f.order r = recovered_all w.log.cap f.order h.found r all (subst (λ (size : ℕ). IsOrderOf size f.order h.found) o.as_.cap_is o.as_.is) h.recovered in
          let out : Out registry_machine = recovers (entered v m.rules) w.log.cap f.order in
          let came : Comes out (Ok told) y.rules = subst (λ (t : Out registry_machine). Comes t (Ok told) y.rules) (recovered_is r log f.order order) comes in
          let i = recovers_in (entered v m.rules) w.log.cap f.order nz entered_unready y.rules came.node in
          let ready : joining.is_ready y.rules.join ≡ true = (recovers_ready (entered v m.rules) w.log.cap f.order nz entered_unready y.rules came.node).0 in
          let locker : joining.locks y.rules.join ≡ true = (λ t. is_locker ((i.0 ∙ entered_view) t).members ((i.1 ∙ entered_node) t)) ∙ locks in
          let held : number_of y.rules ≡ v.number = ap (λ (t : View). t.number) (i.0 ∙ entered_view) in
          let here : u.nodes n ≡ Some y.rules = at_self w.nodes n out.node ∙ came.node in
          let done : done_of y.rules ≡ length f.order = (good.holds.invariant.owner n y.rules (record { runs = here; ready = ready; locker = locker; held = held })).all_done in
          let tells : Tells w.log.cap f.order n m.rules.join.inc m.rules.core.passed out =
          recover_tells is_machine w n m.rules v o.found g.holds.invariant node_is in_ (ap (view_in w.chain) (g.holds.invariant.chain.chain.numbered number v view) ∙ view) locks least in
          record {
            world = u;
            invariant = good.holds.invariant;
            there = here;
            size = o.as_.cap_is ∙ a.cap_is;
            requests = refl;
            grows = grown f.order o.as_.grows done;
            out = out;
            tells = subst (λ (size : ℕ). Tells size f.order n m.rules.join.inc m.rules.core.passed out) (sym o.as_.cap_is) tells;
            comes = came;
          }
        where
          not_above : (p q : ℕ) → q ≤ p → nat_lt p q ≡ false
          not_above p q le = grind arith

          grown : (order : List Entry) → ((order ≡ w.log.order) ⊎ ((e : Entry) × (order ≡ w.log.order ++ e ∷ []))) → done_of y.rules ≡ length order → Grows b.order order (Some y)
          grown order grows done = elim grows [
            | inl same ↦ inl (same ∙ a.order)
            | inr more ↦ inr (more.0, y, more.1 ∙ ap (λ (t : List Entry). t ++ more.0 ∷ []) a.order, refl, done)
          ]

    recovers_side : takes_view m.rules v ≡ true → is_locker v.members m.rules.join.node ≡ true → Recovers b.disk m v (Ok told) y d → Side cap b.order w n m y told
    recovers_side in_ locks r = by r.opened r.answer r.opens r.calls r.comes_of r.comes
      where
        no_node : (fault : RecordFault) → (recovered_as (entered v m.rules) (Err fault)).node ≡ None
        no_node records.Failed = refl
        no_node (records.Fenced held) = refl
        no_node (records.Image place) = refl
        no_node records.Memory = refl

        by : (opened : Result (LogValue × recovered.Recovered) RecordFault) (answer : Result Found OpenFault) → OpensTo v.number b.disk opened d → OpenCalls v.number b.disk answer d → ComesOf answer opened
            → Comes (recovered_as (entered v m.rules) opened) (Ok told) y.rules → Side cap b.order w n m y told
        by (Ok (log, rec)) (Ok found) opens calls faults comes = recovered_side in_ locks log rec found opens calls comes
        by (Ok (log, rec)) (Err fault) opens calls faults comes = absurd (cc)
        by (Err fault) answer opens calls faults comes = absurd (let none = no_node fault in let some = comes.node in cc)

    pub install_side : Installs b.disk m v (Ok told) y d → installing.Came cap b w n number v m a g bd view there (Ok told) y d → Side cap b.order w n m y told
    install_side i c = by (takes_view m.rules v) (is_locker v.members m.rules.join.node) refl refl i
      where
        by : (t l : Bool) → takes_view m.rules v ≡ t → is_locker v.members m.rules.join.node ≡ l
            → MatchBool t (MatchBool l (Recovers b.disk m v (Ok told) y d) (Enters b.disk (nothing (entered v m.rules)) None (Ok told) y d)) (Enters b.disk (nothing m.rules) m.log (Ok told) y d) → Side cap b.order w n m y told
        by true true in_ locks h = recovers_side in_ locks h
        by true false in_ other h = quiet_side (nothing (entered v m.rules)) (subst (λ (x : NodeState registry_machine). Quiet m.rules.join.inc m.rules.core.passed (nothing x)) (sym (entered_is m.rules v in_)) (still (taken_view v m.rules) [] refl)) h.comes c
        by false l out other h = quiet_side (nothing m.rules) (still m.rules [] refl) h.comes c

-- ---- a message

pub receive_side : (cap : ℕ) (b : Bare) (w : World registry_machine) (k : ℕ) (p : Sent) (m : MemberState) (a : Abstracts cap b w) (g : Good w) (bd : Bounded w.chain) (at : at_place w.pool k ≡ Some p) (there : b.members p.to ≡ Some m)
    → (told : Told) (y : MemberState) (d : DiskView) → Receives b.disk m p (Ok told) y d → receiving.Came cap b w k p m a g bd at there (Ok told) y d → Side cap b.order w p.to m y told
receive_side cap b w k p m a g bd at there told y d r c =
    let e : Event = Deliver k c.answer in
    record {
      world = happens w e;
      invariant = (good_keeps w e g).holds.invariant;
      there = c.ties.nodes p.to ∙ ap rules_in (at_self b.members p.to (Some y));
      size = c.ties.cap_is;
      requests = same_requests w e tt;
      grows = c.grows;
      out = (receive m.rules p w.log.held (answer_to r.added)).out;
      tells = tells_grow w.log (happens w e).log p.to m.rules.join.inc m.rules.core.passed (receive m.rules p w.log.held (answer_to r.added)).out (happens_step w e)
          (receive_tells w k m.rules p (answer_to r.added) g.holds.invariant at (node_at cap b w p.to m a there));
      comes = subst (λ (held : ℕ). Comes (receive m.rules p held (answer_to r.added)).out (Ok told) y.rules) a.refines.now.0 r.comes;
    }
