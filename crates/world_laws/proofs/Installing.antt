-- A node hears of a view.
use Rattle.std.proofs.Common.{◌≡◌, ◌≢◌, ◌⊎◌, inl, inr, ℕ, ◌<◌, Bool, true, false, not, ◌&&◌, List, [], ◌∷◌, ◌++◌, length, Option, Some, None, nat_lt, if◌then◌else◌, MatchBool, Result, Ok, Err, OnOk, refl, sym, ap, ◌∙◌, subst, arith}
use Rattle.std.specs.List.{AllByRecursion}
use Rattle.update_records.specs.Entry.{Entry, IsRecord}
use Rattle.gum_messages.specs.declared.view.View.{View}
use Rattle.gum_messages.specs.Members.{is_locker, is_member, locker_of}
use Rattle.view_reconcile.specs.Chains.{view_in}
use Rattle.view_reconcile.specs.Joining as joining
use Rattle.disk_core.specs.Crashes.{Crashed}
use Rattle.disk_core.specs.Views.{DiskView, Passes}
use Rattle.quorum_log.specs.declared.fault.OpenFault.{OpenFault}
use Rattle.quorum_log.specs.declared.fault.OpenFault.TheVariants as open_faults
use Rattle.quorum_log.specs.declared.found.Found.{Found}
use Rattle.quorum_log.specs.Logs.{LogValue}
use Rattle.quorum_log.specs.Opening.{IsInOpen, OpenCalls}
use Rattle.cluster_rules.specs.declared.effect.Effect.{Effect}
use Rattle.cluster_rules.specs.declared.effect.HaltCause.{HaltCause}
use Rattle.cluster_rules.specs.declared.effect.HaltCause.TheVariants as halt
use Rattle.cluster_rules.specs.Joins.{entered, recovers, recovers_from, takes_view}
use Rattle.cluster_rules.specs.Nodes.{NodeState, Out, done_of, halts, nothing, number_of}
use Rattle.cluster_rules.specs.Worlds.{DieInInstall, Install, Log, Opening, Recovered, Refused, World, absorb, acked, claimed, die_in_install, found_log, happens, install, opens_log, put, raise, recover, sent, stopped, with_log}
use Rattle.cluster_laws.proofs.Applying.{and_true, locker_is, lt_true}
use Rattle.cluster_laws.proofs.Inv.{NodeOk}
use Rattle.cluster_laws.proofs.Lockers.{recovers_ready}
use Rattle.cluster_laws.proofs.Recovering.{entered_is}
use Rattle.registry_machine.specs.Machine.{registry_machine}
use Rattle.log_order.specs.Orders.{IsOrderOf}
use Rattle.log_order.specs.Refinement.{Owns, Refines}
use Rattle.log_order.proofs.Opens.{open_fenced}
use Rattle.record_log.specs.declared.fault.RecordFault.{RecordFault}
use Rattle.record_log.specs.declared.fault.RecordFault.TheVariants as records
use Rattle.record_log.specs.declared.recovered.Recovered as recovered
use Rattle.record_log.specs.Faults.{record_fault}
use Rattle.record_log.specs.Opening.{ComesOf, HasOpened, OpensTo}
use Rattle.cluster_member.specs.declared.stop.Stop.{Stop}
use Rattle.cluster_member.specs.declared.stop.Stop.TheVariants as stop
use Rattle.cluster_member.specs.Events.{Comes, Enters, Installs, Recovers, log_opened, recovered_as}
use Rattle.cluster_member.specs.States.{MemberState}
use Rattle.member_rules.specs.declared.told.Told.{Told}
use Rattle.world_laws.proofs.Births.{Born, absorb_born, silent_born}
use Rattle.world_laws.proofs.Coming.{Grows, Sufficed, comes_left, halted, kept_ok, left, left_ok, own_left, own_none, tells, went_on}
use Rattle.world_laws.proofs.Crashing.{crash_leaves, still_owns}
use Rattle.world_laws.proofs.Opening.{IsAll, IsOpened, dies_opening, open_either, open_stands, open_tells, opens, raised_refines, recovered_all}
use Rattle.world_laws.proofs.Quiet.{KeepsLog, SameNow, at_is, node_at, quiet_ties, same_now, still_ties}
use Rattle.world_laws.proofs.Records.{Bounded, Good, all_records, good_keeps}
use Rattle.world_laws.proofs.Recovering.{recovers_goes, recovers_in}
use Rattle.world_laws.proofs.Refusing.{Stands, stands_here}
use Rattle.world_laws.proofs.Tied.{Abstracts, Bare, IsLogOfView, Leaves, OthersOwn, absorb_ties, left_at, moved, none_own, rules_in, same_logs, stop_ties}

-- ---- the world behind it

pub install_is : (w : World registry_machine) (n number : ℕ) (x : NodeState registry_machine) (v : View) (opening : Opening) → w.nodes n ≡ Some x → view_in w.chain number ≡ Some v
    → happens w (Install n number opening) ≡ install w n x v opening
install_is w n number x v opening at view =
    at_is w n x (λ x. elim (view_in w.chain number) [ None ↦ w | Some u ↦ install w n x u opening ]) at
    ∙ ap (λ (o : Option View). elim o [ None ↦ w | Some u ↦ install w n x u opening ]) view

pub die_is : (w : World registry_machine) (n number : ℕ) (x : NodeState registry_machine) (v : View) (raised : Bool) → w.nodes n ≡ Some x → view_in w.chain number ≡ Some v
    → happens w (DieInInstall n number raised) ≡ die_in_install w n x v raised
die_is w n number x v raised at view =
    at_is w n x (λ x. elim (view_in w.chain number) [ None ↦ w | Some u ↦ die_in_install w n x u raised ]) at
    ∙ ap (λ (o : Option View). elim o [ None ↦ w | Some u ↦ die_in_install w n x u raised ]) view

stays_out : (w : World registry_machine) (n : ℕ) (x : NodeState registry_machine) (v : View) (opening : Opening) → takes_view x v ≡ false → install w n x v opening ≡ w
stays_out w n x v opening g = ap (λ (c : Bool). if c then (if is_locker v.members x.join.node then recover w n x v opening else absorb n (nothing (entered v x)) w) else w) g

enters_in : (w : World registry_machine) (n : ℕ) (x : NodeState registry_machine) (v : View) (opening : Opening) → takes_view x v ≡ true → is_locker v.members x.join.node ≡ false → install w n x v opening ≡ absorb n (nothing (entered v x)) w
enters_in w n x v opening g l =
    ap (λ (c : Bool). if c then (if is_locker v.members x.join.node then recover w n x v opening else absorb n (nothing (entered v x)) w) else w) g
    ∙ ap (λ (c : Bool). if c then recover w n x v opening else absorb n (nothing (entered v x)) w) l

recovers_in_ : (w : World registry_machine) (n : ℕ) (x : NodeState registry_machine) (v : View) (opening : Opening) → takes_view x v ≡ true → is_locker v.members x.join.node ≡ true → install w n x v opening ≡ recover w n x v opening
recovers_in_ w n x v opening g l =
    ap (λ (c : Bool). if c then (if is_locker v.members x.join.node then recover w n x v opening else absorb n (nothing (entered v x)) w) else w) g
    ∙ ap (λ (c : Bool). if c then recover w n x v opening else absorb n (nothing (entered v x)) w) l

-- the log is opened
abbrev opened_world : World registry_machine → ℕ → NodeState registry_machine → View → Opening → World registry_machine
opened_world w n x v opening = elim opening [
  | Recovered found ↦ absorb n (recovers (entered v x) w.log.cap (found_log found w.log).order) (with_log (claimed v.number (found_log found w.log)) w)
  | Refused raised cause ↦ absorb n (halts cause) (with_log (raise raised v.number w.log) w)
]

recover_fenced : (w : World registry_machine) (n : ℕ) (x : NodeState registry_machine) (v : View) (opening : Opening) → nat_lt v.number w.log.held ≡ true → recover w n x v opening ≡ absorb n (halts (halt.Fenced w.log.held)) w
recover_fenced w n x v opening low = ap (λ (c : Bool). if c then absorb n (halts (halt.Fenced w.log.held)) w else opened_world w n x v opening) low

recover_opens : (w : World registry_machine) (n : ℕ) (x : NodeState registry_machine) (v : View) (opening : Opening) → nat_lt v.number w.log.held ≡ false → recover w n x v opening ≡ opened_world w n x v opening
recover_opens w n x v opening high = ap (λ (c : Bool). if c then absorb n (halts (halt.Fenced w.log.held)) w else opened_world w n x v opening) high

at_self : {A : Type 0} (f : ℕ → Option A) (n : ℕ) (o : Option A) → put f n o n ≡ o
at_self f n o = grind arith

-- the cause of which it halts
abbrev cause_for : RecordFault → HaltCause
cause_for records.Failed = halt.Disk
cause_for (records.Fenced held) = halt.Fenced held
cause_for (records.Image place) = halt.Image place
cause_for records.Memory = halt.Disk

refused_as : (x : NodeState registry_machine) (fault : RecordFault) → recovered_as x (Err fault) ≡ halts (cause_for fault)
refused_as x records.Failed = refl
refused_as x (records.Fenced held) = refl
refused_as x (records.Image place) = refl
refused_as x records.Memory = refl

module _ (cap : ℕ) (b : Bare) (w : World registry_machine) (n number : ℕ) (v : View) (m : MemberState) (a : Abstracts cap b w) (g : Good w) (bd : Bounded w.chain) (view : view_in w.chain number ≡ Some v) (there : b.members n ≡ Some m) where
  node_is : w.nodes n ≡ Some m.rules
  node_is = node_at cap b w n m a there

  number_is : v.number ≡ number
  number_is = g.holds.invariant.chain.chain.numbered number v view

  pub record Came (came : Result Told Stop) (y : MemberState) (d : DiskView) : Type 0 where
    pub opening : Opening
    pub ties : Abstracts cap (moved b n (left came y) (tells came) (happens w (Install n number opening)).log.order d) (happens w (Install n number opening))
    pub grows : Grows b.order (happens w (Install n number opening)).log.order (left came y)

  came_to : (came : Result Told Stop) (y : MemberState) (d : DiskView) (opening : Opening) (u : World registry_machine) → install w n m.rules v opening ≡ u
      → Abstracts cap (moved b n (left came y) (tells came) u.log.order d) u → Grows b.order u.log.order (left came y) → Came came y d
  came_to came y d opening u is ties grows =
      let whole : happens w (Install n number opening) ≡ u = install_is w n number m.rules v opening node_is view ∙ is in
      record {
        opening = opening;
        ties = subst (λ (u : World registry_machine). Abstracts cap (moved b n (left came y) (tells came) u.log.order d) u) (sym whole) ties;
        grows = subst (λ (u : World registry_machine). Grows b.order u.log.order (left came y)) (sym whole) grows;
      }

  came_quiet : (came : Result Told Stop) (y : MemberState) (d : DiskView) (opening : Opening) (u : World registry_machine) → install w n m.rules v opening ≡ u
      → Abstracts cap (moved b n (left came y) (tells came) b.order d) u → Came came y d
  came_quiet came y d opening u is ties =
      came_to came y d opening u is (subst (λ (order : List Entry). Abstracts cap (moved b n (left came y) (tells came) order d) u) (sym ties.order) ties) (inl ties.order)

  any_opening : Opening
  any_opening = Refused false halt.Disk

  went_ok : (came : Result Told Stop) (y : MemberState) (o : Option (NodeState registry_machine)) → o ≡ rules_in (left came y) → ((z : NodeState registry_machine) × (o ≡ Some z)) → (told : Told) × (came ≡ Ok told)
  went_ok (Ok told) y o e some = (told, refl)
  went_ok (Err fault) y o e some = absurd (cc (e, some.1))

  -- ---- a view that isn't taken

  stays : (came : Result Told Stop) (y : MemberState) (d : DiskView) → takes_view m.rules v ≡ false → Enters b.disk (nothing m.rules) m.log came y d → Sufficed came → Came came y d
  stays came y d out e s =
      let c = comes_left (nothing m.rules) came y s e.comes in
      let went = went_on came y m.rules c.0 in
      let log : y.log ≡ m.log = kept_ok came went.told (y.log ≡ m.log) went.came_is e.kept in
      let same : y ≡ m = λ i. record { rules = went.rules i; log = log i } in
      let is : b.members n ≡ left came y = there ∙ ap (λ (z : MemberState). Some z) (sym same) ∙ sym (left_ok came y went.told went.came_is) in
      let still : Abstracts cap (moved b n (left came y) [] b.order b.disk) w = still_ties cap b w n (left came y) a is in
      let told : Abstracts cap (moved b n (left came y) (tells came) b.order b.disk) w = subst (λ (es : List Effect). Abstracts cap (moved b n (left came y) es b.order b.disk) w) c.1 still in
      came_quiet came y d any_opening w (stays_out w n m.rules v any_opening out)
      (subst (λ (u : DiskView). Abstracts cap (moved b n (left came y) (tells came) b.order u) w) (sym e.disk) told)

  -- ---- at a member that isn't the locker

  enters : (came : Result Told Stop) (y : MemberState) (d : DiskView) → takes_view m.rules v ≡ true → is_locker v.members m.rules.join.node ≡ false → Enters b.disk (nothing (entered v m.rules)) None came y d → Sufficed came
      → Came came y d
  enters came y d in_ other e s =
      let c = comes_left (nothing (entered v m.rules)) came y s e.comes in
      let went = went_on came y (entered v m.rules) c.0 in
      let log : y.log ≡ None = kept_ok came went.told (y.log ≡ None) went.came_is e.kept in
      let keeps : KeepsLog b n (left came y) = λ z f. inl (ap (λ (t : MemberState). t.log) (same_left came y z went.told went.came_is f) ∙ log) in
      came_quiet came y d any_opening (absorb n (nothing (entered v m.rules)) w) (enters_in w n m.rules v any_opening in_ other)
      (quiet_ties cap b w w n (left came y) (nothing (entered v m.rules)) (tells came) d a (same_logs w.log w) refl (same_now b.disk d e.disk) keeps c.0 (ap sent c.1) (ap acked c.1))
    where
      same_left : (came : Result Told Stop) (y z : MemberState) (told : Told) → came ≡ Ok told → left came y ≡ Some z → z ≡ y
      same_left (Ok t) y z told e f = cc
      same_left (Err t) y z told e f = absurd (cc)

  -- ---- at the locker

  module _ (in_ : takes_view m.rules v ≡ true) (locks : is_locker v.members m.rules.join.node ≡ true) where
    above : number_of m.rules < v.number
    above = lt_true (number_of m.rules) v.number (and_true (nat_lt (number_of m.rules) v.number) (is_member v.members m.rules.join.node m.rules.join.inc) in_).0

    numbered : v.number ≢ 0
    numbered e = absurd (let up = above in omega (arith, up, e))

    -- nobody else has the log of this view
    apart_at : (l : Log) (d : DiskView) → l.held ≡ v.number → OthersOwn b n l d
    apart_at l d held k z log apart at has same =
        let j = g.holds.invariant in
        let f = a.logs k z log at has in
        let hz : NodeOk w k z.rules = j.nodes k z.rules (node_at cap b w k z a at) in
        let vz = (hz.view f.numbered).0 in
        let q : Some z.rules.join.view ≡ Some v = sym vz ∙ ap (view_in w.chain) (same ∙ held ∙ number_is) ∙ view in
        let gz : z.rules.join.view ≡ v = cc in
        let me : locker_of v.members ≡ n = locker_is v.members m.rules.join.node locks ∙ (j.nodes n m.rules node_is).local.node in
        let other : locker_of v.members ≡ k = ap (λ (u : View). locker_of u.members) (sym gz) ∙ locker_is z.rules.join.view.members z.rules.join.node f.locks ∙ hz.local.node in
        absurd (apart (sym other ∙ me))

    fenced : (came : Result Told Stop) (y : MemberState) (d : DiskView) → nat_lt v.number w.log.held ≡ true → Recovers b.disk m v came y d → Sufficed came → Came came y d
    fenced came y d low r s =
        let lt : v.number < b.disk.current.held = let n = lt_true v.number w.log.held low in omega (arith, n, a.refines.now.0) in
        let f = open_fenced v.number b.disk d r.answer lt r.calls in
        let opened : r.opened ≡ Err (records.Fenced b.disk.current.held) = fault_of r.answer r.opened r.comes_of f.0 in
        let c = comes_left (halts (halt.Fenced b.disk.current.held)) came y s (subst (λ (o : Result (LogValue × recovered.Recovered) RecordFault). Comes (recovered_as (entered v m.rules) o) came y.rules) opened r.comes) in
        let none = halted came y c.0 in
        let now : SameNow b.disk d = record { tells = open_tells v.number b.disk d r.answer r.calls; current = f.1 } in
        came_quiet came y d any_opening (absorb n (halts (halt.Fenced w.log.held)) w) (recovers_in_ w n m.rules v any_opening in_ locks ∙ recover_fenced w n m.rules v any_opening low)
        (quiet_ties cap b w w n (left came y) (halts (halt.Fenced w.log.held)) (tells came) d a (same_logs w.log w) refl now (λ z e. absurd (cc (none, e))) c.0 (ap sent c.1) (ap acked c.1))
      where
        fault_of : (answer : Result Found OpenFault) (opened : Result (LogValue × recovered.Recovered) RecordFault) → ComesOf answer opened → answer ≡ Err (open_faults.Fenced b.disk.current.held)
            → opened ≡ Err (records.Fenced b.disk.current.held)
        fault_of (Ok found) opened comes e = absurd (cc)
        fault_of (Err fault) opened comes e = let q : fault ≡ open_faults.Fenced b.disk.current.held = cc in comes ∙ ap (λ (t : OpenFault). Err (record_fault t)) q

    module _ (high : nat_lt v.number w.log.held ≡ false) where
      -- ---- it isn't recovered

      refused : (came : Result Told Stop) (y : MemberState) (d : DiskView) (answer : Result Found OpenFault) (cause : HaltCause) → OpenCalls v.number b.disk answer d → Passes (IsInOpen b.disk.current v.number) b.disk d
          → Comes (halts cause) came y.rules → Sufficed came → Came came y d
      refused came y d answer cause calls passes comes s =
          let c = comes_left (halts cause) came y s comes in
          let none = halted came y c.0 in
          let same = open_tells v.number b.disk d answer calls in
          elim (open_either v.number b.disk d answer a.refines.tells calls) [
            | inl still ↦ came_quiet came y d (Refused false cause) (absorb n (halts cause) (with_log w.log w)) (recovers_in_ w n m.rules v (Refused false cause) in_ locks ∙ recover_opens w n m.rules v (Refused false cause) high)
                (quiet_ties cap b w (with_log w.log w) n (left came y) (halts cause) (tells came) d a (same_logs w.log w) refl (record { tells = same; current = still }) (λ z e. absurd (cc (none, e))) c.0 (ap sent c.1) (ap acked c.1))
            | inr taken ↦ (
                let l : Log = raise true v.number w.log in
                let leaves : Leaves b w n (left came y) l d = record {
                  cap_is = refl;
                  refines = raised_refines w.log b.disk d v.number a.refines same taken passes;
                  own = own_none (left came y) l d none;
                  others = apart_at l d refl;
                } in
                let ties = absorb_ties cap b w (with_log l w) n (left came y) (halts cause) (tells came) l d a (same_logs l w) refl leaves c.0 (ap sent c.1) (ap acked c.1) in
                came_to came y d (Refused true cause) (absorb n (halts cause) (with_log l w)) (recovers_in_ w n m.rules v (Refused true cause) in_ locks ∙ recover_opens w n m.rules v (Refused true cause) high)
                ties (inl a.order)
                )
          ]

      -- ---- it is recovered

      entered_view : (entered v m.rules).join.view ≡ v
      entered_view = ap (λ (x : NodeState registry_machine). x.join.view) (entered_is m.rules v in_)

      entered_node : (entered v m.rules).join.node ≡ m.rules.join.node
      entered_node = ap (λ (x : NodeState registry_machine). x.join.node) (entered_is m.rules v in_)

      entered_unready : joining.is_ready (entered v m.rules).join ≡ false
      entered_unready = ap (λ (x : NodeState registry_machine). joining.is_ready x.join) (entered_is m.rules v in_)

      recovered_is : (r : recovered.Recovered) (log : LogValue) (order : List Entry) → IsAll w.log.cap order r → recovered_as (entered v m.rules) (Ok (log, r)) ≡ recovers (entered v m.rules) w.log.cap order
      recovered_is r log order all = λ i. recovers_from (entered v m.rules) (record { count = all.count i; cap = all.cap_is i; last = all.last i }) (all.registry i)

      -- what the log was found to hold, and the world behind the event
      record Taken (came : Result Told Stop) (y : MemberState) (d : DiskView) (log : LogValue) (x : Found) : Type 0 where
        opened : IsOpened w.log v.number d log x
        claim : log.claim ≡ v.number
        is : install w n m.rules v (Recovered opened.found)
            ≡ absorb n (recovers (entered v m.rules) w.log.cap (found_log opened.found w.log).order) (with_log (claimed v.number (found_log opened.found w.log)) w)
        good : Good (absorb n (recovers (entered v m.rules) w.log.cap (found_log opened.found w.log).order) (with_log (claimed v.number (found_log opened.found w.log)) w))
        comes : Comes (recovers (entered v m.rules) w.log.cap (found_log opened.found w.log).order) came y.rules

      takes : (came : Result Told Stop) (y : MemberState) (d : DiskView) (log : LogValue) (r : recovered.Recovered) (found : Found) (h : HasOpened v.number b.disk log r d) → OpenCalls v.number b.disk (Ok found) d
          → Comes (recovered_as (entered v m.rules) (Ok (log, r))) came y.rules → Taken came y d log h.found
      takes came y d log r found h calls comes =
          let claim : log.claim ≡ v.number = ap (λ (t : LogValue). t.claim) h.value in
          let o : IsOpened w.log v.number d log h.found = opens w.log b.disk d v.number log h.found found a.refines calls (h.stands a.refines.tells) claim h.held in
          let opening : Opening = Recovered o.found in
          let f : Log = found_log o.found w.log in
          let u : World registry_machine = absorb n (recovers (entered v m.rules) w.log.cap f.order) (with_log (claimed v.number f) w) in
          let is : install w n m.rules v opening ≡ u = recovers_in_ w n m.rules v opening in_ locks ∙ recover_opens w n m.rules v opening high in
          let whole : happens w (Install n number opening) ≡ u = install_is w n number m.rules v opening node_is view ∙ is in
          let good : Good u = subst (λ (t : World registry_machine). Good t) whole (good_keeps w (Install n number opening) g) in
          let all : AllByRecursion IsRecord f.order = all_records u good bd in
          let order : IsAll w.log.cap f.order r = recovered_all w.log.cap f.order h.found r all (subst (λ (size : ℕ). IsOrderOf size f.order h.found) o.as_.cap_is o.as_.is) h.recovered in
          record { opened = o; claim = claim; is = is; good = good; comes = subst (λ (t : Out registry_machine). Comes t came y.rules) (recovered_is r log f.order order) comes }

      taken : (came : Result Told Stop) (y : MemberState) (d : DiskView) (log : LogValue) (r : recovered.Recovered) (found : Found) → HasOpened v.number b.disk log r d → OpenCalls v.number b.disk (Ok found) d
          → Comes (recovered_as (entered v m.rules) (Ok (log, r))) came y.rules → OnOk came (y.log ≡ Some log) → Sufficed came → Came came y d
      taken came y d log r found h calls comes kept s =
          let t : Taken came y d log h.found = takes came y d log r found h calls comes in
          let claim : log.claim ≡ v.number = t.claim in
          let o : IsOpened w.log v.number d log h.found = t.opened in
          let opening : Opening = Recovered o.found in
          let f : Log = found_log o.found w.log in
          let l : Log = claimed v.number f in
          let u : World registry_machine = absorb n (recovers (entered v m.rules) w.log.cap f.order) (with_log l w) in
          let is : install w n m.rules v opening ≡ u = t.is in
          let there' : Good u = t.good in
          let out : Out registry_machine = recovers (entered v m.rules) w.log.cap f.order in
          let c = comes_left out came y s t.comes in
          let nz : number_of (entered v m.rules) ≢ 0 = λ e. numbered (sym (ap (λ (t : View). t.number) entered_view) ∙ e) in
          let facts : (told : Told) → came ≡ Ok told → (joining.is_ready y.rules.join ≡ true) × (y.rules.join.view ≡ v) × (y.rules.join.node ≡ m.rules.join.node) = λ told ok.
          let goes : out.node ≡ Some y.rules = c.0 ∙ ap rules_in (left_ok came y told ok) in
          let i = recovers_in (entered v m.rules) w.log.cap f.order nz entered_unready y.rules goes in
          ((recovers_ready (entered v m.rules) w.log.cap f.order nz entered_unready y.rules goes).0, i.0 ∙ entered_view, i.1 ∙ entered_node) in
          let lockers : (told : Told) → came ≡ Ok told → joining.locks y.rules.join ≡ true = λ told ok. (λ i. is_locker ((facts told ok).1 i).members ((facts told ok).2 i)) ∙ locks in
          let number' : (told : Told) → came ≡ Ok told → number_of y.rules ≡ v.number = λ told ok. ap (λ (t : View). t.number) (facts told ok).1 in
          let leaves : Leaves b w n (left came y) l d = record {
            cap_is = o.as_.cap_is;
            refines = o.refines;
            own = own_left came y l d (λ told g ok has.
                let q : log ≡ g = cc (has, kept_ok came told (y.log ≡ Some log) ok kept) in
                subst (λ (t : LogValue). IsLogOfView y t × (number_of y.rules ≡ l.held → Owns l d t)) q (
                  record { claim = claim ∙ sym (number' told ok); locks = lockers told ok; numbered = λ z. numbered (sym (number' told ok) ∙ z) },
                  λ held. o.owns,
                ));
            others = apart_at l d refl;
          } in
          let ties = absorb_ties cap b w (with_log l w) n (left came y) out (tells came) l d a (same_logs l w) refl leaves c.0 (ap sent c.1) (ap acked c.1) in
          let here : (told : Told) → came ≡ Ok told → u.nodes n ≡ Some y.rules = λ told ok. ties.nodes n ∙ ap rules_in (at_self b.members n (left came y)) ∙ ap rules_in (left_ok came y told ok) in
          let done : (told : Told) → came ≡ Ok told → done_of y.rules ≡ length f.order = λ told ok.
          (there'.holds.invariant.owner n y.rules (record { runs = here told ok; ready = (facts told ok).0; locker = lockers told ok; held = number' told ok })).all_done in
          let goes : (told : Told) × (came ≡ Ok told) = went_ok came y out.node c.0 (recovers_goes (entered v m.rules) w.log.cap f.order) in
          came_to came y d opening u is ties (grown f.order o.as_.grows (goes.1) (done goes.0 goes.1))
        where
          grown : {told : Told} (order : List Entry) → ((order ≡ w.log.order) ⊎ ((e : Entry) × (order ≡ w.log.order ++ e ∷ []))) → came ≡ Ok told → done_of y.rules ≡ length order → Grows b.order order (left came y)
          grown {told} order grows ok done = elim grows [
            | inl same ↦ inl (same ∙ a.order)
            | inr more ↦ inr (more.0, y, more.1 ∙ ap (λ (t : List Entry). t ++ more.0 ∷ []) a.order, left_ok came y told ok, done)
          ]

      recovered_by : (came : Result Told Stop) (y : MemberState) (d : DiskView) → Recovers b.disk m v came y d → Sufficed came → Came came y d
      recovered_by came y d r s = by r.opened r.answer r.opens r.calls r.comes_of r.comes r.memory r.kept
        where
          by : (opened : Result (LogValue × recovered.Recovered) RecordFault) (answer : Result Found OpenFault) → OpensTo v.number b.disk opened d → OpenCalls v.number b.disk answer d → ComesOf answer opened
              → Comes (recovered_as (entered v m.rules) opened) came y.rules → (opened ≡ Err records.Memory → came ≡ Err stop.Memory) → OnOk came (y.log ≡ log_opened opened) → Came came y d
          by (Ok (log, rec)) (Ok found) opens calls of_ comes memory kept = taken came y d log rec found opens calls comes kept s
          by (Ok (log, rec)) (Err fault) opens calls of_ comes memory kept = absurd (cc)
          by (Err fault) answer opens calls of_ comes memory kept =
              refused came y d answer (cause_for fault) calls (r.any_moment a.refines.tells) (subst (λ (o : Out registry_machine). Comes o came y.rules) (refused_as (entered v m.rules) fault) comes) s

    at_locker : (came : Result Told Stop) (y : MemberState) (d : DiskView) → Recovers b.disk m v came y d → Sufficed came → Came came y d
    at_locker came y d r s = by (nat_lt v.number w.log.held) refl
      where
        by : (c : Bool) → nat_lt v.number w.log.held ≡ c → Came came y d
        by true low = fenced came y d low r s
        by false high = recovered_by high came y d r s

  pub installs : (came : Result Told Stop) (y : MemberState) (d : DiskView) → Installs b.disk m v came y d → Sufficed came → Came came y d
  installs came y d i s = by (takes_view m.rules v) (is_locker v.members m.rules.join.node) refl refl i
    where
      by : (t l : Bool) → takes_view m.rules v ≡ t → is_locker v.members m.rules.join.node ≡ l
          → MatchBool t (MatchBool l (Recovers b.disk m v came y d) (Enters b.disk (nothing (entered v m.rules)) None came y d)) (Enters b.disk (nothing m.rules) m.log came y d) → Came came y d
      by true true in_ locks h = at_locker in_ locks came y d h s
      by true false in_ other h = enters came y d in_ other h s
      by false l out other h = stays came y d out h s

  -- ---- what is told of an acknowledged head

  recovers_born : (in_ : takes_view m.rules v ≡ true) (locks : is_locker v.members m.rules.join.node ≡ true) (high : nat_lt v.number w.log.held ≡ false) (came : Result Told Stop) (y : MemberState) (d : DiskView)
      → Recovers b.disk m v came y d → Born came
  recovers_born in_ locks high came y d r = by r.opened r.answer r.opens r.calls r.comes_of r.comes
    where
      by : (opened : Result (LogValue × recovered.Recovered) RecordFault) (answer : Result Found OpenFault) → OpensTo v.number b.disk opened d → OpenCalls v.number b.disk answer d → ComesOf answer opened
          → Comes (recovered_as (entered v m.rules) opened) came y.rules → Born came
      by (Ok (log, rec)) (Ok found) opens calls of_ comes =
          let t = takes in_ locks high came y d log rec found opens calls comes in
          let f : Log = found_log t.opened.found w.log in
          absorb_born (with_log (claimed v.number f) w) n m.rules (recovers (entered v m.rules) w.log.cap f.order) came y.rules node_is t.good t.comes
      by (Ok (log, rec)) (Err fault) opens calls of_ comes = absurd (cc)
      by (Err fault) answer opens calls of_ comes =
          silent_born (halts (cause_for fault)) came y.rules refl (subst (λ (o : Out registry_machine). Comes o came y.rules) (refused_as (entered v m.rules) fault) comes)

  fenced_born : (low : nat_lt v.number w.log.held ≡ true) (came : Result Told Stop) (y : MemberState) (d : DiskView) → Recovers b.disk m v came y d → Born came
  fenced_born low came y d r = by r.opened r.answer r.calls r.comes_of r.comes
    where
      by : (opened : Result (LogValue × recovered.Recovered) RecordFault) (answer : Result Found OpenFault) → OpenCalls v.number b.disk answer d → ComesOf answer opened
          → Comes (recovered_as (entered v m.rules) opened) came y.rules → Born came
      by (Ok opened) answer calls of_ comes =
          let lt : v.number < b.disk.current.held = let n = lt_true v.number w.log.held low in omega (arith, n, a.refines.now.0) in
          absurd (let f = open_fenced v.number b.disk d answer lt calls in not_fenced answer opened of_ f.0)
        where
          not_fenced : (answer : Result Found OpenFault) (opened : LogValue × recovered.Recovered) → ComesOf answer (Ok opened) → answer ≡ Err (open_faults.Fenced b.disk.current.held) → ⊥
          not_fenced (Ok found) opened of_ e = cc
          not_fenced (Err fault) opened of_ e = cc
      by (Err fault) answer calls of_ comes =
          silent_born (halts (cause_for fault)) came y.rules refl (subst (λ (o : Out registry_machine). Comes o came y.rules) (refused_as (entered v m.rules) fault) comes)

  pub installs_born : (came : Result Told Stop) (y : MemberState) (d : DiskView) → Installs b.disk m v came y d → Born came
  installs_born came y d i = by (takes_view m.rules v) (is_locker v.members m.rules.join.node) (nat_lt v.number w.log.held) refl refl refl i
    where
      by : (t l f : Bool) → takes_view m.rules v ≡ t → is_locker v.members m.rules.join.node ≡ l → nat_lt v.number w.log.held ≡ f
          → MatchBool t (MatchBool l (Recovers b.disk m v came y d) (Enters b.disk (nothing (entered v m.rules)) None came y d)) (Enters b.disk (nothing m.rules) m.log came y d) → Born came
      by true true true in_ locks low h = fenced_born low came y d h
      by true true false in_ locks high h = recovers_born in_ locks high came y d h
      by true false f in_ other fenced h = silent_born (nothing (entered v m.rules)) came y.rules refl h.comes
      by false l f out other fenced h = silent_born (nothing m.rules) came y.rules refl h.comes

  -- ---- the node dies inside it

  abbrev dead : Bool → World registry_machine
  dead raised = stopped n (with_log (raise raised v.number w.log) w)

  dead_to : (x : DiskView) (raised really : Bool) → (opens_log w m.rules v && raised) ≡ really → Abstracts cap (left_at b n None (raise really v.number w.log).order x) (dead really)
      → (raised : Bool) × Abstracts cap (left_at b n None b.order x) (happens w (DieInInstall n number raised))
  dead_to x raised really is ties =
      let whole : happens w (DieInInstall n number raised) ≡ dead really = die_is w n number m.rules v raised node_is view ∙ ap dead is in
      let same : (raise really v.number w.log).order ≡ b.order = same_order really ∙ a.order in (
        raised,
        subst (λ (u : World registry_machine). Abstracts cap (left_at b n None b.order x) u) (sym whole)
            (subst (λ (order : List Entry). Abstracts cap (left_at b n None order x) (dead really)) same ties),
      )
    where
      same_order : (c : Bool) → (raise c v.number w.log).order ≡ w.log.order
      same_order true = refl
      same_order false = refl

  dead_quiet : (d x : DiskView) (calls : ℕ) (bytes : List ℕ) → opens_log w m.rules v ≡ false → Stands b.disk d → d.tells ≡ b.disk.tells → b.disk.past ≡ [] → Crashed d calls bytes x
      → (raised : Bool) × Abstracts cap (left_at b n None b.order x) (happens w (DieInInstall n number raised))
  dead_quiet d x calls bytes none stands tells past crashed =
      dead_to x false false (ap (λ (c : Bool). c && false) none) (stop_ties cap b w n w.log x a (crash_leaves cap b w n d x calls bytes a stands tells past crashed))

  dead_opening : (d x : DiskView) (calls : ℕ) (bytes : List ℕ) → takes_view m.rules v ≡ true → is_locker v.members m.rules.join.node ≡ true → nat_lt v.number w.log.held ≡ false
      → Passes (IsInOpen b.disk.current v.number) b.disk d → d.tells ≡ b.disk.tells → b.disk.past ≡ [] → Crashed d calls bytes x
      → (raised : Bool) × Abstracts cap (left_at b n None b.order x) (happens w (DieInInstall n number raised))
  dead_opening d x calls bytes in_ locks high passes tells past crashed =
      let o = dies_opening w.log b.disk d x v.number calls bytes a.refines tells past passes crashed in
      let opens : opens_log w m.rules v ≡ true = λ i. in_ i && (locks i && not (high i)) in
      by o.raised (ap (λ (c : Bool). c && o.raised) opens) o.refines o.same
    where
      others : (c : Bool) → (c ≡ false → b.disk.current.pending ≡ [] → x.current ≡ b.disk.current) → OthersOwn b n (raise c v.number w.log) x
      others true same = apart_at in_ locks (raise true v.number w.log) x refl
      others false same = λ k z log apart at has held. still_owns cap b w x a (crashed.same.tells ∙ tells) (same refl) k z log at has held

      capped : (c : Bool) → (raise c v.number w.log).cap ≡ w.log.cap
      capped true = refl
      capped false = refl

      by : (c : Bool) → (opens_log w m.rules v && c) ≡ c → Refines (raise c v.number w.log) x → (c ≡ false → b.disk.current.pending ≡ [] → x.current ≡ b.disk.current)
          → (raised : Bool) × Abstracts cap (left_at b n None b.order x) (happens w (DieInInstall n number raised))
      by c is refines same =
          dead_to x c c is (stop_ties cap b w n (raise c v.number w.log) x a (record { cap_is = capped c; refines = refines; own = none_own (raise c v.number w.log) x; others = others c same }))

  pub install_dies : (came : Result Told Stop) (y : MemberState) (d x : DiskView) (calls : ℕ) (bytes : List ℕ) → Installs b.disk m v came y d → b.disk.past ≡ [] → Crashed d calls bytes x
      → (raised : Bool) × Abstracts cap (left_at b n None b.order x) (happens w (DieInInstall n number raised))
  install_dies came y d x calls bytes i past crashed = by (takes_view m.rules v) (is_locker v.members m.rules.join.node) (nat_lt v.number w.log.held) refl refl refl i
    where
      by : (t l f : Bool) → takes_view m.rules v ≡ t → is_locker v.members m.rules.join.node ≡ l → nat_lt v.number w.log.held ≡ f
          → MatchBool t (MatchBool l (Recovers b.disk m v came y d) (Enters b.disk (nothing (entered v m.rules)) None came y d)) (Enters b.disk (nothing m.rules) m.log came y d)
          → (raised : Bool) × Abstracts cap (left_at b n None b.order x) (happens w (DieInInstall n number raised))
      by true true true in_ locks low h =
          let lt : v.number < b.disk.current.held = let n = lt_true v.number w.log.held low in omega (arith, n, a.refines.now.0) in
          dead_quiet d x calls bytes (λ i. in_ i && (locks i && not (low i))) (open_stands v.number b.disk d h.answer a.refines.tells lt h.calls) (open_tells v.number b.disk d h.answer h.calls) past crashed
      by true true false in_ locks high h = dead_opening d x calls bytes in_ locks high (h.any_moment a.refines.tells) (open_tells v.number b.disk d h.answer h.calls) past crashed
      by true false f in_ other g h = dead_quiet d x calls bytes (λ i. in_ i && (other i && not (nat_lt v.number w.log.held))) (stands_here b.disk d h.disk) (ap (λ (u : DiskView). u.tells) h.disk) past crashed
      by false l f out other g h = dead_quiet d x calls bytes (λ i. out i && (is_locker v.members m.rules.join.node && not (nat_lt v.number w.log.held))) (stands_here b.disk d h.disk) (ap (λ (u : DiskView). u.tells) h.disk) past crashed
