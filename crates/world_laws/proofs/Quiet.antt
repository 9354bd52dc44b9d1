-- Events that leave the log as it was.
use Rattle.std.proofs.Common.{◌≡◌, ◌≢◌, ◌⊎◌, ⊎_elim, inl, inr, ℕ, ◌+◌, ◌<◌, ◌^◌, Bool, true, false, List, [], ◌∷◌, ◌++◌, Option, Some, None, nat_eq, nat_lt, if◌then◌else◌, refl, sym, ap, ◌∙◌, subst, append-nil, arith}
use Rattle.gum_messages.specs.declared.view.View.{View}
use Rattle.gum_messages.specs.Members.{is_locker, locker_of}
use Rattle.gum_messages.proofs.Branches.{if_cases}
use Rattle.update_records.specs.Entry.{Entry}
use Rattle.update_records.specs.Limits.{IsUpdate}
use Rattle.update_records.specs.declared.update.Update.{Update}
use Rattle.view_reconcile.specs.Chains.{view_in}
use Rattle.view_reconcile.specs.Joining as joining
use Rattle.disk_core.specs.Views.{DiskView}
use Rattle.quorum_log.specs.Logs.{LogValue}
use Rattle.cluster_rules.specs.declared.effect.Effect.{Effect}
use Rattle.cluster_rules.specs.Nodes.{NodeState, Out, fresh, number_of}
use Rattle.cluster_rules.specs.Updates.{may_submit, submit}
use Rattle.cluster_rules.specs.Receiving.{clock, tick}
use Rattle.cluster_rules.specs.Worlds.{Clock, Declare, Log, Start, Submit, Tick, World, absorb, acked, at_node, happens, may_declare, noted, put, sent, stopped}
use Rattle.cluster_laws.proofs.Applying.{locker_is}
use Rattle.cluster_laws.proofs.Inv.{Invariant, NodeOk}
use Rattle.cluster_laws.proofs.Lockers.{Follows, StaysAt, submit_stays}
use Rattle.cluster_laws.proofs.Starting.{started_world}
use Rattle.registry_machine.specs.Machine.{registry_machine}
use Rattle.log_order.proofs.Crashes.{same_moment}
use Rattle.cluster_member.specs.States.{MemberState, fresh_member}
use Rattle.world_laws.proofs.Tied.{Abstracts, Bare, Leaves, OthersOwn, SameBut, absorb_ties, left_at, moved, rules_in, same_logs, stop_ties}

-- ---- one locker

pub one_locker : (w : World registry_machine) (n k : ℕ) (x z : NodeState registry_machine) → Invariant w → w.nodes n ≡ Some x → w.nodes k ≡ Some z
    → joining.locks x.join ≡ true → joining.locks z.join ≡ true → number_of z ≡ number_of x → number_of x ≢ 0 → k ≡ n
one_locker w n k x z j at there lx lz same nz =
    let hx : NodeOk w n x = j.nodes n x at in
    let hz : NodeOk w k z = j.nodes k z there in
    let vx = (hx.view nz).0 in
    let vz = (hz.view (λ e. nz (sym same ∙ e))).0 in
    let q : Some z.join.view ≡ Some x.join.view = sym vz ∙ ap (view_in w.chain) same ∙ vx in
    let g : z.join.view ≡ x.join.view = cc in
    sym (locker_is z.join.view.members z.join.node lz ∙ hz.local.node) ∙ ap (λ (v : View). locker_of v.members) g ∙ locker_is x.join.view.members x.join.node lx ∙ hx.local.node

pub node_at : (cap : ℕ) (b : Bare) (w : World registry_machine) (n : ℕ) (m : MemberState) → Abstracts cap b w → b.members n ≡ Some m → w.nodes n ≡ Some m.rules
node_at cap b w n m a at = a.nodes n ∙ ap rules_in at

-- the others haven't the view of a locker
pub others_apart : (cap : ℕ) (b : Bare) (w : World registry_machine) (n : ℕ) (x : NodeState registry_machine) (l : Log) (disk : DiskView) → Abstracts cap b w → Invariant w → w.nodes n ≡ Some x
    → joining.locks x.join ≡ true → number_of x ≢ 0 → number_of x ≡ l.held → OthersOwn b n l disk
others_apart cap b w n x l disk a j at lx nz held k z log apart there has same =
    let f = a.logs k z log there has in
    absurd (apart (one_locker w n k x z.rules j at (node_at cap b w k z a there) lx f.locks (same ∙ sym held) nz))

-- ---- the same log on a disk with the same content

pub record SameNow (v w : DiskView) : Type 0 where
  pub tells : w.tells ≡ v.tells
  pub current : w.current ≡ v.current

pub same_now : (v w : DiskView) → w ≡ v → SameNow v w
same_now v w e = record { tells = ap (λ (d : DiskView). d.tells) e; current = ap (λ (d : DiskView). d.current) e }

-- what is left of a node has its log in its view, or none
abbrev pub KeepsLog : Bare → ℕ → Option MemberState → Type 0
KeepsLog b n o = (y : MemberState) → o ≡ Some y
    → (y.log ≡ None) ⊎ ((m : MemberState) × (b.members n ≡ Some m) × (y.log ≡ m.log) × (number_of y.rules ≡ number_of m.rules) × (joining.locks y.rules.join ≡ joining.locks m.rules.join))

no_log : (o : Option LogValue) (log : LogValue) → o ≡ None → o ≡ Some log → ⊥
no_log o log none some = cc

pub quiet_leaves : (cap : ℕ) (b : Bare) (w : World registry_machine) (n : ℕ) (o : Option MemberState) (d : DiskView) → Abstracts cap b w → SameNow b.disk d → KeepsLog b n o
    → Leaves b w n o w.log d
quiet_leaves cap b w n o d a same keeps =
    let moment = same_moment w.log b.disk d same.tells same.current a.refines in
    record {
      cap_is = refl;
      refines = moment.0;
      own = λ y log e f. ⊎_elim
          (λ (none : y.log ≡ None). absurd (no_log y.log log none f))
          (λ (c : (m : MemberState) × (b.members n ≡ Some m) × (y.log ≡ m.log) × (number_of y.rules ≡ number_of m.rules) × (joining.locks y.rules.join ≡ joining.locks m.rules.join)).
          let had : c.0.log ≡ Some log = sym c.2 ∙ f in
          let old = a.logs n c.0 log c.1 had in (
            record { claim = old.claim ∙ sym c.3; locks = c.4 ∙ old.locks; numbered = λ z. old.numbered (sym c.3 ∙ z) },
            λ held. moment.1 log (a.owns n c.0 log c.1 had (sym c.3 ∙ held)),
          ))
          (keeps y e);
      others = λ k z log apart there has held. moment.1 log (a.owns k z log there has held);
    }

pub quiet_ties : (cap : ℕ) (b : Bare) (w u : World registry_machine) (n : ℕ) (o : Option MemberState) (out : Out registry_machine) (effects : List Effect) (d : DiskView)
    → Abstracts cap b w → SameBut w u → u.log ≡ w.log → SameNow b.disk d → KeepsLog b n o → out.node ≡ rules_in o → sent out.effects ≡ sent effects → acked out.effects ≡ acked effects
    → Abstracts cap (moved b n o effects b.order d) (absorb n out u)
quiet_ties cap b w u n o out effects d a same log now keeps node sends acks =
    subst (λ (order : List Entry). Abstracts cap (moved b n o effects order d) (absorb n out u)) a.order
    (absorb_ties cap b w u n o out effects w.log d a same log (quiet_leaves cap b w n o d a now keeps) node sends acks)

-- a node is gone
pub die_ties : (cap : ℕ) (b : Bare) (w : World registry_machine) (n : ℕ) (d : DiskView) → Abstracts cap b w → SameNow b.disk d → Abstracts cap (left_at b n None b.order d) (stopped n w)
die_ties cap b w n d a now =
    subst (λ (order : List Entry). Abstracts cap (left_at b n None order d) (stopped n w)) a.order
    (stop_ties cap b w n w.log d a (quiet_leaves cap b w n None d a now (λ y e. absurd (cc))))

-- nothing but the disk changes
pub mark_ties : (cap : ℕ) (b : Bare) (w : World registry_machine) (d : DiskView) → Abstracts cap b w → SameNow b.disk d → Abstracts cap (record b { disk = d }) w
mark_ties cap b w d a now =
    let moment = same_moment w.log b.disk d now.tells now.current a.refines in
    record {
      nodes = a.nodes;
      starts = a.starts;
      chain = a.chain;
      pool = a.pool;
      acks = a.acks;
      order = a.order;
      cap_is = a.cap_is;
      refines = moment.0;
      logs = a.logs;
      owns = λ n m log at has held. moment.1 log (a.owns n m log at has held);
    }

put_same : {A : Type 0} (f : ℕ → Option A) (n : ℕ) (o : Option A) (k : ℕ) → f n ≡ o → put f n o k ≡ f k
put_same f n o k e = by (nat_eq k n) (grind arith)
  where
    by : (c : Bool) → (c ≡ true → k ≡ n) → (if c then o else f k) ≡ f k
    by true same = sym e ∙ ap f (sym (same refl))
    by false same = refl

-- a node does nothing
pub still_ties : (cap : ℕ) (b : Bare) (w : World registry_machine) (n : ℕ) (o : Option MemberState) → Abstracts cap b w → b.members n ≡ o → Abstracts cap (moved b n o [] b.order b.disk) w
still_ties cap b w n o a at =
    let there : (k : ℕ) → put b.members n o k ≡ b.members k = λ k. put_same b.members n o k at in
    record {
      nodes = λ k. a.nodes k ∙ ap rules_in (sym (there k));
      starts = a.starts;
      chain = a.chain;
      pool = a.pool ∙ sym (append-nil b.pool);
      acks = a.acks ∙ sym (append-nil b.acks);
      order = a.order;
      cap_is = a.cap_is;
      refines = a.refines;
      logs = λ k m log e f. a.logs k m log (sym (there k) ∙ e) f;
      owns = λ k m log e f held. a.owns k m log (sym (there k) ∙ e) f held;
    }

-- ---- the events

pub at_is : (w : World registry_machine) (n : ℕ) (x : NodeState registry_machine) (f : NodeState registry_machine → World registry_machine) → w.nodes n ≡ Some x → at_node w n f ≡ f x
at_is w n x f e = ap (λ (o : Option (NodeState registry_machine)). elim o [ None ↦ w | Some y ↦ f y ]) e

pub stays_log : (b : Bare) (n : ℕ) (m : MemberState) (x : NodeState registry_machine) (y : MemberState) → b.members n ≡ Some m → StaysAt m.rules (Some y.rules) → y.log ≡ m.log → KeepsLog b n (Some y)
stays_log b n m x y at stays log z e =
    let q : y ≡ z = cc in
    let f : Follows m.rules.join y.rules.join = (stays y.rules refl).0 in
    inr (
      m,
      at,
      subst (λ (t : MemberState). t.log ≡ m.log) q log,
      subst (λ (t : MemberState). number_of t.rules ≡ number_of m.rules) q (ap (λ (v : View). v.number) f.0),
      subst (λ (t : MemberState). joining.locks t.rules.join ≡ joining.locks m.rules.join) q (λ i. is_locker (f.0 i).members (f.1 i)),
    )

same_keeps : (b : Bare) (n : ℕ) (m y : MemberState) → b.members n ≡ Some m → y.rules.join ≡ m.rules.join → y.log ≡ m.log → KeepsLog b n (Some y)
same_keeps b n m y at join log z e =
    let q : y ≡ z = cc in
    inr (
      m,
      at,
      subst (λ (t : MemberState). t.log ≡ m.log) q log,
      subst (λ (t : MemberState). number_of t.rules ≡ number_of m.rules) q (ap (λ (s : joining.ReconcileState). s.view.number) join),
      subst (λ (t : MemberState). joining.locks t.rules.join ≡ joining.locks m.rules.join) q (ap joining.locks join),
    )

pub tick_ties : (cap : ℕ) (b : Bare) (w : World registry_machine) (n : ℕ) (m : MemberState) → Abstracts cap b w → b.members n ≡ Some m
    → Abstracts cap (moved b n (Some m) (tick m.rules).effects b.order b.disk) (happens w (Tick n))
tick_ties cap b w n m a at =
    let x = node_at cap b w n m a at in
    subst (λ (u : World registry_machine). Abstracts cap (moved b n (Some m) (tick m.rules).effects b.order b.disk) u) (sym (at_is w n m.rules (λ x. absorb n (tick x) w) x))
    (quiet_ties cap b w w n (Some m) (tick m.rules) (tick m.rules).effects b.disk a (same_logs w.log w) refl (same_now b.disk b.disk refl) (same_keeps b n m m at refl refl) refl refl refl)

abbrev pub with_rules : MemberState → NodeState registry_machine → MemberState
with_rules m x = record m { rules = x }

pub clock_ties : (cap : ℕ) (b : Bare) (w : World registry_machine) (n stamp : ℕ) (m : MemberState) → Abstracts cap b w → b.members n ≡ Some m → stamp < 2 ^ 64
    → Abstracts cap (moved b n (Some (with_rules m (record (m.rules) { stamp = stamp }))) [] b.order b.disk) (happens w (Clock n stamp))
clock_ties cap b w n stamp m a at low =
    let y : MemberState = with_rules m (record (m.rules) { stamp = stamp }) in
    let x = node_at cap b w n m a at in
    let is : happens w (Clock n stamp) ≡ absorb n (clock m.rules stamp) w = (λ i. if lt i then at_node w n (λ x. absorb n (clock x stamp) w) else w) ∙ at_is w n m.rules (λ x. absorb n (clock x stamp) w) x in
    subst (λ (u : World registry_machine). Abstracts cap (moved b n (Some y) [] b.order b.disk) u) (sym is)
    (quiet_ties cap b w w n (Some y) (clock m.rules stamp) [] b.disk a (same_logs w.log w) refl (same_now b.disk b.disk refl) (same_keeps b n m y at refl refl) refl refl refl)
  where
    lt : nat_lt stamp (2 ^ 64) ≡ true
    lt = grind arith

noted_same : (w : World registry_machine) (n : ℕ) (x : NodeState registry_machine) (u : Update) → SameBut w (noted n x u w)
noted_same w n x u = if_cases (λ (v : World registry_machine). SameBut w v) (may_submit x) _ _
    (λ g. record { nodes = λ k. refl; starts = refl; chain = refl; pool = refl; acks = refl })
    (λ g. record { nodes = λ k. refl; starts = refl; chain = refl; pool = refl; acks = refl })

noted_log : (w : World registry_machine) (n : ℕ) (x : NodeState registry_machine) (u : Update) → (noted n x u w).log ≡ w.log
noted_log w n x u = if_cases (λ (v : World registry_machine). v.log ≡ w.log) (may_submit x) _ _ (λ g. refl) (λ g. refl)

pub submit_ties : (cap : ℕ) (b : Bare) (w : World registry_machine) (n : ℕ) (m y : MemberState) (u : Update) (valid : IsUpdate u) → Abstracts cap b w → b.members n ≡ Some m
    → (submit m.rules u).node ≡ Some y.rules → y.log ≡ m.log
    → Abstracts cap (moved b n (Some y) (submit m.rules u).effects b.order b.disk) (happens w (Submit n u valid))
submit_ties cap b w n m y u valid a at node log =
    let x = node_at cap b w n m a at in
    let stays : StaysAt m.rules (Some y.rules) = subst (λ (o : Option (NodeState registry_machine)). StaysAt m.rules o) node (submit_stays m.rules u) in
    subst (λ (v : World registry_machine). Abstracts cap (moved b n (Some y) (submit m.rules u).effects b.order b.disk) v) (sym (at_is w n m.rules (λ x. absorb n (submit x u) (noted n x u w)) x))
    (quiet_ties cap b w (noted n m.rules u w) n (Some y) (submit m.rules u) (submit m.rules u).effects b.disk a (noted_same w n m.rules u) (noted_log w n m.rules u) (same_now b.disk b.disk refl)
    (stays_log b n m m.rules y at stays log) node refl refl)

pub start_ties : (cap : ℕ) (b : Bare) (w : World registry_machine) (n : ℕ) → Abstracts cap b w → b.members n ≡ None
    → Abstracts cap (record b { members = put b.members n (Some (fresh_member n (b.starts n + 1))); starts = put b.starts n (b.starts n + 1) }) (happens w (Start n))
start_ties cap b w n a at =
    let off : w.nodes n ≡ None = a.nodes n ∙ ap rules_in at in
    let starts : w.starts ≡ b.starts = λ i k. a.starts k i in
    let y : MemberState = fresh_member n (b.starts n + 1) in
    let is : happens w (Start n) ≡ started_world w n = ap (λ (o : Option (NodeState registry_machine)). elim o [ Some x ↦ w | None ↦ started_world w n ]) off in
    let same : Some (fresh registry_machine n (w.starts n + 1)) ≡ rules_in (Some y) = ap (λ (i : ℕ). Some (fresh registry_machine n (i + 1))) (a.starts n) in
    let one : Abstracts cap (moved b n (Some y) [] b.order b.disk) (absorb n (record { node = Some (fresh registry_machine n (w.starts n + 1)); effects = []; outcome = None }) w) =
    quiet_ties cap b w w n (Some y) (record { node = Some (fresh registry_machine n (w.starts n + 1)); effects = []; outcome = None }) [] b.disk a (same_logs w.log w) refl (same_now b.disk b.disk refl)
    (λ z e. inl (let q : y ≡ z = cc in sym (ap (λ (t : MemberState). t.log) q))) same refl refl in
    subst (λ (v : World registry_machine). Abstracts cap (record b { members = put b.members n (Some y); starts = put b.starts n (b.starts n + 1) }) v) (sym is) (record {
      nodes = one.nodes;
      starts = λ k i. put (starts i) n (a.starts n i + 1) k;
      chain = a.chain;
      pool = a.pool;
      acks = a.acks;
      order = a.order;
      cap_is = a.cap_is;
      refines = a.refines;
      logs = one.logs;
      owns = one.owns;
    })

pub declare_ties : (cap : ℕ) (b : Bare) (w : World registry_machine) (v : View) → Abstracts cap b w → may_declare w v ≡ true → Abstracts cap (record b { chain = b.chain ++ v ∷ [] }) (happens w (Declare v))
declare_ties cap b w v a g =
    let is : happens w (Declare v) ≡ record w { chain = w.chain ++ v ∷ [] } = λ i. if g i then record w { chain = w.chain ++ v ∷ [] } else w in
    subst (λ (u : World registry_machine). Abstracts cap (record b { chain = b.chain ++ v ∷ [] }) u) (sym is) (record {
      nodes = a.nodes;
      starts = a.starts;
      chain = ap (λ (c : List View). c ++ v ∷ []) a.chain;
      pool = a.pool;
      acks = a.acks;
      order = a.order;
      cap_is = a.cap_is;
      refines = a.refines;
      logs = a.logs;
      owns = a.owns;
    })
