-- What the world takes in of a node's event is what the protocol's world takes in.
use Rattle.std.proofs.Common.{◌≡◌, inl, inr, ℕ, ◌+◌, ◌-◌, ◌<◌, ◌≤◌, Bool, true, false, List, [], ◌∷◌, ◌++◌, length, Option, Some, None, nat_eq, if◌then◌else◌, refl, sym, ap, ◌∙◌, subst, append-nil, append_assoc, length-append, add-one, arith}
use Rattle.std.specs.Prelude.{IfSome, option_to_list, slice_set, unwrap_or}
use Rattle.std.specs.Option.{option_flatten}
use Rattle.gum_messages.specs.Messages.{IsNode, Sent}
use Rattle.gum_messages.specs.Places.{at_place}
use Rattle.gum_messages.proofs.Branches.{if_cases}
use Rattle.gum_messages.proofs.Placing.{get_new}
use Rattle.update_records.specs.Entry.{Entry}
use Rattle.update_records.specs.Limits.{IsUpdate}
use Rattle.update_records.specs.declared.update.Update.{Update}
use Rattle.gum_core.specs.Updating as updating
use Rattle.disk_core.specs.Views.{DiskView}
use Rattle.cluster_rules.specs.declared.effect.Effect.{Effect}
use Rattle.cluster_rules.specs.Joins.{known_done}
use Rattle.cluster_rules.specs.Nodes.{NodeState, Out, Replica, done_of, nothing}
use Rattle.cluster_rules.specs.Updates.{may_submit, submit, submits}
use Rattle.cluster_rules.specs.Worlds.{Event, Submit, World, acked, put, run, sent}
use Rattle.cluster_laws.proofs.Applying.{done_at}
use Rattle.cluster_laws.proofs.Inv.{NodeOk}
use Rattle.registry_machine.specs.Machine.{registry_machine}
use Rattle.cluster_member.specs.States.{MemberState}
use Rattle.cluster_node.specs.States.{NodeValue, RunningNode, done, last_record}
use Rattle.cluster_worlds.specs.Telling.{absorbed, bereft, joined}
use Rattle.cluster_worlds.specs.Worlds.{WorldState, slot_of}
use Rattle.world_laws.proofs.Coming.{Grows}
use Rattle.world_laws.proofs.Following.{Then}
use Rattle.world_laws.proofs.Quiet.{submit_ties}
use Rattle.world_laws.proofs.Records.{Good}
use Rattle.world_laws.proofs.Slots.{Placed, bare_of, member_of, members_set, running_member, slot_member}
use Rattle.world_laws.proofs.Tied.{Abstracts, Bare, left_at, moved}

-- ---- two moves of a node are one

put_put : {A : Type 0} (f : ℕ → Option A) (k : ℕ) (a b : Option A) (j : ℕ) → put (put f k a) k b j ≡ put f k b j
put_put f k a b j = by (nat_eq j k)
  where
    by : (c : Bool) → (if c then b else (if c then a else f j)) ≡ (if c then b else f j)
    by true = refl
    by false = refl

pub at_self : {A : Type 0} (f : ℕ → Option A) (n : ℕ) (o : Option A) → put f n o n ≡ o
at_self f n o = grind arith

two_moves : (b : Bare) (k : ℕ) (o n : Option MemberState) (es fs gs : List Effect) (order : List Entry) (d : DiskView) → sent gs ≡ sent es ++ sent fs → acked gs ≡ acked es ++ acked fs
    → moved (moved b k o es order d) k n fs order d ≡ moved b k n gs order d
two_moves b k o n es fs gs order d sends acks =
    let pool : (b.pool ++ sent es) ++ sent fs ≡ b.pool ++ sent gs = append_assoc b.pool (sent es) (sent fs) ∙ ap (λ (ps : List Sent). b.pool ++ ps) (sym sends) in
    let all : (b.acks ++ acked es) ++ acked fs ≡ b.acks ++ acked gs = append_assoc b.acks (acked es) (acked fs) ∙ ap (λ (ps : List (ℕ × ℕ)). b.acks ++ ps) (sym acks) in
    λ i. record b { members = λ j. put_put b.members k o n j i; pool = pool i; acks = all i; order = order; disk = d }

-- a node that is the same, and has told the same
pub same_move : (b : Bare) (k : ℕ) (o n : Option MemberState) (es gs : List Effect) (order : List Entry) (d : DiskView) → o ≡ n → sent gs ≡ sent es → acked gs ≡ acked es → moved b k o es order d ≡ moved b k n gs order d
same_move b k o n es gs order d same sends acks =
    λ i. record b { members = put b.members k (same i); pool = b.pool ++ sym sends i; acks = b.acks ++ sym acks i; order = order; disk = d }

-- ---- what is submitted behind the event

-- The events of the protocol that lead to the world that is tied to this one.
pub record Leads (cap : ℕ) (b : Bare) (w : World registry_machine) : Type 0 where
  pub more : List Event
  pub ties : Abstracts cap b (run more w)

same_member : (m n : MemberState) → Some m.rules ≡ Some n.rules → n.log ≡ m.log → m ≡ n
same_member m n rules log =
    let q : m.rules ≡ n.rules = cc in
    λ i. record { rules = q i; log = sym log i }

module _ (cap : ℕ) (b : Bare) (w : World registry_machine) (k : ℕ) (m n : MemberState) (es effects : List Effect) (order : List Entry) (d : DiskView) (a : Abstracts cap (moved b k (Some m) es order d) w) where
  -- nothing is submitted
  nothing_then : (u : Update) → (submit m.rules u) ≡ nothing m.rules → Then (Some u) es m n effects → Leads cap (moved b k (Some n) effects order d) w
  nothing_then u none t =
      let same : m ≡ n = same_member m n (ap (λ (o : Out registry_machine). o.node) (sym none) ∙ t.rules) t.log in
      let sends : sent effects ≡ sent es = t.sends ∙ ap (λ (o : Out registry_machine). sent es ++ sent o.effects) none ∙ append-nil (sent es) in
      let acks : acked effects ≡ acked es = t.acks ∙ ap (λ (o : Out registry_machine). acked es ++ acked o.effects) none ∙ append-nil (acked es) in
      record {
        more = [];
        ties = subst (λ (c : Bare). Abstracts cap c w) (same_move b k (Some m) (Some n) es effects order d (ap (λ (x : MemberState). Some x) same) sends acks) a;
      }

  submit_then : (u : Update) → IsUpdate u → Then (Some u) es m n effects → Leads cap (moved b k (Some n) effects order d) w
  submit_then u valid t =
      let s : Abstracts cap (moved (moved b k (Some m) es order d) k (Some n) (submit m.rules u).effects order d) (run (Submit k u valid ∷ []) w) =
      submit_ties cap (moved b k (Some m) es order d) w k m n u valid a (at_self b.members k (Some m)) t.rules t.log in
      record {
        more = Submit k u valid ∷ [];
        ties = subst (λ (c : Bare). Abstracts cap c (run (Submit k u valid ∷ []) w)) (two_moves b k (Some m) (Some n) es (submit m.rules u).effects effects order d t.sends t.acks) s;
      }

  pub then_leads : (queued : Option Update) → Then queued es m n effects → IfSome queued IsUpdate → Leads cap (moved b k (Some n) effects order d) w
  then_leads None t valid =
      let same : m ≡ n = same_member m n t.rules t.log in
      record {
        more = [];
        ties = subst (λ (c : Bare). Abstracts cap c w)
            (same_move b k (Some m) (Some n) es effects order d (ap (λ (x : MemberState). Some x) same) (t.sends ∙ append-nil (sent es)) (t.acks ∙ append-nil (acked es))) a;
      }
  then_leads (Some u) t valid = by (may_submit m.rules) refl
    where
      by : (c : Bool) → may_submit m.rules ≡ c → Leads cap (moved b k (Some n) effects order d) w
      by true may = submit_then u valid t
      by false may = nothing_then u (ap (λ (c : Bool). let o : Out registry_machine = if c then submits m.rules (updating.submitted m.rules.core u) else nothing m.rules in o) may) t

-- it has applied no record
submit_replica : (x : NodeState registry_machine) (u : Update) (z : NodeState registry_machine) → (submit x u).node ≡ Some z → z.replica ≡ x.replica
submit_replica x u = if_cases (λ (o : Out registry_machine). (z : NodeState registry_machine) → o.node ≡ Some z → z.replica ≡ x.replica) (may_submit x) (submits x (updating.submitted x.core u)) (nothing x)
    (λ g z e. let q : record x { core = (updating.submitted x.core u).0 } ≡ z = cc in ap (λ (t : NodeState registry_machine). t.replica) (sym q))
    (λ g z e. let q : x ≡ z = cc in ap (λ (t : NodeState registry_machine). t.replica) (sym q))

pub then_replica : (queued : Option Update) (es effects : List Effect) (m n : MemberState) → Then queued es m n effects → n.rules.replica ≡ m.rules.replica
then_replica None es effects m n t = let q : ◌≡◌ {A = Option (NodeState registry_machine)} (Some m.rules) (Some n.rules) = t.rules in let s : m.rules ≡ n.rules = cc in ap (λ (x : NodeState registry_machine). x.replica) (sym s)
then_replica (Some u) es effects m n t = submit_replica m.rules u n.rules t.rules

-- ---- the order

done_is : (o : Option (Replica registry_machine)) → unwrap_or (elim o [ None ↦ None | Some r ↦ Some r.done ]) 0 ≡ (elim o [ None ↦ 0 | Some r ↦ r.done ])
done_is None = refl
done_is (Some r) = refl

-- how many records the node has applied
pub applied_is : (after : NodeValue) (y : RunningNode) → after.running ≡ Some y → unwrap_or (done after) 0 ≡ done_of y.member.rules
applied_is after y e = ap (λ (o : Option RunningNode). unwrap_or (elim o [ None ↦ None | Some x ↦ known_done x.member.rules ]) 0) e ∙ done_is y.member.rules.replica

not_next : (n m : ℕ) → n ≤ m → nat_eq n (m + 1) ≡ false
not_next n m le = grind arith

is_next : (n m : ℕ) → n ≡ m + 1 → nat_eq n (m + 1) ≡ true
is_next n m e = grind arith

none_joins : (order : List Entry) (after : NodeValue) → nat_eq (unwrap_or (done after) 0) (length order + 1) ≡ false → order ++ joined order after ≡ order
none_joins order after e = ap (λ (c : Bool). order ++ (if c then option_to_list (last_record after) else [])) e ∙ append-nil order

one_joins : (order : List Entry) (after : NodeValue) (e : Entry) → nat_eq (unwrap_or (done after) 0) (length order + 1) ≡ true → last_record after ≡ Some e → order ++ joined order after ≡ order ++ e ∷ []
one_joins order after e next last =
    ap (λ (c : Bool). order ++ (if c then option_to_list (last_record after) else [])) next ∙ ap (λ (o : Option Entry). order ++ option_to_list o) last

last_at : (order : List Entry) (e : Entry) → at_place (order ++ e ∷ []) (length order + 1) ≡ Some e
last_at order e = ap (λ (n : ℕ). at_place (order ++ e ∷ []) n) (add-one (length order)) ∙ get_new order e

pub joins_some : (cap : ℕ) (c : Bare) (w : World registry_machine) (k : ℕ) (m : MemberState) (y : RunningNode) (after : NodeValue) (before order : List Entry) → Abstracts cap c w → Good w → c.order ≡ order → c.members k ≡ Some y.member
    → after.running ≡ Some y → Grows before order (Some m) → y.member.rules.replica ≡ m.rules.replica → before ++ joined before after ≡ order
joins_some cap c w k m y after before order a g is at runs grows replica =
    let x = y.member.rules in
    let node : w.nodes k ≡ Some x = a.nodes k ∙ ap (λ (o : Option MemberState). elim o [ None ↦ None | Some m ↦ Some m.rules ]) at in
    let h : NodeOk w k x = g.holds.invariant.nodes k x node in
    let all : w.log.order ≡ order = a.order ∙ is in
    let applied : unwrap_or (done after) 0 ≡ done_of x = applied_is after y runs in
    let most : done_of x ≤ length w.log.order = h.prefix.within in
    elim grows [
      | inl same ↦ (
          let long : length w.log.order ≡ length before = ap (λ (l : List Entry). length l) (all ∙ same) in
          none_joins before after (not_next (unwrap_or (done after) 0) (length before) (omega (arith, applied, most, long))) ∙ sym same
          )
      | inr more ↦ (
          let q : m ≡ more.1 = cc (more.3) in
          let one : length (before ++ more.0 ∷ []) ≡ length before + 1 = length-append before (more.0 ∷ []) in
          let long : length order ≡ length before + 1 = ap (λ (l : List Entry). length l) more.2 ∙ one in
          let same_done : done_of x ≡ done_of m.rules = ap (λ (o : Option (Replica registry_machine)). elim o [ None ↦ 0 | Some r ↦ r.done ]) replica in
          let other : done_of m.rules ≡ done_of more.1.rules = ap (λ (t : MemberState). done_of t.rules) q in
          let full : done_of x ≡ length before + 1 = same_done ∙ other ∙ more.4 ∙ long in
          let s = has_state x.replica refl (omega (arith, full)) in
          let count : s.0.done ≡ length before + 1 = sym (done_at x s.0 s.1) ∙ full in
          let last : x.last ≡ Some more.0 = h.prefix.last s.0 s.1 ∙ ap (λ (n : ℕ). at_place w.log.order n) count ∙ ap (λ (l : List Entry). at_place l (length before + 1)) (all ∙ more.2) ∙ last_at before more.0 in
          let shown : last_record after ≡ Some more.0 = ap (λ (o : Option RunningNode). elim o [ None ↦ None | Some x ↦ x.member.rules.last ]) runs ∙ last in
          one_joins before after more.0 (is_next (unwrap_or (done after) 0) (length before) (applied ∙ full)) shown ∙ sym more.2
          )
    ]
  where
    has_state : (o : Option (Replica registry_machine)) → y.member.rules.replica ≡ o → 0 < done_of y.member.rules → (r : Replica registry_machine) × (y.member.rules.replica ≡ Some r)
    has_state None e pos = absurd (let z : done_of y.member.rules ≡ 0 = ap (λ (o : Option (Replica registry_machine)). elim o [ None ↦ 0 | Some r ↦ r.done ]) e in omega (arith, z, pos))
    has_state (Some r) e pos = (r, e)

pub joins_none : (after : NodeValue) (before order : List Entry) (o : Option MemberState) → after.running ≡ None → o ≡ None → Grows before order o → before ++ joined before after ≡ order
joins_none after before order o runs gone grows = elim grows [
  | inl same ↦ (
      let zero_ : unwrap_or (done after) 0 ≡ 0 = ap (λ (o : Option RunningNode). unwrap_or (elim o [ None ↦ None | Some x ↦ known_done x.member.rules ]) 0) runs in
      none_joins before after (not_next (unwrap_or (done after) 0) (length before) (omega (arith, zero_))) ∙ sym same
      )
  | inr more ↦ absurd (cc (gone, more.3))
]

-- ---- the worlds

pub absorbed_bare : (w : WorldState) (k : ℕ) (after : NodeValue) (effects : List Effect) (d : DiskView) (order : List Entry) → Placed w → IsNode k → after.number ≡ k → w.order ++ joined w.order after ≡ order
    → bare_of (absorbed effects after d w) ≡ moved (bare_of w) k (running_member after.running) effects order d
absorbed_bare w k after effects d order p n number is =
    let b : Bare = bare_of w in
    let nodes : (absorbed effects after d w).nodes ≡ slice_set w.nodes (k - 1) (slot_of after) = ap (λ (j : ℕ). slice_set w.nodes (j - 1) (slot_of after)) number in
    let members : (j : ℕ) → (bare_of (absorbed effects after d w)).members j ≡ put b.members k (running_member after.running) j = λ j.
    ap (λ (l : List (Option NodeValue)). member_of (option_flatten (at_place l j))) nodes
    ∙ members_set w k j (slot_of after) p n
    ∙ ap (λ (o : Option MemberState). put b.members k o j) (slot_member after) in
    λ i. record b { members = λ j. members j i; pool = b.pool ++ sent effects; acks = b.acks ++ acked effects; order = is i; disk = d }

pub bereft_bare : (w : WorldState) (k : ℕ) (m : NodeValue) (d : DiskView) → Placed w → IsNode k → m.number ≡ k → bare_of (bereft m d w) ≡ left_at (bare_of w) k None w.order d
bereft_bare w k m d p n number =
    let b : Bare = bare_of w in
    let nodes : (bereft m d w).nodes ≡ slice_set w.nodes (k - 1) None = ap (λ (j : ℕ). slice_set w.nodes (j - 1) None) number in
    let members : (j : ℕ) → (bare_of (bereft m d w)).members j ≡ put b.members k None j = λ j.
    ap (λ (l : List (Option NodeValue)). member_of (option_flatten (at_place l j))) nodes ∙ members_set w k j None p n in
    λ i. record b { members = λ j. members j i; order = w.order; disk = d }
