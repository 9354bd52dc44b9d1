-- A locker that is ready has the log of its view, behind each event.
use Rattle.std.proofs.Common.{◌≡◌, ◌↔◌, ℕ, ◌+◌, Bool, true, false, IsTrue, IsSome, Option, Some, None, refl, sym, ap, subst, ◌∙◌, arith}
use Rattle.update_records.specs.Entry.{Entry}
use Rattle.gum_messages.specs.declared.view.View.{View}
use Rattle.quorum_log.specs.Logs.{LogValue}
use Rattle.view_reconcile.specs.Joining.{ReconcileState, is_ready, locks}
use Rattle.cluster_rules.specs.Nodes.{NodeState, Replica, fresh, number_of}
use Rattle.cluster_rules.specs.Updates.{replica_after}
use Rattle.registry_machine.specs.Machine.{ReplicatedRegistry, record_applied, registry_machine}
use Rattle.member_rules.specs.Recovery.{HasCaughtUp}
use Rattle.member_rules.specs.States.{AddsNothing, IsBeside}
use Rattle.cluster_member.specs.States.{HasLog, IsLogAt, IsLogOf, OwnsLog}

is_not : (b : Bool) → b ≡ false → IsTrue b → ⊥
is_not true e t = cc
is_not false e t = cc

to_true : (b : Bool) → b ≡ true → IsTrue b
to_true b e = subst (λ (c : Bool). IsTrue c) (sym e) refl

-- ---- the log is kept

pub fresh_has : (node inc : ℕ) (x : NodeState registry_machine) (log : Option LogValue) → x ≡ fresh registry_machine node inc → HasLog x log
fresh_has node inc x log is =
    let waits : is_ready x.join ≡ false = ap (λ (y : NodeState registry_machine). is_ready y.join) is in
    record { owns = λ ready here. absurd (is_not (is_ready x.join) waits ready) }

-- A node that isn't ready needs none.
pub unready_has : (x : NodeState registry_machine) (log : Option LogValue) → is_ready x.join ≡ false → HasLog x log
unready_has x log waits = record { owns = λ ready here. absurd (is_not (is_ready x.join) waits ready) }

owns_same : (view : ℕ) (x y : NodeState registry_machine) (log : Option LogValue) → view ≡ number_of x → y.replica ≡ x.replica → y.last ≡ x.last
    → OwnsLog (number_of x) x.replica x.last log → OwnsLog view y.replica y.last log
owns_same view x y log number replica last owns =
    subst (λ (n : ℕ). OwnsLog n y.replica y.last log) (sym number)
    (subst (λ (r : Option (Replica registry_machine)). OwnsLog (number_of x) r y.last log) (sym replica)
    (subst (λ (l : Option Entry). OwnsLog (number_of x) x.replica l log) (sym last) owns))

pub adds_nothing_has : (x y : NodeState registry_machine) (log : Option LogValue) → HasLog x log → AddsNothing x y → HasLog y log
adds_nothing_has x y log has adds = record {
  owns = λ ready here.
      let same = adds.stays ready here in
      owns_same (number_of y) x y log same.number same.replica same.last (has.owns (to_true (is_ready x.join) same.ready) (to_true (locks x.join) same.locks));
}

pub beside_has : (x y : NodeState registry_machine) (log : Option LogValue) → HasLog x log → IsBeside x y → HasLog y log
beside_has x y log has beside = record {
  owns = λ ready here.
      owns_same (number_of y) x y log (ap (λ (j : ReconcileState). j.view.number) beside.join) beside.replica beside.last
      (has.owns (subst (λ (j : ReconcileState). IsTrue (is_ready j)) beside.join ready) (subst (λ (j : ReconcileState). IsTrue (locks j)) beside.join here));
}

pub stamped_has : (x y : NodeState registry_machine) (log : Option LogValue) (stamp : ℕ) → HasLog x log → y ≡ record x { stamp = stamp } → HasLog y log
stamped_has x y log stamp has is = subst (λ (z : NodeState registry_machine). HasLog z log) (sym is) (record { owns = has.owns })

-- ---- a record was logged

cap_kept : (e : Entry) (registry : ReplicatedRegistry) → (record_applied e registry).0.cap ≡ registry.cap
unfolding record_applied
cap_kept e registry = refl

owns_after : (view : ℕ) (r : Option (Replica registry_machine)) (last : Option Entry) (old log : LogValue) (e : Entry)
    → OwnsLog view r last (Some old) → log.claim ≡ old.claim → log.cap ≡ old.cap → log.base + log.records ≡ old.base + old.records + 1
    → OwnsLog view (replica_after e r) (Some e) (Some log)
owns_after view None last old log e owns claim cap count = owns
owns_after view (Some r) last old log e owns claim cap count = record {
  claim = claim ∙ owns.claim;
  cap = cap ∙ (owns.cap ∙ sym (cap_kept e r.registry));
  count = count ∙ ap (λ (n : ℕ). n + 1) owns.count;
  none = (λ none. absurd (cc), λ zero. absurd (omega arith));
}

pub logged_has : (x y : NodeState registry_machine) (old log : LogValue) (e : Entry)
    → OwnsLog (number_of x) x.replica x.last (Some old) → y.join ≡ x.join → y.replica ≡ replica_after e x.replica → y.last ≡ Some e
    → log.claim ≡ old.claim → log.cap ≡ old.cap → log.base + log.records ≡ old.base + old.records + 1
    → HasLog y (Some log)
logged_has x y old log e owns join replica last claim cap count = record {
  owns = λ ready here.
      subst (λ (j : ReconcileState). OwnsLog j.view.number y.replica y.last (Some log)) (sym join)
      (subst (λ (r : Option (Replica registry_machine)). OwnsLog (number_of x) r y.last (Some log)) (sym replica)
      (subst (λ (l : Option Entry). OwnsLog (number_of x) (replica_after e x.replica) l (Some log)) (sym last)
      (owns_after (number_of x) x.replica x.last old log e owns claim cap count)));
}

-- ---- a checkpoint was written

owns_still : (view : ℕ) (r : Option (Replica registry_machine)) (last : Option Entry) (old log : LogValue)
    → OwnsLog view r last (Some old) → log.claim ≡ old.claim → log.cap ≡ old.cap → log.base + log.records ≡ old.base + old.records
    → OwnsLog view r last (Some log)
owns_still view None last old log owns claim cap count = owns
owns_still view (Some r) last old log owns claim cap count = record {
  claim = claim ∙ owns.claim;
  cap = cap ∙ owns.cap;
  count = count ∙ owns.count;
  none = owns.none;
}

pub saved_has : (x : NodeState registry_machine) (old log : LogValue)
    → OwnsLog (number_of x) x.replica x.last (Some old) → log.claim ≡ old.claim → log.cap ≡ old.cap → log.base + log.records ≡ old.base + old.records
    → HasLog x (Some log)
saved_has x old log owns claim cap count = record { owns = λ ready here. owns_still (number_of x) x.replica x.last old log owns claim cap count }

-- ---- a log was recovered

owns_caught : (view count cap : ℕ) (last : Option Entry) (log : LogValue) (r : Option (Replica registry_machine)) → IsLogAt view count cap last log → HasCaughtUp r count cap → OwnsLog view r last (Some log)
owns_caught view count cap last log None at caught = caught
owns_caught view count cap last log (Some q) at caught = record {
  claim = at.claim;
  cap = at.same_cap ∙ sym caught.1;
  count = at.counted ∙ sym caught.0;
  none = (λ none. caught.0 ∙ at.no_last.0 none, λ zero. at.no_last.1 (sym caught.0 ∙ zero));
}

pub recovered_has : (y : NodeState registry_machine) (v : View) (count cap : ℕ) (last : Option Entry) (log : LogValue)
    → IsLogAt v.number count cap last log → HasCaughtUp y.replica count cap → y.last ≡ last → y.join.view ≡ v → HasLog y (Some log)
recovered_has y v count cap last log at caught is_last view = record {
  owns = λ ready here.
      subst (λ (w : View). OwnsLog w.number y.replica y.last (Some log)) (sym view)
      (subst (λ (l : Option Entry). OwnsLog v.number y.replica l (Some log)) (sym is_last)
      (owns_caught v.number count cap last log y.replica at caught));
}
