-- What an event tells of its node's head: nothing, or the head has left, and its client is told the place of its record
-- and what that record comes to there.
use Rattle.std.proofs.Common.{◌≡◌, ◌⊎◌, inr, ℕ, ◌+◌, ◌-◌, List, [], ◌∷◌, length, Option, Some, None, nat_lt, if◌then◌else◌, refl, ap, subst}
use Rattle.gum_messages.specs.Places.{at_place}
use Rattle.update_records.specs.Entry.{Entry}
use Rattle.gum_core.specs.Updating as updating
use Rattle.cluster_rules.specs.Machines.{Machine, outcome_at}
use Rattle.cluster_rules.specs.declared.effect.Effect.{Effect}
use Rattle.cluster_rules.specs.declared.effect.HaltCause.{HaltCause}
use Rattle.cluster_rules.specs.Nodes.{NodeState, Out, becomes, halts}
use Rattle.cluster_rules.specs.Updates.{proceeds}
use Rattle.cluster_rules.specs.Worlds.{World, acked}
use Rattle.cluster_laws.proofs.History.{absorbed}
use Rattle.cluster_laws.proofs.Inv.{Has, Invariant}
use Rattle.cluster_laws.proofs.Heads.{asks_acks}
use Rattle.cluster_laws.proofs.Finish.{Done, finish_keeps, popped}
use Rattle.cluster_laws.proofs.Points.{done_outcome}

module _ {M : Machine} where
  -- nothing is acknowledged, and no head has left: of an incarnation in which so many requests had passed
  pub record Quiet (inc passed : ℕ) (o : Out M) : Type 0 where
    pub told : acked o.effects ≡ []
    pub stays : (y : NodeState M) → o.node ≡ Some y → (y.join.inc ≡ inc) × (y.core.passed ≡ passed)

  -- the head has left: its record stands in the order, and is told with what it comes to
  pub record Leaves (cap : ℕ) (order : List Entry) (node inc passed : ℕ) (o : Out M) : Type 0 where
    pub view : ℕ
    pub entry : Entry
    pub told : acked o.effects ≡ (view, entry.place) ∷ []
    pub stands : at_place order entry.place ≡ Some entry
    pub id : Has entry node inc (passed + 1)
    pub outcome : o.outcome ≡ Some (outcome_at M cap order (entry.place - 1) entry)
    pub left : (y : NodeState M) → o.node ≡ Some y → (y.join.inc ≡ inc) × (y.core.passed ≡ passed + 1)

  abbrev pub Tells : ℕ → List Entry → ℕ → ℕ → ℕ → Out M → Type 0
  Tells cap order node inc passed o = Quiet inc passed o ⊎ Leaves cap order node inc passed o

  -- the invariant stays, and the head leaves as it should
  abbrev pub Good : World M → ℕ → NodeState M → Out M → Type 0
  Good w n x o = Invariant (absorbed n o w) × Tells w.log.cap w.log.order n x.join.inc x.core.passed o

  pub node_is : (y z : NodeState M) (inc passed : ℕ) → Some y ≡ Some z → y.join.inc ≡ inc → y.core.passed ≡ passed → (z.join.inc ≡ inc) × (z.core.passed ≡ passed)
  node_is y z inc passed e a b = let g : y ≡ z = cc in subst (λ (t : NodeState M). (t.join.inc ≡ inc) × (t.core.passed ≡ passed)) g (a, b)

  pub quiet_as : (inc passed : ℕ) (y : NodeState M) (es : List Effect) → acked es ≡ [] → y.join.inc ≡ inc → y.core.passed ≡ passed → Quiet inc passed (becomes y es)
  quiet_as inc passed y es t a b = record { told = t; stays = λ z e. node_is y z inc passed e a b }

  pub still : (y : NodeState M) (es : List Effect) → acked es ≡ [] → Quiet y.join.inc y.core.passed (becomes y es)
  still y es t = quiet_as y.join.inc y.core.passed y es t refl refl

  pub quiet_halts : (inc passed : ℕ) (cause : HaltCause) → Quiet inc passed (halts cause)
  quiet_halts inc passed cause = record { told = refl; stays = λ y e. absurd (cc) }

  -- with the lock released
  pub finish_good : (w : World M) (n : ℕ) (x : NodeState M) (r : Entry) → Invariant w → w.nodes n ≡ Some x → Done w n x r → Good w n x (proceeds x r (updating.finished x.core r.place))
  finish_good w n x r j at d =
      let next : Option ℕ = if nat_lt 1 (length x.core.queue) then Some (x.core.passed + 2) else None in (
        finish_keeps w n x r j at d,
        inr (record {
          view = x.join.view.number;
          entry = r;
          told = ap (λ (l : List (ℕ × ℕ)). (x.join.view.number, r.place) ∷ l) (asks_acks (popped x) next);
          stands = d.stands.at;
          id = record { node = d.id.node; inc = d.id.inc; req = d.id.req };
          outcome = done_outcome w n x r j at d;
          left = λ y e. node_is (popped x) y x.join.inc (x.core.passed + 1) e refl refl;
        }),
      )
