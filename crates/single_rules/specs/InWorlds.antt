-- A round in a world of the protocol: which events it is, and what they leave.
use Rattle.std.specs.Prelude.{◌≡◌, ℕ, ◌+◌, ◌≤◌, false, List, [], ◌∷◌, ◌++◌, Some, nat_eq}
use Rattle.update_records.specs.declared.update.Update.{Update}
use Rattle.update_records.specs.Limits.{IsUpdate}
use Rattle.cluster_rules.specs.Machines.{Machine}
use Rattle.cluster_rules.specs.Updates.{Written}
use Rattle.cluster_rules.specs.Worlds.{Deliver, Event, Point, Submit, World}
use Rattle.single_rules.specs.Single.{Single, ask, at_rest, grant, made, outcome_of, release, updated}

-- An update is submitted, and the next three messages are delivered, where so many were sent before.
abbrev pub round_events : ℕ → ℕ → (u : Update) → IsUpdate u → List Event
round_events node count u valid =
    Submit node u valid ∷ Deliver (count + 1) Written ∷ Deliver (count + 2) Written ∷ Deliver (count + 3) Written ∷ []

module _ {M : Machine} where
  -- The node is alone there and at rest, and no later view has claimed the log.
  pub record RestsIn (a : Single M) (w : World M) : Type 0 where
    pub node : w.nodes a.node ≡ Some (at_rest a)
    pub held : w.log.held ≤ a.view

  -- What is told to the client of its next update.
  abbrev pub answer_in : World M → Single M → Update → Point M
  answer_in w a u = record {
    node = a.node;
    inc = w.starts a.node;
    place = a.done + 1;
    req = a.passed + 1;
    outcome = Some (outcome_of a u);
  }

  -- From one world to the other: one record more, acknowledged and answered, and three messages, all of them heard.
  pub record RoundOf (a : Single M) (u : Update) (w v : World M) : Type 0 where
    pub rests : RestsIn (updated a u) v
    pub others : (n : ℕ) → nat_eq n a.node ≡ false → v.nodes n ≡ w.nodes n
    pub order : v.log.order ≡ w.log.order ++ made a u ∷ []
    pub acks : v.acks ≡ w.acks ++ (a.view, a.done + 1) ∷ []
    pub points : v.points ≡ w.points ++ answer_in w a u ∷ []
    pub pool : v.pool ≡ w.pool ++ ask a u ∷ grant a u ∷ release a ∷ []
