-- A node that is alone hears what it sent, one message after the other, until none is left; and what that comes to.
use Rattle.std.specs.Prelude.{ℕ, zero, suc, ◌+◌, ◌≤◌, List, [], ◌∷◌, ◌++◌, Option, Some, None}
use Rattle.update_records.specs.Entry.{Entry}
use Rattle.update_records.specs.declared.update.Update.{Update}
use Rattle.gum_messages.specs.Messages.{Sent}
use Rattle.gum_core.specs.Updating.{last_place, last_request}
use Rattle.cluster_rules.specs.Machines.{Machine}
use Rattle.cluster_rules.specs.declared.effect.Effect.{Effect}
use Rattle.cluster_rules.specs.declared.effect.Effect.TheVariants.{Acked, Send}
use Rattle.cluster_rules.specs.Nodes.{NodeState}
use Rattle.cluster_rules.specs.Updates.{Answer, Logged, submit, unlogged}
use Rattle.cluster_rules.specs.Receiving.{receive}
use Rattle.cluster_rules.specs.Worlds.{sent}
use Rattle.single_rules.specs.Single.{Single, ask, at_rest, grant, made, outcome_of, release, updated}

-- What a round leaves: the node, or none where it halted; what it did, the records that it appended, what came of the
-- heads that it acknowledged, and the messages that are still under way.
pub record Round (M : Machine) : Type 0 where
  pub node : Option (NodeState M)
  pub effects : List Effect
  pub records : List Entry
  pub outcomes : List M.Outcome
  pub left : List Sent

abbrev pub in_list : {A : Type 0} → Option A → List A
in_list None = []
in_list (Some a) = a ∷ []

module _ {M : Machine} where
  abbrev pub stays : NodeState M → List Sent → Round M
  stays x left = record { node = Some x; effects = []; records = []; outcomes = []; left = left }

  abbrev pub ends : Logged M → List Sent → Round M
  ends d left = record {
    node = None;
    effects = d.out.effects;
    records = in_list d.appended;
    outcomes = in_list d.out.outcome;
    left = left;
  }

  abbrev pub ahead : Logged M → Round M → Round M
  ahead d r = record {
    node = r.node;
    effects = d.out.effects ++ r.effects;
    records = in_list d.appended ++ r.records;
    outcomes = in_list d.out.outcome ++ r.outcomes;
    left = r.left;
  }

  -- An event, and then what is left and what it sent.
  abbrev pub carries_on : Logged M → List Sent → (List Sent → NodeState M → Round M) → Round M
  carries_on d left next = elim d.out.node [ None ↦ ends d left | Some y ↦ ahead d (next (left ++ sent d.out.effects) y) ]

  -- The messages are delivered in the order in which they were sent, at most so many.
  abbrev pub delivered : ℕ → ℕ → Answer → List Sent → NodeState M → Round M
  delivered zero held answer left x = stays x left
  delivered (suc count) held answer [] x = stays x []
  delivered (suc count) held answer (p ∷ left) x = carries_on (receive x p held answer) left (delivered count held answer)

  -- An update is submitted, and the node hears its Ask, its Granted and its Release.
  abbrev pub round : ℕ → Answer → NodeState M → Update → Round M
  round held answer x u = carries_on (unlogged (submit x u)) [] (delivered 3 held answer)

  abbrev pub in_turn : Round M → Round M → Round M
  in_turn r q = record {
    node = q.node;
    effects = r.effects ++ q.effects;
    records = r.records ++ q.records;
    outcomes = r.outcomes ++ q.outcomes;
    left = r.left ++ q.left;
  }

  abbrev pub and_then : Round M → (NodeState M → Round M) → Round M
  and_then r next = elim r.node [
    | None ↦ r
    | Some y ↦ in_turn r (next y)
  ]

  abbrev pub rounds : ℕ → Answer → NodeState M → List Update → Round M
  rounds held answer x [] = stays x []
  rounds held answer x (u ∷ us) = and_then (round held answer x u) (λ y. rounds held answer y us)

  -- The same without messages: what a node that is alone makes of updates in turn.
  abbrev pub after_all : Single M → List Update → Single M
  after_all a [] = a
  after_all a (u ∷ us) = after_all (updated a u) us

  abbrev pub all_made : Single M → List Update → List Entry
  all_made a [] = []
  all_made a (u ∷ us) = made a u ∷ all_made (updated a u) us

  abbrev pub all_outcomes : Single M → List Update → List M.Outcome
  all_outcomes a [] = []
  all_outcomes a (u ∷ us) = outcome_of a u ∷ all_outcomes (updated a u) us

  abbrev pub all_effects : Single M → List Update → List Effect
  all_effects a [] = []
  all_effects a (u ∷ us) =
      Send (ask a u) ∷ Send (grant a u) ∷ Acked a.view (a.done + 1) ∷ Send (release a) ∷ all_effects (updated a u) us

  abbrev pub all_done : Single M → List Update → Round M
  all_done a us = record {
    node = Some (at_rest (after_all a us));
    effects = all_effects a us;
    records = all_made a us;
    outcomes = all_outcomes a us;
    left = [];
  }

  -- There are requests and places for so many updates.
  pub record HasRoom (a : Single M) (count : ℕ) : Type 0 where
    pub requests : a.passed + count ≤ last_request
    pub places : a.done + count ≤ last_place
