-- One node that is the only member of its view, between its events.
use Rattle.std.specs.Prelude.{◌≡◌, ℕ, ◌+◌, ◌<◌, ◌≤◌, true, false, List, [], ◌∷◌, length, Option, Some, None}
use Rattle.gum_messages.specs.declared.view.View.{View}
use Rattle.gum_messages.specs.declared.body.Body.{Body}
use Rattle.gum_messages.specs.declared.body.Body.TheVariants.{Ask, Granted, Release}
use Rattle.gum_messages.specs.Messages.{Sent}
use Rattle.update_records.specs.Entry.{Entry}
use Rattle.update_records.specs.declared.update.Update.{Update}
use Rattle.gum_core.specs.declared.lock.Lock.{Lock}
use Rattle.view_reconcile.specs.declared.stage.Stage.TheVariants as stage
use Rattle.cluster_rules.specs.Machines.{Machine, registry_at}
use Rattle.cluster_rules.specs.declared.offering.Offering.{Offering}
use Rattle.cluster_rules.specs.Nodes.{NodeState, fresh}
use Rattle.cluster_rules.specs.Joins.{last_of}

-- What tells its whole state.
pub record Single (M : Machine) : Type 0 where
  pub node : ℕ
  pub inc : ℕ
  pub view : ℕ
  pub stamp : ℕ
  -- How many of its requests are finished, and the greatest one that was logged in this view; 0 where none was.
  pub passed : ℕ
  pub greatest : ℕ
  -- Its registry, how many records that has applied, and the last one.
  pub registry : M.Registry
  pub done : ℕ
  pub last : Option Entry

-- The last of so many records stands at its place.
abbrev pub IsLastOf : Option Entry → ℕ → Type 0
IsLastOf None done = done ≡ 0
IsLastOf (Some e) done = e.place ≡ done

abbrev pub view_of_one : ℕ → ℕ → ℕ → View
view_of_one number node inc = record { number = number; members = record { node = node; inc = inc } ∷ [] }

-- As it was started, with its clock set.
abbrev pub started : (M : Machine) → ℕ → ℕ → ℕ → NodeState M
started M node inc stamp = record (fresh M node inc) { stamp = stamp }

-- Just opened in a view, over a log from which this was recovered.
abbrev pub opened_over : {M : Machine} → ℕ → ℕ → ℕ → ℕ → Offering → M.Registry → Single M
opened_over node inc view stamp o registry = record {
  node = node;
  inc = inc;
  view = view;
  stamp = stamp;
  passed = 0;
  greatest = 0;
  registry = registry;
  done = o.count;
  last = o.last;
}

abbrev pub offering_of : ℕ → List Entry → Offering
offering_of cap order = record { count = length order; cap = cap; last = last_of order }

-- Just opened over a log of this capacity that holds this order.
abbrev pub over_order : (M : Machine) → ℕ → ℕ → ℕ → ℕ → ℕ → List Entry → Single M
over_order M node inc view stamp cap order =
    opened_over node inc view stamp (offering_of cap order) (registry_at M cap order (length order))

module _ {M : Machine} where
  -- Its incarnation counts from 1, what it logged was finished, and its last record stands at its place.
  pub record IsSound (a : Single M) : Type 0 where
    pub inc : 0 < a.inc
    pub greatest : a.greatest ≤ a.passed
    pub last : IsLastOf a.last a.done

  -- Its state with this queue, this lock, and what came of the head.
  abbrev pub with_queue : Single M → List Update → Option Lock → Option M.Outcome → NodeState M
  with_queue a queue lock outcome = record {
    stamp = a.stamp;
    core = record {
      node = a.node;
      members = record { node = a.node; inc = a.inc } ∷ [];
      is_open = true;
      passed = a.passed;
      queue = queue;
      spreading = None;
      lock = lock;
      greatest = a.greatest ∷ [];
    };
    join = record {
      node = a.node;
      inc = a.inc;
      view = view_of_one a.view a.node a.inc;
      stage = stage.Open;
      ready = false ∷ [];
    };
    replica = Some (record { registry = a.registry; done = a.done });
    last = a.last;
    offer = None;
    bytes = [];
    spreads = None;
    settled = None;
    outcome = outcome;
  }

  -- Nothing is queued, and the lock is free.
  abbrev pub at_rest : Single M → NodeState M
  at_rest a = with_queue a [] None None

  -- The record of its next update, what that comes to, and the lock that it takes.
  abbrev pub made : Single M → Update → Entry
  made a u = record {
    place = a.done + 1;
    stamp = a.stamp;
    id = record { node = a.node; inc = a.inc; req = a.passed + 1 };
    update = u;
  }

  abbrev pub outcome_of : Single M → Update → M.Outcome
  outcome_of a u = (M.apply (made a u) a.registry).1

  abbrev pub lock_of : Single M → Lock
  lock_of a = record { node = a.node; req = a.passed + 1; place = a.done + 1 }

  -- Its messages of an update, which it sends to itself.
  abbrev pub to_itself : Single M → Body → Sent
  to_itself a body = record { view = a.view; from = a.node; to = a.node; body = body }

  abbrev pub ask : Single M → Update → Sent
  ask a u = to_itself a (Ask (a.passed + 1) u)

  abbrev pub grant : Single M → Update → Sent
  grant a u = to_itself a (Granted (made a u))

  abbrev pub release : Single M → Sent
  release a = to_itself a (Release (a.passed + 1))

  -- The record is logged and applied, and its request isn't finished yet; then it is.
  abbrev pub logged : Single M → Update → Single M
  logged a u = record a {
    registry = (M.apply (made a u) a.registry).0;
    done = a.done + 1;
    last = Some (made a u);
    greatest = a.passed + 1;
  }

  abbrev pub updated : Single M → Update → Single M
  updated a u = record (logged a u) { passed = a.passed + 1 }

  -- Behind the submit, behind the Ask, and behind the Granted. Behind the Release it is at rest again.
  abbrev pub asking : Single M → Update → NodeState M
  asking a u = with_queue a (u ∷ []) None None

  abbrev pub granting : Single M → Update → NodeState M
  granting a u = with_queue (logged a u) (u ∷ []) (Some (lock_of a)) (Some (outcome_of a u))

  abbrev pub releasing : Single M → Update → NodeState M
  releasing a u = with_queue (updated a u) [] (Some (lock_of a)) None

  -- Behind the Granted another update was submitted, before the Release comes.
  abbrev pub following : Single M → Update → Update → NodeState M
  following a u next = with_queue (updated a u) (next ∷ []) (Some (lock_of a)) None
