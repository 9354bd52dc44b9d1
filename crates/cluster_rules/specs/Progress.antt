-- Progress: what a world can still come to, where messages get through, the disk answers and nobody dies, and what is
-- not taken back.
use Rattle.std.specs.Prelude.{◌≡◌, ◌⊎◌, ℕ, ◌+◌, ◌<◌, ◌≤◌, Bool, true, false, ◌&&◌, List, [], ◌∷◌, ◌++◌, length, Option, Some, None, nat_lt}
use Rattle.std.specs.List.{list_all}
use Rattle.gum_messages.specs.declared.member.Member.{Member}
use Rattle.gum_messages.specs.declared.view.View.{View}
use Rattle.gum_messages.specs.Members.{inc_of}
use Rattle.gum_messages.specs.Places.{at_place}
use Rattle.update_records.specs.Entry.{Entry}
use Rattle.update_records.specs.Grammar.{last_place}
use Rattle.view_reconcile.specs.Chains.{view_in}
use Rattle.view_reconcile.specs.Joining as joining
use Rattle.cluster_rules.specs.Machines.{Machine}
use Rattle.cluster_rules.specs.Nodes.{NodeState, done_of, number_of}
use Rattle.cluster_rules.specs.Updates.{Written}
use Rattle.cluster_rules.specs.Worlds.{Deliver, Event, Tick, World, happens, run}

-- A message is delivered, where the log takes the record; a node repeats what it waits for.
abbrev pub goes_on : Event → Bool
goes_on e = elim e [ Deliver k answer ↦ elim answer [ Written ↦ true | _ ↦ false ] | Tick n ↦ true | _ ↦ false ]

-- The same, of messages behind the first so many alone: what was sent before may all be lost.
abbrev pub goes_on_after : ℕ → Event → Bool
goes_on_after sent e = goes_on e && elim e [ Deliver k answer ↦ nat_lt sent k | _ ↦ true ]

-- A member of a view runs in it.
pub record Runs {M : Machine} (w : World M) (v : View) (n : ℕ) (x : NodeState M) : Type 0 where
  pub node : w.nodes n ≡ Some x
  pub inc : x.join.inc ≡ inc_of v.members n
  pub view : x.join.view ≡ v

-- A declared view stands: it is the last one that claimed the log, and each of its members runs in it.
pub record Standing {M : Machine} (w : World M) (v : View) : Type 0 where
  pub declared : view_in w.chain v.number ≡ Some v
  pub held : w.log.held ≡ v.number
  pub member : (n : ℕ) → 0 < inc_of v.members n → (x : NodeState M) × Runs w v n x

-- How many requests its members have queued; the log has a place for each.
abbrev pub queue_at : {M : Machine} → World M → ℕ → ℕ
queue_at w n = elim (w.nodes n) [ None ↦ 0 | Some x ↦ length x.core.queue ]

abbrev pub waiting : {M : Machine} → World M → List Member → ℕ
waiting w [] = 0
waiting w (m ∷ ms) = queue_at w m.node + waiting w ms

abbrev pub has_room : {M : Machine} → World M → View → Type 0
has_room w v = length w.log.order + waiting w v.members ≤ last_place

-- A request of an incarnation has its record in the order, and an acknowledgement at its place.
pub record Acknowledged {M : Machine} (w : World M) (n i q : ℕ) : Type 0 where
  pub record_ : Entry
  pub stands : at_place w.log.order record_.place ≡ Some record_
  pub node : record_.id.node ≡ n
  pub inc : record_.id.inc ≡ i
  pub req : record_.id.req ≡ q
  pub ack : ℕ
  pub view : ℕ
  pub acked : at_place w.acks ack ≡ Some (view, record_.place)

-- A member of a view at rest: open, with nothing queued and no lock.
pub record Rests {M : Machine} (w : World M) (v : View) (n : ℕ) : Type 0 where
  pub state : NodeState M
  pub runs : Runs w v n state
  pub open_ : joining.is_open state.join ≡ true
  pub queue : state.core.queue ≡ []
  pub lock : state.core.lock ≡ None

-- All is done in a view: its members rest, and each update that one of them ever took is acknowledged.
pub record Served {M : Machine} (w : World M) (v : View) : Type 0 where
  pub rests : (n : ℕ) → 0 < inc_of v.members n → Rests w v n
  pub acked : (n q : ℕ) → 0 < inc_of v.members n → 1 ≤ q → q ≤ length (w.requests n (inc_of v.members n)) → Acknowledged w n (inc_of v.members n) q

-- There are events of a kind after which something holds.
pub record Leads {M : Machine} (kind : Event → Bool) (w : World M) (Q : World M → Type 0) : Type 0 where
  pub events : List Event
  pub going : list_all kind events ≡ true
  pub ends : Q (run events w)

-- No reachable world is stuck: where a view stands, ticks and deliveries alone serve each request, even if every message
-- that is under way is lost. What still has to be heard is sent again.
abbrev pub Unstuck : {M : Machine} → World M → Type 0
Unstuck w = (v : View) → Standing w v → has_room w v → Leads (goes_on_after (length w.pool)) w (λ u. Served u v)

-- A node pulls on: what it had is the beginning of what it has.
pub record PullsOn {M : Machine} (x y : NodeState M) (got : ℕ) : Type 0 where
  pub more : List ℕ
  pub count : joining.pulled_bytes y.join ≡ Some (got + length more)
  pub bytes : y.bytes ≡ x.bytes ++ more

-- A node goes on in its view: nothing that it had is taken back.
pub record Advances {M : Machine} (x y : NodeState M) : Type 0 where
  pub view : y.join.view ≡ x.join.view
  pub records : done_of x ≤ done_of y
  -- What it pulled stays until it is ready.
  pub pulled : (got : ℕ) → joining.pulled_bytes x.join ≡ Some got → (joining.is_ready y.join ≡ true) ⊎ PullsOn x y got
  pub ready : joining.is_ready x.join ≡ true → joining.is_ready y.join ≡ true
  pub marks : (m : ℕ) → joining.is_marked x.join m ≡ true → joining.is_marked y.join m ≡ true
  pub opened : joining.is_open x.join ≡ true → joining.is_open y.join ≡ true
  -- A request leaves the queue only where it is finished.
  pub finished : x.core.passed ≤ y.core.passed
  pub queued : y.core.passed + length y.core.queue ≡ x.core.passed + length x.core.queue

-- A node goes on, or it stops since a later view has claimed the log.
abbrev pub Onward : {M : Machine} → ℕ → NodeState M → Option (NodeState M) → Type 0
Onward {M} held x after = ((y : NodeState M) × (after ≡ Some y) × Advances x y) ⊎ ((after ≡ None) × (number_of x < held))

-- Progress isn't taken back where a message is delivered or a node ticks.
abbrev pub Monotone : {M : Machine} → World M → Type 0
Monotone {M} w = (e : Event) (n : ℕ) (x : NodeState M) → goes_on e ≡ true → w.nodes n ≡ Some x → Onward w.log.held x ((happens w e).nodes n)
