-- A world that is played: what contracts see of it, and what is always so of it.
use Rattle.std.specs.Prelude.{◌≡◌, ℕ, ◌≤◌, Bool, true, List, Option, None, Some, Result, Ok, Err, length, ⊤}
use Rattle.disk_core.specs.Views.{DiskView}
use Rattle.gum_messages.specs.declared.view.View.{View}
use Rattle.cluster_node.specs.States.{HasRoom, NodeValue, client_in}
use Rattle.cluster_worlds.specs.declared.event.Event.{Event}
use Rattle.cluster_worlds.specs.declared.event.Event.TheVariants.{Declare}
use Rattle.cluster_worlds.specs.declared.bad_event.BadEvent.{BadEvent}
use Rattle.cluster_worlds.specs.declared.step_fault.StepFault.{StepFault}
use Rattle.cluster_worlds.specs.declared.step_fault.StepFault.TheVariants as fault
use Rattle.cluster_worlds.specs.declared.told.Told.{Told}
use Rattle.cluster_worlds.specs.Happening.{Does, IsQuiet, with_view}
use Rattle.cluster_worlds.specs.Refusing.{broken_chain, not_started, refusal}
use Rattle.cluster_worlds.specs.Worlds.{WorldState, home_of, node_at, starts_of}
use Rattle.cluster_replay.specs.Journals.{JournalState}

pub record Played : Type 0 where
  pub world : WorldState
  -- Memory ran out, and no further event comes to anything.
  pub failed : Bool

abbrev pub world_of : List (Option NodeValue) → List ℕ → List View → JournalState → List (ℕ × ℕ) → ℕ → DiskView → WorldState
world_of nodes starts chain journal conns steps disk = record {
  nodes = nodes;
  starts = starts;
  chain = chain;
  pool = journal.pool;
  conns = conns;
  order = journal.order;
  acks = journal.acks;
  steps = steps;
  disk = disk;
}

-- ---- what is always so

-- A node has its number, the disk has room for its log, and its connections are among those that ever began.
pub record Fits (node : ℕ) (w : WorldState) (n : NodeValue) : Type 0 where
  pub number : n.number ≡ node
  pub room : HasRoom n w.disk
  pub unused : (conn : ℕ) → home_of conn w ≡ None → client_in conn n ≡ None

pub record IsSound (w : WorldState) : Type 0 where
  pub places : length w.nodes ≡ 16
  pub counts : length w.starts ≡ 16
  pub counted : (node : ℕ) → starts_of node w ≤ w.steps
  pub nodes : (node : ℕ) (n : NodeValue) → node_at node w ≡ Some n → Fits node w n
  pub size : 64 ≤ w.disk.size

-- ---- a step in its parts: whether a view continues the chain is asked when it is declared

abbrev pub refusal_before : Event → WorldState → Option BadEvent
refusal_before (Declare view) w = not_started view.members w
refusal_before event w = refusal event w

abbrev pub admitted : Event → WorldState → WorldState
admitted (Declare view) w = with_view view w
admitted event w = w

-- What is left to do of an event that was admitted.
abbrev pub Follows : Event → WorldState → List Told → WorldState → Type 0
Follows (Declare view) w told u = IsQuiet w told u
Follows event w told u = Does event w told u

-- The disk keeps its size, and whether memory ran out is as it was.
pub record IsInPlace (before after : Played) : Type 0 where
  pub size : after.world.disk.size ≡ before.world.disk.size
  pub works : after.failed ≡ before.failed

abbrev pub map_ok : {A B E : Type 0} → (A → B) → Result A E → Result B E
map_ok f (Ok x) = Ok (f x)
map_ok f (Err e) = Err e

abbrev pub failing : Played → Played
failing p = record p { failed = true }

abbrev pub has_run_out : {A : Type 0} → Result A StepFault → Bool → Bool
has_run_out (Ok told) failed = failed
has_run_out (Err (fault.BadEvent cause)) failed = failed
has_run_out (Err fault.Memory) failed = true

-- A view is declared, unless it doesn't continue the chain.
abbrev pub DeclaresTo : View → Played → Result ⊤ StepFault → Played → Type 0
DeclaresTo view p (Ok ok) q = (broken_chain view p.world ≡ None) × (q ≡ record p { world = with_view view p.world })
DeclaresTo view p (Err (fault.BadEvent cause)) q = (broken_chain view p.world ≡ Some cause) × (q ≡ p)
DeclaresTo view p (Err fault.Memory) q = q ≡ failing p

abbrev pub Admits : Event → Played → Result ⊤ StepFault → Played → Type 0
Admits event p (Ok ok) q = (refusal event p.world ≡ None) × (q ≡ record p { world = admitted event p.world })
Admits event p (Err (fault.BadEvent cause)) q = (refusal event p.world ≡ Some cause) × (q ≡ p)
Admits event p (Err fault.Memory) q = q ≡ failing p
