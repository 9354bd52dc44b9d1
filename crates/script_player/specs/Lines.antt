-- What a line does.
use Rattle.std.specs.Prelude.{◌≡◌, ℕ, zero, suc, ◌+◌, ◌%◌, List, length, Option, None, Some, if◌then◌else◌, ◌==◌}
use Rattle.cluster_node.specs.States.{NodeValue}
use Rattle.cluster_script.specs.declared.line.Line.{Line}
use Rattle.cluster_script.specs.declared.line.Line.TheVariants.{Bind, Cap, Empty, Pick, Pump, Request, Show, Skip, Step}
use Rattle.cluster_script.specs.Requests.{bind_text, request_text}
use Rattle.cluster_worlds.specs.Refusing.{not_running, refusal}
use Rattle.cluster_worlds.specs.Worlds.{node_at}
use Rattle.cluster_worlds.specs.declared.bad_event.BadEvent.{BadEvent}
use Rattle.cluster_worlds.specs.declared.event.Event.{Event}
use Rattle.cluster_worlds.specs.declared.event.Event.TheVariants.{Bytes, Deliver}
use Rattle.cluster_worlds.specs.declared.told.Told.{Told}
use Rattle.script_text.specs.Shows.{shows}
use Rattle.script_player.specs.Marks.{lowest, skipped}
use Rattle.script_player.specs.Playing.{Comes, Play, asked, call_id}
use Rattle.script_player.specs.Yields.{Yield, joined, nothing, shown, told_of}

abbrev pub Rests : Play → Yield → Play → Type 0
Rests p y q = (y ≡ nothing) × (q ≡ p)

-- An event comes, and what is told of it is printed.
abbrev pub Happens : Event → Play → Yield → Play → Type 0
Happens event p y q = (told : List Told) × Comes event p told q × (y ≡ told_of event told)

-- ---- messages

-- The message is delivered, and then the others; where there is none, nothing happens.
abbrev pub DeliversFirst : (Play → Yield → Play → Type 0) → Option ℕ → Play → Yield → Play → Type 0
DeliversFirst Others None p y q = Rests p y q
DeliversFirst Others (Some number) p y q =
    (x : Yield) × (u : Play) × (z : Yield) × Happens (Deliver number) p x u × Others u z q × (y ≡ joined x z)

-- So many times the lowest message that was neither delivered nor skipped is delivered, or until none is left.
unfoldable pub Pumps : ℕ → Play → Yield → Play → Type 0
Pumps zero p y q = Rests p y q
Pumps (suc count) p y q = DeliversFirst (Pumps count) (lowest p.marks) p y q

-- The message that the number picks among so many.
abbrev pub picked : ℕ → ℕ → Option ℕ
picked pick count = if count == 0 then None else Some (1 + pick % count)

-- ---- nodes

abbrev pub ShowsNode : ℕ → Option NodeValue → Play → Yield → Play → Type 0
ShowsNode number None p y q = ⊥
ShowsNode number (Some n) p y q = (y ≡ shown (shows number n)) × (q ≡ p)

-- ---- lines

abbrev pub request_event : ℕ → ℕ → List ℕ → Play → Event
request_event conn opnum stub p = Bytes conn (request_text (call_id conn p) opnum stub)

abbrev pub Plays : Line → Play → Yield → Play → Type 0
Plays Empty p y q = Rests p y q
Plays (Cap cap) p y q = ⊥
Plays (Step event) p y q = Happens event p y q
Plays (Pump count) p y q = Pumps count p y q
Plays (Skip count) p y q = (y ≡ nothing) × (q ≡ record p { marks = skipped count p.marks })
Plays (Pick pick) p y q = DeliversFirst Rests (picked pick (length p.world.pool)) p y q
Plays (Bind conn) p y q = Happens (Bytes conn bind_text) p y q
Plays (Request conn opnum stub) p y q = Happens (request_event conn opnum stub p) (asked conn p) y q
Plays (Show node) p y q = ShowsNode node (node_at node p.world) p y q

-- Why the world refuses the line.
abbrev pub Refuses : Line → Play → BadEvent → Type 0
Refuses (Step event) p cause = refusal event p.world ≡ Some cause
Refuses (Bind conn) p cause = refusal (Bytes conn bind_text) p.world ≡ Some cause
Refuses (Request conn opnum stub) p cause = refusal (request_event conn opnum stub p) p.world ≡ Some cause
Refuses (Show node) p cause = not_running node p.world ≡ Some cause
Refuses line p cause = ⊥
