-- How much further a script may go, and what the calls that play it come to. Only private clauses cite it.
use Rattle.std.specs.Prelude.{◌≡◌, ◌⊎◌, ℕ, ◌+◌, ◌*◌, ◌^◌, ◌≤◌, List, ◌++◌, length, Option, None, Some, Result, Ok, Err}
use Rattle.std.specs.Global.{Vec}
use Rattle.causes.specs.Writing.{Wrote, WroteSome}
use Rattle.cluster_script.specs.declared.line.Line.{Line}
use Rattle.cluster_script.specs.Lines.{IsLine}
use Rattle.cluster_worlds.specs.Refusing.{not_running, refusal}
use Rattle.cluster_worlds.specs.Worlds.{node_at}
use Rattle.cluster_worlds.specs.declared.bad_event.BadEvent.{BadEvent}
use Rattle.cluster_worlds.specs.declared.event.Event.{Event}
use Rattle.cluster_worlds.specs.declared.told.Told.{Told}
use Rattle.script_text.specs.declared.counts.Counts.{Counts}
use Rattle.script_player.specs.declared.script_fault.ScriptFault.{ScriptFault}
use Rattle.script_player.specs.declared.script_fault.ScriptFault.TheVariants as faults
use Rattle.script_player.specs.declared.replayed.Replayed.{Replayed}
use Rattle.script_player.specs.declared.replayed.Replayed.TheVariants as comes
use Rattle.script_player.specs.declared.stop.Stop.{Stop}
use Rattle.script_player.specs.declared.stop.Stop.TheVariants.{Bad, Memory}
use Rattle.script_player.specs.Lines.{Happens, ShowsNode}
use Rattle.script_player.specs.Playing.{Comes, Play, requests_of}
use Rattle.script_player.specs.Replaying.{ComesOf}
use Rattle.script_player.specs.Runs.{Played}
use Rattle.script_player.specs.Scripts.{IsBad, IsMisplaced, IsRefused, PlaysAt}
use Rattle.script_player.specs.Yields.{Yield, shown}

-- ---- how much further

pub record AreFew (most : ℕ) (counts : Counts) : Type 0 where
  pub order : counts.order ≤ most
  pub acks : counts.acks ≤ most
  pub replies : counts.replies ≤ most
  pub closed : counts.closed ≤ most

-- So many more events may come.
pub record HasSteps (more : ℕ) (p : Play) : Type 0 where
  pub marks : length p.marks ≡ length p.world.pool
  pub steps : p.world.steps + more ≤ 2 ^ 62
  pub counts : AreFew (p.world.steps * 2 ^ 64) p.counts

-- So many more lines may come, of at most 2^32 events each.
pub record HasLines (more : ℕ) (p : Play) : Type 0 where
  pub steps : HasSteps (more * 2 ^ 32) p
  pub requests : (conn : ℕ) → requests_of conn p + more ≤ 2 ^ 31

-- ---- what calls come to

abbrev pub RefusedBy : Option BadEvent → ScriptFault → Type 0
RefusedBy refused (faults.Column column) = ⊥
RefusedBy refused (faults.Event cause) = refused ≡ Some cause

abbrev pub StepsTo : Event → Play → Result (Vec Told) Stop → Play → Type 0
StepsTo event p (Ok told) q = Comes event p told.items q
StepsTo event p (Err (Bad fault)) q = RefusedBy (refusal event p.world) fault
StepsTo event p (Err Memory) q = Unit {0}

-- The text of what happens stands behind that which was there.
abbrev pub Adds : (Yield → Type 0) → List ℕ → List ℕ → Type 0
Adds Comes before now = (y : Yield) × Comes y × (now ≡ before ++ y.text)

abbrev pub HearsTo : {T : Type 0} → Event → Play → List ℕ → Result T Stop → Play → List ℕ → Type 0
HearsTo event p before (Ok done) q now = Adds (λ y. Happens event p y q) before now
HearsTo event p before (Err (Bad fault)) q now = RefusedBy (refusal event p.world) fault
HearsTo event p before (Err Memory) q now = Unit {0}

-- No line of this kind is refused.
abbrev pub AlwaysAdds : {T : Type 0} → (Yield → Type 0) → List ℕ → Result T Stop → List ℕ → Type 0
AlwaysAdds Comes before (Ok done) now = Adds Comes before now
AlwaysAdds Comes before (Err (Bad fault)) now = ⊥
AlwaysAdds Comes before (Err Memory) now = Unit {0}

abbrev pub ShowsTo : ℕ → Play → Result (Vec ℕ) Stop → Type 0
ShowsTo node p (Ok text) = ShowsNode node (node_at node p.world) p (shown text.items) p
ShowsTo node p (Err (Bad fault)) = RefusedBy (not_running node p.world) fault
ShowsTo node p (Err Memory) = Unit {0}

-- The line is out of its place, or refused.
abbrev pub IsUnplayable : Option Play → Line → ScriptFault → Type 0
IsUnplayable stage line fault = (IsMisplaced stage line × (fault ≡ faults.Column 1)) ⊎ IsRefused stage line fault

abbrev pub PlaysTo : Option Play → Line → Result (Vec ℕ) Stop → Option Play → Type 0
PlaysTo stage line (Ok text) next = (y : Yield) × PlaysAt stage line y next × (text.items ≡ y.text)
PlaysTo stage line (Err (Bad fault)) next = IsUnplayable stage line fault
PlaysTo stage line (Err Memory) next = Unit {0}

abbrev pub ReadsTo : Option Play → List ℕ → Result (Vec ℕ) Stop → Option Play → Type 0
ReadsTo stage bytes (Ok text) next = (line : Line) × (y : Yield) × IsLine bytes line × PlaysAt stage line y next × (text.items ≡ y.text)
ReadsTo stage bytes (Err (Bad fault)) next = IsBad stage bytes fault
ReadsTo stage bytes (Err Memory) next = Unit {0}

-- ---- the lines of a script

-- So many more lines may come.
abbrev pub HasRoomFor : ℕ → Option Play → Type 0
HasRoomFor more None = more ≤ 2 ^ 29
HasRoomFor more (Some p) = HasLines more p

-- The line was played, and a front or all of what it prints was written.
abbrev pub IsPlayed : (Yield → Type 0) → List ℕ → Option Play → Option Play → Type 0
IsPlayed Written bytes stage next = (line : Line) × (y : Yield) × IsLine bytes line × PlaysAt stage line y next × Written y

abbrev pub LineTo : {T : Type 0} → Result T Replayed → ℕ → List ℕ → Option Play → Option Play → Option (List ℕ) → Option (List ℕ) → Type 0
LineTo (Ok done) number bytes stage next before now = IsPlayed (λ y. Wrote before now y.text) bytes stage next
LineTo (Err (comes.BadScript line fault)) number bytes stage next before now = (line ≡ number) × IsBad stage bytes fault × (now ≡ before)
LineTo (Err comes.WriteFault) number bytes stage next before now = IsPlayed (λ y. WroteSome before now y.text) bytes stage next
LineTo (Err comes.NoMemory) number bytes stage next before now = now ≡ before
LineTo (Err replayed) number bytes stage next before now = ⊥

abbrev pub LinesTo : {T : Type 0} → Result T Replayed → List (List ℕ) → Option Play → Option (List ℕ) → Option (List ℕ) → Type 0
LinesTo (Ok done) lines stage before now = (y : Yield) × Played lines y stage × Wrote before now y.text
LinesTo (Err comes.Done) lines stage before now = ⊥
LinesTo (Err replayed) lines stage before now = ComesOf replayed lines before now

abbrev pub EndsTo : Replayed → List ℕ → Option (List ℕ) → Option (List ℕ) → Type 0
EndsTo comes.Done text before now = Wrote before now text
EndsTo comes.WriteFault text before now = WroteSome before now text
EndsTo comes.NoMemory text before now = now ≡ before
EndsTo replayed text before now = ⊥
