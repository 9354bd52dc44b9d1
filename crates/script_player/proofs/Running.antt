-- The run of the lines that were played, and what holds of its worlds.
use Rattle.std.proofs.Common.{◌≡◌, ℕ, zero, suc, List, [], ◌∷◌, ◌++◌, Option, None, Some, refl, sym, ap, ◌∙◌, subst}
use Rattle.std.specs.Prelude.{length}
use Rattle.cluster_node.specs.States.{NodeValue}
use Rattle.cluster_script.specs.Requests.{bind_text}
use Rattle.cluster_script.specs.declared.line.Line.{Line}
use Rattle.cluster_script.specs.declared.line.Line.TheVariants.{Bind, Cap, Empty, Pick, Pump, Request, Show, Skip, Step}
use Rattle.cluster_worlds.specs.Runs.{IsOpening}
use Rattle.cluster_worlds.specs.Worlds.{WorldState, node_at}
use Rattle.cluster_worlds.specs.declared.event.Event.{Event}
use Rattle.cluster_worlds.specs.declared.event.Event.TheVariants.{Bytes, Deliver}
use Rattle.cluster_worlds.specs.declared.told.Told.{Told}
use Rattle.world_laws.specs.Typed.{RunsTyped}
use Rattle.world_laws.proofs.Orders.{grew}
use Rattle.world_laws.proofs.Promising.{kept_world, safe_world}
use Rattle.world_laws.proofs.Running.{opening_reached, run_reached}
use Rattle.world_answers.proofs.Explaining.{run_explained}
use Rattle.world_answers.proofs.Floors.{run_never_falls}
use Rattle.script_player.specs.Lines.{DeliversFirst, Happens, Plays, Pumps, Rests, ShowsNode, picked, request_event}
use Rattle.script_player.specs.Marks.{lowest}
use Rattle.script_player.specs.Playing.{Play, asked, first_play}
use Rattle.script_player.specs.Runs.{HasRun, IsRun, Played}
use Rattle.script_player.specs.Scripts.{PlaysAll, PlaysAt}
use Rattle.script_player.specs.Yields.{Yield, joined, nothing, shown, told_of}

-- ---- runs

pub run_on : (before behind : List Event) (told told_behind : List (List Told)) (w v u : WorldState) → RunsTyped w before told v → RunsTyped v behind told_behind u → RunsTyped w (before ++ behind) (told ++ told_behind) u
unfolding RunsTyped
run_on [] behind [] told_behind w v u first others = subst (λ (x : WorldState). RunsTyped x behind told_behind u) first others
run_on [] behind (t ∷ ts) told_behind w v u first others = absurd first
run_on (e ∷ es) behind [] told_behind w v u first others = absurd first
run_on (e ∷ es) behind (t ∷ ts) told_behind w v u first others = (first.0, first.1, first.2, first.3, run_on es behind ts told_behind first.0 v u first.4 others)

abbrev RunsAs : Play → Yield → Play → Type 0
RunsAs p y q = RunsTyped p.world y.events y.tolds q.world

none_ran : (w : WorldState) → RunsTyped w [] [] w
unfolding RunsTyped
none_ran w = refl

happened : (event : Event) (p q : Play) (y : Yield) (told : List Told) → y ≡ told_of event told → RunsTyped p.world (event ∷ []) (told ∷ []) q.world → RunsAs p y q
happened event p q y told is runs = subst (λ (z : Yield). RunsAs p z q) (sym is) runs

pub happened_runs : (event : Event) (p q : Play) (y : Yield) → Happens event p y q → RunsAs p y q
unfolding RunsTyped
happened_runs event p q y happens = happened event p q y happens.0 happens.2 (q.world, happens.1.allowed, happens.1.typed, happens.1.steps, refl)

rested : (p q : Play) (y : Yield) → Rests p y q → RunsAs p y q
rested p q y rests = subst (λ (z : Yield). RunsAs p z q) (sym rests.0) (subst (λ (x : Play). RunsTyped p.world [] [] x.world) (sym rests.1) (none_ran p.world))

quiet : (p q : Play) (y : Yield) (text : List ℕ) → y ≡ shown text → q.world ≡ p.world → RunsAs p y q
quiet p q y text is same = subst (λ (z : Yield). RunsAs p z q) (sym is) (subst (λ (w : WorldState). RunsTyped p.world [] [] w) (sym same) (none_ran p.world))

both : (p u q : Play) (x z y : Yield) → y ≡ joined x z → RunsAs p x u → RunsAs u z q → RunsAs p y q
both p u q x z y is first others = subst (λ (v : Yield). RunsAs p v q) (sym is) (run_on x.events z.events x.tolds z.tolds p.world u.world q.world first others)

delivered_first : (Others : Play → Yield → Play → Type 0) (o : Option ℕ) (p q : Play) (y : Yield) → ((u : Play) (z : Yield) → Others u z q → RunsAs u z q) → DeliversFirst Others o p y q → RunsAs p y q
delivered_first Others None p q y others rests = rested p q y rests
delivered_first Others (Some number) p q y others delivers =
    both p delivers.1 q delivers.0 delivers.2 y delivers.5 (happened_runs (Deliver number) p delivers.1 delivers.0 delivers.3) (others delivers.1 delivers.2 delivers.4)

pumped : (count : ℕ) (p q : Play) (y : Yield) → Pumps count p y q → RunsAs p y q
unfolding Pumps
pumped zero p q y rests = rested p q y rests
pumped (suc count) p q y pumps = delivered_first (Pumps count) (lowest p.marks) p q y (λ u z others. pumped count u q z others) pumps

showed : (number : ℕ) (o : Option NodeValue) (p q : Play) (y : Yield) → ShowsNode number o p y q → RunsAs p y q
showed number None p q y shows = absurd shows
showed number (Some n) p q y shows = quiet p q y _ shows.0 (ap (λ (x : Play). x.world) shows.1)

pub line_runs : (line : Line) (p q : Play) (y : Yield) → Plays line p y q → RunsAs p y q
line_runs Empty p q y plays = rested p q y plays
line_runs (Cap cap) p q y plays = absurd plays
line_runs (Step event) p q y plays = happened_runs event p q y plays
line_runs (Pump count) p q y plays = pumped count p q y plays
line_runs (Skip count) p q y plays = quiet p q y [] plays.0 (ap (λ (x : Play). x.world) plays.1)
line_runs (Pick pick) p q y plays = delivered_first Rests (picked pick (length p.world.pool)) p q y (λ u z rests. rested u q z rests) plays
line_runs (Bind conn) p q y plays = happened_runs (Bytes conn bind_text) p q y plays
line_runs (Request conn opnum stub) p q y plays = happened_runs (request_event conn opnum stub p) (asked conn p) q y plays
line_runs (Show node) p q y plays = showed node (node_at node p.world) p q y plays

-- ---- the lines behind the `cap` line

pub record Ran (p : Play) (y : Yield) (end : Option Play) : Type 0 where
  pub last : Play
  pub end_is : end ≡ Some last
  pub runs : RunsAs p y last

at_stage : (p : Play) (o : Option Play) (line : Line) (x : Yield) → PlaysAt (Some p) line x o → Ran p x o
at_stage p o line x plays = record { last = plays.0; end_is = plays.2; runs = line_runs line p plays.0 x plays.1 }

pub all_ran : (lines : List (List ℕ)) (p : Play) (y : Yield) (end : Option Play) → PlaysAll lines (Some p) y end → Ran p y end
unfolding PlaysAll
all_ran [] p y end plays = record { last = p; end_is = plays.1; runs = subst (λ (z : Yield). RunsAs p z p) (sym plays.0) (none_ran p.world) }
all_ran (text ∷ texts) p y end plays =
    let here = at_stage p plays.2 plays.0 plays.1 plays.5 in
    let behind : PlaysAll texts (Some here.last) plays.3 end = subst (λ (o : Option Play). PlaysAll texts o plays.3 end) here.end_is plays.6 in
    let others = all_ran texts here.last plays.3 end behind in
    record { last = others.last; end_is = others.end_is; runs = both p here.last others.last plays.1 plays.3 y plays.7 here.runs others.runs }

-- ---- the promises

pub is_run : (cap : ℕ) (first last : WorldState) (events : List Event) (tolds : List (List Told)) → IsOpening cap first → RunsTyped first events tolds last → IsRun cap first events tolds last
is_run cap first last events tolds opened runs = record {
  opening = opened;
  runs = runs;
  safe = λ w world. safe_world cap w opened.disk.capacity (run_reached cap world.before first world.told_before w opened.disk.capacity (opening_reached cap first opened) world.runs_before);
  kept = λ w world. kept_world cap w opened.disk.capacity (run_reached cap world.before first world.told_before w opened.disk.capacity (opening_reached cap first opened) world.runs_before);
  grew = grew events first tolds last runs;
  explained = λ node inc. run_explained cap first last events tolds node inc opened runs;
  points = λ node inc. run_never_falls cap first last events tolds node inc opened runs;
}

run_to : (y : Yield) (end : Option Play) (last : Play) → end ≡ Some last → (cap : ℕ) (first : WorldState) → IsRun cap first y.events y.tolds last.world → HasRun y end
run_to y end last is cap first run = subst (λ (o : Option Play). HasRun y o) (sym is) (cap, first, run)

line_then : (texts : List (List ℕ)) (line : Line) (x : Yield) (next : Option Play) (z y : Yield) (end : Option Play) → PlaysAt None line x next → PlaysAll texts next z end → y ≡ joined x z
    → ((v : Yield) → PlaysAll texts None v end → HasRun v end) → HasRun y end
line_then texts Empty x next z y end plays others is behind =
    let same : y ≡ z = is ∙ ap (λ (v : Yield). joined v z) plays.0 in
    subst (λ (v : Yield). HasRun v end) (sym same) (behind z (subst (λ (o : Option Play). PlaysAll texts o z end) plays.1 others))
line_then texts (Cap cap) x next z y end plays others is behind =
    let same : y ≡ z = is ∙ ap (λ (v : Yield). joined v z) plays.0 in
    let ran = all_ran texts (first_play plays.1) z end (subst (λ (o : Option Play). PlaysAll texts o z end) plays.3 others) in
    subst (λ (v : Yield). HasRun v end) (sym same) (run_to z end ran.last ran.end_is cap plays.1 (is_run cap plays.1 ran.last.world z.events z.tolds plays.2 ran.runs))
line_then texts (Step event) x next z y end plays others is behind = absurd plays
line_then texts (Pump count) x next z y end plays others is behind = absurd plays
line_then texts (Skip count) x next z y end plays others is behind = absurd plays
line_then texts (Pick pick) x next z y end plays others is behind = absurd plays
line_then texts (Bind conn) x next z y end plays others is behind = absurd plays
line_then texts (Request conn opnum stub) x next z y end plays others is behind = absurd plays
line_then texts (Show node) x next z y end plays others is behind = absurd plays

unbegun_run : (y : Yield) (end : Option Play) → y ≡ nothing → end ≡ None → HasRun y end
unbegun_run y end is none = subst (λ (o : Option Play). HasRun y o) (sym none) is

has_run : (lines : List (List ℕ)) (y : Yield) (end : Option Play) → PlaysAll lines None y end → HasRun y end
unfolding PlaysAll
has_run [] y end plays = unbegun_run y end plays.0 plays.1
has_run (text ∷ texts) y end plays = line_then texts plays.0 plays.1 plays.2 plays.3 y end plays.5 plays.6 plays.7 (λ v others. has_run texts v end others)

pub is_played : (lines : List (List ℕ)) (y : Yield) (end : Option Play) → PlaysAll lines None y end → Played lines y end
is_played lines y end plays = record { plays = plays; run = has_run lines y end plays }
