-- Messages that are delivered one after the other.
use Rattle.std.proofs.Common.{◌≡◌, ◌≢◌, ℕ, zero, suc, ◌+◌, ◌%◌, ◌<◌, ◌≤◌, Bool, List, [], ◌∷◌, ◌++◌, length, Option, None, Some, IsSome, refl, sym, ap, ◌∙◌, subst, arith, append_assoc}
use Rattle.std.specs.Prelude.{Ok, slice_get}
use Rattle.std.proofs.lemmas.List.{append-nil}
use Rattle.gum_messages.specs.Messages.{Sent}
use Rattle.gum_messages.specs.Places.{at_place}
use Rattle.cluster_worlds.specs.Conditions.{IsEvent}
use Rattle.cluster_worlds.specs.Runs.{Steps}
use Rattle.cluster_worlds.specs.Worlds.{WorldState}
use Rattle.cluster_worlds.specs.declared.event.Event.{Event}
use Rattle.cluster_worlds.specs.declared.event.Event.TheVariants.{Deliver}
use Rattle.cluster_worlds.specs.declared.told.Told.{Told}
use Rattle.world_laws.specs.Typed.{IsTypedEvent}
use Rattle.script_player.proofs.Marking.{lowest_within}
use Rattle.script_player.specs.Bounds.{Adds, HasSteps}
use Rattle.script_player.specs.Lines.{DeliversFirst, Happens, Pumps, Rests, picked}
use Rattle.script_player.specs.Marks.{lowest}
use Rattle.script_player.specs.Playing.{Comes, Play, in_world, noted}
use Rattle.script_player.specs.Yields.{Yield, joined, nothing}

pub came : (event : Event) (p q : Play) (told : List Told) (w : WorldState) → IsEvent event → IsTypedEvent event → Steps event p.world (Ok told) w → q ≡ noted event told (in_world w p) → Comes event p told q
came event p q told w allowed typed steps is =
    subst (λ (x : Play). Comes event p told x) (sym is) (record { allowed = allowed; typed = typed; steps = steps; after = refl })

-- ---- parts

pub joined_behind : (x y z : Yield) → joined (joined x y) z ≡ joined x (joined y z)
joined_behind x y z = rw (append_assoc x.events y.events z.events, append_assoc x.tolds y.tolds z.tolds, append_assoc x.text y.text z.text) refl

pub joined_nothing : (x : Yield) → joined x nothing ≡ x
joined_nothing x = rw (append-nil x.events, append-nil x.tolds, append-nil x.text) refl

-- ---- which messages there are

some_within : {A : Type 0} → (xs : List A) (k : ℕ) → k < length xs → IsSome (slice_get xs k)
some_within [] k less = absurd (omega (arith, less))
some_within (x ∷ xs) zero less = refl
some_within (x ∷ xs) (suc k) less = some_within xs k (omega (arith, less))

pub is_sent : (pool : List Sent) (number k : ℕ) → number ≡ suc k → k < length pool → IsSome (at_place pool number)
is_sent pool number k is less = rw is (some_within pool k less)

pub picked_sent : (pool : List Sent) (pick count : ℕ) → count ≡ length pool → count ≢ 0 → IsSome (at_place pool (1 + pick % count))
picked_sent pool pick count is some =
    let less : pick % count < count = grind arith in
    is_sent pool (1 + pick % count) (pick % count) (omega arith) (omega (arith, less, is))

pub none_picked : (pick : ℕ) (p : Play) (text : List ℕ) → length p.world.pool ≡ 0 → Adds (λ y. DeliversFirst Rests (picked pick (length p.world.pool)) p y p) text text
none_picked pick p text none = rw none (nothing, (refl, refl), sym (append-nil text))

pub lowest_sent : (marks : List Bool) (pool : List Sent) (number : ℕ) → length marks ≡ length pool → lowest marks ≡ Some number → IsSome (at_place pool number)
lowest_sent marks pool number same is = let at = lowest_within marks number is in is_sent pool number at.0 at.1 (let less = at.2 in omega (arith, less, same))

-- ---- pumping

pub none_pumped : (count : ℕ) (p : Play) → lowest p.marks ≡ None → Pumps count p nothing p
unfolding Pumps
none_pumped zero p none = (refl, refl)
none_pumped (suc count) p none = subst (λ (o : Option ℕ). DeliversFirst (Pumps count) o p nothing p) (sym none) (refl, refl)

pub one_pumped : (count number : ℕ) (p u q : Play) (x y : Yield) → lowest p.marks ≡ Some number → Happens (Deliver number) p x u → Pumps count u y q → Pumps (suc count) p (joined x y) q
unfolding Pumps
one_pumped count number p u q x y is happens others =
    subst (λ (o : Option ℕ). DeliversFirst (Pumps count) o p (joined x y) q) (sym is) (x, u, y, happens, others, refl)

-- What was pumped so far, and what completes it.
pub record IsPumping (count left : ℕ) (first now : Play) (before text : List ℕ) : Type 0 where
  pub came : Yield
  pub text_is : text ≡ before ++ came.text
  pub completes : (y : Yield) (q : Play) → Pumps left now y q → Pumps count first (joined came y) q

pub pump_begins : (count left : ℕ) (p : Play) (text : List ℕ) → left ≡ count → IsPumping count left p p text text
pump_begins count left p text is = record {
  came = nothing;
  text_is = sym (append-nil text);
  completes = λ y q pumps. subst (λ (n : ℕ). Pumps n p y q) is pumps;
}

pub pump_goes_on : (count left less number : ℕ) (first p u : Play) (before text now : List ℕ) → IsPumping count left first p before text → left ≡ suc less → lowest p.marks ≡ Some number
    → Adds (λ y. Happens (Deliver number) p y u) text now → IsPumping count less first u before now
pump_goes_on count left less number first p u before text now pumping is low added = record {
  came = joined pumping.came added.0;
  text_is = added.2 ∙ (ap (λ (t : List ℕ). t ++ added.0.text) pumping.text_is ∙ append_assoc before pumping.came.text added.0.text);
  completes = λ y q pumps.
      let more : Pumps left p (joined added.0 y) q = subst (λ (n : ℕ). Pumps n p (joined added.0 y) q) (sym is) (one_pumped less number p u q added.0 y low added.1 pumps) in
      subst (λ (z : Yield). Pumps count first z q) (sym (joined_behind pumping.came added.0 y)) (pumping.completes (joined added.0 y) q more);
}

pub pump_ends : (count left : ℕ) (first p : Play) (before text : List ℕ) → IsPumping count left first p before text → Pumps left p nothing p → Adds (λ y. Pumps count first y p) before text
pump_ends count left first p before text pumping none =
    (pumping.came, subst (λ (z : Yield). Pumps count first z p) (joined_nothing pumping.came) (pumping.completes nothing p none), pumping.text_is)

pub none_to_pump : (left : ℕ) (p : Play) → left ≡ 0 → Pumps left p nothing p
unfolding Pumps
none_to_pump left p is = subst (λ (n : ℕ). Pumps n p nothing p) (sym is) (refl, refl)

-- ---- how much further

pub fewer_steps : (more fewer : ℕ) (p : Play) → fewer ≤ more → HasSteps more p → HasSteps fewer p
fewer_steps more fewer p less room = record { marks = room.marks; steps = let s = room.steps in omega (arith, s, less); counts = room.counts }
