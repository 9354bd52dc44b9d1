-- What happens at a place is what happens in the world.
use Rattle.std.proofs.Common.{◌≡◌, ℕ, ◌-◌, suc, List, Option, Some, None, Result, Ok, Err, IfOk, get_or, slice_set, refl, sym, ap, ◌∙◌, subst, arith}
use Rattle.disk_core.specs.Crashes.{Crashed}
use Rattle.disk_core.specs.Views.{DiskView}
use Rattle.cluster_rules.specs.declared.effect.Effect.{Effect}
use Rattle.cluster_node.specs.States.{NodeValue}
use Rattle.cluster_worlds.specs.declared.inner.Inner.{Inner}
use Rattle.cluster_worlds.specs.declared.inner.Inner.TheVariants.{Install, Bytes, HangUp, Deliver, Tick, Checkpoint}
use Rattle.cluster_worlds.specs.declared.told.Told.{Told}
use Rattle.cluster_worlds.specs.Happening.{Acts, ActsAt, Dies, DiesIn, Reacts}
use Rattle.cluster_worlds.specs.Telling.{absorbed}
use Rattle.cluster_worlds.specs.Worlds.{WorldState, slot_of}
use Rattle.cluster_replay.specs.Journals.{JournalState, taken_in}
use Rattle.cluster_replay.specs.Moving.{journal_of, moved}
use Rattle.cluster_replay.specs.Playing.{IsSound}
use Rattle.cluster_replay.specs.Slots.{ActsIn, IsIndex, ReactsAt, SlotActs, death_at, scene}
use Rattle.cluster_replay.proofs.Sound.{number_at, stands}

pub ok_by : {A B : Type 0} (r : Result A B) (P Q : A → Type 0) → IfOk r P → ((a : A) → P a → Q a) → IfOk r Q
ok_by (Ok a) P Q p f = f a p
ok_by (Err e) P Q p f = tt

-- The node sees no more of the world than that.
pub seen : (inner : Inner) (w : WorldState) (n : NodeValue) (es : List Effect) (m : NodeValue) (d : DiskView) → Reacts inner (scene w.chain w.pool w.disk) n es m d → Reacts inner w n es m d
seen (Install node view) w n es m d r = r
seen (Bytes conn piece) w n es m d r = r
seen (HangUp conn) w n es m d r = r
seen (Deliver number) w n es m d r = r
seen (Tick node) w n es m d r = r
seen (Checkpoint node) w n es m d r = r

moves : (w : WorldState) (nodes : List (Option NodeValue)) (k : JournalState) (es : List Effect) (m : NodeValue) (d : DiskView) (i : ℕ) (slot : Option NodeValue)
    → i ≡ m.number - 1 → slot ≡ slot_of m → k ≡ taken_in es m (journal_of w) → moved (slice_set w.nodes i slot) k d w ≡ absorbed es m d w
moves w nodes k es m d i slot at slot_is taken = rw (at, slot_is, taken) refl

acts_there : (P Q : NodeValue → List Effect → NodeValue → DiskView → Type 0) (w : WorldState) (i : ℕ) (n : NodeValue) (slot : Option NodeValue) (k : JournalState) (d : DiskView) (told : List Told)
    → n.number ≡ suc i → ((es : List Effect) (m : NodeValue) → P n es m d → Q n es m d)
    → SlotActs P n (journal_of w) told slot k d → Acts Q n w told (moved (slice_set w.nodes i slot) k d w)
acts_there P Q w i n slot k d told number f acts =
    let at : i ≡ acts.after.number - 1 = let is : acts.after.number ≡ suc i = acts.same.number ∙ number in omega arith in
    record {
      effects = acts.effects;
      after = acts.after;
      disk = d;
      event = f acts.effects acts.after acts.event;
      same = acts.same;
      tells = acts.tells;
      world = moves w w.nodes k acts.effects acts.after d i slot at acts.left acts.taken;
    }

acts_by : (P Q : NodeValue → List Effect → NodeValue → DiskView → Type 0) (w : WorldState) (i : ℕ) (x : Option NodeValue) (slot : Option NodeValue) (k : JournalState) (d : DiskView) (told : List Told)
    → IsSound w → IsIndex (Some i) x w.nodes → ((n : NodeValue) (es : List Effect) (m : NodeValue) → P n es m d → Q n es m d)
    → ActsIn P x (journal_of w) told slot k d → ActsAt Q x w told (moved (slice_set w.nodes i slot) k d w)
acts_by P Q w i None slot k d told sound index f acts = absurd acts
acts_by P Q w i (Some n) slot k d told sound index f acts = acts_there P Q w i n slot k d told (number_at w i n sound index) (f n) acts

pub acts_at : (P : WorldState → NodeValue → List Effect → NodeValue → DiskView → Type 0) (Q : WorldState → NodeValue → List Effect → NodeValue → DiskView → Type 0)
    (w q : WorldState) (i : ℕ) (x s slot : Option NodeValue) (k : JournalState) (d : DiskView) (told : List Told)
    → w ≡ q → IsSound w → IsIndex (Some i) x q.nodes → s ≡ get_or w.nodes i s → ((n : NodeValue) (es : List Effect) (m : NodeValue) → P w n es m d → Q w n es m d)
    → ActsIn (P w) s (journal_of w) told slot k d → ActsAt (Q q) x q told (moved (slice_set w.nodes i slot) k d w)
acts_at P Q w q i x s slot k d told same sound index is f acts =
    let here : IsIndex (Some i) x w.nodes = subst (λ (v : WorldState). IsIndex (Some i) x v.nodes) (sym same) index in
    let there : ActsIn (P w) x (journal_of w) told slot k d = subst (λ (y : Option NodeValue). ActsIn (P w) y (journal_of w) told slot k d) (stands w i x s here is) acts in
    subst (λ (v : WorldState). ActsAt (Q v) x v told (moved (slice_set w.nodes i slot) k d w)) same (acts_by (P w) (Q w) w i x slot k d told sound here f there)

-- ---- a death

dies_by : (w : WorldState) (i : ℕ) (x slot : Option NodeValue) (told : List Told) → IsSound w → IsIndex (Some i) x w.nodes → told ≡ death_at x → slot ≡ None
    → Dies x w told (moved (slice_set w.nodes i slot) (journal_of w) w.disk w)
dies_by w i None slot told sound index told_is none = absurd (cc index.1)
dies_by w i (Some n) slot told sound index told_is none =
    let at : i ≡ n.number - 1 = let is : n.number ≡ suc i = number_at w i n sound index in omega arith in
    (told_is, rw (at, none) refl)

pub dies_at : (w q : WorldState) (i : ℕ) (x s slot : Option NodeValue) (told : List Told) → w ≡ q → IsSound w → IsIndex (Some i) x q.nodes → s ≡ get_or w.nodes i s → told ≡ death_at s → slot ≡ None
    → Dies x q told (moved (slice_set w.nodes i slot) (journal_of w) w.disk w)
dies_at w q i x s slot told same sound index is told_is none =
    let here : IsIndex (Some i) x w.nodes = subst (λ (v : WorldState). IsIndex (Some i) x v.nodes) (sym same) index in
    let there : told ≡ death_at x = told_is ∙ ap death_at (stands w i x s here is) in
    subst (λ (v : WorldState). Dies x v told (moved (slice_set w.nodes i slot) (journal_of w) w.disk w)) same (dies_by w i x slot told sound here there none)

dies_in_by : (moment : ℕ) (bytes : List ℕ) (inner : Inner) (w : WorldState) (i : ℕ) (x behind slot : Option NodeValue) (es : List Effect) (d left : DiskView) (told : List Told)
    → IsSound w → IsIndex (Some i) x w.nodes → told ≡ death_at x → slot ≡ None → ReactsAt (Reacts inner w) x es behind d → Crashed d moment bytes left
    → DiesIn moment bytes inner x w told (moved (slice_set w.nodes i slot) (journal_of w) left w)
dies_in_by moment bytes inner w i None behind slot es d left told sound index told_is none reacts crashed = absurd (cc index.1)
dies_in_by moment bytes inner w i (Some n) None slot es d left told sound index told_is none reacts crashed = absurd reacts
dies_in_by moment bytes inner w i (Some n) (Some m) slot es d left told sound index told_is none reacts crashed =
    let at : i ≡ n.number - 1 = let is : n.number ≡ suc i = number_at w i n sound index in omega arith in
    record {
      effects = es;
      after = m;
      disk = d;
      event = reacts;
      left = left;
      crashed = crashed;
      tells = told_is;
      world = rw (at, none) refl;
    }

reacts_seen : (inner : Inner) (w : WorldState) (x behind : Option NodeValue) (es : List Effect) (d : DiskView) → ReactsAt (Reacts inner (scene w.chain w.pool w.disk)) x es behind d → ReactsAt (Reacts inner w) x es behind d
reacts_seen inner w None behind es d r = r
reacts_seen inner w (Some n) None es d r = r
reacts_seen inner w (Some n) (Some m) es d r = seen inner w n es m d r

pub dies_in_at : (moment : ℕ) (bytes : List ℕ) (inner : Inner) (w q : WorldState) (i : ℕ) (x s behind slot : Option NodeValue) (es : List Effect) (d left : DiskView) (told : List Told)
    → w ≡ q → IsSound w → IsIndex (Some i) x q.nodes → s ≡ get_or w.nodes i s → told ≡ death_at s → slot ≡ None → ReactsAt (Reacts inner (scene w.chain w.pool w.disk)) s es behind d → Crashed d moment bytes left
    → DiesIn moment bytes inner x q told (moved (slice_set w.nodes i slot) (journal_of w) left w)
dies_in_at moment bytes inner w q i x s behind slot es d left told same sound index is told_is none reacts crashed =
    let here : IsIndex (Some i) x w.nodes = subst (λ (v : WorldState). IsIndex (Some i) x v.nodes) (sym same) index in
    let s_is : s ≡ x = stands w i x s here is in
    let there : told ≡ death_at x = told_is ∙ ap death_at s_is in
    let react : ReactsAt (Reacts inner w) x es behind d = subst (λ (y : Option NodeValue). ReactsAt (Reacts inner w) y es behind d) s_is (reacts_seen inner w s behind es d reacts) in
    subst (λ (v : WorldState). DiesIn moment bytes inner x v told (moved (slice_set w.nodes i slot) (journal_of w) left w)) same
    (dies_in_by moment bytes inner w i x behind slot es d left told sound here there none react crashed)
