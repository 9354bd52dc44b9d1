-- What is always so of a world stays so over an event at a node.
use Rattle.std.proofs.Common.{◌≡◌, ℕ, ◌+◌, ◌<◌, ◌≤◌, ◌⊎◌, inl, inr, zero, suc, List, [], ◌∷◌, Option, Some, None, get_or, slice_set, refl, sym, ap, ◌∙◌, subst, arith}
use Rattle.std.proofs.lemmas.List.{length-set}
use Rattle.std.proofs.lemmas.Option.{get_or_from_slice_get}
use Rattle.std.specs.Prelude.{slice_get}
use Rattle.std.specs.Option.{option_flatten}
use Rattle.disk_core.specs.Calls.{SameDisk}
use Rattle.disk_core.specs.Views.{DiskView}
use Rattle.cluster_node.proofs.KeepingRoom.{same_disk_has_room}
use Rattle.cluster_node.specs.States.{NodeValue}
use Rattle.cluster_worlds.specs.Worlds.{WorldState, node_at, starts_of}
use Rattle.cluster_replay.specs.Journals.{JournalState}
use Rattle.cluster_replay.specs.Moving.{moved}
use Rattle.cluster_replay.specs.Playing.{Fits, IsSound}
use Rattle.cluster_replay.specs.Slots.{IsIndex, Keeps, KeepsAt}

abbrev Slots : Type 0
Slots = List (Option NodeValue)

-- What stands in a place that was set, and in another one.
pub at_set : (xs : Slots) (i : ℕ) (x : Option NodeValue) (m : NodeValue) (k : ℕ) → option_flatten (slice_get (slice_set xs i x) k) ≡ Some m
    → ((k ≡ i) × (x ≡ Some m)) ⊎ (option_flatten (slice_get xs k) ≡ Some m)
at_set [] i x m k is = inr is
at_set (y ∷ ys) zero x m zero is = inl (refl, is)
at_set (y ∷ ys) zero x m (suc k) is = inr is
at_set (y ∷ ys) (suc i) x m zero is = inr is
at_set (y ∷ ys) (suc i) x m (suc k) is = elim (at_set ys i x m k is) [ inl p ↦ inl (ap suc p.0, p.1) | inr q ↦ inr q ]

-- The disk changed, and keeps its size.
pub fits_again : (node : ℕ) (w : WorldState) (nodes : Slots) (j : JournalState) (d : DiskView) (n : NodeValue) → SameDisk w.disk d → Fits node w n → Fits node (moved nodes j d w) n
fits_again node w nodes j d n disk fits = record {
  number = fits.number;
  room = same_disk_has_room n w.disk d disk fits.room;
  unused = fits.unused;
}

pub fits_kept : (node : ℕ) (w : WorldState) (nodes : Slots) (j : JournalState) (d : DiskView) (n m : NodeValue) → Keeps w.disk n d m → Fits node w n → Fits node (moved nodes j d w) m
fits_kept node w nodes j d n m keeps fits = record {
  number = keeps.same.number ∙ fits.number;
  room = keeps.room fits.room;
  unused = λ conn none. keeps.unused conn (fits.unused conn none);
}

-- The node that stands in a place is the one that was found there.
pub stands : (w : WorldState) (i : ℕ) (x s : Option NodeValue) → IsIndex (Some i) x w.nodes → s ≡ get_or w.nodes i s → s ≡ x
stands w i x s index is = is ∙ get_or_from_slice_get w.nodes i x s index.0

set_at : (w : WorldState) (i : ℕ) (x slot : Option NodeValue) (j : JournalState) (d : DiskView) (m : NodeValue) → IsSound w → slice_get w.nodes i ≡ Some x → KeepsAt w.disk x d slot → slot ≡ Some m
    → Fits (suc i) (moved (slice_set w.nodes i slot) j d w) m
set_at w i None slot j d m sound at keeps is = absurd (subst (λ (y : Option NodeValue). KeepsAt w.disk None d y) is keeps)
set_at w i (Some n) slot j d m sound at keeps is =
    fits_kept (suc i) w (slice_set w.nodes i slot) j d n m (subst (λ (y : Option NodeValue). KeepsAt w.disk (Some n) d y) is keeps) (sound.nodes (suc i) n (ap option_flatten at))

nodes_set : (w : WorldState) (i : ℕ) (x slot : Option NodeValue) (j : JournalState) (d : DiskView) → IsSound w → slice_get w.nodes i ≡ Some x → KeepsAt w.disk x d slot → SameDisk w.disk d
    → (node : ℕ) (m : NodeValue) → node_at node (moved (slice_set w.nodes i slot) j d w) ≡ Some m → Fits node (moved (slice_set w.nodes i slot) j d w) m
nodes_set w i x slot j d sound at keeps disk zero m is = absurd (cc is)
nodes_set w i x slot j d sound at keeps disk (suc k) m is = elim (at_set w.nodes i slot m k is) [
  | inl p ↦ subst (λ (a : ℕ). Fits (suc a) (moved (slice_set w.nodes i slot) j d w) m) (sym p.0) (set_at w i x slot j d m sound at keeps p.1)
  | inr q ↦ fits_again (suc k) w (slice_set w.nodes i slot) j d m disk (sound.nodes (suc k) m q)
]

pub sound_set : (w : WorldState) (i : ℕ) (x slot : Option NodeValue) (j : JournalState) (d : DiskView) → IsSound w → slice_get w.nodes i ≡ Some x → KeepsAt w.disk x d slot → SameDisk w.disk d
    → IsSound (moved (slice_set w.nodes i slot) j d w)
sound_set w i x slot j d sound at keeps disk = record {
  places = length-set w.nodes i slot ∙ sound.places;
  counts = sound.counts;
  counted = sound.counted;
  nodes = nodes_set w i x slot j d sound at keeps disk;
  size = rw disk.size sound.size;
}

-- The same where the place was found in the world as its contracts see it.
pub sound_at : (w q : WorldState) (i : ℕ) (x s slot : Option NodeValue) (j : JournalState) (d : DiskView) → w ≡ q → IsSound w → IsIndex (Some i) x q.nodes → s ≡ get_or w.nodes i s
    → KeepsAt w.disk s d slot → SameDisk w.disk d → IsSound (moved (slice_set w.nodes i slot) j d w)
sound_at w q i x s slot j d same sound index is keeps disk =
    let here : IsIndex (Some i) x w.nodes = subst (λ (v : WorldState). IsIndex (Some i) x v.nodes) (sym same) index in
    let kept : KeepsAt w.disk x d slot = subst (λ (y : Option NodeValue). KeepsAt w.disk y d slot) (stands w i x s here is) keeps in
    sound_set w i x slot j d sound here.0 kept disk

-- No node is changed.
pub sound_disk : (w : WorldState) (steps : ℕ) (d : DiskView) → IsSound w → w.steps ≤ steps → SameDisk w.disk d → IsSound (record w { steps = steps; disk = d })
sound_disk w steps d sound more disk = record {
  places = sound.places;
  counts = sound.counts;
  counted = λ node. let before : _ ≤ w.steps = sound.counted node in omega arith;
  nodes = λ node n is. record {
    number = (sound.nodes node n is).number;
    room = same_disk_has_room n w.disk d disk (sound.nodes node n is).room;
    unused = (sound.nodes node n is).unused;
  };
  size = rw disk.size sound.size;
}

-- It is the same disk.
pub same_disk : (v : DiskView) → SameDisk v v
same_disk v = record { size = refl; tells = refl; faults = omega arith }

gone : (v d : DiskView) (x slot : Option NodeValue) → slot ≡ None → KeepsAt v x d slot
gone v d None slot none = subst (λ (y : Option NodeValue). KeepsAt v None d y) (sym none) tt
gone v d (Some n) slot none = subst (λ (y : Option NodeValue). KeepsAt v (Some n) d y) (sym none) tt

-- A node is gone.
pub sound_gone : (w q : WorldState) (i : ℕ) (x slot : Option NodeValue) (j : JournalState) → w ≡ q → IsSound w → IsIndex (Some i) x q.nodes → slot ≡ None
    → IsSound (moved (slice_set w.nodes i slot) j w.disk w)
sound_gone w q i x slot j same sound index none =
    let here : IsIndex (Some i) x w.nodes = subst (λ (v : WorldState). IsIndex (Some i) x v.nodes) (sym same) index in
    sound_set w i x slot j w.disk sound here.0 (gone w.disk w.disk x slot none) (same_disk w.disk)

pub sound_gone_in : (w q : WorldState) (i : ℕ) (x slot : Option NodeValue) (j : JournalState) (d : DiskView) → w ≡ q → IsSound w → IsIndex (Some i) x q.nodes → slot ≡ None → SameDisk w.disk d
    → IsSound (moved (slice_set w.nodes i slot) j d w)
sound_gone_in w q i x slot j d same sound index none disk =
    let here : IsIndex (Some i) x w.nodes = subst (λ (v : WorldState). IsIndex (Some i) x v.nodes) (sym same) index in
    sound_set w i x slot j d sound here.0 (gone w.disk d x slot none) disk

pub then_same : (v w u : DiskView) → SameDisk v w → SameDisk w u → SameDisk v u
then_same v w u a b = record { size = b.size ∙ a.size; tells = b.tells ∙ a.tells; faults = let first : v.faults ≤ w.faults = a.faults in let second : w.faults ≤ u.faults = b.faults in omega arith }

-- Once an event is counted, no node was started so often.
pub fewer : (w : WorldState) → IsSound w → (node : ℕ) → starts_of node w < w.steps + 1
fewer w sound node = let few : starts_of node w ≤ w.steps = sound.counted node in omega arith

-- The number of the node in a place.
pub number_at : (w : WorldState) (i : ℕ) (n : NodeValue) → IsSound w → IsIndex (Some i) (Some n) w.nodes → n.number ≡ suc i
number_at w i n sound index = (sound.nodes (suc i) n (ap option_flatten index.0)).number
