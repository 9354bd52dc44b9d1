-- What is always so of a world stays so where a node starts, a view is declared or a connection begins.
use Rattle.std.proofs.Common.{◌≡◌, ℕ, ◌+◌, ◌≤◌, inl, inr, zero, suc, List, [], ◌∷◌, Some, slice_set, sym, ap, ◌∙◌, subst, arith}
use Rattle.std.proofs.lemmas.List.{length-set}
use Rattle.std.specs.Prelude.{slice_get, unwrap_or}
use Rattle.gum_messages.specs.declared.view.View.{View}
use Rattle.cluster_node.proofs.KeepingNumbers.{start_uses_none}
use Rattle.cluster_node.proofs.KeepingRoom.{start_has_room}
use Rattle.cluster_node.specs.States.{NodeValue, started}
use Rattle.cluster_worlds.specs.Worlds.{WorldState, node_at, starts_of}
use Rattle.cluster_replay.specs.Playing.{Fits, IsSound}
use Rattle.cluster_replay.proofs.Sound.{at_set}

pub sound_chain : (w : WorldState) (chain : List View) → IsSound w → IsSound (record w { chain = chain })
sound_chain w chain sound = record {
  places = sound.places;
  counts = sound.counts;
  counted = sound.counted;
  nodes = λ node n is. record {
    number = (sound.nodes node n is).number;
    room = (sound.nodes node n is).room;
    unused = (sound.nodes node n is).unused;
  };
  size = sound.size;
}

-- ---- a start

count_set : (xs : List ℕ) (i x k bound : ℕ) → x ≤ bound → unwrap_or (slice_get xs k) 0 ≤ bound → unwrap_or (slice_get (slice_set xs i x) k) 0 ≤ bound
count_set [] i x k bound one old = old
count_set (y ∷ ys) zero x zero bound one old = one
count_set (y ∷ ys) zero x (suc k) bound one old = old
count_set (y ∷ ys) (suc i) x zero bound one old = old
count_set (y ∷ ys) (suc i) x (suc k) bound one old = count_set ys i x k bound one old

abbrev with_started : ℕ → NodeValue → ℕ → WorldState → WorldState
with_started i n count w = record w { nodes = slice_set w.nodes i (Some n); starts = slice_set w.starts i count }

counts_set : (w : WorldState) (i count : ℕ) (n : NodeValue) → IsSound w → count ≤ w.steps → (node : ℕ) → starts_of node (with_started i n count w) ≤ w.steps
counts_set w i count n sound few zero = sound.counted zero
counts_set w i count n sound few (suc k) = count_set w.starts i count k w.steps few (sound.counted (suc k))

started_fits : (w : WorldState) (i inc count : ℕ) (n m : NodeValue) → n ≡ started (i + 1) inc → Some n ≡ Some m → Fits (suc i) (with_started i n count w) m
started_fits w i inc count n m is same =
    let it : m ≡ started (i + 1) inc = let e : m ≡ n = cc in e ∙ is in
    let fits : Fits (suc i) (with_started i n count w) (started (i + 1) inc) = record {
      number = omega arith;
      room = start_has_room (i + 1) inc w.disk;
      unused = λ conn none. start_uses_none (i + 1) inc conn;
    } in
    subst (λ (x : NodeValue). Fits (suc i) (with_started i n count w) x) (sym it) fits

nodes_started : (w : WorldState) (i inc count : ℕ) (n : NodeValue) → IsSound w → n ≡ started (i + 1) inc → (node : ℕ) (m : NodeValue) → node_at node (with_started i n count w) ≡ Some m → Fits node (with_started i n count w) m
nodes_started w i inc count n sound is zero m at = absurd (cc at)
nodes_started w i inc count n sound is (suc k) m at = elim (at_set w.nodes i (Some n) m k at) [
  | inl p ↦ subst (λ (a : ℕ). Fits (suc a) (with_started i n count w) m) (sym p.0) (started_fits w i inc count n m is p.1)
  | inr q ↦ record { number = (sound.nodes (suc k) m q).number; room = (sound.nodes (suc k) m q).room; unused = (sound.nodes (suc k) m q).unused }
]

pub sound_start : (w : WorldState) (node i inc count : ℕ) (n : NodeValue) → IsSound w → node ≡ i + 1 → n ≡ started node inc → count ≤ w.steps → IsSound (with_started i n count w)
sound_start w node i inc count n sound at is few =
    let it : n ≡ started (i + 1) inc = is ∙ ap (λ (a : ℕ). started a inc) at in
    record {
      places = length-set w.nodes i (Some n) ∙ sound.places;
      counts = length-set w.starts i count ∙ sound.counts;
      counted = counts_set w i count n sound few;
      nodes = nodes_started w i inc count n sound it;
      size = sound.size;
    }
