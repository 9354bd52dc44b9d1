-- Rounds one after the other.
use Rattle.std.proofs.Common.{◌≡◌, ℕ, suc, ◌+◌, ◌-◌, ◌≤◌, ◌<◌, List, [], ◌++◌, append_assoc, arith, sym, ◌∙◌, refl}
use Rattle.std.proofs.lemmas.List.{append-nil}
use Rattle.script_generator.specs.declared.cluster.Cluster.{Cluster}
use Rattle.script_generator.specs.Rounds.{round, rounds}

first_of : (left number x : ℕ) (c : Cluster) (front : List ℕ)
    → front ++ rounds (suc left) number c x ≡ (front ++ (round number c x).lines) ++ rounds left (number + 1) (round number c x).cluster (round number c x).x
unfolding rounds
first_of left number x c front = sym (append_assoc front (round number c x).lines (rounds left (number + 1) (round number c x).cluster (round number c x).x))

-- The next round is written.
pub rounds_more : (front all : List ℕ) (count index x : ℕ) (c : Cluster) → index < count → front ++ rounds (count - index) (index + 1) c x ≡ all
    → (front ++ (round (index + 1) c x).lines) ++ rounds (count - (index + 1)) (index + 1 + 1) (round (index + 1) c x).cluster (round (index + 1) c x).x ≡ all
rounds_more front all count index x c less before =
    let left : count - index ≡ suc (count - (index + 1)) = omega (arith, less) in
    sym (first_of (count - (index + 1)) (index + 1) x c front) ∙ rw left at before

nothing_left : (number x : ℕ) (c : Cluster) → rounds 0 number c x ≡ []
unfolding rounds
nothing_left number x c = refl

pub rounds_done : (front all : List ℕ) (count index x : ℕ) (c : Cluster) → count ≤ index → front ++ rounds (count - index) (index + 1) c x ≡ all → front ≡ all
rounds_done front all count index x c done before =
    let left : count - index ≡ 0 = omega (arith, done) in
    sym (append-nil front) ∙ rw (left, nothing_left (index + 1) x c) at before
