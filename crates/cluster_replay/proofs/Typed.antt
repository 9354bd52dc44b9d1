-- What was read of each element holds of all of them.
use Rattle.std.proofs.Common.{◌≡◌, ℕ, ◌+◌, ◌<◌, ◌≤◌, ◌^◌, Bool, true, false, List, [], ◌∷◌, length, take, get_or, nat_eq, if◌then◌else◌, subst, arith}
use Rattle.std.specs.Prelude.{All}
use Rattle.std.proofs.lemmas.List.{take_all}
use Rattle.std.proofs.lemmas.List.Elements.{All-head, All-more, All-tail}
use Rattle.gum_messages.specs.declared.member.Member.{Member}
use Rattle.gum_messages.specs.Members.{inc_of}
use Rattle.cluster_replay.specs.Types.{HasLowInc}

pub low_incs : (members : List Member) → All HasLowInc members → (n : ℕ) → inc_of members n < 2 ^ 64
low_incs [] all n = omega arith
low_incs (m ∷ ms) all n = by (nat_eq m.node n) (All-head HasLowInc m ms all) (low_incs ms (All-tail HasLowInc m ms all) n)
  where
    by : (c : Bool) → m.inc < 2 ^ 64 → inc_of ms n < 2 ^ 64 → (if c then m.inc else inc_of ms n) < 2 ^ 64
    by true low rest = low
    by false low rest = rest

pub each_more : {X : Type 0} (P : X → Type 0) (xs : List X) (i : ℕ) (x : X) → i < length xs → x ≡ get_or xs i x → All P (take i xs) → P x → All P (take (i + 1) xs)
each_more P xs i x lt is each next = All-more P xs i x lt each (subst P is next)

pub all_each : {X : Type 0} (P : X → Type 0) (xs : List X) (i : ℕ) → length xs ≤ i → All P (take i xs) → All P xs
all_each P xs i past each = subst (λ (l : List _). All P l) (take_all i xs past) each
