-- What strictly ascending nodes give.
use Rattle.std.proofs.Common.{◌≡◌, ℕ, ◌+◌, ◌≤◌, ◌<◌, List, [], ◌∷◌, length, drop, get_or, slice_index_or, All, subst, sym, arith}
use Rattle.std.proofs.lemmas.List.{drop_more, drop_all}
use Rattle.std.proofs.lemmas.List.Elements.{All-cons, All-nil}
use Rattle.gum_messages.specs.declared.member.Member.{Member}
use Rattle.gum_messages.specs.Views.{Ascend}

-- each node is above the floor
pub above_floor : (floor : ℕ) (ms : List Member) → Ascend floor ms → All (λ m. floor < m.node) ms
unfolding Ascend
above_floor floor [] h = All-nil (λ m. floor < m.node)
above_floor floor (m ∷ ms) h = All-cons (λ m. floor < m.node) m ms h.0 (λ k d below. let above : m.node < _ = above_floor m.node ms h.3 k d below in omega arith)

pub room_above : (floor : ℕ) (ms : List Member) → floor ≤ 16 → Ascend floor ms → floor + length ms ≤ 16
unfolding Ascend
room_above floor [] low h = omega arith
room_above floor (m ∷ ms) low h = let rest : m.node + length ms ≤ 16 = room_above m.node ms h.1 h.3 in omega arith

-- there are at most 16 nodes
pub at_most_sixteen : (ms : List Member) → Ascend 0 ms → length ms ≤ 16
at_most_sixteen ms h = let all : 0 + length ms ≤ 16 = room_above 0 ms (omega arith) h in omega arith

-- the first is the lowest
pub first_is_lowest : (ms : List Member) (d : Member) → Ascend 0 ms → All (λ m. (slice_index_or ms 0 d).node ≤ m.node) ms
unfolding Ascend
first_is_lowest [] d h = All-nil (λ m. d.node ≤ m.node)
first_is_lowest (m ∷ ms) d h = All-cons (λ x. m.node ≤ x.node) m ms (omega arith) (λ k e below. let above : m.node < (slice_index_or ms k e).node = above_floor m.node ms h.3 k e below in omega arith)

-- what is left of a list decides on the whole
pub record Decide (whole : List Member) (floor : ℕ) (left : List Member) : Type 0 where
  pub enough : Ascend floor left → Ascend 0 whole
  pub needed : Ascend 0 whole → Ascend floor left

pub decide_at_end : (whole : List Member) (floor i : ℕ) → length whole ≤ i → Decide whole floor (drop i whole) → Ascend 0 whole
unfolding Ascend
decide_at_end whole floor i end d =
    let P : List Member → Type 0 = λ left. Ascend floor left in
    d.enough (subst P (sym (drop_all i whole end)) tt)

pub decide_next : (whole : List Member) (floor i : ℕ) (d : Member) → i < length whole → floor < (get_or whole i d).node → (get_or whole i d).node ≤ 16 → 1 ≤ (get_or whole i d).inc → Decide whole floor (drop i whole) → Decide whole (get_or whole i d).node (drop (i + 1) whole)
unfolding Ascend
decide_next whole floor i d within above below started so_far =
    let split : drop i whole ≡ get_or whole i d ∷ drop (i + 1) whole = drop_more whole i d within in
    let P : List Member → Type 0 = λ left. Ascend floor left in
    record {
      enough = λ h. so_far.enough (subst P (sym split) (above, below, started, h));
      needed = λ h. (subst P split (so_far.needed h)).3;
    }

pub decide_refused : (whole : List Member) (floor i : ℕ) (d : Member) → i < length whole → Decide whole floor (drop i whole) → Ascend 0 whole → (floor < (get_or whole i d).node) × ((get_or whole i d).node ≤ 16) × (1 ≤ (get_or whole i d).inc)
unfolding Ascend
decide_refused whole floor i d within so_far h =
    let split : drop i whole ≡ get_or whole i d ∷ drop (i + 1) whole = drop_more whole i d within in
    let P : List Member → Type 0 = λ left. Ascend floor left in
    let all = subst P split (so_far.needed h) in
    (all.0, all.1, all.2)
