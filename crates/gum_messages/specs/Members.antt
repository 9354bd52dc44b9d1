-- The members of a view: who has which incarnation, who is the locker, and in what order a record spreads.
use Rattle.std.specs.Prelude.{ℕ, Bool, false, ◌&&◌, List, [], ◌∷◌, nat_eq, nat_lt, if◌then◌else◌}
use Rattle.std.specs.List.{position_or_len}
use Rattle.gum_messages.specs.declared.member.Member.{Member}

-- The incarnation with which a node is a member; 0 where it is none, for incarnations count from 1.
abbrev pub inc_of : List Member → ℕ → ℕ
inc_of [] node = 0
inc_of (m ∷ ms) node = if nat_eq m.node node then m.inc else inc_of ms node

-- This incarnation of the node is a member.
abbrev pub is_member : List Member → ℕ → ℕ → Bool
is_member ms node inc = nat_lt 0 inc && nat_eq (inc_of ms node) inc

-- The locker is the lowest member, which stands first; 0 where there is none, for nodes count from 1.
abbrev pub locker_of : List Member → ℕ
locker_of [] = 0
locker_of (m ∷ ms) = m.node

abbrev pub is_locker : List Member → ℕ → Bool
is_locker [] node = false
is_locker (m ∷ ms) node = nat_eq m.node node

-- The spreading order: the members behind the locker, ascending.
abbrev pub spread_of : List Member → List Member
spread_of [] = []
spread_of (m ∷ ms) = ms

-- Where a list has one entry a member, in their order: the index of a node's entry, the list's length where it is no member.
abbrev pub index_of : List Member → ℕ → ℕ
index_of ms node = position_or_len (λ m. nat_eq m.node node) ms
