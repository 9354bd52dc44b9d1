-- What a view is.
use Rattle.std.specs.Prelude.{ℕ, ◌≤◌, ◌<◌, List, [], ◌∷◌}
use Rattle.gum_messages.specs.declared.member.Member.{Member}

pub record ViewState : Type 0 where
  pub number : ℕ
  pub members : List Member

abbrev pub view_of : ℕ → List Member → ViewState
view_of number members = record { number = number; members = members }

-- What stands in the place of a view before the first one.
abbrev pub no_view : ViewState
no_view = view_of 0 []

-- Strictly ascending nodes above `floor`, at most 16, each with an incarnation.
unfoldable pub Ascend : ℕ → List Member → Type 0
Ascend floor [] = Unit {0}
Ascend floor (m ∷ ms) = (floor < m.node) × (m.node ≤ 16) × (1 ≤ m.inc) × Ascend m.node ms

-- Views are numbered from 1 and nodes from 1 to 16.
pub record IsView (v : ViewState) : Type 0 where
  pub numbered : 1 ≤ v.number
  pub ascending : Ascend 0 v.members
