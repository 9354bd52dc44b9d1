-- The chain of views: all that were declared, in their order.
use Rattle.std.specs.Prelude.{◌≡◌, ◌≢◌, ℕ, ◌+◌, ◌-◌, ◌<◌, ◌≤◌, Bool, not, ◌&&◌, ◌||◌, List, [], ◌∷◌, length, Option, Some, None, nat_eq, nat_lt, if◌then◌else◌, slice_get, find}
use Rattle.std.specs.List.{list_any}
use Rattle.gum_messages.specs.declared.member.Member.{Member}
use Rattle.gum_messages.specs.declared.view.View.{View}
use Rattle.gum_messages.specs.Members.{inc_of}
use Rattle.gum_messages.specs.Places.{at_place}
use Rattle.view_reconcile.specs.declared.chain_fault.ChainFault.{ChainFault}
use Rattle.view_reconcile.specs.declared.chain_fault.ChainFault.TheVariants.{NotNext, Empty, Returned}

-- The view of a number.
abbrev pub view_in : List View → ℕ → Option View
view_in chain number = at_place chain number

pub record IsChain (chain : List View) : Type 0 where
  -- The views are numbered from 1, and none is empty.
  pub numbered : (a : ℕ) (v : View) → view_in chain a ≡ Some v → v.number ≡ a
  pub peopled : (a : ℕ) (v : View) → view_in chain a ≡ Some v → v.members ≢ []
  -- Each incarnation stands in one unbroken run of views.
  pub unbroken : (a b c : ℕ) (u v w : View) (node inc : ℕ) → view_in chain a ≡ Some u → view_in chain b ≡ Some v → view_in chain c ≡ Some w → a ≤ b → b ≤ c
      → 0 < inc → inc_of u.members node ≡ inc → inc_of w.members node ≡ inc → inc_of v.members node ≡ inc
  -- The incarnations of a node never fall.
  pub rising : (a b : ℕ) (u v : View) (node : ℕ) → view_in chain a ≡ Some u → view_in chain b ≡ Some v → a ≤ b → 0 < inc_of v.members node
      → inc_of u.members node ≤ inc_of v.members node

-- The members of the last view.
abbrev pub last_members : List View → List Member
last_members chain = elim (slice_get chain (length chain - 1)) [ None ↦ [] | Some v ↦ v.members ]

-- The member stood in a view of the chain.
abbrev pub has_stood : List View → Member → Bool
has_stood chain m = list_any (λ v. nat_eq (inc_of v.members m.node) m.inc) chain

-- It stood in one, and not in the last.
abbrev pub has_left : List View → Member → Bool
has_left chain m = has_stood chain m && not (nat_eq (inc_of (last_members chain) m.node) m.inc)

-- Its node stood in a view of the chain with a greater incarnation.
abbrev pub is_outdated : List View → Member → Bool
is_outdated chain m = list_any (λ v. nat_lt m.inc (inc_of v.members m.node)) chain

abbrev pub has_returned : List View → Member → Bool
has_returned chain m = has_left chain m || is_outdated chain m

abbrev pub returned : Option Member → Option ChainFault
returned None = None
returned (Some m) = Some (Returned m.node m.inc)

-- Why a view doesn't continue a chain: the first fault in their order.
abbrev pub fault_of : List View → View → Option ChainFault
fault_of chain v =
    if not (nat_eq v.number (length chain + 1)) then Some NotNext
    else elim v.members [
      | [] ↦ Some Empty
      | m ∷ ms ↦ returned (find (has_returned chain) (m ∷ ms))
    ]
