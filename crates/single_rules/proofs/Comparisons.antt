-- The comparisons that the rules of a node alone make, as they come out.
use Rattle.std.proofs.Common.{◌≡◌, ℕ, ◌+◌, ◌<◌, ◌≤◌, true, false, nat_eq, nat_lt, arith}
use Rattle.cluster_rules.specs.Machines.{Machine}
use Rattle.single_rules.specs.Single.{IsSound, Single}

pub same : (n : ℕ) → nat_eq n n ≡ true
same n = grind arith

pub less : (a b : ℕ) → a < b → nat_lt a b ≡ true
less a b l = grind arith

pub not_less : (a b : ℕ) → b ≤ a → nat_lt a b ≡ false
not_less a b l = grind arith

module _ {M : Machine} where
  -- It is a member of its view.
  pub is_member : (a : Single M) → IsSound a → nat_lt 0 a.inc ≡ true
  is_member a s = less 0 a.inc s.inc

  -- Its next request wasn't logged yet.
  pub is_new : (a : Single M) → IsSound a → nat_lt a.greatest (a.passed + 1) ≡ true
  is_new a s = less a.greatest (a.passed + 1) (let g = s.greatest in omega arith)
