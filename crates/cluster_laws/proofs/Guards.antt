-- Guards that hold, and those that don't: the steps from facts to the Booleans of the rules.
use Rattle.std.proofs.Common.{◌≡◌, ◌⊎◌, inl, inr, ℕ, ◌<◌, ◌≤◌, Bool, true, false, ◌&&◌, ◌||◌, nat_eq, nat_le, nat_lt, refl, arith}

pub both : (a b : Bool) → a ≡ true → b ≡ true → (a && b) ≡ true
both true true p q = refl
both false b p q = cc
both true false p q = cc

pub eq_is : (a b : ℕ) → a ≡ b → nat_eq a b ≡ true
eq_is a b e = grind arith

pub eq_not : (a b : ℕ) → a < b → nat_eq a b ≡ false
eq_not a b e = grind arith

pub lt_is : (a b : ℕ) → a < b → nat_lt a b ≡ true
lt_is a b e = grind arith

pub le_is : (a b : ℕ) → a ≤ b → nat_le a b ≡ true
le_is a b e = grind arith

pub lt_not : (a b : ℕ) → a ≡ b → nat_lt a b ≡ false
lt_not a b e = grind arith

pub or_left : (a b : Bool) → a ≡ true → (a || b) ≡ true
or_left true b e = refl
or_left false b e = cc

pub or_right : (a b : Bool) → b ≡ true → (a || b) ≡ true
or_right true b e = refl
or_right false b e = e

pub or_either : (a b : Bool) → (a || b) ≡ true → (a ≡ true) ⊎ (b ≡ true)
or_either true b e = inl refl
or_either false b e = inr e
