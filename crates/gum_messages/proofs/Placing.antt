-- Lists whose places are counted from 1.
use Rattle.std.proofs.Common.{◌≡◌, ◌⊎◌, inl, inr, ℕ, zero, suc, ◌+◌, ◌-◌, ◌<◌, ◌≤◌, List, [], ◌∷◌, ◌++◌, length, Some, slice_get, refl, add-one, arith}
use Rattle.gum_messages.specs.Places.{at_place}

pub at_place-above : {A : Type 0} (xs : List A) (k : ℕ) → 0 < k → at_place xs k ≡ slice_get xs (k - 1)
at_place-above xs zero h = absurd (omega arith)
at_place-above xs (suc k) h = let e : suc k - 1 ≡ k = omega arith in rw e refl

pub get_within : {A : Type 0} (xs : List A) (k : ℕ) (x : A) → slice_get xs k ≡ Some x → k < length xs
get_within [] k x e = cc
get_within (y ∷ ys) zero x e = omega arith
get_within (y ∷ ys) (suc k) x e = let h : k < length ys = get_within ys k x e in omega arith

pub get_some : {A : Type 0} (xs : List A) (k : ℕ) → k < length xs → (x : A) × (slice_get xs k ≡ Some x)
get_some [] k h = absurd (omega arith)
get_some (y ∷ ys) zero h = (y, refl)
get_some (y ∷ ys) (suc k) h = get_some ys k (omega arith)

pub get_old : {A : Type 0} (xs : List A) (y : A) (k : ℕ) (x : A) → slice_get xs k ≡ Some x → slice_get (xs ++ y ∷ []) k ≡ Some x
get_old [] y k x e = cc
get_old (z ∷ zs) y zero x e = e
get_old (z ∷ zs) y (suc k) x e = get_old zs y k x e

pub get_new : {A : Type 0} (xs : List A) (y : A) → slice_get (xs ++ y ∷ []) (length xs) ≡ Some y
get_new [] y = refl
get_new (z ∷ zs) y = get_new zs y

pub get_push : {A : Type 0} (xs : List A) (y : A) (k : ℕ) (x : A) → slice_get (xs ++ y ∷ []) k ≡ Some x → (slice_get xs k ≡ Some x) ⊎ ((k ≡ length xs) × (x ≡ y))
get_push [] y zero x e = inr (refl, cc)
get_push [] y (suc k) x e = cc
get_push (z ∷ zs) y zero x e = inl e
get_push (z ∷ zs) y (suc k) x e = elim (get_push zs y k x e) [
  | inl h ↦ inl h
  | inr h ↦ inr (let same : k ≡ length zs = h.0 in omega arith, h.1)
]

-- a thing stands at a place from 1 to the list's length
pub place_within : {A : Type 0} (xs : List A) (k : ℕ) (x : A) → at_place xs k ≡ Some x → (1 ≤ k) × (k ≤ length xs)
place_within xs zero x e = cc
place_within xs (suc k) x e = let h : k < length xs = get_within xs k x e in (omega arith, omega arith)

-- at each of these places there is one
pub place_some : {A : Type 0} (xs : List A) (k : ℕ) → 1 ≤ k → k ≤ length xs → (x : A) × (at_place xs k ≡ Some x)
place_some xs zero h g = absurd (omega arith)
place_some xs (suc k) h g = get_some xs k (omega arith)

-- a longer list has the same at the old places, and the new one behind them
pub place_old : {A : Type 0} (xs : List A) (y : A) (k : ℕ) (x : A) → at_place xs k ≡ Some x → at_place (xs ++ y ∷ []) k ≡ Some x
place_old xs y zero x e = cc
place_old xs y (suc k) x e = get_old xs y k x e

pub place_new : {A : Type 0} (xs : List A) (y : A) → at_place (xs ++ y ∷ []) (length xs + 1) ≡ Some y
place_new xs y = rw add-one (get_new xs y)

pub place_push : {A : Type 0} (xs : List A) (y : A) (k : ℕ) (x : A) → at_place (xs ++ y ∷ []) k ≡ Some x → (at_place xs k ≡ Some x) ⊎ ((k ≡ length xs + 1) × (x ≡ y))
place_push xs y zero x e = cc
place_push xs y (suc k) x e = elim (get_push xs y k x e) [
  | inl h ↦ inl h
  | inr h ↦ inr (let same : k ≡ length xs = h.0 in omega arith, h.1)
]
