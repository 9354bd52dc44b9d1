-- A fact about a choice follows from the fact about each of its branches.
use Rattle.std.proofs.Common.{◌≡◌, Bool, true, false, List, [], ◌∷◌, Option, Some, None, cond, refl}

pub if_cases : {A : Type 0} (P : A → Type 0) (b : Bool) (x y : A) → (b ≡ true → P x) → (b ≡ false → P y) → P (cond b x y)
if_cases P true x y then_ else_ = then_ refl
if_cases P false x y then_ else_ = else_ refl

pub option_cases : {A B : Type 0} (P : B → Type 0) (o : Option A) (x : B) (f : A → B) → (o ≡ None → P x) → ((a : A) → o ≡ Some a → P (f a)) → P (elim o [ None ↦ x | Some a ↦ f a ])
option_cases P None x f none some = none refl
option_cases P (Some a) x f none some = some a refl

pub list_cases : {A B : Type 0} (P : B → Type 0) (l : List A) (x : B) (f : A → List A → B) → (l ≡ [] → P x) → ((a : A) (as_ : List A) → l ≡ a ∷ as_ → P (f a as_)) → P (elim l [ [] ↦ x | a ∷ as_ ↦ f a as_ ])
list_cases P [] x f empty full = empty refl
list_cases P (a ∷ as_) x f empty full = full a as_ refl
