-- An element of a list between the others, and the parts of two lists one after the other.
use Rattle.std.proofs.Common.{◌≡◌, ℕ, suc, zero, ◌-◌, ◌<◌, List, [], ◌∷◌, ◌++◌, length, get_or, take, drop, set, refl, sym, ap, ◌∙◌, arith}

pub get_split : {X : Type 0} (xs : List X) (i : ℕ) (x : X) → i < length xs → x ≡ get_or xs i x → xs ≡ take i xs ++ x ∷ drop (suc i) xs
get_split [] i x lt is = absurd (omega arith)
get_split (y ∷ ys) zero x lt is = ap (λ z. z ∷ ys) (sym is)
get_split (y ∷ ys) (suc i) x lt is = ap (λ l. y ∷ l) (get_split ys i x (omega arith) is)

pub set_split : {X : Type 0} (xs : List X) (i : ℕ) (x : X) → i < length xs → set xs i x ≡ take i xs ++ x ∷ drop (suc i) xs
set_split [] i x lt = absurd (omega arith)
set_split (y ∷ ys) zero x lt = refl
set_split (y ∷ ys) (suc i) x lt = ap (λ l. y ∷ l) (set_split ys i x (omega arith))

pub take_drop : {X : Type 0} (i : ℕ) (xs : List X) → take i xs ++ drop i xs ≡ xs
take_drop zero xs = refl
take_drop (suc i) [] = refl
take_drop (suc i) (x ∷ xs) = ap (λ l. x ∷ l) (take_drop i xs)

pub take_append : {X : Type 0} (n : ℕ) (xs ys : List X) → take n (xs ++ ys) ≡ take n xs ++ take (n - length xs) ys
take_append zero [] ys = refl
take_append (suc n) [] ys = let all : suc n ≡ suc n - 0 = omega arith in ap (λ k. take k ys) all
take_append zero (x ∷ xs) ys = let none : 0 ≡ 0 - suc (length xs) = omega arith in ap (λ k. take k ys) none
take_append (suc n) (x ∷ xs) ys = let less : n - length xs ≡ suc n - suc (length xs) = omega arith in ap (λ l. x ∷ l) (take_append n xs ys) ∙ ap (λ k. x ∷ (take n xs ++ take k ys)) less

pub drop_append : {X : Type 0} (n : ℕ) (xs ys : List X) → drop n (xs ++ ys) ≡ drop n xs ++ drop (n - length xs) ys
drop_append zero [] ys = refl
drop_append (suc n) [] ys = let all : suc n ≡ suc n - 0 = omega arith in ap (λ k. drop k ys) all
drop_append zero (x ∷ xs) ys = let none : 0 ≡ 0 - suc (length xs) = omega arith in ap (λ k. x ∷ (xs ++ drop k ys)) none
drop_append (suc n) (x ∷ xs) ys = let less : n - length xs ≡ suc n - suc (length xs) = omega arith in drop_append n xs ys ∙ ap (λ k. drop n xs ++ drop k ys) less
