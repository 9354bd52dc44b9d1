-- How much of a stream is looked at, as it grows.
use Rattle.std.proofs.Common.{◌≡◌, ℕ, ◌+◌, ◌-◌, ◌<◌, ◌≤◌, Bool, true, false, ltb, leb, List, ◌++◌, length, take, refl, sym, ap, ◌∙◌, length-append, arith}
use Rattle.std.proofs.lemmas.Bool.{leb-true, leb-false}
use Rattle.std.proofs.lemmas.Bool.Decides.{nat_tests}
use Rattle.std.proofs.lemmas.List.{append-nil, length-take, take-append-le, take_all}
use Rattle.std.proofs.Math.Seq.{take-append-add}

pub take_both : (n : ℕ) (xs ys : List ℕ) → take n (xs ++ ys) ≡ take n xs ++ take (n - length xs) ys
take_both n xs ys = by (leb n (length xs)) refl
  where
    by : (b : Bool) → leb n (length xs) ≡ b → take n (xs ++ ys) ≡ take n xs ++ take (n - length xs) ys
    by true e =
        let few : n ≤ length xs = leb-true _ _ e in
        let none : n - length xs ≡ 0 = omega arith in
        take-append-le n xs ys few ∙ rw none (sym (append-nil (take n xs)))
    by false e =
        let many : length xs < n = leb-false _ _ e in
        let all : length xs ≤ n = omega arith in
        let parts : n ≡ length xs + (n - length xs) = omega arith in
        ap (λ (k : ℕ). take k (xs ++ ys)) parts ∙ take-append-add xs ys (n - length xs)
        ∙ ap (λ (l : List ℕ). l ++ take (n - length xs) ys) (sym (take_all n xs all))

-- The room is what is left of what is looked at.
pub room_is : (n room : ℕ) (stream : List ℕ) (known : ℕ) → known ≡ length (take n stream) → room ≡ n - known → room ≡ n - length stream
room_is n room stream known is e = omega (arith, is, length-take n stream)

pub fits_whole : (n room : ℕ) (stream piece : List ℕ) → room ≡ n - length stream → length piece ≤ room → take n (stream ++ piece) ≡ take n stream ++ piece
fits_whole n room stream piece e few =
    let all : length piece ≤ n - length stream = omega arith in
    take_both n stream piece ∙ ap (λ (l : List ℕ). take n stream ++ l) (take_all (n - length stream) piece all)

pub fits_front : (n room : ℕ) (stream piece : List ℕ) → room ≡ n - length stream → take n (stream ++ piece) ≡ take n stream ++ take room piece
fits_front n room stream piece e = take_both n stream piece ∙ ap (λ (k : ℕ). take n stream ++ take k piece) (sym e)

test_same : (n a p : ℕ) (b : Bool) → ltb n a ≡ b → p ≤ n - a → ltb n (a + p) ≡ b
test_same n a p true e few = grind (arith, nat_tests)
test_same n a p false e few = grind (arith, nat_tests)

pub passed_same : (n room : ℕ) (stream piece : List ℕ) (passed : Bool) → room ≡ n - length stream → length piece ≤ room → passed ≡ ltb n (length stream) → passed ≡ ltb n (length (stream ++ piece))
passed_same n room stream piece passed e few was =
    sym (ap (λ (k : ℕ). ltb n k) (length-append stream piece) ∙ test_same n (length stream) (length piece) passed (sym was) (omega arith))

test_passed : (n a p : ℕ) → n - a < p → true ≡ ltb n (a + p)
test_passed n a p many = grind (arith, nat_tests)

pub passed_now : (n room : ℕ) (stream piece : List ℕ) → room ≡ n - length stream → room < length piece → true ≡ ltb n (length (stream ++ piece))
passed_now n room stream piece e many = test_passed n (length stream) (length piece) (omega arith) ∙ sym (ap (λ (k : ℕ). ltb n k) (length-append stream piece))
