-- A number reads back from its bytes, and bytes are those of the number that they read as.
use Rattle.std.proofs.Common.{◌≡◌, ℕ, zero, suc, ◌+◌, ◌*◌, ◌^◌, ◌<◌, ◌≤◌, List, [], ◌∷◌, ◌++◌, length, take, drop, refl, sym, ap, ◌∙◌, subst, inl, inr, arith}
use Rattle.std.proofs.Math.Nat.{add-mul, mod-lt, mul-le-mul_right}
use Rattle.std.proofs.lemmas.Bool.{cases_lt}
use Rattle.std.proofs.lemmas.List.{append-nil, get_or-drop, get_or-take, get_or_past, length-take}
use Rattle.std.specs.Int.{byte_at, bytes_high_first, bytes_low_first}
use Rattle.byteorder.specs.Endian.{big_from, little_from}
use Rattle.byteorder.specs.Numbers.{big_from-cons, big_from-lt, big_number-reads_back, length-bytes_high_first, length-bytes_low_first, little_from-cons, little_from-lt, little_number-reads_back}
use Rattle.wire_fields.specs.declared.endian.Endian.{Endian}
use Rattle.wire_fields.specs.declared.endian.Endian.TheVariants.{Little, Big}
use Rattle.wire_fields.specs.Numbers.{IsBytes, SpellsOneNumber, num, number}

pub IsBytes-drop : (n : ℕ) (bytes : List ℕ) → IsBytes bytes → IsBytes (drop n bytes)
IsBytes-drop n bytes h i = rw get_or-drop (h (n + i))

pub IsBytes-take : (n : ℕ) (bytes : List ℕ) → IsBytes bytes → IsBytes (take n bytes)
IsBytes-take n bytes h i =
    elim (cases_lt i n) [
      | inl lt ↦ rw (get_or-take n bytes i 0 lt) (h i)
      | inr le ↦ rw (get_or_past (take n bytes) i 0 (omega (arith, length-take n bytes))) (omega arith)
    ]

byte_at-lt : (k x : ℕ) → byte_at k x < 256
byte_at-lt zero x = mod-lt x (omega arith)
byte_at-lt (suc k) x = mod-lt _ (omega arith)

low_first-bytes : (i n x : ℕ) → IsBytes (bytes_low_first i n x)
low_first-bytes i zero x k = omega arith
low_first-bytes i (suc n) x zero = byte_at-lt i x
low_first-bytes i (suc n) x (suc k) = low_first-bytes (suc i) n x k

high_first-bytes : (n x : ℕ) → IsBytes (bytes_high_first n x)
high_first-bytes zero x k = omega arith
high_first-bytes (suc n) x zero = byte_at-lt n x
high_first-bytes (suc n) x (suc k) = high_first-bytes n x k

-- Two lists of bytes that read as the same number are the same list.
little_same : (n : ℕ) (xs ys : List ℕ) → length xs ≡ n → length ys ≡ n → IsBytes xs → IsBytes ys → little_from 0 n xs ≡ little_from 0 n ys → xs ≡ ys
little_same zero [] [] a b c d e = refl
little_same zero [] (y ∷ ys) a b c d e = absurd (omega arith)
little_same zero (x ∷ xs) ys a b c d e = absurd (omega arith)
little_same (suc n) [] ys a b c d e = absurd (omega arith)
little_same (suc n) (x ∷ xs) [] a b c d e = absurd (omega arith)
little_same (suc n) (x ∷ xs) (y ∷ ys) a b c d e =
    let moved : x + 256 * little_from 0 n xs ≡ y + 256 * little_from 0 n ys = rw (little_from-cons 0 n x xs, little_from-cons 0 n y ys) at e in
    let x-small : x < 256 = c 0 in
    let y-small : y < 256 = d 0 in
    let first : x ≡ y = omega arith in
    let others : little_from 0 n xs ≡ little_from 0 n ys = omega arith in
    let rest : xs ≡ ys = little_same n xs ys (omega arith) (omega arith) (λ i. c (suc i)) (λ i. d (suc i)) others in
    rw (first, rest) refl

not_below : (m x y a b : ℕ) → a < m → x * m + a ≡ y * m + b → x < y → ⊥
not_below m x y a b small e lt =
    let more : (x + 1) * m ≤ y * m = mul-le-mul_right m (omega arith) in
    let split : (x + 1) * m ≡ x * m + 1 * m = add-mul x 1 m in
    omega arith

same_digit : (m x y a b : ℕ) → a < m → b < m → x * m + a ≡ y * m + b → x ≡ y
same_digit m x y a b a-small b-small e =
    elim (cases_lt x y) [
      | inl lt ↦ absurd (not_below m x y a b a-small e lt)
      | inr le ↦ elim (cases_lt y x) [
        | inl lt ↦ absurd (not_below m y x b a b-small (sym e) lt)
        | inr ge ↦ omega arith
      ]
    ]

big_same : (n : ℕ) (xs ys : List ℕ) → length xs ≡ n → length ys ≡ n → IsBytes xs → IsBytes ys → big_from 0 n xs ≡ big_from 0 n ys → xs ≡ ys
big_same zero [] [] a b c d e = refl
big_same zero [] (y ∷ ys) a b c d e = absurd (omega arith)
big_same zero (x ∷ xs) ys a b c d e = absurd (omega arith)
big_same (suc n) [] ys a b c d e = absurd (omega arith)
big_same (suc n) (x ∷ xs) [] a b c d e = absurd (omega arith)
big_same (suc n) (x ∷ xs) (y ∷ ys) a b c d e =
    let moved : x * 256 ^ n + big_from 0 n xs ≡ y * 256 ^ n + big_from 0 n ys = rw (big_from-cons 0 n x xs, big_from-cons 0 n y ys) at e in
    let xs-small : big_from 0 n xs < 256 ^ n = big_from-lt 0 n xs (λ i. c (suc i)) in
    let ys-small : big_from 0 n ys < 256 ^ n = big_from-lt 0 n ys (λ i. d (suc i)) in
    let first : x ≡ y = same_digit (256 ^ n) x y (big_from 0 n xs) (big_from 0 n ys) xs-small ys-small moved in
    let others : big_from 0 n xs ≡ big_from 0 n ys =
    let aligned : y * 256 ^ n + big_from 0 n xs ≡ y * 256 ^ n + big_from 0 n ys = rw first at moved in
    omega arith in
    let rest : xs ≡ ys = big_same n xs ys (omega arith) (omega arith) (λ i. c (suc i)) (λ i. d (suc i)) others in
    rw (first, rest) refl

pub length-num : (e : Endian) (w n : ℕ) → length (num e w n) ≡ w
unfolding num
length-num Little w n = length-bytes_low_first 0 w n
length-num Big w n = length-bytes_high_first w n

pub num-bytes : (e : Endian) (w n : ℕ) → IsBytes (num e w n)
unfolding num
num-bytes Little w n = low_first-bytes 0 w n
num-bytes Big w n = high_first-bytes w n

-- The number reads back, whatever stands behind it.
pub number-num : (e : Endian) (w n : ℕ) (rest : List ℕ) → n < 256 ^ w → number e w (num e w n ++ rest) ≡ n
unfolding num number
number-num Little w n rest h = little_number-reads_back w n rest h
number-num Big w n rest h = big_number-reads_back w n rest h

pub number-of_num : (e : Endian) (w n : ℕ) → n < 256 ^ w → number e w (num e w n) ≡ n
number-of_num e w n h =
    let whole : num e w n ++ [] ≡ num e w n = append-nil (num e w n) in
    subst (λ (t : List ℕ). number e w t ≡ n) whole (number-num e w n [] h)

pub number-lt : (e : Endian) (w : ℕ) (bytes : List ℕ) → IsBytes bytes → number e w bytes < 256 ^ w
unfolding number
number-lt Little w bytes h = little_from-lt 0 w bytes h
number-lt Big w bytes h = big_from-lt 0 w bytes h

number_same : (e : Endian) (xs ys : List ℕ) → length xs ≡ length ys → IsBytes xs → IsBytes ys → number e (length ys) xs ≡ number e (length ys) ys → xs ≡ ys
unfolding number
number_same Little xs ys a b c e = little_same (length ys) xs ys a refl b c e
number_same Big xs ys a b c e = big_same (length ys) xs ys a refl b c e

-- Bytes are those of the number that they read as.
pub num-number : (e : Endian) (w : ℕ) (bytes : List ℕ) → length bytes ≡ w → IsBytes bytes → num e w (number e w bytes) ≡ bytes
num-number e w bytes long h =
    let value = number e w bytes in
    let back : number e w (num e w value) ≡ value = number-of_num e w value (number-lt e w bytes h) in
    let same_length : length (num e w value) ≡ length bytes = length-num e w value ∙ sym long in
    let at-length : number e (length bytes) (num e w value) ≡ number e (length bytes) bytes =
    subst (λ (k : ℕ). number e k (num e w value) ≡ number e k bytes) (sym long) back in
    number_same e (num e w value) bytes same_length (num-bytes e w value) h at-length

pub one_number : (endian : Endian) (bytes : List ℕ) → IsBytes bytes → SpellsOneNumber endian bytes
one_number endian bytes h =
    let w = length bytes in
    (number endian w bytes, number-lt endian w bytes h, num-number endian w bytes refl h, λ other small e. sym (number-of_num endian w other small) ∙ ap (number endian w) e)
