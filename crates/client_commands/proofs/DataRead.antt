-- Two digits tell one byte.
use Rattle.std.proofs.Common.{◌≡◌, ℕ, ◌+◌, ◌*◌, ◌%◌, ◌≤◌, Bool, true, false, eqb, List, [], ◌∷◌, length, Result, Ok, Err, refl, ap, arith}
use Rattle.hex.specs.Hex.{◌>>=◌, decode_of, decode_pairs, pair_value}
use Rattle.hex.specs.declared.error.FromHexError.{FromHexError}

bound : {A B : Type 0} (read : Result A FromHexError) (next : A → Result B FromHexError) (y : B) → (read >>= next) ≡ Ok y → (x : A) × (read ≡ Ok x) × (next x ≡ Ok y)
bound (Ok x) next y e = (x, refl, e)
bound (Err fault) next y e = absurd (cc e)

pairs_length : (i : ℕ) (word bytes : List ℕ) → decode_pairs i word ≡ Ok bytes → 2 * length bytes ≤ length word
unfolding decode_pairs
pairs_length i [] bytes e = let none : [] ≡ bytes = cc in omega (arith, ap (λ (l : List ℕ). length l) none)
pairs_length i (digit ∷ []) bytes e = absurd (cc e)
pairs_length i (high ∷ low ∷ rest) bytes e =
    let byte = bound (pair_value high low i) _ bytes e in
    let others = bound (decode_pairs (i + 2) rest) _ bytes byte.2 in
    let are : byte.0 ∷ others.0 ≡ bytes = (let is = others.2 in cc) in
    omega (arith, ap (λ (l : List ℕ). length l) are, pairs_length (i + 2) rest others.0 others.1)

pub data_length : (word bytes : List ℕ) → decode_of word ≡ Ok bytes → 2 * length bytes ≤ length word
data_length word bytes e = by (eqb (length word % 2) 1) refl
  where
    by : (odd : Bool) → eqb (length word % 2) 1 ≡ odd → 2 * length bytes ≤ length word
    by true odd = absurd (cc (rw odd at e))
    by false even = pairs_length 0 word bytes (rw even at e)
