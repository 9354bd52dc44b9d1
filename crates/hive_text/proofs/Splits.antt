-- Where a byte first stands in a text.
use Rattle.std.proofs.Common.{◌≡◌, ◌≢◌, ℕ, suc, ◌+◌, ◌<◌, ◌≤◌, Bool, true, false, cond, not, eqb, ltb, List, [], ◌∷◌, ◌++◌, length, take, drop, Some, None, refl, ap, subst, ◌∙◌, arith}
use Rattle.std.specs.List.{position, position_or_len}
use Rattle.std.proofs.lemmas.Bool.{ltb-true, ltb-false}
use Rattle.std.proofs.lemmas.Bool.Decides.{nat_tests}
use Rattle.clus_names.proofs.Pieces.{none_at, some_at}
use Rattle.hive_text.specs.LineWords.{IsSplit, Lacks, is_byte}

same : (x byte : ℕ) → eqb x byte ≡ true → x ≡ byte
same x byte e = grind (arith, nat_tests)

other : (x byte : ℕ) → eqb x byte ≡ false → x ≢ byte
other x byte e is = grind (arith, nat_tests)

-- ---- where it stands

module _ (byte : ℕ) where
  more : (n x : ℕ) (xs : List ℕ) → x ≢ byte → IsSplit byte xs (take n xs) (drop (n + 1) xs) → IsSplit byte (x ∷ xs) (take (1 + n) (x ∷ xs)) (drop (1 + n + 1) (x ∷ xs))
  more n x xs ne split =
      let up : 1 + n + 1 ≡ suc (n + 1) = omega arith in
      let on : 1 + n ≡ suc n = omega arith in
      rw (up, on) (record { lacks = (ne, split.lacks); parts = ap (λ (t : List ℕ). x ∷ t) split.parts })

  first : (x : ℕ) (xs : List ℕ) → x ≡ byte → IsSplit byte (x ∷ xs) (take 0 (x ∷ xs)) (drop (0 + 1) (x ∷ xs))
  first x xs is = record { lacks = tt; parts = ap (λ b. b ∷ xs) is }

  abbrev place_in : List ℕ → ℕ
  place_in text = position_or_len (is_byte byte) text

  abbrev IsSplitAt : List ℕ → ℕ → Type 0
  IsSplitAt text place = IsSplit byte text (take place text) (drop (place + 1) text)

  split_by : (x : ℕ) (xs : List ℕ) (b : Bool) → eqb x byte ≡ b → (place_in xs < length xs → IsSplitAt xs (place_in xs)) → cond (not b) (1 + place_in xs) 0 < length (x ∷ xs)
      → IsSplitAt (x ∷ xs) (cond (not b) (1 + place_in xs) 0)
  split_by x xs true e rest l = first x xs (same x byte e)
  split_by x xs false e rest l = more (place_in xs) x xs (other x byte e) (rest (omega (arith, l)))

  split_there : (text : List ℕ) → place_in text < length text → IsSplitAt text (place_in text)
  split_there [] l = absurd (omega (arith, l))
  split_there (x ∷ xs) l = split_by x xs (eqb x byte) refl (split_there xs) l

  lacks_by : (x : ℕ) (xs : List ℕ) (b : Bool) → eqb x byte ≡ b → (length xs ≤ place_in xs → Lacks byte xs) → length (x ∷ xs) ≤ cond (not b) (1 + place_in xs) 0 → Lacks byte (x ∷ xs)
  lacks_by x xs true e rest l = absurd (omega (arith, l))
  lacks_by x xs false e rest l = (other x byte e, rest (omega (arith, l)))

  lacks_there : (text : List ℕ) → length text ≤ place_in text → Lacks byte text
  lacks_there [] l = tt
  lacks_there (x ∷ xs) l = lacks_by x xs (eqb x byte) refl (lacks_there xs) l

  pub split_at : (text : List ℕ) (place : ℕ) → position (is_byte byte) text ≡ Some place → IsSplit byte text (take place text) (drop (place + 1) text)
  split_at text place e =
      let n = position_or_len (is_byte byte) text in
      let f = some_at (ltb n (length text)) n place e in
      subst (λ k. IsSplit byte text (take k text) (drop (k + 1) text)) f.1 (split_there text (ltb-true _ _ f.0))

  pub lacks_at : (text : List ℕ) → position (is_byte byte) text ≡ None → Lacks byte text
  lacks_at text e =
      let n = position_or_len (is_byte byte) text in
      lacks_there text (ltb-false _ _ (none_at (ltb n (length text)) n e))

  -- ---- there is one such place

  pub one_split : (a b c d : List ℕ) → Lacks byte a → Lacks byte c → a ++ byte ∷ b ≡ c ++ byte ∷ d → (a ≡ c) × (b ≡ d)
  one_split [] b [] d h k e = (refl, cc)
  one_split [] b (y ∷ c) d h k e = absurd (k.0 (cc))
  one_split (x ∷ a) b [] d h k e = absurd (h.0 (cc))
  one_split (x ∷ a) b (y ∷ c) d h k e =
      let head : x ≡ y = cc in
      let tail : a ++ byte ∷ b ≡ c ++ byte ∷ d = cc in
      let rest = one_split a b c d h.1 k.1 tail in
      (ap (λ z. z ∷ a) head ∙ ap (λ (l : List ℕ). y ∷ l) rest.0, rest.1)

  pub no_split : (text a b : List ℕ) → Lacks byte text → text ≡ a ++ byte ∷ b → ⊥
  no_split [] [] b h e = absurd cc
  no_split [] (y ∷ a) b h e = absurd cc
  no_split (x ∷ xs) [] b h e = absurd (h.0 (cc))
  no_split (x ∷ xs) (y ∷ a) b h e = no_split xs a b h.1 (cc)

  pub lacks_append : (a b : List ℕ) → Lacks byte a → Lacks byte b → Lacks byte (a ++ b)
  lacks_append [] b h k = k
  lacks_append (x ∷ a) b h k = (h.0, lacks_append a b h.1 k)
