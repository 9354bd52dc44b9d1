-- An image holds one log at most.
use Rattle.std.proofs.Common.{◌≡◌, ◌≢◌, ℕ, ◌+◌, ◌%◌, ◌^◌, ◌<◌, ◌⊎◌, inl, inr, List, [], ◌∷◌, length, get_or, refl, sym, ap, ◌∙◌, subst, arith}
use Rattle.std.proofs.Math.Nat.{mod-lt, mod-eq_of_lt, mod_self}
use Rattle.std.proofs.lemmas.Bool.{cases_lt}
use Rattle.quorum_log.specs.declared.found.Found.{Found}
use Rattle.quorum_log.specs.declared.found.FoundRecord.{FoundRecord}
use Rattle.quorum_log.specs.Layout.{window, number_at, next_generation}
use Rattle.quorum_log.specs.Image.{Holds, IsHalf, IsFramed, IsCurrent, Listed, commit_behind, start_of, end_of, other_of, list_at}

-- no two generations are each the next one of the other
next_cases : (g : ℕ) → g < 2 ^ 64 → (next_generation g ≡ g + 1) ⊎ ((next_generation g ≡ 0) × (g + 1 ≡ 2 ^ 64))
next_cases g fits = elim (cases_lt (g + 1) (2 ^ 64)) [
  | inl small ↦ inl (mod-eq_of_lt small)
  | inr great ↦
      let e : g + 1 ≡ 2 ^ 64 = omega arith in
      inr (ap (λ n. n % 2 ^ 64) e ∙ mod_self (2 ^ 64), e)
]

pub not_both_next : (a b : ℕ) → a ≡ next_generation b → b ≡ next_generation a → ⊥
not_both_next a b is_a is_b =
    let a_fits : a < 2 ^ 64 = rw is_a (mod-lt (b + 1) (omega arith)) in
    let b_fits : b < 2 ^ 64 = rw is_b (mod-lt (a + 1) (omega arith)) in
    elim (next_cases b b_fits) [
      | inl up ↦ elim (next_cases a a_fits) [
        | inl over ↦ absurd (omega (arith, is_a, is_b, up, over))
        | inr around ↦ absurd (omega (arith, is_a, is_b, up, around.0, around.1))
      ]
      | inr down ↦ elim (next_cases a a_fits) [
        | inl over ↦ absurd (omega (arith, is_a, is_b, down.0, down.1, over))
        | inr around ↦ absurd (omega (arith, is_a, is_b, down.0, down.1, around.0, around.1))
      ]
    ]

not_both_current : (image : List ℕ) (at other a b : ℕ) → get_or image at 0 ≢ 0 → number_at image (at + 1) 8 ≡ a → IsCurrent image other a
    → get_or image other 0 ≢ 0 → number_at image (other + 1) 8 ≡ b → IsCurrent image at b → ⊥
not_both_current image at other a b valid is_a current valid' is_b current' = elim current [
  | inl closed ↦ absurd (valid' closed)
  | inr next ↦ elim current' [
    | inl closed ↦ absurd (valid closed)
    | inr next' ↦ not_both_next a b (next ∙ ap next_generation is_b) (next' ∙ ap next_generation is_a)
  ]
]

same_half : (image : List ℕ) (x y : Found) → Holds image x → Holds image y → x.cap ≡ y.cap → x.half ≡ y.half
same_half image x y is is' cap = elim is.half [
  | inl zero ↦ elim is'.half [
    | inl zero' ↦ zero ∙ sym zero'
    | inr one' ↦
        let e : other_of x ≡ start_of y = rw (zero, one', cap) refl in
        let e' : other_of y ≡ start_of x = rw (zero, one', cap) refl in
        absurd (not_both_current image (start_of x) (start_of y) x.generation y.generation is.fields.validity is.fields.generation_is (rw e at is.current) is'.fields.validity is'.fields.generation_is (rw e' at is'.current))
  ]
  | inr one ↦ elim is'.half [
    | inr one' ↦ one ∙ sym one'
    | inl zero' ↦
        let e : other_of x ≡ start_of y = rw (one, zero', cap) refl in
        let e' : other_of y ≡ start_of x = rw (one, zero', cap) refl in
        absurd (not_both_current image (start_of x) (start_of y) x.generation y.generation is.fields.validity is.fields.generation_is (rw e at is.current) is'.fields.validity is'.fields.generation_is (rw e' at is'.current))
  ]
]

-- the fields of a half are one
record SameFields (version version' generation generation' base base' : ℕ) (state state' last last' : List ℕ) : Type 0 where
  version_same : version ≡ version'
  generation_same : generation ≡ generation'
  base_same : base ≡ base'
  state_same : state ≡ state'
  last_same : last ≡ last'

one_window : (image : List ℕ) (at : ℕ) (a b : List ℕ) → window image at (length a) ≡ a → window image at (length b) ≡ b → length a ≡ length b → a ≡ b
one_window image at a b is_a is_b same = sym is_a ∙ ap (λ n. window image at n) same ∙ is_b

same_fields : (image : List ℕ) (at version version' generation generation' base base' : ℕ) (state state' last last' : List ℕ)
    → IsHalf image at version generation base state last → IsHalf image at version' generation' base' state' last' → SameFields version version' generation generation' base base' state state' last last'
same_fields image at version version' generation generation' base base' state state' last last' a b =
    let state_same : state ≡ state' = one_window image (at + 25) state state' a.state_is b.state_is (sym a.state_size ∙ b.state_size) in
    let behind : at + 25 + length state' ≡ at + 25 + length state = ap (λ xs. at + 25 + length xs) (sym state_same) in
    let last_there : window image (at + 25 + length state) (length last') ≡ last' = ap (λ n. window image n (length last')) (sym behind) ∙ b.last_is in
    record {
      version_same = a.version_is ∙ sym b.version_is;
      generation_same = sym a.generation_is ∙ b.generation_is;
      base_same = a.base_is ∙ sym b.base_is;
      state_same = state_same;
      last_same = one_window image (at + 25 + length state) last last' a.last_is last_there (sym a.last_size ∙ b.last_size);
    }

-- the records are one
same_record : (r s : FoundRecord) → r.at ≡ s.at → r.bytes ≡ s.bytes → r ≡ s
same_record r s at bytes =
    let made : ℕ → List ℕ → FoundRecord = λ n xs. record { at = n; bytes = xs } in
    let e : made r.at r.bytes ≡ made s.at s.bytes = rw (at, bytes) refl in e

one_record : (image : List ℕ) (end end' at : ℕ) (r s : FoundRecord) → IsFramed image end at r → IsFramed image end' at s → r ≡ s
one_record image end end' at r s a b = same_record r s (a.place ∙ sym b.place) (one_window image (at + 5) r.bytes s.bytes a.bytes b.bytes (sym a.size ∙ b.size))

one_list : (image : List ℕ) (end end' at : ℕ) (rs ss : List FoundRecord) → Listed image end at rs → get_or image (commit_behind at rs) 0 ≡ 0
    → Listed image end' at ss → get_or image (commit_behind at ss) 0 ≡ 0 → rs ≡ ss
one_list image end end' at [] [] a closed b closed' = refl
one_list image end end' at [] (s ∷ ss) a closed b closed' = absurd (b.0.commit closed)
one_list image end end' at (r ∷ rs) [] a closed b closed' = absurd (a.0.commit closed')
one_list image end end' at (r ∷ rs) (s ∷ ss) a closed b closed' =
    let first : r ≡ s = one_record image end end' at r s a.0 b.0 in
    let next : at + 5 + length s.bytes ≡ at + 5 + length r.bytes = ap (λ (k : FoundRecord). at + 5 + length k.bytes) (sym first) in
    let P : ℕ → Type 0 = λ n. Listed image end' n ss in
    let Q : ℕ → Type 0 = λ n. get_or image (commit_behind n ss) 0 ≡ 0 in
    let rest : rs ≡ ss = one_list image end end' (at + 5 + length r.bytes) rs ss a.1 closed (subst P next b.1) (subst Q next closed') in
    rw (first, rest) refl

same_log : (x y : Found) → x.version ≡ y.version → x.cap ≡ y.cap → x.half ≡ y.half → x.generation ≡ y.generation → x.base ≡ y.base → x.state_at ≡ y.state_at → x.state ≡ y.state
    → x.last_at ≡ y.last_at → x.last ≡ y.last → x.records ≡ y.records → x ≡ y
same_log x y version cap half generation base state_at state last_at last records =
    let made : ℕ → ℕ → ℕ → ℕ → ℕ → ℕ → List ℕ → ℕ → List ℕ → List FoundRecord → Found = λ v c h g b sa s la l rs. record {
      version = v;
      cap = c;
      half = h;
      generation = g;
      base = b;
      state_at = sa;
      state = s;
      last_at = la;
      last = l;
      records = rs;
    } in
    let e : made x.version x.cap x.half x.generation x.base x.state_at x.state x.last_at x.last x.records ≡ made y.version y.cap y.half y.generation y.base y.state_at y.state y.last_at y.last y.records =
    rw (version, cap, half, generation, base, state_at, state, last_at, last, records) refl in e

pub one_log : (image : List ℕ) (x y : Found) → Holds image x → Holds image y → x ≡ y
one_log image x y is is' =
    let cap : x.cap ≡ y.cap = sym is.cap_is ∙ is'.cap_is in
    let half = same_half image x y is is' cap in
    let start : start_of y ≡ start_of x = rw (cap, half) refl in
    let P : ℕ → Type 0 = λ n. IsHalf image n y.version y.generation y.base y.state y.last in
    let f = same_fields image (start_of x) x.version y.version x.generation y.generation x.base y.base x.state y.state x.last y.last is.fields (subst P start is'.fields) in
    let state_at : x.state_at ≡ y.state_at = is.state_at ∙ ap (λ n. n + 25) (sym start) ∙ sym is'.state_at in
    let last_at : x.last_at ≡ y.last_at = is.last_at ∙ ap (λ n. n + 25 + length x.state) (sym start) ∙ ap (λ xs. start_of y + 25 + length xs) f.state_same ∙ sym is'.last_at in
    let list : list_at y ≡ list_at x = ap (λ n. n + 25 + length y.state + length y.last) start ∙ ap (λ xs. start_of x + 25 + length xs + length y.last) (sym f.state_same) ∙ ap (λ xs. start_of x + 25 + length x.state + length xs) (sym f.last_same) in
    let L : ℕ → Type 0 = λ n. Listed image (end_of y) n y.records in
    let C : ℕ → Type 0 = λ n. get_or image (commit_behind n y.records) 0 ≡ 0 in
    let records = one_list image (end_of x) (end_of y) (list_at x) x.records y.records is.records is.closed (subst L list is'.records) (subst C list is'.closed) in
    same_log x y f.version_same cap half f.generation_same f.base_same state_at f.state_same last_at f.last_same records
