-- Lists that have one entry a member: what an entry is after the entry of a node was set.
use Rattle.std.proofs.Common.{◌≡◌, ◌≢◌, ℕ, zero, suc, ◌+◌, ◌<◌, Bool, true, false, List, [], ◌∷◌, length, slice_get, slice_set, unwrap_or, replicate, nat_eq, cond, not, refl, sym, ◌∙◌, arith}
use Rattle.std.proofs.lemmas.List.{get_or-set_same, get_or-set_other}
use Rattle.std.proofs.lemmas.Option.{unwrap_or-slice_get}
use Rattle.gum_messages.specs.declared.member.Member.{Member}
use Rattle.gum_messages.specs.Members.{inc_of, index_of}

step : (m : Member) (ms : List Member) (node : ℕ) → index_of (m ∷ ms) node ≡ cond (nat_eq m.node node) 0 (1 + index_of ms node)
step m ms node = elim (nat_eq m.node node) as (λ (b : Bool). cond (not b) (1 + index_of ms node) 0 ≡ cond b 0 (1 + index_of ms node)) [ true ↦ refl | false ↦ refl ]

-- members have indexes of their own
pub index_of_within : (ms : List Member) (node : ℕ) → 0 < inc_of ms node → index_of ms node < length ms
index_of_within [] node h = absurd (omega arith)
index_of_within (m ∷ ms) node h =
    let below : cond (nat_eq m.node node) 0 (1 + index_of ms node) < length ms + 1 =
    elim (nat_eq m.node node) as (λ (b : Bool). 0 < cond b m.inc (inc_of ms node) → cond b 0 (1 + index_of ms node) < length ms + 1) [
      | true ↦ λ g. omega arith
      | false ↦ λ g. let rest : index_of ms node < length ms = index_of_within ms node g in omega arith
    ] h
    in
    omega (arith, step m ms node)

pub index_of_own : (ms : List Member) (m n : ℕ) → 0 < inc_of ms m → index_of ms m ≡ index_of ms n → m ≡ n
index_of_own [] m n h e = absurd (omega arith)
index_of_own (x ∷ xs) m n h e =
    let e' : cond (nat_eq x.node m) 0 (1 + index_of xs m) ≡ cond (nat_eq x.node n) 0 (1 + index_of xs n) = sym (step x xs m) ∙ e ∙ step x xs n in
    elim (nat_eq x.node m) as (λ (b : Bool). nat_eq x.node m ≡ b → 0 < cond b x.inc (inc_of xs m) → cond b 0 (1 + index_of xs m) ≡ cond (nat_eq x.node n) 0 (1 + index_of xs n) → m ≡ n) [
      | true ↦ λ here g q. elim (nat_eq x.node n) as (λ (c : Bool). nat_eq x.node n ≡ c → 0 ≡ cond c 0 (1 + index_of xs n) → m ≡ n) [
        | true ↦ λ there r. grind arith
        | false ↦ λ there r. absurd (omega arith)
      ] refl q
      | false ↦ λ here g q. elim (nat_eq x.node n) as (λ (c : Bool). nat_eq x.node n ≡ c → 1 + index_of xs m ≡ cond c 0 (1 + index_of xs n) → m ≡ n) [
        | true ↦ λ there r. absurd (omega arith)
        | false ↦ λ there r. index_of_own xs m n g (omega arith)
      ] refl q
    ] refl h e'

-- the entry of a member whose own entry was set, and of one whose wasn't
pub entry_set : {A : Type 0} (ms : List Member) (xs : List A) (node : ℕ) (x d : A) → length xs ≡ length ms → 0 < inc_of ms node → unwrap_or (slice_get (slice_set xs (index_of ms node) x) (index_of ms node)) d ≡ x
entry_set ms xs node x d same member =
    let within : index_of ms node < length xs = let h = index_of_within ms node member in omega arith in
    unwrap_or-slice_get (slice_set xs (index_of ms node) x) (index_of ms node) d ∙ get_or-set_same xs (index_of ms node) x d within

pub entry_kept : {A : Type 0} (ms : List Member) (xs : List A) (node other : ℕ) (x d : A) → 0 < inc_of ms other → other ≢ node → unwrap_or (slice_get (slice_set xs (index_of ms node) x) (index_of ms other)) d ≡ unwrap_or (slice_get xs (index_of ms other)) d
entry_kept ms xs node other x d member apart =
    let differ : index_of ms other ≢ index_of ms node = λ e. apart (index_of_own ms other node member e) in
    unwrap_or-slice_get (slice_set xs (index_of ms node) x) (index_of ms other) d ∙ get_or-set_other xs (index_of ms node) (index_of ms other) x d differ ∙ sym (unwrap_or-slice_get xs (index_of ms other) d)

-- at first each entry is the same
pub entry_first : {A : Type 0} (n i : ℕ) (d : A) → unwrap_or (slice_get (replicate n d) i) d ≡ d
entry_first zero i d = refl
entry_first (suc n) zero d = refl
entry_first (suc n) (suc i) d = entry_first n i d
