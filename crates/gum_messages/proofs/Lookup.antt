-- Looking a node up among members.
use Rattle.std.proofs.Common.{subst, ◌&&◌, ◌≡◌, ℕ, ◌<◌, ◌≤◌, Bool, true, false, List, [], ◌∷◌, length, nat_eq, cond, Some, None, position, find, refl, arith}
use Rattle.std.specs.List.{list_all}
use Rattle.std.proofs.lemmas.List.Sums.{prefix_len-le-length}
use Rattle.gum_messages.specs.declared.member.Member.{Member}
use Rattle.gum_messages.specs.Members.{inc_of, index_of}

-- the incarnation is that of the member which is found
pub inc_of_found : (ms : List Member) (n : ℕ) (m : Member) → find (λ x. nat_eq x.node n) ms ≡ Some m → inc_of ms n ≡ m.inc
inc_of_found [] n m e = cc
inc_of_found (x ∷ xs) n m e =
    elim (nat_eq x.node n) as (λ (b : Bool). cond b (Some x) (find (λ (y : Member). nat_eq y.node n) xs) ≡ Some m → cond b x.inc (inc_of xs n) ≡ m.inc) [
      | true ↦ λ h. cc
      | false ↦ λ h. inc_of_found xs n m h
    ] e

pub inc_of_none : (ms : List Member) (n : ℕ) → find (λ x. nat_eq x.node n) ms ≡ None → inc_of ms n ≡ 0
inc_of_none [] n e = refl
inc_of_none (x ∷ xs) n e =
    elim (nat_eq x.node n) as (λ (b : Bool). cond b (Some x) (find (λ (y : Member). nat_eq y.node n) xs) ≡ None → cond b x.inc (inc_of xs n) ≡ 0) [
      | true ↦ λ h. cc
      | false ↦ λ h. inc_of_none xs n h
    ] e

-- the index is the place that is found, or the end
pub index_of_found : (ms : List Member) (n i : ℕ) → position (λ x. nat_eq x.node n) ms ≡ Some i → index_of ms n ≡ i
index_of_found ms n i e = grind arith

pub index_of_none : (ms : List Member) (n : ℕ) → position (λ x. nat_eq x.node n) ms ≡ None → index_of ms n ≡ length ms
index_of_none ms n e =
    let within : index_of ms n ≤ length ms = prefix_len-le-length _ ms in
    grind arith

-- a test that all members pass, each node that is a member passes
pub all_members : (p : ℕ → Bool) (ms : List Member) (n : ℕ) → list_all (λ m. p m.node) ms ≡ true → 0 < inc_of ms n → p n ≡ true
all_members p [] n e h = absurd (omega arith)
all_members p (m ∷ ms) n e h =
    elim (p m.node) as (λ (c : Bool). p m.node ≡ c → (c && list_all (λ x. p x.node) ms) ≡ true → p n ≡ true) [
      | true ↦ λ first rest. elim (nat_eq m.node n) as (λ (b : Bool). nat_eq m.node n ≡ b → 0 < cond b m.inc (inc_of ms n) → p n ≡ true) [
        | true ↦ λ same g. let here : m.node ≡ n = grind arith in subst (λ (k : ℕ). p k ≡ true) here first
        | false ↦ λ other g. all_members p ms n rest g
      ] refl h
      | false ↦ λ first rest. cc
    ] refl e
