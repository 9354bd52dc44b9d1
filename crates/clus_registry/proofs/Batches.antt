-- The changes of a batch, one after the other.
use Rattle.std.proofs.Common.{◌≡◌, ℕ, ◌+◌, Bool, true, false, cond, List, [], ◌∷◌, refl, sym, ap, ◌∙◌, ◌≢◌, arith}
use Rattle.std.proofs.lemmas.Bool.Decides.{nat_tests}
use Rattle.std.specs.Prelude.{◌==◌}
use Rattle.update_records.specs.declared.change.Change.{Change}
use Rattle.registry_defs.specs.declared.outcome.Outcome.{Outcome}
use Rattle.registry_defs.specs.Keys.{Keys}
use Rattle.registry_defs.specs.Applying.{Applied, done, resolved, change_applied, changes_applied, refused_at}

module _ (most place stamp : ℕ) (before : Keys) (number : ℕ) (c : Change) (cs : List Change) (es : Keys) (outcome : Outcome) (told : outcome ≡ (change_applied most place stamp (resolved c es) es).outcome) where
  step : (b : Bool) → (outcome.status == 0) ≡ b
      → changes_applied most place stamp before number (c ∷ cs) es
      ≡ cond b (changes_applied most place stamp before (number + 1) cs (change_applied most place stamp (resolved c es) es).keys) (refused_at number outcome.status before)
  unfolding changes_applied
  step b is =
      ap (λ (o : Outcome). cond (o.status == 0) (changes_applied most place stamp before (number + 1) cs (change_applied most place stamp (resolved c es) es).keys) (refused_at number o.status before)) (sym told)
      ∙ ap (λ t. cond t (changes_applied most place stamp before (number + 1) cs (change_applied most place stamp (resolved c es) es).keys) (refused_at number outcome.status before)) is

  pub goes_on : (news : Keys) (total : Applied) → (outcome.status == 0) ≡ true → news ≡ (change_applied most place stamp (resolved c es) es).keys
      → changes_applied most place stamp before number (c ∷ cs) es ≡ total → changes_applied most place stamp before (number + 1) cs news ≡ total
  goes_on news total made is all = ap (changes_applied most place stamp before (number + 1) cs) is ∙ sym (step true made) ∙ all

  pub stops : (total : Applied) → (outcome.status == 0) ≡ false → changes_applied most place stamp before number (c ∷ cs) es ≡ total → refused_at number outcome.status before ≡ total
  stops total refused all = sym (step false refused) ∙ all

pub ends : (most place stamp : ℕ) (before : Keys) (number : ℕ) (es : Keys) → changes_applied most place stamp before number [] es ≡ done es
unfolding changes_applied
ends most place stamp before number es = refl

pub made : (status : ℕ) → status ≡ 0 → (status == 0) ≡ true
made status is = ap (λ n. n == 0) is

pub not_made : (status : ℕ) → status ≢ 0 → (status == 0) ≡ false
not_made status is = grind (arith, nat_tests)
