-- The checks of arguments, from what the calls on names and paths gave.
use Rattle.std.proofs.Common.{◌≡◌, ℕ, ◌<◌, ◌≤◌, true, false, List, [], ◌∷◌, ◌++◌, length, None, Result, Ok, Err, refl, ap, subst, arith}
use Rattle.std.specs.Prelude.{nat_lt}
use Rattle.std.proofs.lemmas.Bool.Decides.{nat_tests}
use Rattle.clus_names.specs.Faults.{text_fault}
use Rattle.clus_names.specs.Limits.{IsPath}
use Rattle.clus_names.specs.Parts.{parts_of, text_of}
use Rattle.clus_names.proofs.Texts.{parts_again, text_passes}
use Rattle.clusapi_methods.specs.Checked.{IsSubkey, IsWithin}

within : (n : ℕ) → n ≤ 1023 → nat_lt 1023 n ≡ false
within n h = grind (arith, nat_tests)

past : (n : ℕ) → 1023 < n → nat_lt 1023 n ≡ true
past n h = grind (arith, nat_tests)

pub is_subkey : (key : List (List ℕ)) (subkey : List ℕ) (path : List (List ℕ)) (given : Result (List (List ℕ)) ℕ) → IsPath path → text_of path ≡ subkey → IsWithin key path given
    → IsSubkey key subkey given
is_subkey key subkey path (Ok below) valid is fits =
    let passes : text_fault subkey ≡ None = subst (λ (t : List ℕ). text_fault t ≡ None) is (text_passes path valid) in
    let parts : parts_of subkey ≡ path = subst (λ (t : List ℕ). parts_of t ≡ path) is (parts_again path valid.parts) in
    record {
      fits = rw (passes, parts, within (length (text_of (key ++ path))) fits.1) refl;
      parts = rw (parts, fits.0) refl;
      text = rw fits.0 is;
      short = rw fits.0 fits.1;
    }
is_subkey key subkey path (Err status) valid is fits =
    let passes : text_fault subkey ≡ None = subst (λ (t : List ℕ). text_fault t ≡ None) is (text_passes path valid) in
    let parts : parts_of subkey ≡ path = subst (λ (t : List ℕ). parts_of t ≡ path) is (parts_again path valid.parts) in
    rw (passes, parts, past (length (text_of (key ++ path))) fits.0, fits.1) refl

-- A text that isn't empty has parts.
pub some_parts : (path : List (List ℕ)) (subkey : List ℕ) → text_of path ≡ subkey → 0 < length subkey → 0 < length path
some_parts [] subkey is there = absurd (let none : length (text_of []) ≡ length subkey = ap (λ (t : List ℕ). length t) is in omega (arith, none, there))
some_parts (part ∷ parts) subkey is there = omega arith
