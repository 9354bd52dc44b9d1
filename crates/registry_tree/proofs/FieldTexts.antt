-- The spelling of single fields.
use Rattle.std.proofs.Common.{◌≡◌, ℕ, ◌+◌, ◌^◌, false, List, ◌++◌, ap, arith}
use Rattle.std.specs.Prelude.{◌==◌, if◌then◌else◌}
use Rattle.std.specs.List.{flat_map}
use Rattle.std.proofs.lemmas.Bool.Decides.{nat_tests}
use Rattle.std.proofs.lemmas.List.Folds.{flat_map-map}
use Rattle.wire_fields.specs.declared.endian.Endian.TheVariants.{Little}
use Rattle.wire_fields.specs.Numbers.{num}
use Rattle.registry_defs.specs.Keys.{ValueData}
use Rattle.registry_defs.specs.Spelling.{birth_text, value_text, values_text}
use Rattle.registry_tree.specs.declared.value.Value.{Value}
use Rattle.registry_tree.specs.Values.{value_data, value_entry, entries_of}

pub birth_alone : (birth written : ℕ) → written ≡ 0 → birth_text birth written ≡ num Little 8 birth
unfolding birth_text
birth_alone birth written none = ap (λ n. if n == 0 then num Little 8 birth else num Little 8 (birth + 2 ^ 63) ++ num Little 8 n) none

pub birth_and_time : (birth written : ℕ) → (written ≡ 0 → ⊥) → birth_text birth written ≡ num Little 8 (birth + 2 ^ 63) ++ num Little 8 written
unfolding birth_text
birth_and_time birth written some =
    let is_some : (written == 0) ≡ false = grind (arith, nat_tests) in
    ap (λ b. if b then num Little 8 birth else num Little 8 (birth + 2 ^ 63) ++ num Little 8 written) is_some

abbrev pub text_of_value : Value → List ℕ
text_of_value value = value_text (value_data value)

pub texts_of_values : (values : List Value) → values_text (entries_of values) ≡ flat_map text_of_value values
texts_of_values values = flat_map-map (λ (e : List ℕ × ValueData). value_text e.1) value_entry values
