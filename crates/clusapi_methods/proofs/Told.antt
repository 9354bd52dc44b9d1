-- The names that are read of a registry have encodings, and are short.
use Rattle.std.proofs.Common.{ℕ, ◌≤◌, List, length, arith}
use Rattle.clus_names.specs.Limits.{IsName, IsPart}
use Rattle.clusapi_stubs.specs.Outputs.{IsText}
use Rattle.clusapi_methods.specs.Checked.{IsTold}
use Rattle.clusapi_methods.specs.Sizes.{IsShortText}

part_is_text : (part : List ℕ) → IsPart part → IsText part
part_is_text part is = record {
  units = λ k d within zero. omega (arith, (is.units k d within).not_zero, zero);
  short = omega (arith, is.short);
}

pub part_text : (part : List ℕ) → IsPart part → IsShortText part
part_text part is = record { text = part_is_text part is; few = omega (arith, is.short) }

name_text : (name : List ℕ) → IsName name → IsText name
name_text name is = record {
  units = λ k d within zero. omega (arith, (is.units k d within).not_zero, zero);
  short = omega (arith, is.short);
}

pub is_told : (name bytes : List ℕ) → IsName name → length bytes ≤ 49152 → IsTold name bytes
is_told name bytes is short = record { text = record { text = name_text name is; few = omega (arith, is.short) }; short = short }
