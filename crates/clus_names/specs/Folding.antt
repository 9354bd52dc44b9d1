-- When two names are the same, and their order: by units, where ASCII capital letters count as small ones.
use Rattle.std.specs.Prelude.{ℕ, ◌+◌, List, map, ◌&&◌, nat_le, if◌then◌else◌}
use Rattle.std.specs.declared.cmp.Ordering.{Ordering}
use Rattle.std.specs.Ordering.{nat_cmp}
use Rattle.std.specs.Cmp.Lexicographic.{slice_cmp}

-- `A` to `Z` become `a` to `z`; every other unit stays.
abbrev pub folded_unit : ℕ → ℕ
folded_unit unit = if nat_le 0x41 unit && nat_le unit 0x5A then unit + 0x20 else unit

abbrev pub folded : List ℕ → List ℕ
folded units = map folded_unit units

abbrev pub folded_parts : List (List ℕ) → List (List ℕ)
folded_parts parts = map folded parts

-- The order of folded names: unit by unit, a proper prefix first.
abbrev pub name_cmp : List ℕ → List ℕ → Ordering
name_cmp = slice_cmp nat_cmp

-- The order of folded paths: part by part, a proper prefix first.
abbrev pub path_cmp : List (List ℕ) → List (List ℕ) → Ordering
path_cmp = slice_cmp name_cmp
