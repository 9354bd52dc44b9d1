-- Places: views and records are numbered from 1 in the order in which they came.
use Rattle.std.specs.Prelude.{ℕ, zero, suc, List, Option, None, slice_get}

abbrev pub at_place : {A : Type 0} → List A → ℕ → Option A
at_place xs zero = None
at_place xs (suc k) = slice_get xs k
