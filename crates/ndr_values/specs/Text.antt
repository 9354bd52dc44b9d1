-- The units of a string as they are sent, with its end.
use Rattle.std.specs.Prelude.{ℕ, ◌-◌, ◌==◌, Bool, false, List, length, Option, Some, None, slice_get}
use Rattle.std.specs.List.{before_first}

abbrev pub is_zero : Option ℕ → Bool
is_zero (Some unit) = unit == 0
is_zero None = false

-- The last unit is 0.
abbrev pub ends_in_zero : List ℕ → Bool
ends_in_zero sent = is_zero (slice_get sent (length sent - 1))

-- The text is what stands before the first unit 0.
abbrev pub text_of : List ℕ → List ℕ
text_of sent = before_first (λ unit. unit == 0) sent
