-- Which of a world's messages were delivered or skipped.
use Rattle.std.specs.Prelude.{ℕ, zero, suc, ◌-◌, Bool, true, false, not, List, ◌++◌, length, Option, None, Some, position, replicate, slice_set}
use Rattle.std.specs.Option.{option_map}

-- The lowest message that isn't marked. Messages are numbered from 1.
abbrev pub lowest : List Bool → Option ℕ
lowest marks = option_map (λ place. suc place) (position not marks)

abbrev pub marked : ℕ → List Bool → List Bool
marked zero marks = marks
marked (suc place) marks = slice_set marks place true

abbrev pub marked_if : Option ℕ → List Bool → List Bool
marked_if None marks = marks
marked_if (Some number) marks = marked number marks

-- So many of the lowest messages are marked, or all where there are fewer.
unfoldable pub skipped : ℕ → List Bool → List Bool
skipped zero marks = marks
skipped (suc count) marks = skipped count (marked_if (lowest marks) marks)

-- So many messages were sent by now; those that came last aren't marked.
unfoldable pub grown : ℕ → List Bool → List Bool
grown messages marks = marks ++ replicate (messages - length marks) false
