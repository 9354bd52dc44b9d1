-- The last line of a run, and the one line of a drill.
use Rattle.std.specs.Prelude.{ℕ, List, [], ◌∷◌, codes}
use Rattle.std.specs.Fmt.{decimal}
use Rattle.script_text.specs.declared.counts.Counts.{Counts}
use Rattle.script_text.specs.Lines.{line}

-- So many records joined the update order, and so many updates were acknowledged.
unfoldable pub end_line : ℕ → ℕ → List ℕ
end_line order acks = line (codes "end") (codes "order" ∷ decimal order ∷ codes "acks" ∷ decimal acks ∷ [])

unfoldable pub count_words : Counts → List (List ℕ)
count_words counts =
    codes "order" ∷ decimal counts.order
    ∷ codes "acks" ∷ decimal counts.acks
    ∷ codes "replies" ∷ decimal counts.replies
    ∷ codes "closed" ∷ decimal counts.closed
    ∷ []

-- What a drill was asked for, and what came.
unfoldable pub drill_line : ℕ → ℕ → Counts → List ℕ
drill_line number events counts = line (codes "drill") (decimal number ∷ decimal events ∷ count_words counts)
