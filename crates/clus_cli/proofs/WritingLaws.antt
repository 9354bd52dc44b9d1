-- What was written of a text and of what follows.
use Rattle.std.proofs.Common.{◌≡◌, ℕ, ◌+◌, List, [], ◌++◌, length, take, Option, Some, None, sym, subst}
use Rattle.std.proofs.lemmas.List.{append-nil}
use Rattle.std.proofs.Math.Seq.{take-append-add, take-append_seam}
use Rattle.causes.specs.Writing.{Wrote, WroteSome}
use Rattle.edge_io.proofs.Pieces.{Wrote-append}

pub wrote_nothing : (written : Option (List ℕ)) → Wrote written written []
wrote_nothing None = tt
wrote_nothing (Some bytes) = sym (append-nil bytes)

-- All of a text was written, and nothing of what follows.
pub some_of_more : (a b : Option (List ℕ)) (x y : List ℕ) → Wrote a b x → WroteSome a b (x ++ y)
some_of_more a b x y wrote = (length x, subst (λ (t : List ℕ). Wrote a b t) (sym (take-append_seam x y)) wrote)

-- All of a text was written, and some of what follows.
pub some_then : (a b c : Option (List ℕ)) (x y : List ℕ) → Wrote a b x → WroteSome b c y → WroteSome a c (x ++ y)
some_then a b c x y one (count, two) =
    (length x + count, subst (λ (t : List ℕ). Wrote a c t) (sym (take-append-add x y count)) (Wrote-append a b c x (take count y) one two))
