-- A reader of plain fields goes on in the same bytes: their end stays where it was.
use Rattle.std.proofs.Common.{◌≡◌, ℕ, zero, suc, ◌+◌, ◌≤◌, ltb, List, [], ◌∷◌, length, take, Option, Some, sym, ap, ◌∙◌, length-drop, arith}
use Rattle.std.proofs.lemmas.Bool.{ltb-false}
use Rattle.wire_fields.specs.Numbers.{number}
use Rattle.wire_fields.specs.Reading.{Reading, ◌>>=◌, after, bytes_at, number_at, times}
use Rattle.wire_fields.proofs.FieldLaws.{bind_some, guard_some, some_is}

abbrev pub end_of : Reading → ℕ
end_of s = s.place + length s.left

-- What is read ends where the bytes end.
abbrev pub Goes : {A : Type 0} → (Reading → Option (A × Reading)) → Reading → Type 0
Goes {A} one s = (x : A × Reading) → one s ≡ Some x → end_of x.1 ≡ end_of s

pub after_goes : (count : ℕ) (s : Reading) → count ≤ length s.left → end_of (after count s) ≡ end_of s
after_goes count s enough = omega (arith, length-drop count s.left)

pub number_goes : (w : ℕ) (s : Reading) → Goes (number_at w) s
number_goes w s x e =
    let g = guard_some (ltb (length s.left) w) (number s.endian w (take w s.left), after w s) x e in
    ap (λ (y : ℕ × Reading). end_of y.1) (sym g.1) ∙ after_goes w s (ltb-false _ _ g.0)

pub bytes_goes : (count : ℕ) (s : Reading) → Goes (bytes_at count) s
bytes_goes count s x e =
    let g = guard_some (ltb (length s.left) count) (take count s.left, after count s) x e in
    ap (λ (y : List ℕ × Reading). end_of y.1) (sym g.1) ∙ after_goes count s (ltb-false _ _ g.0)

pub times_goes : {A : Type 0} (one : Reading → Option (A × Reading)) → ((s : Reading) → Goes one s) → (count : ℕ) (s : Reading) → Goes (times count one) s
unfolding times
times_goes {A} one each zero s x e = ap (λ (y : List A × Reading). end_of y.1) (sym (some_is ([], s) x e))
times_goes {A} one each (suc count) s x e =
    let a = bind_some (one s) (λ first. times count one first.1 >>= λ others. Some (first.0 ∷ others.0, others.1)) x e in
    let b = bind_some (times count one a.0.1) (λ others. Some (a.0.0 ∷ others.0, others.1)) x a.2 in
    ap (λ (y : List A × Reading). end_of y.1) (sym (some_is (a.0.0 ∷ b.0.0, b.0.1) x b.2)) ∙ times_goes one each count a.0.1 b.0 b.1 ∙ each s a.0 a.1
