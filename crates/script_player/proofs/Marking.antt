-- The first message that isn't marked.
use Rattle.std.proofs.Common.{◌≡◌, ℕ, zero, suc, ◌+◌, ◌-◌, ◌<◌, ◌≤◌, Bool, true, false, cond, ltb, List, [], ◌∷◌, ◌++◌, length, drop, Option, None, Some, refl, sym, ap, ◌∙◌, arith, length-drop}
use Rattle.std.specs.Prelude.{not, position, slice_set}
use Rattle.std.specs.List.{position_or_len}
use Rattle.std.proofs.lemmas.Bool.{ltb-false, ltb-true, le-ltb, lt-ltb}
use Rattle.std.specs.Option.{option_map}
use Rattle.std.proofs.lemmas.List.Sums.{prefix_len-le-length}
use Rattle.script_player.specs.Marks.{lowest, marked, marked_if, skipped}

-- ---- where it stands

abbrev first : List Bool → ℕ
first marks = position_or_len not marks

pub within : (marks : List Bool) → first marks ≤ length marks
within marks = prefix_len-le-length (λ x. not (not x)) marks

pub not_before : (from : ℕ) (marks more : List Bool) → from ≤ first marks → from ≤ first (marks ++ more)
not_before zero marks more is = omega arith
not_before (suc from) [] more is = absurd (omega (arith, is))
not_before (suc from) (true ∷ marks) more is = let rest = not_before from marks more (omega (arith, is)) in omega (arith, rest)
not_before (suc from) (false ∷ marks) more is = absurd (omega (arith, is))

pub not_before_set : (from place : ℕ) (marks : List Bool) → from ≤ first marks → from ≤ first (slice_set marks place true)
not_before_set zero place marks is = omega arith
not_before_set (suc from) place [] is = absurd (omega (arith, is))
not_before_set (suc from) zero (true ∷ marks) is = is
not_before_set (suc from) (suc place) (true ∷ marks) is = let rest = not_before_set from place marks (omega (arith, is)) in omega (arith, rest)
not_before_set (suc from) place (false ∷ marks) is = absurd (omega (arith, is))

pub first_behind : (from : ℕ) (marks : List Bool) → from ≤ first marks → first marks ≡ from + first (drop from marks)
first_behind zero marks is = omega arith
first_behind (suc from) [] is = absurd (omega (arith, is))
first_behind (suc from) (true ∷ marks) is = let rest = first_behind from marks (omega (arith, is)) in omega (arith, rest)
first_behind (suc from) (false ∷ marks) is = absurd (omega (arith, is))

-- ---- the lowest one

some_of : (b : Bool) (n at : ℕ) → cond b (Some n) None ≡ Some at → (b ≡ true) × (n ≡ at)
some_of true n at e = (refl, cc)
some_of false n at e = absurd (cc e)

none_of : (b : Bool) (n : ℕ) → cond b (Some n) None ≡ None → b ≡ false
none_of true n e = absurd (cc e)
none_of false n e = refl

is_lowest : (b : Bool) (n at : ℕ) → b ≡ true → n ≡ at → option_map (λ place. suc place) (cond b (Some n) None) ≡ Some (at + 1)
is_lowest true n at here is = rw is (let more : suc at ≡ at + 1 = omega arith in ap (λ (k : ℕ). Some k) more)
is_lowest false n at here is = absurd (cc here)

isnt_any : (b : Bool) (n : ℕ) → b ≡ false → option_map (λ place. suc place) (cond b (Some n) None) ≡ None
isnt_any true n past = absurd (cc past)
isnt_any false n past = refl

pub lowest_here : (from place : ℕ) (marks : List Bool) → from ≤ first marks → position not (drop from marks) ≡ Some place → (from + place ≤ first marks) × (Some (from + place + 1) ≡ lowest marks)
lowest_here from place marks is found =
    let behind = first_behind from marks is in
    let at = some_of (ltb (first (drop from marks)) (length (drop from marks))) (first (drop from marks)) place found in
    let short : first (drop from marks) < length (drop from marks) = ltb-true _ _ at.0 in
    let here : first marks ≡ from + place = omega (arith, behind, at.1) in
    let inside : first marks < length marks = omega (arith, behind, short, length-drop from marks) in
    (omega (arith, here), sym (is_lowest (ltb (first marks) (length marks)) (first marks) (from + place) (lt-ltb _ _ inside) here))

pub lowest_nowhere : (from : ℕ) (marks : List Bool) → from ≤ first marks → position not (drop from marks) ≡ None → (length marks ≤ first marks) × (None ≡ lowest marks)
lowest_nowhere from marks is found =
    let behind = first_behind from marks is in
    let past : length (drop from marks) ≤ first (drop from marks) = ltb-false _ _ (none_of (ltb (first (drop from marks)) (length (drop from marks))) (first (drop from marks)) found) in
    let beyond : length marks ≤ first marks = omega (arith, behind, past, length-drop from marks) in
    (beyond, sym (isnt_any (ltb (first marks) (length marks)) (first marks) (le-ltb _ _ beyond)))

-- ---- skipping

none_left : (marks : List Bool) → lowest marks ≡ None → marked_if (lowest marks) marks ≡ marks
none_left marks none = rw none refl

pub none_to_skip : (count : ℕ) (marks : List Bool) → lowest marks ≡ None → skipped count marks ≡ marks
unfolding skipped
none_to_skip zero marks none = refl
none_to_skip (suc count) marks none = ap (skipped count) (none_left marks none) ∙ none_to_skip count marks none

pub one_skipped : (count : ℕ) (marks : List Bool) (number : ℕ) → lowest marks ≡ Some number → skipped (suc count) marks ≡ skipped count (marked number marks)
unfolding skipped
one_skipped count marks number is = ap (λ (x : Option ℕ). skipped count (marked_if x marks)) is

pub skipped_zero : (count i : ℕ) (marks : List Bool) → count ≤ i → skipped (count - i) marks ≡ marks
unfolding skipped
skipped_zero count i marks done = let none : count - i ≡ 0 = omega (arith, done) in ap (λ (n : ℕ). skipped n marks) none

pub skipped_next : (count i number : ℕ) (marks : List Bool) → i < count → lowest marks ≡ Some number → skipped (count - (i + 1)) (marked number marks) ≡ skipped (count - i) marks
skipped_next count i number marks more is =
    let left : count - i ≡ suc (count - (i + 1)) = omega (arith, more) in
    sym (ap (λ (n : ℕ). skipped n marks) left ∙ one_skipped (count - (i + 1)) marks number is)

pub not_before_either : (b : Bool) (from : ℕ) (marks more now : List Bool) → now ≡ cond b (marks ++ more) marks → from ≤ first marks → from ≤ first now
not_before_either true from marks more now is before = rw is (not_before from marks more before)
not_before_either false from marks more now is before = rw is before

some_by : (b : Bool) (n number : ℕ) → option_map (λ place. suc place) (cond b (Some n) None) ≡ Some number → (b ≡ true) × (number ≡ suc n)
some_by true n number is = (refl, sym (cc is))
some_by false n number is = absurd (cc is)

pub lowest_within : (marks : List Bool) (number : ℕ) → lowest marks ≡ Some number → (k : ℕ) × (number ≡ suc k) × (k < length marks)
lowest_within marks number is =
    let found = some_by (ltb (first marks) (length marks)) (first marks) number is in
    (first marks, found.1, ltb-true _ _ found.0)
