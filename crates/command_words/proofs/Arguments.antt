-- What clap makes of the words behind a name whose subcommand takes none, one, two or three of them.
use Rattle.std.proofs.Common.{◌≡◌, ◌&&◌, ◌||◌, ℕ, Bool, cond, true, false, List, [], ◌∷◌, Some, None, refl}
use Rattle.std.specs.Str.{bytes_eq}
use Rattle.std.proofs.Math.Bool.{and-false, or-false}
use Rattle.std.proofs.lemmas.Slice.Eq.{bytes_eq-Decides}
use Rattle.clap.specs.Words.{Kinds, Row, Rule, Shape, Text}
use Rattle.clap.specs.declared.error.kind.ErrorKind.TheVariants.{UnknownArgument, MissingRequiredArgument}
use Rattle.clap.specs.declared.builder.value_parser.Reading.TheVariants.{AsWritten}
use Rattle.clap.specs.declared.parser.matches.ValueSource.TheVariants.{CommandLine}
use Rattle.clap.specs.Walk.{Held, Walk, arg_by_index, nothing_held, to_positional}
use Rattle.clap.specs.Simple.{built_leaf, inherited, marked_built, rows_at, with_leaf_noted}
use Rattle.clap.specs.Faults.{defaults_fault, level_fault, walk_fault}
use Rattle.command_words.specs.Grammar.{program, rule, shape}
use Rattle.command_words.specs.Forms.{IsPlain}
use Rattle.command_words.proofs.PlainWords.{at, plain_turn, plain_walked}

abbrev pub leaf : Text → List Rule → Shape
leaf name rules = built_leaf (inherited (with_leaf_noted (marked_built program.top)) (shape name rules))

-- What is held once the positional at this place has its word.
abbrev after : Shape → ℕ → Text → Held → Held
after s position w h = (to_positional s.rules (arg_by_index s.rules position) w (at h position) h).held

-- The kinds where a word is wanting that is needed.
abbrev pub missing : Bool → Kinds
missing wants = cond wants (MissingRequiredArgument ∷ []) []

abbrev pub too_many : Kinds
too_many = UnknownArgument ∷ []

-- The row of an argument that got this word.
abbrev pub row : Text → Text → Row
row id word = record { id = id; values = word ∷ []; count = None; source = Some CommandLine; reading = AsWritten }

walk_end : (s : Shape) (w : Walk) → walk_fault s [] w [] ≡ []
unfolding walk_fault
walk_end s w = refl

same : (id : Text) → bytes_eq id id ≡ true
same id = (bytes_eq-Decides id id).1 refl

and_true : (b : Bool) → (b && true) ≡ b
and_true true = refl
and_true false = refl

-- ---- none

pub none_0 : (name : Text) → level_fault (leaf name []) [] nothing_held [] false [] ≡ []
unfolding defaults_fault
none_0 name =
    let s = leaf name [] in
    rw (walk_end s (at nothing_held 1)) refl

pub none_0_rows : (name : Text) → rows_at (leaf name []) [] ≡ (name, [])
none_0_rows name =
    refl

pub none_more : (name w : Text) (rest : List Text) → IsPlain w → level_fault (leaf name []) [] nothing_held (w ∷ rest) false [] ≡ too_many
none_more name w rest p0 =
    let s = leaf name [] in
    rw (plain_turn s nothing_held 1 w rest p0) refl

-- ---- one

pub one_0 : (name a : Text) (r1 : Bool) → level_fault (leaf name (rule a r1 ∷ [])) [] nothing_held [] false [] ≡ missing r1
unfolding defaults_fault
one_0 name a r1 =
    let s = leaf name (rule a r1 ∷ []) in
    rw (walk_end s (at nothing_held 1)) (simp (and_true, or-false) refl)

pub one_0_rows : (name a : Text) (r1 : Bool) → rows_at (leaf name (rule a r1 ∷ [])) [] ≡ (name, [])
one_0_rows name a r1 =
    refl

pub one_1 : (name a w : Text) (r1 : Bool) → IsPlain w → level_fault (leaf name (rule a r1 ∷ [])) [] nothing_held (w ∷ []) false [] ≡ []
unfolding defaults_fault
one_1 name a w r1 p0 =
    let s = leaf name (rule a r1 ∷ []) in
    let h1 = after s 1 w nothing_held in
    rw (plain_turn s nothing_held 1 w [] p0, walk_end s (at h1 2), plain_walked s.rules nothing_held 1 w p0) (simp (same a, and-false, or-false) refl)

pub one_1_rows : (name a w : Text) (r1 : Bool) → IsPlain w → rows_at (leaf name (rule a r1 ∷ [])) (w ∷ []) ≡ (name, row a w ∷ [])
one_1_rows name a w r1 p0 =
    let s = leaf name (rule a r1 ∷ []) in
    rw (plain_walked s.rules nothing_held 1 w p0) (simp (same a) refl)

pub one_more : (name a w v : Text) (r1 : Bool) (rest : List Text) → IsPlain w → IsPlain v
    → level_fault (leaf name (rule a r1 ∷ [])) [] nothing_held (w ∷ v ∷ rest) false [] ≡ too_many
one_more name a w v r1 rest p0 p1 =
    let s = leaf name (rule a r1 ∷ []) in
    let h1 = after s 1 w nothing_held in
    rw (plain_turn s nothing_held 1 w (v ∷ rest) p0, plain_turn s h1 2 v rest p1) refl

-- ---- two

pub two_0 : (name a b : Text) (r1 r2 : Bool) → bytes_eq a b ≡ false
    → level_fault (leaf name (rule a r1 ∷ rule b r2 ∷ [])) [] nothing_held [] false [] ≡ missing (r1 || r2)
unfolding defaults_fault
two_0 name a b r1 r2 ab =
    let s = leaf name (rule a r1 ∷ rule b r2 ∷ []) in
    rw (walk_end s (at nothing_held 1)) (simp (and_true, or-false) refl)

pub two_1 : (name a b w : Text) (r1 r2 : Bool) → bytes_eq a b ≡ false → IsPlain w
    → level_fault (leaf name (rule a r1 ∷ rule b r2 ∷ [])) [] nothing_held (w ∷ []) false [] ≡ missing r2
unfolding defaults_fault
two_1 name a b w r1 r2 ab p0 =
    let s = leaf name (rule a r1 ∷ rule b r2 ∷ []) in
    let h1 = after s 1 w nothing_held in
    rw (plain_turn s nothing_held 1 w [] p0, walk_end s (at h1 2), plain_walked s.rules nothing_held 1 w p0)
    (simp (same a, ab, and_true, and-false, or-false) refl)

pub two_2 : (name a b w v : Text) (r1 r2 : Bool) → bytes_eq a b ≡ false → IsPlain w → IsPlain v
    → level_fault (leaf name (rule a r1 ∷ rule b r2 ∷ [])) [] nothing_held (w ∷ v ∷ []) false [] ≡ []
unfolding defaults_fault
two_2 name a b w v r1 r2 ab p0 p1 =
    let s = leaf name (rule a r1 ∷ rule b r2 ∷ []) in
    let h1 = after s 1 w nothing_held in
    let h2 = after s 2 v h1 in
    rw (
      plain_turn s nothing_held 1 w (v ∷ []) p0,
      plain_turn s h1 2 v [] p1,
      walk_end s (at h2 3),
      plain_walked s.rules nothing_held 1 w p0,
      plain_walked s.rules h1 2 v p1,
    )
    (simp (same a, same b, ab, and-false, or-false) refl)

pub two_2_rows : (name a b w v : Text) (r1 r2 : Bool) → bytes_eq a b ≡ false → IsPlain w → IsPlain v
    → rows_at (leaf name (rule a r1 ∷ rule b r2 ∷ [])) (w ∷ v ∷ []) ≡ (name, row a w ∷ row b v ∷ [])
two_2_rows name a b w v r1 r2 ab p0 p1 =
    let s = leaf name (rule a r1 ∷ rule b r2 ∷ []) in
    let h1 = after s 1 w nothing_held in
    rw (plain_walked s.rules nothing_held 1 w p0, plain_walked s.rules h1 2 v p1) (simp (same a, same b, ab) refl)

pub two_more : (name a b w v u : Text) (r1 r2 : Bool) (rest : List Text) → bytes_eq a b ≡ false → IsPlain w → IsPlain v → IsPlain u
    → level_fault (leaf name (rule a r1 ∷ rule b r2 ∷ [])) [] nothing_held (w ∷ v ∷ u ∷ rest) false [] ≡ too_many
two_more name a b w v u r1 r2 rest ab p0 p1 p2 =
    let s = leaf name (rule a r1 ∷ rule b r2 ∷ []) in
    let h1 = after s 1 w nothing_held in
    let h2 = after s 2 v h1 in
    rw (plain_turn s nothing_held 1 w (v ∷ u ∷ rest) p0, plain_turn s h1 2 v (u ∷ rest) p1, plain_turn s h2 3 u rest p2) (simp (same a, ab) refl)

-- ---- three

pub three_0 : (name a b c : Text) (r1 r2 r3 : Bool) → bytes_eq a b ≡ false → bytes_eq a c ≡ false → bytes_eq b c ≡ false
    → level_fault (leaf name (rule a r1 ∷ rule b r2 ∷ rule c r3 ∷ [])) [] nothing_held [] false [] ≡ missing (r1 || (r2 || r3))
unfolding defaults_fault
three_0 name a b c r1 r2 r3 ab ac bc =
    let s = leaf name (rule a r1 ∷ rule b r2 ∷ rule c r3 ∷ []) in
    rw (walk_end s (at nothing_held 1)) (simp (and_true, or-false) refl)

pub three_1 : (name a b c w : Text) (r1 r2 r3 : Bool) → bytes_eq a b ≡ false → bytes_eq a c ≡ false → bytes_eq b c ≡ false → IsPlain w
    → level_fault (leaf name (rule a r1 ∷ rule b r2 ∷ rule c r3 ∷ [])) [] nothing_held (w ∷ []) false [] ≡ missing (r2 || r3)
unfolding defaults_fault
three_1 name a b c w r1 r2 r3 ab ac bc p0 =
    let s = leaf name (rule a r1 ∷ rule b r2 ∷ rule c r3 ∷ []) in
    let h1 = after s 1 w nothing_held in
    rw (plain_turn s nothing_held 1 w [] p0, walk_end s (at h1 2), plain_walked s.rules nothing_held 1 w p0)
    (simp (same a, ab, ac, and_true, and-false, or-false) refl)

pub three_2 : (name a b c w v : Text) (r1 r2 r3 : Bool) → bytes_eq a b ≡ false → bytes_eq a c ≡ false → bytes_eq b c ≡ false → IsPlain w → IsPlain v
    → level_fault (leaf name (rule a r1 ∷ rule b r2 ∷ rule c r3 ∷ [])) [] nothing_held (w ∷ v ∷ []) false [] ≡ missing r3
unfolding defaults_fault
three_2 name a b c w v r1 r2 r3 ab ac bc p0 p1 =
    let s = leaf name (rule a r1 ∷ rule b r2 ∷ rule c r3 ∷ []) in
    let h1 = after s 1 w nothing_held in
    let h2 = after s 2 v h1 in
    rw (
      plain_turn s nothing_held 1 w (v ∷ []) p0,
      plain_turn s h1 2 v [] p1,
      walk_end s (at h2 3),
      plain_walked s.rules nothing_held 1 w p0,
      plain_walked s.rules h1 2 v p1,
    )
    (simp (same a, same b, ab, ac, bc, and_true, and-false, or-false) refl)

pub three_2_rows : (name a b c w v : Text) (r1 r2 r3 : Bool) → bytes_eq a b ≡ false → bytes_eq a c ≡ false → bytes_eq b c ≡ false → IsPlain w → IsPlain v
    → rows_at (leaf name (rule a r1 ∷ rule b r2 ∷ rule c r3 ∷ [])) (w ∷ v ∷ []) ≡ (name, row a w ∷ row b v ∷ [])
three_2_rows name a b c w v r1 r2 r3 ab ac bc p0 p1 =
    let s = leaf name (rule a r1 ∷ rule b r2 ∷ rule c r3 ∷ []) in
    let h1 = after s 1 w nothing_held in
    rw (plain_walked s.rules nothing_held 1 w p0, plain_walked s.rules h1 2 v p1) (simp (same a, same b, ab, ac, bc) refl)

pub three_3 : (name a b c w v u : Text) (r1 r2 r3 : Bool) → bytes_eq a b ≡ false → bytes_eq a c ≡ false → bytes_eq b c ≡ false → IsPlain w → IsPlain v
    → IsPlain u
    → level_fault (leaf name (rule a r1 ∷ rule b r2 ∷ rule c r3 ∷ [])) [] nothing_held (w ∷ v ∷ u ∷ []) false [] ≡ []
unfolding defaults_fault
three_3 name a b c w v u r1 r2 r3 ab ac bc p0 p1 p2 =
    let s = leaf name (rule a r1 ∷ rule b r2 ∷ rule c r3 ∷ []) in
    let h1 = after s 1 w nothing_held in
    let h2 = after s 2 v h1 in
    let h3 = after s 3 u h2 in
    rw (
      plain_turn s nothing_held 1 w (v ∷ u ∷ []) p0,
      plain_turn s h1 2 v (u ∷ []) p1,
      plain_turn s h2 3 u [] p2,
      walk_end s (at h3 4),
      plain_walked s.rules nothing_held 1 w p0,
      plain_walked s.rules h1 2 v p1,
      plain_walked s.rules h2 3 u p2,
    )
    (simp (same a, same b, same c, ab, ac, bc, and-false, or-false) refl)

pub three_3_rows : (name a b c w v u : Text) (r1 r2 r3 : Bool) → bytes_eq a b ≡ false → bytes_eq a c ≡ false → bytes_eq b c ≡ false → IsPlain w → IsPlain v
    → IsPlain u
    → rows_at (leaf name (rule a r1 ∷ rule b r2 ∷ rule c r3 ∷ [])) (w ∷ v ∷ u ∷ []) ≡ (name, row a w ∷ row b v ∷ row c u ∷ [])
three_3_rows name a b c w v u r1 r2 r3 ab ac bc p0 p1 p2 =
    let s = leaf name (rule a r1 ∷ rule b r2 ∷ rule c r3 ∷ []) in
    let h1 = after s 1 w nothing_held in
    let h2 = after s 2 v h1 in
    rw (
      plain_walked s.rules nothing_held 1 w p0,
      plain_walked s.rules h1 2 v p1,
      plain_walked s.rules h2 3 u p2,
    ) (simp (same a, same b, same c, ab, ac, bc) refl)

pub three_more : (name a b c w v u x : Text) (r1 r2 r3 : Bool) (rest : List Text) → bytes_eq a b ≡ false → bytes_eq a c ≡ false → bytes_eq b c ≡ false
    → IsPlain w → IsPlain v → IsPlain u → IsPlain x
    → level_fault (leaf name (rule a r1 ∷ rule b r2 ∷ rule c r3 ∷ [])) [] nothing_held (w ∷ v ∷ u ∷ x ∷ rest) false [] ≡ too_many
three_more name a b c w v u x r1 r2 r3 rest ab ac bc p0 p1 p2 p3 =
    let s = leaf name (rule a r1 ∷ rule b r2 ∷ rule c r3 ∷ []) in
    let h1 = after s 1 w nothing_held in
    let h2 = after s 2 v h1 in
    let h3 = after s 3 u h2 in
    rw (
      plain_turn s nothing_held 1 w (v ∷ u ∷ x ∷ rest) p0,
      plain_turn s h1 2 v (u ∷ x ∷ rest) p1,
      plain_turn s h2 3 u (x ∷ rest) p2,
      plain_turn s h3 4 x rest p3,
    )
    (simp (same a, same b, ab, bc) refl)
