-- How clap's walk takes a word that doesn't begin with `-`.
use Rattle.std.proofs.Common.{◌≡◌, ℕ, false, List, [], ◌∷◌, None, refl, arith, ◌==◌}
use Rattle.std.proofs.lemmas.Bool.Decides.{nat_tests}
use Rattle.clap.specs.Words.{Rule, Shape, Text}
use Rattle.clap.specs.Kinds.{or_else}
use Rattle.clap.specs.Walk.{Held, Names, Walk, subcommand_met, idle, value, word_met, walked, to_positional, arg_by_index}
use Rattle.clap.specs.Faults.{word_fault, step_fault, walk_fault}
use Rattle.command_words.specs.Forms.{IsPlain}

-- The walk before a word for the positional at this place.
abbrev pub at : Held → ℕ → Walk
at h position = record { held = h; waiting = idle; position = position; is_trailing = false; stopped = None }

pub no_flag : (c : List Rule) (names : Names) (position : ℕ) (w : Text) (h : Held) → subcommand_met names idle w ≡ None → IsPlain w → word_met c names false idle position w h ≡ (h, value)
no_flag c names position [] h none plain = rw none refl
no_flag c names position (x ∷ xs) h none plain =
    let other : (x == 45) ≡ false = grind (arith, nat_tests, plain) in
    rw (none, other, other) refl

pub no_fault : (s : Shape) (names : Names) (w : Text) (h : Held) → subcommand_met names idle w ≡ None → IsPlain w → word_fault s names false idle w h ≡ []
no_fault s names [] h none plain = rw none refl
no_fault s names (x ∷ xs) h none plain =
    let other : (x == 45) ≡ false = grind (arith, nat_tests, plain) in
    rw (none, other, other) refl

pub plain_walked : (c : List Rule) (h : Held) (position : ℕ) (w : Text) → IsPlain w
    → walked c [] (at h position) w ≡ to_positional c (arg_by_index c position) w (at h position) h
unfolding walked
plain_walked c h position w plain = rw (no_flag c [] position w h refl plain) refl

pub plain_turn : (s : Shape) (h : Held) (position : ℕ) (w : Text) (rest : List Text) → IsPlain w
    → walk_fault s [] (at h position) (w ∷ rest)
    ≡ or_else (step_fault s position h value) (walk_fault s [] (to_positional s.rules (arg_by_index s.rules position) w (at h position) h) rest)
unfolding walk_fault
plain_turn s h position w rest plain = rw (no_flag s.rules [] position w h refl plain, no_fault s [] w h refl plain, plain_walked s.rules h position w plain) refl
