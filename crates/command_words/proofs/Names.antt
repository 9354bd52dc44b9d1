-- What clap makes of the first word: a name passes the words behind it to its subcommand, and any other word is refused.
use Rattle.std.proofs.Common.{◌≡◌, ◌∙◌, true, false, List, [], ◌∷◌, fold, Some, None, codes, refl, ap, sym, find}
use Rattle.std.specs.Str.{bytes_eq}
use Rattle.std.proofs.Math.Bool.{and-false}
use Rattle.clap.specs.Words.{Kinds, Shape, Text, built, fault_of, is_simple, subcommand_of}
use Rattle.clap.specs.Kinds.{or_else}
use Rattle.clap.specs.declared.error.kind.ErrorKind.TheVariants.{InvalidSubcommand, UnknownArgument}
use Rattle.clap.specs.Walk.{Walk, answers_to, idle, nothing_held, subcommand_met, walk, walk_from, walked}
use Rattle.clap.specs.Simple.{label_of, names_of, rows_at}
use Rattle.clap.specs.Faults.{defaults_fault, is_simple_and_free, level_fault, walk_fault}
use Rattle.clap.proofs.WalkLemmas.{walk_stopped}
use Rattle.clap.proofs.FaultLemmas.{stopped_fault}
use Rattle.command_words.specs.Grammar.{program}
use Rattle.command_words.specs.Forms.{IsPlain}
use Rattle.command_words.proofs.PlainWords.{no_fault, no_flag}

pub program_simple : is_simple program ≡ true
program_simple = refl

pub program_free : is_simple_and_free program ≡ true
program_free = refl

abbrev pub above : Shape
above = (built program).top

abbrev pub names : List (Text × List Text)
names = names_of (built program)

-- The walk that stopped at a name, with the words behind it.
abbrev pub entering : Text → List Text → Walk
entering name args = record (walk_from nothing_held) { stopped = Some (name, args) }

last_none : (a : Kinds) → or_else a [] ≡ a
last_none [] = refl
last_none (k ∷ ks) = refl

-- ---- a name

first_word : (name : Text) → subcommand_met names idle name ≡ Some name → walked above.rules names (walk_from nothing_held) name ≡ entering name []
unfolding walked
first_word name met = rw met refl

enters : (name : Text) (args : List Text) → subcommand_met names idle name ≡ Some name → walk above.rules names nothing_held (name ∷ args) ≡ entering name args
enters name args met =
    ap (λ (w : Walk). fold (walked above.rules names) w args) (first_word name met) ∙ sym (walk_stopped above.rules names (walk_from nothing_held) name [] args)

passes : (name : Text) (args : List Text) → subcommand_met names idle name ≡ Some name → walk_fault above names (walk_from nothing_held) (name ∷ args) ≡ []
unfolding walk_fault
passes name args met = rw (met, and-false (bytes_eq name (codes "help")), first_word name met, stopped_fault above names (walk_from nothing_held) (name, []) args) refl

pub level_below : (name : Text) (s : Shape) (args : List Text) → subcommand_met names idle name ≡ Some name → find (λ s. answers_to name (label_of s)) (built program).subs ≡ Some s
    → fault_of program (name ∷ args) ≡ level_fault s [] nothing_held args false []
unfolding defaults_fault
level_below name s args met sub =
    rw (enters name args met, passes name args met, sub) (last_none (level_fault s [] nothing_held args false []))

pub rows_below : (name : Text) (s : Shape) (args : List Text) → subcommand_met names idle name ≡ Some name → find (λ s. answers_to name (label_of s)) (built program).subs ≡ Some s
    → subcommand_of program (name ∷ args) ≡ Some (rows_at s args)
rows_below name s args met sub = rw (enters name args met, sub) refl

-- ---- another word

refused : (word : Text) (args : List Text) → subcommand_met names idle word ≡ None → IsPlain word → walk_fault above names (walk_from nothing_held) (word ∷ args) ≡ UnknownArgument ∷ InvalidSubcommand ∷ []
unfolding walk_fault
refused word args none plain = rw (no_flag above.rules names 1 word nothing_held none plain, no_fault above names word nothing_held none plain) refl

pub unknown : (word : Text) (args : List Text) → subcommand_met names idle word ≡ None → IsPlain word → fault_of program (word ∷ args) ≡ UnknownArgument ∷ InvalidSubcommand ∷ []
unknown word args none plain = rw (refused word args none plain) refl
