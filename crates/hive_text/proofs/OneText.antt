-- A text is that of one registry.
use Rattle.std.proofs.Common.{◌≡◌, ℕ, ◌<◌, List, [], ◌∷◌, ◌++◌, length, refl, sym, ap, ◌∙◌, arith}
use Rattle.std.specs.Prelude.{codes}
use Rattle.std.proofs.lemmas.List.{append-nil}
use Rattle.registry_defs.specs.Keys.{Keys}
use Rattle.registry_defs.specs.Limits.{IsRegistry}
use Rattle.hive_text.specs.HiveText.{hive_text, keys_lines}
use Rattle.hive_text.specs.TextLines.{line_text, lines_of, lines_text}
use Rattle.hive_text.specs.declared.line.Line.{Line}
use Rattle.hive_text.proofs.Forward.{same_keys}
use Rattle.hive_text.proofs.LineTexts.{AreLines, all_fit, goes_on, some_line, text_is}

pub head_gone : (a b : List ℕ) → codes "hive 1\n" ++ a ≡ codes "hive 1\n" ++ b → a ≡ b
head_gone a b e = cc

no_lines : (told : List Line) → [] ≡ lines_text told → told ≡ []
no_lines [] e = refl
no_lines (line ∷ told) e = absurd (never (line_text line) (lines_text told) (some_line line) e)
  where
    never : (t u : List ℕ) → 0 < length t → [] ≡ t ++ u → ⊥
    never [] u some is = absurd (omega (arith, some))
    never (x ∷ t) u some is = absurd cc

pub same_lines : (a b : List Line) → AreLines a → AreLines b → lines_text a ≡ lines_text b → a ≡ b
same_lines a b h k e =
    let on = goes_on a b [] h k (e ∙ sym (append-nil (lines_text b))) in
    let none : on.more ≡ [] = no_lines on.more on.rest_is in
    on.all_are ∙ ap (λ (t : List Line). b ++ t) none ∙ append-nil b

pub one_registry : (keys others : Keys) → IsRegistry keys → IsRegistry others → hive_text keys ≡ hive_text others → keys ≡ others
one_registry keys others registry other e =
    let lines : lines_text (lines_of 0 keys) ≡ lines_text (lines_of 0 others) = text_is 0 keys ∙ head_gone (keys_lines 0 keys) (keys_lines 0 others) e ∙ sym (text_is 0 others) in
    same_keys keys others registry other (same_lines (lines_of 0 keys) (lines_of 0 others) (all_fit 0 keys registry.limits) (all_fit 0 others other.limits) lines)
