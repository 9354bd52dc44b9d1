use Rattle.std.proofs.Common.{◌≡◌, ◌∙◌, ap, inl, inr, map, string_bytes, subst, sym}
use Rattle.clap.specs.Words.{App, HasKind, Kinds, app_of, fault_of, is_simple, is_simple_and_free, subcommand_of}
use Rattle.command_words.specs.Grammar.{program}
use Rattle.command_words.proofs.Names.{program_free, program_simple}
use Rattle.command_words.proofs.grammar.matches_of.Goals as goal

pub returns-in-Ok : goal.returns-in-Ok
returns-in-Ok c =
    let is : app_of c.in_ok-program.field-0 ≡ program = c.in_ok-program.ensures in
    let none = c.in-Ok.ensures.kinds (ap is_simple_and_free is ∙ program_free) in
    let same = c.in-Ok.ensures.matches (ap is_simple is ∙ program_simple) in
    (ap (λ (a : App). fault_of a (map string_bytes c.args.words.now)) (sym is) ∙ none, same.1 ∙ ap (λ (a : App). subcommand_of a (map string_bytes c.args.words.now)) is)

pub returns : goal.returns
returns c = λ none.
    let is : app_of c.in_ok-program.field-0 ≡ program = c.in_ok-program.ensures in
    let kinds = c.in-Err.ensures.kinds (ap is_simple_and_free is ∙ program_free) in
    let only = subst (λ (ks : Kinds). HasKind ks c.in-Err.error) (ap (λ (a : App). fault_of a (map string_bytes c.args.words.now)) is ∙ none) kinds in
    elim only [ inl memory ↦ c.in_default.not-OutOfMemory (c.kind.ensures ∙ memory) | inr nothing ↦ absurd nothing ]
