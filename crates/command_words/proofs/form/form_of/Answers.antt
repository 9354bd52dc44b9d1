use Rattle.std.proofs.Common.{rules, ◌≡◌, ◌∙◌, ap, sym, map, string_bytes, Option, Some, None, List, ℕ, option_map}
use Rattle.std.specs.Prelude.{IfSome}
use Rattle.std.specs.List.{All}
use Rattle.command_words.specs.Forms.{HasForm, IsPlain, Texts, texts_of, words_of}
use Rattle.command_words.specs.Grammar.{texts_in}
use Rattle.command_words.specs.declared.form.Form.{Form}
use Rattle.command_words.proofs.FormLaws.{read_words, reads_back, taken}
use Rattle.command_words.proofs.form.form_of.Goals as goal

form_found : (words : List (List ℕ)) (form : Option Form) (given : Option Texts) → All IsPlain words → option_map texts_of form ≡ given → (texts : Texts) × (given ≡ Some texts) × (words ≡ words_of texts)
    → IfSome form (λ form. HasForm words (texts_of form))
form_found words (Some form) given plain is read =
    let e : Some (texts_of form) ≡ Some read.0 = is ∙ read.1 in
    let same : texts_of form ≡ read.0 = cc (e) in
    record { same = read.2 ∙ ap words_of (sym same); plain = plain }
form_found words None given plain is read = tt

pub returns-in-Some-clause-found : goal.returns-in-Some-clause-found
returns-in-Some-clause-found c =
    let words = map string_bytes c.args.words.now in
    let plain : All IsPlain (map string_bytes c.args.words.now) = c.are_plain.ensures.0 (search rules) in
    let taken_by = rw c.in-Some.is at c.in_ok-matches.ensures in
    form_found words c.form_in.result _ plain (c.form_in.ensures ∙ ap texts_in taken_by.1) (reads_back words plain taken_by.0)

pub returns-in-Some-clause-only : goal.returns-in-Some-clause-only
returns-in-Some-clause-only c = λ texts has.
    let taken_by = rw c.in-Some.is at c.in_ok-matches.ensures in
    c.form_in.ensures ∙ ap texts_in taken_by.1 ∙ read_words (map string_bytes c.args.words.now) texts has

pub returns-in-None-clause-only : goal.returns-in-None-clause-only
returns-in-None-clause-only c = λ texts has.
    let refused = rw c.in-None.is at c.in_ok-matches.ensures in
    absurd (refused (taken (map string_bytes c.args.words.now) texts has))
