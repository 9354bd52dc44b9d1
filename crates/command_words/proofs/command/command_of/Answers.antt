use Rattle.std.proofs.Common.{map, string_bytes, subst, sym}
use Rattle.command_words.specs.Commands.{Says}
use Rattle.command_words.specs.Forms.{Texts, texts_of}
use Rattle.command_words.proofs.CommandLaws.{has_form, mapped, not_mapped, says, texts_for}
use Rattle.command_words.proofs.command.command_of.Goals as goal

pub returns-in-Some-clause-only : goal.returns-in-Some-clause-only
returns-in-Some-clause-only c = λ asked asks.
    let words = map string_bytes c.args.words.now in
    let found = c.in_ok-form.ensures.only (texts_for asked) (has_form words asked asks) in
    let same = mapped texts_of _ c.in-Some.form (texts_for asked) c.in-Some.is found in
    c.read.ensures.only asked (subst (λ (t : Texts). Says t asked) (sym same) (says words asked asks))

pub returns-in-None-clause-only : goal.returns-in-None-clause-only
returns-in-None-clause-only c = λ asked asks.
    let words = map string_bytes c.args.words.now in
    let found = c.in_ok-form.ensures.only (texts_for asked) (has_form words asked asks) in
    not_mapped texts_of _ (texts_for asked) c.in-None.is found
