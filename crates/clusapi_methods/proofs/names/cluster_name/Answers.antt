use Rattle.std.proofs.Common.{sym, subst, ◌∙◌}
use Rattle.clusapi_methods.specs.Sizes.{IsShortText}
use Rattle.clusapi_methods.proofs.NameTexts.{data_text, text_told}
use Rattle.clusapi_methods.proofs.names.cluster_name.Goals as goal

pub returns-clause-name : goal.returns-clause-name
returns-clause-name c =
    let found = rw (c.root.ensures, c.in_ok-name.ensures) at c.in-Some.ensures.found in
    c.new-in-Some.ensures ∙ c.in_ok-text_in-in-Some.ensures ∙ text_told _ _ _ found

pub returns-clause-text : goal.returns-clause-text
returns-clause-text c = subst IsShortText (sym (c.new-in-Some.ensures ∙ c.in_ok-text_in-in-Some.ensures)) (data_text c.in-Some.bytes.now c.in-Some.ensures.short)
