use Rattle.std.proofs.Common.{◌≡◌, Err, sym, subst}
use Rattle.cluster_script.specs.declared.line_fault.LineFault.TheVariants.{Column}
use Rattle.cluster_script.specs.Words.{Words, end_at, words_in}
use Rattle.cluster_script.proofs.Cuts.{word_left}
use Rattle.cluster_script.proofs.words.Words.end.Goals as goal

pub returns-in-Some : goal.returns-in-Some
returns-in-Some c =
    let here : Err (Column c.self.inside.next) ≡ end_at c.self.inside.next (words_in c.self.inside.rest) =
    rw c.in-Some.is (sym (word_left c.self.inside.next c.in-Some.field-0.now)) in
    let P : Words → Type 0 = λ words. Err (Column c.self.inside.next) ≡ end_at words.next words.left in
    subst P c.self.view_is here
