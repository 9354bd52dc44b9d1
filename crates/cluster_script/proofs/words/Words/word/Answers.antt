use Rattle.std.proofs.Common.{◌≡◌, ◌+◌, Ok, length, subst}
use Rattle.cluster_script.specs.Words.{Words, word_at, words_in}
use Rattle.cluster_script.proofs.Cuts.{word_taken}
use Rattle.cluster_script.proofs.words.Words.word.Goals as goal

pub returns : goal.returns
returns c =
    let now : Words = record { last = c.self.inside.next; next = c.self.inside.next + (length c.cut.result.0.now + 1); left = words_in c.cut.result.1 } in
    let P : Words → Type 0 = λ words. word_at words ≡ Ok (c.cut.result.0.now, now) in
    let here : P (record { last = c.self.inside.last; next = c.self.inside.next; left = words_in c.self.inside.rest }) =
    rw c.in-Some.is (word_taken c.self.inside.last c.self.inside.next c.in-Some.rest.now c.cut.result.0.now c.cut.result.1 c.cut.ensures.front c.cut.ensures.behind) in
    subst P c.self.view_is here
