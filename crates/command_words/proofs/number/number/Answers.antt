use Rattle.std.proofs.Common.{rules, ◌≡◌, Some, ap, arith, codes, sym, ◌∙◌}
use Rattle.std.proofs.lemmas.Slice.Eq.{bytes_eq-Decides}
use Rattle.command_words.proofs.Numbers.{not_zero, only_zero, zero_word}
use Rattle.command_words.proofs.number.number.Goals as goal

pub returns-then-eq-clause-found : goal.returns-then-eq-clause-found
returns-then-eq-clause-found c =
    let is : c.args.word.now ≡ codes "0" = (bytes_eq-Decides c.args.word.now (codes "0")).0 (search rules) in
    (omega arith, is ∙ sym zero_word)

pub returns-then-eq-clause-only : goal.returns-then-eq-clause-only
returns-then-eq-clause-only c = λ n fits written.
    let is : c.args.word.now ≡ codes "0" = (bytes_eq-Decides c.args.word.now (codes "0")).0 (search rules) in
    ap Some (sym (only_zero c.args.word.now n fits is written))

pub returns-clause-only : goal.returns-clause-only
returns-clause-only c = λ n fits written.
    c.positive_number.ensures.only n (not_zero c.args.word.now n (λ is. absurd (cc (c.eq.ensures, c.if-eq.false, (bytes_eq-Decides c.args.word.now (codes "0")).1 is))) written) fits written
