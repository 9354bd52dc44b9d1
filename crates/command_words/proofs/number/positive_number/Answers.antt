use Rattle.std.proofs.Common.{rules}
use Rattle.command_words.proofs.Numbers.{read_word, begins_above, word_read, one_number, no_error}
use Rattle.command_words.proofs.number.positive_number.Goals as goal

pub returns-then-not-begins_above_zero-clause-only : goal.returns-then-not-begins_above_zero-clause-only
returns-then-not-begins_above_zero-clause-only c = λ number some fits is.
    let above = rw c.if-not-begins_above_zero.true at (c.begins_above_zero.ensures.1 (begins_above c.args.word.now number some fits is)) in
    absurd (cc (above))

pub returns-in-Ok-clause-found : goal.returns-in-Ok-clause-found
returns-in-Ok-clause-found c =
    read_word c.args.word.now c.in-Ok.number (c.begins_above_zero.ensures.0 (rw c.if-not-begins_above_zero.false (search rules))) c.in-Ok.ensures.value.0

pub returns-in-Ok-clause-only : goal.returns-in-Ok-clause-only
returns-in-Ok-clause-only c = λ number some fits is.
    one_number c.parse.result c.in-Ok.number number c.in-Ok.is (word_read c.args.word.now number c.parse.result fits is c.parse.ensures.value.0)

pub returns-in-Err-clause-only : goal.returns-in-Err-clause-only
returns-in-Err-clause-only c = λ number some fits is.
    no_error c.parse.result _ number c.in-Err.is (word_read c.args.word.now number c.parse.result fits is c.parse.ensures.value.0)
