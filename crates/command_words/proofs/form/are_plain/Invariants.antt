use Rattle.std.proofs.Common.{take, string_bytes}
use Rattle.std.specs.List.{All}
use Rattle.command_words.specs.Forms.{IsPlain}
use Rattle.command_words.proofs.form.are_plain.Given as goal

abbrev pub invariant-loop-word : goal.invariant-loop-word
invariant-loop-word l = All (λ w. IsPlain (string_bytes w)) (take l.word-index l.words)
