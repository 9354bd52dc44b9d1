use Rattle.std.proofs.Common.{◌≤◌, arith}
use Rattle.std.proofs.lemmas.Bool.Decides.{nat_tests}
use Rattle.hive_text.proofs.LineReads.{too_great}
use Rattle.hive_text.proofs.parsing.read_kind.Goals as goal

pub returns-else-number-le4294967295 : goal.returns-else-number-le4294967295
returns-else-number-le4294967295 c =
    let more = c.if-number-le4294967295.false in
    let great : c.in-Some.number ≤ 0xFFFFFFFF → ⊥ = λ le. grind (arith, nat_tests) in
    too_great c.args.word.now c.in-Some.number c.in-Some.ensures.0 c.in-Some.ensures.1 great
