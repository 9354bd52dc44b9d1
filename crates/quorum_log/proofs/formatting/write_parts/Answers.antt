use Rattle.std.proofs.Common.{rules, inl, inr, arith}
use Rattle.std.proofs.lemmas.List.{length-take-le}
use Rattle.disk_core.specs.Calls.{Made}
use Rattle.quorum_log.proofs.formatting.write_parts.Goals as goal

pub write-requires : goal.write-requires
write-requires g c = omega (arith, c.requires.size, length-take-le 88 c.args.text.now c.requires.front)

pub returns-in_err-write-2 : goal.returns-in_err-write-2
unfolding Made
returns-in_err-write-2 g c = inl (_, (_, c.in_ok-write.ensures), inr (_, c.in_err-write-2.ensures, search rules))

pub returns-in_err-write-3 : goal.returns-in_err-write-3
unfolding Made
returns-in_err-write-3 g c = inl (_, (_, c.in_ok-write.ensures), inl (_, (_, c.in_ok-write-2.ensures), inr (_, c.in_err-write-3.ensures, search rules)))

pub returns : goal.returns
unfolding Made
returns g c = inl (_, (_, c.in_ok-write.ensures), inl (_, (_, c.in_ok-write-2.ensures), inl (_, (_, c.in_ok-write-3.ensures), search rules)))
