use Rattle.std.proofs.Common.{rules, arith}
use Rattle.quorum_log.proofs.Places.{window_is}
use Rattle.quorum_log.proofs.reading.has_magic.Goals as goal

pub returns : goal.returns
returns c = rw (← window_is c.args.header.now 1 7 (omega (arith, c.requires))) (search rules)
