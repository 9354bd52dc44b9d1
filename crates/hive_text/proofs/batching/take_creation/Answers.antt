use Rattle.std.proofs.Common.{ap, length, arith}
use Rattle.hive_text.proofs.ChangeSizes.{length-creation}
use Rattle.hive_text.proofs.batching.take_creation.Goals as goal

pub take-requires-clause-size : goal.take-requires-clause-size
take-requires-clause-size c = rw (c.root.ensures, c.in_ok-subkey.ensures) (omega (arith, length-creation c.args.path.now, ap length c.units.ensures.text))
