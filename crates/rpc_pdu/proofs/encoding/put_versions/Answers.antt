use Rattle.std.proofs.Common.{arith}
use Rattle.std.proofs.lemmas.Grind.{common_steps}
use Rattle.rpc_pdu.specs.Encoding.{VersionInRange}
use Rattle.rpc_pdu.proofs.Loops.{one_more}
use Rattle.rpc_pdu.proofs.encoding.put_versions.Goals as goal

pub loop-version-preserved : goal.loop-version-preserved
loop-version-preserved c = record {
  text = grind (arith, common_steps);
  range = one_more VersionInRange c.args.versions.now c.loop-version.version-index (0, 0) c.loop-version-test.true c.loop-version.invariant.range c.in_ok-put_version.ensures.range;
}
