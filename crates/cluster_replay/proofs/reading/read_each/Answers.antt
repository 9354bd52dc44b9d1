use Rattle.update_records.specs.Limits.{HasFields}
use Rattle.cluster_replay.proofs.Typed.{all_each, each_more}
use Rattle.cluster_replay.proofs.reading.read_each.Goals as goal

pub changes-preserved : goal.changes-preserved
changes-preserved c =
    each_more HasFields c.args.changes.now c.changes.change-index c.change-item.result c.changes-test.true c.change-item.is c.changes.invariant c.read_change.ensures

pub returns : goal.returns
returns c = all_each HasFields c.args.changes.now c.changes.change-index c.changes-test.false c.changes.invariant
