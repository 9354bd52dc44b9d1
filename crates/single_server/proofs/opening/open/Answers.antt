use Rattle.std.proofs.Common.{◌+◌}
use Rattle.single_server.proofs.OpenLaws.{begun, not_begun}
use Rattle.single_server.proofs.opening.open.Goals as goal

pub returns-in-Ok-clause-begins : goal.returns-in-Ok-clause-begins
returns-in-Ok-clause-begins g c =
    begun c.args.stamp c.in_ok-count.count (g.D.Disk.view c.args.disk.now) (g.D.Disk.view c.count_records.new.disk) (g.D.Disk.view c.open.new.disk) c.in-Ok.single
    c.in_ok-count.ensures.counts c.in-Ok.ensures.opens c.in_ok-count.ensures.same_disk c.in-Ok.ensures.same_disk

pub returns-in-Err-clause-begins : goal.returns-in-Err-clause-begins
returns-in-Err-clause-begins g c =
    rw c.at_start.ensures (not_begun c.args.stamp c.in_ok-count.count (c.in_ok-count.count + 1) (g.D.Disk.view c.args.disk.now) (g.D.Disk.view c.count_records.new.disk) (g.D.Disk.view c.open.new.disk)
    c.in_ok-count.ensures.counts c.in_ok-count.ensures.same_disk c.in-Err.fault c.in-Err.ensures.opens)
