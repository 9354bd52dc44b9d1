use Rattle.quorum_log.proofs.Scans.{scan_next}
use Rattle.quorum_log.proofs.checking.read_records.Goals as goal

pub records-preserved : goal.records-preserved
records-preserved c =
    let i = c.records.invariant in
    let next = scan_next c.args.image.now c.args.end c.args.start c.records.at c.in_ok-count.count c.records.records.items _ c.in_ok-bytes.bytes
    i.listed i.place c.records-test.true c.in_ok-count.ensures c.in_ok-bytes.ensures c.in_ok-push.ensures.items in
    record { listed = next.0; place = next.1; room = next.2 }
