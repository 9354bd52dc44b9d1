use Rattle.std.proofs.Common.{◌∙◌, sym}
use Rattle.update_records.specs.Entry.{Entry}
use Rattle.record_log.proofs.Replays.{replayed_more}
use Rattle.record_log.proofs.opening.replayed.Goals as goal

pub records-preserved : goal.records-preserved
records-preserved c =
    let inside = c.record.inside in
    let e : Entry = record { place = inside.place; stamp = inside.stamp; id = inside.id; update = inside.update } in
    let here = c.records.registry in
    record {
      replayed =
          replayed_more c.args.records.now c.records.record-index c.record-item.result e here c.apply.new.self c.in_ok-apply.field-0 c.records-test.true c.record-item.is (sym c.record.view_is) c.in_ok-apply.ensures
          ∙ c.records.invariant.replayed;
      cap = c.in_ok-apply.ensures.2 ∙ c.records.invariant.cap;
    }
