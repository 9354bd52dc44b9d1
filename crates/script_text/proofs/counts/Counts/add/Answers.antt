use Rattle.std.proofs.Common.{◌+◌, ◌-◌, ◌<◌, ◌≤◌, length, arith}
use Rattle.script_text.proofs.CountLaws.{counted_all, counted_more, room_more}
use Rattle.script_text.specs.Counting.{counted}
use Rattle.script_text.proofs.counts.Counts.add.Goals as goal

pub told-preserved : goal.told-preserved
told-preserved c =
    let less : length c.args.told.now - (c.told.one-index + 1) < length c.args.told.now - c.told.one-index = omega (arith, c.told-test.true) in
    rw c.add_one.ensures record {
      counted = counted_more c.told.self c.args.told.now c.told.one-index c.one-item.result (counted c.args.self.now c.args.told.now) c.told-test.true c.one-item.is c.told.invariant.counted;
      room = room_more c.told.self c.one-item.result (length c.args.told.now - (c.told.one-index + 1)) (length c.args.told.now - c.told.one-index) less c.told.invariant.room;
    }

pub returns : goal.returns
returns c =
    let all : length c.args.told.now ≤ c.told.one-index = omega (arith, c.told-test.false) in
    counted_all c.told.self c.args.told.now c.told.one-index (counted c.args.self.now c.args.told.now) all c.told.invariant.counted
