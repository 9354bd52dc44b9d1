use Rattle.std.proofs.Common.{refl}
use Rattle.wire_fields.specs.Reading.{number_at, times}
use Rattle.wire_fields.proofs.ListLaws.{goes_on, ends, is_done}
use Rattle.ndr_values.proofs.text.sent_units.Goals as goal

pub returns-in-Err : goal.returns-in-Err
returns-in-Err c =
    let none = ends (number_at 2) c.units.units.items c.args.count c.units.counter c.units.from (times c.args.count (number_at 2) c.args.from.now) c.units-test.true c.in-Err.ensures.0 c.units.invariant in
    rw (none, c.place-place.ensures) refl

pub units-preserved : goal.units-preserved
units-preserved c =
    rw c.in_ok-push.ensures.items
    (goes_on (number_at 2) c.units.units.items c.args.count c.units.counter c.units.from c.in-Ok.unit c.u16.new.self (times c.args.count (number_at 2) c.args.from.now) c.units-test.true c.in-Ok.ensures c.units.invariant)

pub returns : goal.returns
returns c =
    let done = is_done (number_at 2) c.units.units.items c.args.count c.units.counter c.units.from (times c.args.count (number_at 2) c.args.from.now) c.units-test.false c.units.invariant in
    rw done refl
