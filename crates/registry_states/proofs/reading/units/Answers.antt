use Rattle.std.proofs.Common.{sym, ◌∷◌, [], length-append, arith}
use Rattle.wire_fields.specs.Reading.{number_at, times}
use Rattle.wire_fields.proofs.ListLaws.{goes_on, ends, is_done}
use Rattle.registry_states.proofs.Wholes.{whole_cut, whole_read}
use Rattle.registry_states.proofs.reading.units.Goals as goal

pub returns-in-Err-clause-taken : goal.returns-in-Err-clause-taken
returns-in-Err-clause-taken c =
    let cut = ends (number_at 2) c.units.units.items c.args.count c.units.counter c.units.fields (times c.args.count (number_at 2) c.args.fields.now) c.units-test.true c.in-Err.ensures.0 c.units.invariant.read in
    whole_cut c.args.fields.now.place c.place-place.result _ cut (sym c.place-place.ensures)

pub units-preserved : goal.units-preserved
units-preserved c = record {
  read = rw c.in_ok-push-in-Ok.ensures.items (goes_on (number_at 2) c.units.units.items c.args.count c.units.counter c.units.fields c.in-Ok.unit c.u16.new.self (times c.args.count (number_at 2) c.args.fields.now) c.units-test.true c.in-Ok.ensures c.units.invariant.read);
  many = rw c.in_ok-push-in-Ok.ensures.items (omega (arith, length-append c.units.units.items (c.in-Ok.unit ∷ []), c.units.invariant.many));
}

pub returns-clause-taken : goal.returns-clause-taken
returns-clause-taken c = whole_read c.args.fields.now.place _ _ (is_done (number_at 2) c.units.units.items c.args.count c.units.counter c.units.fields (times c.args.count (number_at 2) c.args.fields.now) c.units-test.false c.units.invariant.read)
