use Rattle.script_player.proofs.Telling.{all_printed, one_printed}
use Rattle.script_player.proofs.hearing.print_told.Goals as goal

pub told-preserved : goal.told-preserved
told-preserved c =
    one_printed c.told.one-index c.args.told.now c.one-item.result _ c.in_ok-line.line.items _ _ c.told-test.true c.one-item.is c.in_ok-line.ensures (rw c.deref.ensures.value at c.in_ok-extend_from_slice.ensures.items)
    c.told.invariant

pub returns : goal.returns
returns c = all_printed c.told.one-index c.args.told.now _ _ c.told-test.false c.told.invariant
