use Rattle.std.proofs.Common.{refl}
use Rattle.script_player.specs.Yields.{told_of}
use Rattle.script_player.proofs.player.Player.hear.Goals as goal

pub returns-clause-hears : goal.returns-clause-hears
returns-clause-hears c =
    (told_of c.args.event.now c.in-Ok.told.items, (c.in-Ok.told.items, c.in-Ok.ensures.steps, refl), rw c.deref.ensures.value at c.in_ok-print_told.ensures)
