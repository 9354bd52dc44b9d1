use Rattle.std.proofs.Common.{rules, ◌<◌, ◌^◌, length}
use Rattle.script_player.proofs.Bounding.{comes_room}
use Rattle.script_player.proofs.Pumping.{came}
use Rattle.script_player.proofs.player.Player.step.Goals as goal

pub returns-clause-room : goal.returns-clause-room
returns-clause-room c = λ more room.
    let after = rw c.deref.ensures.value at c.in_ok-note.ensures in
    let small : length c.in-Ok.told.items < 2 ^ 64 = search rules in
    comes_room c.args.event.now c.args.self.now c.note.new.self c.in-Ok.told.items more small
    (came c.args.event.now c.args.self.now c.note.new.self c.in-Ok.told.items c.step.new.self.world c.requires.allowed c.in-Ok.ensures.typed (rw (← c.self.view_is) c.in-Ok.ensures.steps)
    (rw (← c.self.view_is) after)) room
