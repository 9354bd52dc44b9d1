use Rattle.std.proofs.Common.{Some, ap, refl}
use Rattle.script_player.specs.Playing.{Play}
use Rattle.script_player.specs.Yields.{nothing}
use Rattle.script_player.proofs.replaying.begin.Goals as goal

pub returns-in-Empty-clause-plays : goal.returns-in-Empty-clause-plays
returns-in-Empty-clause-plays c = (nothing, rw c.in-Empty.is (refl, c.requires.unbegun), c.new.ensures.items)

pub returns-in_ok-player-in-Cap-clause-plays : goal.returns-in_ok-player-in-Cap-clause-plays
returns-in_ok-player-in-Cap-clause-plays c =
    let opened = c.in_ok-player-in-Cap.ensures in
    (nothing, rw c.in-Cap.is (refl, opened.0, opened.1, ap (λ (p : Play). Some p) opened.2), c.new-in-Cap.ensures.items)
