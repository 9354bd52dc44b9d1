use Rattle.std.proofs.Common.{rules, ◌≡◌, ◌≤◌, ◌+◌, ◌*◌, ◌^◌, suc, refl, ap, ◌∙◌, arith}
use Rattle.script_player.specs.Marks.{skipped}
use Rattle.script_player.specs.Playing.{Play}
use Rattle.script_player.specs.Yields.{nothing}
use Rattle.script_player.proofs.Lines.{asked_lines, delivered_requests, happened_requests, lines_on, pumped_requests, show_plays, skip_room}
use Rattle.script_player.proofs.Pumping.{fewer_steps}
use Rattle.script_player.proofs.player.Player.play.Goals as goal

pub returns-in-Empty-clause-plays : goal.returns-in-Empty-clause-plays
returns-in-Empty-clause-plays c = (nothing, (c.args.self.now, rw c.in-Empty.is (refl, refl), refl), c.new-text.ensures.items)

pub returns-in_ok-hear-in-Step-clause-room : goal.returns-in_ok-hear-in-Step-clause-room
returns-in_ok-hear-in-Step-clause-room c = λ lines room.
    let heard = c.in_ok-hear-in-Step.ensures in
    lines_on lines _ _ room (λ steps. heard.room (lines * 2 ^ 32) (fewer_steps (suc lines * 2 ^ 32) (suc (lines * 2 ^ 32)) _ (omega arith) steps)) (happened_requests _ _ _ _ heard.hears.1)

pub returns-in_ok-pump-in-Pump-clause-room : goal.returns-in_ok-pump-in-Pump-clause-room
returns-in_ok-pump-in-Pump-clause-room c = λ lines room.
    let pumped = c.in_ok-pump-in-Pump.ensures in
    let small : c.in-Pump.count ≤ 4294967296 = search rules in
    lines_on lines _ _ room (λ steps. pumped.room (lines * 2 ^ 32) (fewer_steps (suc lines * 2 ^ 32) (c.in-Pump.count + lines * 2 ^ 32) _ (omega (arith, small)) steps)) (pumped_requests _ _ _ _ pumped.pumps.1)

pub returns-in-Skip-clause-plays : goal.returns-in-Skip-clause-plays
returns-in-Skip-clause-plays c =
    let is : c.skip.new.self ≡ skipped c.in-Skip.count c.args.self.now.marks = c.skip.ensures ∙ ap (λ (p : Play). skipped c.in-Skip.count p.marks) c.self.view_is in
    (nothing, (_, rw (c.in-Skip.is, is, ← c.self.view_is) (refl, refl), refl), c.new-text.ensures.items)

pub returns-in-Skip-clause-room : goal.returns-in-Skip-clause-room
returns-in-Skip-clause-room c = λ lines room. skip_room lines c.in-Skip.count c.args.self.now _ (rw (c.skip.ensures, ← c.self.view_is) refl) room

pub returns-in_ok-pick-in-Pick-clause-room : goal.returns-in_ok-pick-in-Pick-clause-room
returns-in_ok-pick-in-Pick-clause-room c = λ lines room.
    let picked = c.in_ok-pick-in-Pick.ensures in
    lines_on lines _ _ room (λ steps. picked.room (lines * 2 ^ 32) (fewer_steps (suc lines * 2 ^ 32) (suc (lines * 2 ^ 32)) _ (omega arith) steps)) (delivered_requests _ _ _ _ picked.picks.1)

pub returns-in_ok-request-in-Request-clause-plays : goal.returns-in_ok-request-in-Request-clause-plays
returns-in_ok-request-in-Request-clause-plays c =
    let heard = rw c.new-text.ensures.items at c.in_ok-request-in-Request.ensures.hears in
    (heard.0, (c.request.new.self, rw c.in-Request.is heard.1, refl), heard.2)

pub returns-in_ok-request-in-Request-clause-room : goal.returns-in_ok-request-in-Request-clause-room
returns-in_ok-request-in-Request-clause-room c = λ lines room.
    let heard = c.in_ok-request-in-Request.ensures in
    asked_lines lines c.in-Request.conn _ _ room (λ steps. heard.room (lines * 2 ^ 32) (fewer_steps (suc lines * 2 ^ 32) (suc (lines * 2 ^ 32)) _ (omega arith) steps)) (happened_requests _ _ _ _ heard.hears.1)

pub returns-in-Show-clause-plays : goal.returns-in-Show-clause-plays
returns-in-Show-clause-plays c = rw c.in-Show.is (show_plays c.in-Show.node c.args.self.now c.show.result c.show.ensures)
