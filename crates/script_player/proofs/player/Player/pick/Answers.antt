use Rattle.std.proofs.Common.{◌∙◌, sym}
use Rattle.script_player.proofs.Pumping.{none_picked, picked_sent}
use Rattle.script_player.proofs.player.Player.pick.Goals as goal

pub returns-then-count-eq0-clause-picks : goal.returns-then-count-eq0-clause-picks
returns-then-count-eq0-clause-picks c = none_picked c.args.pick c.args.self.now c.args.text.now.items (rw (← c.self.view_is) (sym c.messages-count.ensures ∙ c.if-count-eq0.true))

pub deliver-requires-clause-sent : goal.deliver-requires-clause-sent
deliver-requires-clause-sent c = picked_sent _ c.args.pick c.messages-count.result (rw (← c.self.view_is) c.messages-count.ensures) c.if-count-eq0.false
