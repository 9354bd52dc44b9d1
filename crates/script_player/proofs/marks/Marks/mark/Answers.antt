use Rattle.std.proofs.Common.{◌-◌}
use Rattle.script_player.proofs.Marking.{not_before_set}
use Rattle.script_player.proofs.marks.Marks.mark.Goals as goal

pub invariant_of-self : goal.invariant_of-self
invariant_of-self c = not_before_set _ (c.args.number - 1) c.self.inside.marks.items c.self.invariant
