use Rattle.std.specs.Prelude.{is_ok}
use Rattle.script_player.proofs.Marking.{not_before_either}
use Rattle.script_player.proofs.marks.Marks.grow.Goals as goal

pub invariant_of-self : goal.invariant_of-self
invariant_of-self c = not_before_either (is_ok c.extend_from_slice.result) _ _ _ _ c.extend_from_slice.ensures.items c.self.invariant
