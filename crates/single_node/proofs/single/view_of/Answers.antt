use Rattle.std.proofs.Common.{arith}
use Rattle.gum_messages.specs.Views as views
use Rattle.single_node.proofs.single.view_of.Goals as goal

pub unreachable-requires : goal.unreachable-requires
unfolding views.Ascend
unreachable-requires c =
    let some = c.requires in
    rw (c.in_ok-push.ensures.items, c.new-members.ensures.items) at c.in-None.ensures (record { numbered = omega arith; ascending = (omega arith, omega arith, omega (arith, some), tt) })
