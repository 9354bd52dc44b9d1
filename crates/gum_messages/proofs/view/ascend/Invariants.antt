use Rattle.std.proofs.Common.{drop}
use Rattle.gum_messages.proofs.Ascending.{Decide}
use Rattle.gum_messages.proofs.view.ascend.Given as goal

abbrev pub invariant-loop-member : goal.invariant-loop-member
invariant-loop-member l = Decide l.members l.floor (drop l.member-index l.members)
