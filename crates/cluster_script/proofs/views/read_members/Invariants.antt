use Rattle.std.proofs.Common.{length}
use Rattle.cluster_script.proofs.Members.{HaveRead}
use Rattle.cluster_script.proofs.views.read_members.Given as goal

abbrev pub invariant-members : goal.invariant-members
invariant-members l = HaveRead l.members.items l.floor l.words l.initial.words

abbrev pub decreases-members : goal.decreases-members
decreases-members l = length l.words.left
