use Rattle.gum_messages.proofs.Ascending.{at_most_sixteen}
use Rattle.gum_messages.proofs.view.View.members.Goals as goal

pub returns-clause-few : goal.returns-clause-few
returns-clause-few c = at_most_sixteen _ c.self.invariant.ascending
