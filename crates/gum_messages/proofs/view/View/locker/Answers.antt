use Rattle.gum_messages.proofs.Ascending.{first_is_lowest}
use Rattle.gum_messages.proofs.view.View.locker.Goals as goal

pub returns-in-len1-up-clause-lowest : goal.returns-in-len1-up-clause-lowest
returns-in-len1-up-clause-lowest c = rw (← c.self.view_is, c.as_slice.ensures) (first_is_lowest _ _ c.self.invariant.ascending)
