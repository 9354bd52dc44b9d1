use Rattle.single_items.proofs.AllTaken.{tells_alone}
use Rattle.single_items.proofs.meaning.tells_alone.Goals as goal

pub returns : goal.returns
returns c = tells_alone
