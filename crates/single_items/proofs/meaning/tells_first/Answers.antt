use Rattle.single_items.proofs.Fronts.{tells_first}
use Rattle.single_items.proofs.meaning.tells_first.Goals as goal

pub returns : goal.returns
returns c = tells_first
