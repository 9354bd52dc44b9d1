use Rattle.single_items.proofs.Reasons.{halts_because}
use Rattle.single_items.proofs.meaning.halts_because.Goals as goal

pub returns : goal.returns
returns c = halts_because
