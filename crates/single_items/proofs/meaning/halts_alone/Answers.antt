use Rattle.single_items.proofs.Halting.{halts_alone}
use Rattle.single_items.proofs.meaning.halts_alone.Goals as goal

pub returns : goal.returns
returns c = halts_alone
