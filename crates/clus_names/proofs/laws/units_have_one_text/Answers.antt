use Rattle.clus_names.proofs.UnitLaws.{one_text}
use Rattle.clus_names.proofs.laws.units_have_one_text.Goals as goal

pub returns : goal.returns
returns c = one_text
