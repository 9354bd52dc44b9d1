use Rattle.hive_text.proofs.OneText.{one_registry}
use Rattle.hive_text.proofs.laws.texts_are_of_one_registry.Goals as goal

pub returns : goal.returns
returns c = one_registry
