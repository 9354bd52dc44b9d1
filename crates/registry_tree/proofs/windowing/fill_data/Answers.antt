use Rattle.update_records.specs.Spelling.{data_text}
use Rattle.registry_tree.proofs.Filling.{fills_then}
use Rattle.registry_tree.proofs.windowing.fill_data.Goals as goal

pub returns : goal.returns
unfolding data_text
returns c = fills_then c.requires.within c.put_u32.ensures c.put.ensures
