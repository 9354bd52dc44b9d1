use Rattle.registry_defs.specs.Nodes.{keys_of}
use Rattle.registry_defs.specs.Spelling.{registry_text}
use Rattle.registry_tree.proofs.Filling.{fills_whole}
use Rattle.registry_tree.proofs.key.Key.write_piece.Goals as goal

pub returns : goal.returns
returns c = fills_whole (registry_text (keys_of c.args.self.now)) c.args.offset c.fill.new.window c.args.into.now c.fill.new.into c.requires.within c.fill.ensures
