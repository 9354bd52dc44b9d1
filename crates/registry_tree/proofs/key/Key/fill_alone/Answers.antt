use Rattle.registry_defs.specs.Spelling.{key_text}
use Rattle.registry_tree.proofs.Filling.{fills_then}
use Rattle.registry_tree.proofs.key.Key.fill_alone.Goals as goal

pub returns : goal.returns
unfolding key_text
returns c =
    let w = c.requires.within in
    rw (c.birth.ensures, c.written.ensures, c.value_count.ensures, c.subkey_count.ensures) at (fills_then w (fills_then w (fills_then w c.fill_birth.ensures c.put_u32.ensures) c.fill_values.ensures) c.put_u32-2.ensures)
