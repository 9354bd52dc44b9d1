use Rattle.std.proofs.Common.{subst}
use Rattle.update_records.specs.Spelling.{name_text, data_text}
use Rattle.registry_defs.specs.Spelling.{value_text}
use Rattle.registry_tree.specs.Windows.{Fills}
use Rattle.registry_tree.proofs.Filling.{fills_then}
use Rattle.registry_tree.proofs.windowing.fill_value.Goals as goal

pub returns : goal.returns
unfolding value_text
returns c =
    let name = subst (λ units. Fills (name_text units) c.args.window.now c.args.into.now c.fill_name.new.window c.fill_name.new.into) c.units.ensures.units c.fill_name.ensures in
    let bytes = subst (λ octets. Fills (data_text octets) c.put_u32.new.self c.put_u32.new.into c.fill_data.new.window c.fill_data.new.into) c.as_slice.ensures c.fill_data.ensures in
    fills_then c.requires.within (fills_then c.requires.within name c.put_u32.ensures) bytes
