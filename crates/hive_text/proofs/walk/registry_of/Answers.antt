use Rattle.std.proofs.Common.{arith}
use Rattle.clus_names.specs.Folding.{path_cmp}
use Rattle.registry_defs.specs.Nodes.{keys_of}
use Rattle.registry_defs.proofs.Fields.{have_fields}
use Rattle.registry_defs.proofs.Orders.{rising_from_sorted}
use Rattle.hive_text.proofs.walk.registry_of.Goals as goal

pub write-requires-clause-rising : goal.write-requires-clause-rising
write-requires-clause-rising c = rising_from_sorted path_cmp (keys_of c.args.root.now) c.requires.registry.rising

pub write-requires-clause-fields : goal.write-requires-clause-fields
write-requires-clause-fields c =
    let most = c.requires.range.1 in
    let fits = c.requires.fits in
    have_fields (keys_of c.args.root.now) c.requires.registry (omega (arith, fits, most))
