use Rattle.clus_names.specs.Folding.{folded, folded_parts}
use Rattle.registry_defs.specs.Contents.{keys_in}
use Rattle.registry_tree.specs.Values.{value_data}
use Rattle.registry_defs.proofs.Bounds.{value_limits}
use Rattle.clus_registry.proofs.registry.Registry.value.Goals as goal

pub returns-in-Some-value-clause-short : goal.returns-in-Some-value-clause-short
returns-in-Some-value-clause-short c =
    rw c.as_slice.ensures
    (value_limits (folded_parts c.args.key.now) (folded c.units.result.now) (keys_in c.args.self.now) c.in-Some.found.now (value_data c.in-Some-value.value.now) c.key_at.ensures.limits
    c.in-Some.ensures.found c.in-Some-value.ensures).short
