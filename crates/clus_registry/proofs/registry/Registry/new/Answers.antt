use Rattle.std.proofs.Common.{ap, ◌∙◌}
use Rattle.registry_defs.specs.Keys.{root_alone}
use Rattle.registry_defs.specs.Nodes.{Node}
use Rattle.registry_defs.specs.Contents.{keys_in}
use Rattle.registry_defs.specs.Nodes.{keys_of}
use Rattle.registry_defs.proofs.Held.{contents, root_registry, entries_are}
use Rattle.clus_registry.proofs.registry.Registry.new.Goals as goal

pub returns-clause-keys : goal.returns-clause-keys
returns-clause-keys c = ap (λ (n : Node). keys_in (contents c.args.cap (keys_of n))) c.root.ensures ∙ entries_are root_alone root_registry
