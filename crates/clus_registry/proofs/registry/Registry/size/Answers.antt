use Rattle.std.proofs.Common.{sym, ap, subst, ◌∙◌}
use Rattle.registry_defs.specs.Limits.{IsRegistry}
use Rattle.registry_defs.specs.Nodes.{keys_of}
use Rattle.registry_defs.specs.Sizes.{size}
use Rattle.registry_defs.proofs.Held.{keys_are}
use Rattle.clus_registry.proofs.registry.Registry.size.Goals as goal

pub returns-clause-exact : goal.returns-clause-exact
returns-clause-exact c = c.self.invariant.counted ∙ ap size (sym (keys_are c.args.self.now c.self.inside.cap (keys_of c.self.inside.root) c.self.view_is c.self.invariant.limits))

pub returns-clause-limits : goal.returns-clause-limits
returns-clause-limits c = subst IsRegistry (sym (keys_are c.args.self.now c.self.inside.cap (keys_of c.self.inside.root) c.self.view_is c.self.invariant.limits)) c.self.invariant.limits
