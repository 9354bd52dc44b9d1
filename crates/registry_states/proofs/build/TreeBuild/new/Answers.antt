use Rattle.registry_states.proofs.Building.{first_kept, first_stands}
use Rattle.registry_states.proofs.build.TreeBuild.new.Goals as goal

pub invariant_of-result : goal.invariant_of-result
invariant_of-result c = rw (c.new.ensures.items, c.new-2.ensures) (first_kept c.args.cap c.requires.range.1)

pub returns-clause-fed : goal.returns-clause-fed
returns-clause-fed c = rw (c.new.ensures.items, c.new-2.ensures) (first_stands c.args.cap)
