use Rattle.std.proofs.Common.{sym, subst, ap, arith}
use Rattle.registry_defs.specs.Limits.{IsRegistry}
use Rattle.registry_defs.specs.Nodes.{Node, keys_of}
use Rattle.registry_defs.specs.Sizes.{size}
use Rattle.hive_text.proofs.WalkEnds.{ordered, whole_registry}
use Rattle.hive_text.proofs.walk.Walk.finish.Goals as goal

pub into_key-requires : goal.into_key-requires
into_key-requires c = ordered c.args.self c.requires.sound.0 c.requires.sound.1

pub registry_of-requires-clause-registry : goal.registry_of-requires-clause-registry
registry_of-requires-clause-registry c =
    let whole = whole_registry c.args.self c.requires.sound.0 c.requires.sound.1 c.requires.ended in
    subst (λ (n : Node). IsRegistry (keys_of n)) (sym c.into_key.ensures) whole.0

pub registry_of-requires-clause-fits : goal.registry_of-requires-clause-fits
registry_of-requires-clause-fits c =
    let whole = whole_registry c.args.self c.requires.sound.0 c.requires.sound.1 c.requires.ended in
    let within = whole.1 in
    omega (arith, within, ap (λ (n : Node). size (keys_of n)) c.into_key.ensures, c.requires.same_cap)
