use Rattle.std.proofs.Common.{arith}
use Rattle.registry_tree.proofs.Texts.{first_short}
use Rattle.registry_tree.proofs.sizing.+chain_size.Goals as goal

pub returns-in-Some-clause-bound : goal.returns-in-Some-clause-bound
returns-in-Some-clause-bound t c =
    let part = first_short c.args.text.now c.in-Some.part.now c.in-Some.rest.now c.in-Some.ensures.parts in
    omega (arith, part, c.requires, c.in-Some.ensures.shorter, c.written_size.ensures.bound, c.chain_size.ensures.bound)
