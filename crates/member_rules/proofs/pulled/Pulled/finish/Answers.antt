use Rattle.member_rules.specs.Pulling.{joined_pieces}
use Rattle.member_rules.proofs.Decoded.{fails_is, found_is}
use Rattle.member_rules.proofs.pulled.Pulled.finish.Goals as goal

pub returns-in-Ok-clause-registry : goal.returns-in-Ok-clause-registry
returns-in-Ok-clause-registry c =
    let inside = c.self.inside in
    let bytes = joined_pieces inside.pieces.items in
    rw (← c.self.view_is) (found_is inside.offer.count inside.offer.cap inside.build.cap bytes c.in-Ok.registry c.self.invariant.offered c.self.invariant.same_cap (c.in-Ok.ensures.found bytes c.self.invariant.fed))

pub returns-in-Err-Bad-clause-registry : goal.returns-in-Err-Bad-clause-registry
returns-in-Err-Bad-clause-registry c =
    let inside = c.self.inside in
    let bytes = joined_pieces inside.pieces.items in
    rw (← c.self.view_is) (fails_is inside.offer.cap inside.build.cap bytes c.in-Err-Bad.field-0-0 c.self.invariant.same_cap (rw c.in-Err-Bad.field-0-is at c.in-Err-Bad.ensures.fault bytes c.self.invariant.fed))
