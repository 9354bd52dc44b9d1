use Rattle.registry_states.proofs.Building.{bad_fed, bad_kept, none_of, ok_fed, ok_kept}
use Rattle.registry_states.proofs.build.TreeBuild.feed.Goals as goal

pub invariant_of-self : goal.invariant_of-self
invariant_of-self c =
    let none = none_of c.self.inside.fault c.in_default.not-Some in
    ok_kept c.self.inside.cap c.self.inside.items.items c.self.inside.standing c.self.inside.fault none c.read_piece.new.items.items c.args.piece.now c.in-Ok.standing
    c.in-Ok.ensures.piece c.in-Ok.ensures.within c.in-Ok.ensures.short c.self.invariant

pub invariant_of-self-in-Err-Bad : goal.invariant_of-self-in-Err-Bad
invariant_of-self-in-Err-Bad c =
    let none = none_of c.self.inside.fault c.in_default.not-Some in
    let on = rw (c.in-Err-Bad.field-0-is) at c.in-Err-Bad.ensures.piece in
    bad_kept c.self.inside.cap c.self.inside.items.items c.self.inside.standing c.self.inside.fault none c.read_piece.new.items.items c.args.piece.now c.in-Err-Bad.place on c.self.invariant

pub returns-in-Ok-clause-fed : goal.returns-in-Ok-clause-fed
returns-in-Ok-clause-fed c =
    let none = none_of c.self.inside.fault c.in_default.not-Some in
    rw (← c.self.view_is)
    (ok_fed c.self.inside.cap c.self.inside.items.items c.self.inside.standing c.self.inside.fault none c.read_piece.new.items.items c.args.piece.now c.in-Ok.standing c.in-Ok.ensures.piece)

pub returns-in-Err-Bad-clause-fed : goal.returns-in-Err-Bad-clause-fed
returns-in-Err-Bad-clause-fed c =
    let none = none_of c.self.inside.fault c.in_default.not-Some in
    let on = rw (c.in-Err-Bad.field-0-is) at c.in-Err-Bad.ensures.piece in
    rw (← c.self.view_is)
    (bad_fed c.self.inside.cap c.self.inside.items.items c.self.inside.standing c.self.inside.fault none c.read_piece.new.items.items c.args.piece.now c.in-Err-Bad.place on)
