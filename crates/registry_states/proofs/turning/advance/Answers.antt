use Rattle.std.proofs.lemmas.Result.{err_from_is_err_and}
use Rattle.registry_states.proofs.Goings.{leaves_here, subkey_read, subkey_stops}
use Rattle.registry_states.proofs.turning.advance.Goals as goal

pub returns-then-level-eq0 : goal.returns-then-level-eq0
returns-then-level-eq0 c =
    leaves_here c.args.ahead.now c.ahead.inside.next c.ahead.inside.above.items c.ahead.view_is c.in-Subkeys.level c.in-Subkeys.is c.args.end c.args.items.now.items c.args.fields.now c.if-level-eq0.true

pub returns-in_err-head-in-Subkeys : goal.returns-in_err-head-in-Subkeys
returns-in_err-head-in-Subkeys c =
    let p = err_from_is_err_and c.from_residual-in_err-head-in-Subkeys.result c.from_residual-in_err-head-in-Subkeys.ensures.1 in
    rw (p.1, p.2)
    (subkey_stops c.args.ahead.now c.ahead.inside.next c.ahead.inside.above.items c.ahead.view_is c.in-Subkeys.level c.in-Subkeys.is c.args.end c.args.items.now.items c.args.fields.now
    c.if-level-eq0.false c.in_err-head-in-Subkeys.field-0.0 c.take_subkey.new.fields c.in_err-head-in-Subkeys.ensures.taken)

pub returns-in_ok-push-in-Subkeys-2 : goal.returns-in_ok-push-in-Subkeys-2
returns-in_ok-push-in-Subkeys-2 c =
    subkey_read c.args.ahead.now c.ahead.inside.next c.ahead.inside.above.items c.ahead.view_is c.in-Subkeys.level c.in-Subkeys.is c.args.end c.args.items.now.items c.args.fields.now
    c.if-level-eq0.false c.in_ok-head-in-Subkeys.head c.take_subkey.new.fields c.push-in-Subkeys.new.self.items c.push.new.self.items c.in_ok-after-in-Subkeys.after c.in_ok-after-in-Subkeys.next
    c.in_ok-head-in-Subkeys.ensures.taken c.in_ok-push-in-Subkeys-2.ensures.items c.in_ok-push-in-Subkeys.ensures.items c.in_ok-after-in-Subkeys.ensures.level c.in_ok-after-in-Subkeys.ensures.next
