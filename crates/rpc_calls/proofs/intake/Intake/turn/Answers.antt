use Rattle.std.proofs.Common.{◌≡◌, arith, length-drop, subst}
use Rattle.rpc_calls.specs.contracts.intake.Intake.{the_view}
use Rattle.rpc_calls.specs.Intakes.{Kept}
use Rattle.rpc_calls.specs.Turns.{MayStand, refused}
use Rattle.rpc_calls.proofs.Assembling.{done_short, turn_fails}
use Rattle.rpc_calls.proofs.intake.Intake.turn.Goals as goal

pub returns-in-Err : goal.returns-in-Err
returns-in-Err c =
    let frame = rw c.as_slice.ensures at c.in-Frame.ensures in
    let does = rw c.as_slice-2.ensures at c.in-Err.ensures in
    let after = c.refuse-in-Err.new.self in
    let fault = c.in-Err.fault in
    let fails = turn_fails (the_view c.self.inside) after c.take_frame.new.unfinished c.in-Frame.size fault frame.1 does c.refuse-in-Err.ensures in
    subst (λ (kept : Kept). MayStand kept fault × (after ≡ refused kept fault)) c.self.view_is fails

pub invariant_of-self-2 : goal.invariant_of-self-2
invariant_of-self-2 c =
    let rest = c.self.inside.rest.items in
    let frame = rw c.as_slice.ensures at c.in-Frame.ensures in
    let short = done_short c.self.inside.side c.self.inside.place c.self.inside.left c.take_frame.new.unfinished _ c.in-Ok.item c.self.invariant.3 c.in-Ok.ensures in
    let items = c.advance.ensures.items in
    let size = length-drop c.in-Frame.size rest in
    (rw items (omega (arith, size, frame.0)), rw items (omega (arith, size)), c.self.invariant.2, short, c.self.invariant.4, c.self.invariant.5)
