use Rattle.std.proofs.Common.{◌≡◌, ◌+◌, ◌-◌, suc, ap, sym, ◌∙◌, arith}
use Rattle.script_player.specs.Marks.{lowest}
use Rattle.script_player.specs.Playing.{Play}
use Rattle.script_player.proofs.Pumping.{fewer_steps, lowest_sent, none_pumped, none_to_pump, pump_begins, pump_ends, pump_goes_on}
use Rattle.script_player.proofs.player.Player.pump.Goals as goal

pub messages-init : goal.messages-init
messages-init c = record {
  pumps = pump_begins c.args.count (c.args.count - 0) _ _ (omega arith);
  room = λ more room. fewer_steps (c.args.count + more) (c.args.count - 0 + more) _ (omega arith) room;
}

pub returns-in_default-clause-pumps : goal.returns-in_default-clause-pumps
returns-in_default-clause-pumps c =
    let marks = ap (λ (p : Play). lowest p.marks) (sym c.self.view_is) in
    rw (c.lowest.ensures.same, c.self.view_is)
    (pump_ends c.args.count (c.args.count - c.messages.counter) _ _ _ _ c.messages.invariant.pumps
    (none_pumped (c.args.count - c.messages.counter) c.messages.self (marks ∙ (sym c.lowest.ensures.lowest ∙ c.in_default.is))))

pub returns-in_default-clause-room : goal.returns-in_default-clause-room
returns-in_default-clause-room c = λ more room.
    rw (c.lowest.ensures.same, c.self.view_is) (fewer_steps (c.args.count - c.messages.counter + more) more _ (omega arith) (c.messages.invariant.room more room))

pub deliver-requires-clause-sent : goal.deliver-requires-clause-sent
deliver-requires-clause-sent c =
    let here = c.messages.invariant.room 0 (fewer_steps c.args.count (c.args.count + 0) _ (omega arith) c.requires.room) in
    lowest_sent _ _ c.in-Some.number (rw (← c.self.view_is) at here.marks) (sym c.lowest.ensures.lowest ∙ c.in-Some.is)

pub deliver-requires-clause-room : goal.deliver-requires-clause-room
deliver-requires-clause-room c =
    let here = c.messages.invariant.room 0 (fewer_steps c.args.count (c.args.count + 0) _ (omega arith) c.requires.room) in
    rw (c.lowest.ensures.same, c.self.view_is) (fewer_steps (c.args.count - c.messages.counter + 0) 1 _ (omega (arith, c.messages-test.true)) here)

pub messages-preserved : goal.messages-preserved
messages-preserved c =
    let marks = ap (λ (p : Play). lowest p.marks) (sym c.self.view_is) in
    let added = rw (c.lowest.ensures.same, c.self.view_is) at c.in-Ok.ensures.delivers in
    let goes_on = rw (c.lowest.ensures.same, c.self.view_is) at c.in-Ok.ensures.room in
    let left : c.args.count - c.messages.counter ≡ suc (c.args.count - (c.messages.counter + 1)) = omega (arith, c.messages-test.true) in
    record {
      pumps = pump_goes_on c.args.count (c.args.count - c.messages.counter) (c.args.count - (c.messages.counter + 1)) c.in-Some.number _ c.messages.self _ _ _ _ c.messages.invariant.pumps left
          (marks ∙ (sym c.lowest.ensures.lowest ∙ c.in-Some.is)) added;
      room = λ more room.
          goes_on (c.args.count - (c.messages.counter + 1) + more)
          (fewer_steps (c.args.count - c.messages.counter + more) (suc (c.args.count - (c.messages.counter + 1) + more)) _ (omega (arith, left)) (c.messages.invariant.room more room));
    }

pub returns-clause-pumps : goal.returns-clause-pumps
returns-clause-pumps c =
    pump_ends c.args.count (c.args.count - c.messages.counter) _ _ _ _ c.messages.invariant.pumps
    (none_to_pump (c.args.count - c.messages.counter) c.messages.self (omega (arith, c.messages-test.false)))

pub returns-clause-room : goal.returns-clause-room
returns-clause-room c = λ more room. fewer_steps (c.args.count - c.messages.counter + more) more _ (omega arith) (c.messages.invariant.room more room)
