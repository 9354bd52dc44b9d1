use Rattle.std.proofs.Common.{◌-◌, sym, ◌∙◌}
use Rattle.script_player.proofs.Marking.{none_to_skip, skipped_next, skipped_zero}
use Rattle.script_player.proofs.marks.Marks.skip.Goals as goal

pub returns-in_default : goal.returns-in_default
returns-in_default c = c.lowest.ensures.same ∙ (sym (none_to_skip (c.args.count - c.messages.counter) c.messages.self (sym c.lowest.ensures.lowest ∙ c.in_default.is)) ∙ c.messages.invariant)

pub messages-preserved : goal.messages-preserved
messages-preserved c =
    let same = rw c.lowest.ensures.same at c.mark.ensures in
    rw same (skipped_next c.args.count c.messages.counter c.in-Some.number c.messages.self c.messages-test.true (sym c.lowest.ensures.lowest ∙ c.in-Some.is) ∙ c.messages.invariant)

pub returns : goal.returns
returns c = sym (skipped_zero c.args.count c.messages.counter c.messages.self c.messages-test.false) ∙ c.messages.invariant
