use Rattle.cluster_replay.proofs.Noting.{note_none, note_one}
use Rattle.cluster_replay.proofs.journal.Journal.note.Goals as goal

pub effects-preserved : goal.effects-preserved
effects-preserved c =
    let step = note_one _ _ c.args.node c.effects.effect-index c.args.effects.now c.effect-item.result c.in_ok-event.event c.effects.self c.note_one.new.self _ _
    c.effect-item.is c.effects-test.true c.in_ok-event.ensures.told c.in_ok-event.ensures.noted c.in_ok-push.ensures.items c.effects.invariant.told c.effects.invariant.noted in
    record { told = step.0; noted = step.1 }

pub returns-clause-told : goal.returns-clause-told
returns-clause-told c = note_none _ c.args.node _ c.effects.effect-index c.args.effects.now _ c.effects-test.false c.effects.invariant.told
