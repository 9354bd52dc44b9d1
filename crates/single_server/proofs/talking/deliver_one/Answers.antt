use Rattle.std.proofs.Common.{sym, ◌∙◌}
use Rattle.single_server.proofs.Heards.{stop_has_cause}
use Rattle.single_server.proofs.TalkLaws.{steps_both}
use Rattle.single_server.proofs.talking.deliver_one.Goals as goal

pub tell-requires : goal.tell-requires
tell-requires g c =
    let a = c.requires.alone in
    let hears = rw c.in-Ok-Some.field-0-is at c.in-Ok-Some.ensures.delivers in
    record {
      cause = λ stops. rw c.as_slice.ensures (stop_has_cause c.args.conn a.0 a.1 a.2 c.args.single.now c.deliver.new.self (g.D.Disk.view c.args.disk.now) (g.D.Disk.view c.deliver.new.disk) c.in-Ok-Some.effects a.3 hears
          (sym c.is_stopped.ensures ∙ stops));
    }

pub returns-in-Ok-Some-clause-steps : goal.returns-in-Ok-Some-clause-steps
returns-in-Ok-Some-clause-steps g c = λ b stream told h.
    let hears = rw c.in-Ok-Some.field-0-is at c.in-Ok-Some.ensures.delivers in
    steps_both c.args.conn b stream told c.args.single.now c.deliver.new.self (g.D.Disk.view c.args.disk.now) (g.D.Disk.view c.deliver.new.disk) c.in-Ok-Some.effects h hears c.tell.result _ _ _ _
    (rw (c.as_slice.ensures, c.is_stopped.ensures) at c.tell.ensures.tells)
