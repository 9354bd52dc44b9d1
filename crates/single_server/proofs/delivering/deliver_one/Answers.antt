use Rattle.std.proofs.Common.{sym, ◌∙◌}
use Rattle.single_server.proofs.Heards.{lessens_on, stop_has_cause, turns_on}
use Rattle.single_server.proofs.delivering.deliver_one.Goals as goal

pub tell-requires : goal.tell-requires
tell-requires g c =
    let a = c.requires.alone in
    let hears = rw c.in-Ok-Some.field-0-is at c.in-Ok-Some.ensures.delivers in
    record {
      cause = λ stops. rw c.as_slice.ensures (stop_has_cause c.args.conn a.0 a.1 a.2 c.args.single.now c.deliver.new.self (g.D.Disk.view c.args.disk.now) (g.D.Disk.view c.deliver.new.disk) c.in-Ok-Some.effects a.3 hears
          (sym c.is_stopped.ensures ∙ stops));
    }

pub returns-in-Ok-Some-clause-turns : goal.returns-in-Ok-Some-clause-turns
returns-in-Ok-Some-clause-turns g c = λ b stream told h.
    let hears = rw c.in-Ok-Some.field-0-is at c.in-Ok-Some.ensures.delivers in
    turns_on c.args.conn b stream told c.args.single.now c.deliver.new.self (g.D.Disk.view c.args.disk.now) (g.D.Disk.view c.deliver.new.disk) c.in-Ok-Some.effects h hears c.tell.result _ _
    (rw (c.as_slice.ensures, c.is_stopped.ensures) at c.tell.ensures.tells)

pub returns-in-Ok-Some-clause-less : goal.returns-in-Ok-Some-clause-less
returns-in-Ok-Some-clause-less g c =
    let a = c.requires.alone in
    let hears = rw c.in-Ok-Some.field-0-is at c.in-Ok-Some.ensures.delivers in
    lessens_on c.args.conn a.0 a.1 a.2 c.args.single.now c.deliver.new.self (g.D.Disk.view c.args.disk.now) (g.D.Disk.view c.deliver.new.disk) c.in-Ok-Some.effects a.3 hears c.tell.result _ _
    (rw (c.as_slice.ensures, c.is_stopped.ensures) at c.tell.ensures.tells)
