use Rattle.std.proofs.Common.{arith}
use Rattle.single_server.specs.Session.{beginning_at}
use Rattle.single_server.proofs.AttendLaws.{attended, begins_heard, begins_there, unconnected_at, unended_at, unwaited_there}
use Rattle.single_server.proofs.SessionLaws.{is_unused}
use Rattle.single_server.proofs.serving.attend.Goals as goal

pub connect-requires : goal.connect-requires
connect-requires g c =
    let r = c.requires.ready in
    record { unused = is_unused c.args.conn c.args.single.now r.1 r.0.single r.0.client.handles r.0.taken r.2.runs r.2.unconnected }

pub returns-in-Err-clause-attends : goal.returns-in-Err-clause-attends
returns-in-Err-clause-attends g c = λ first x free. unconnected_at c.args.conn (beginning_at first x (g.D.Disk.view c.args.disk.now)) (g.G.Door.visits c.args.door.now)

pub converse-requires-clause-alone : goal.converse-requires-clause-alone
converse-requires-clause-alone g c =
    let r = c.requires.ready in
    begins_heard c.args.conn r.0 r.1 c.args.single.now c.connect.new.self (g.D.Disk.view c.args.disk.now) c.in-Ok.field-0 r.2 c.in-Ok.ensures.connects c.in-Ok.ensures.left

pub converse-requires-clause-quiet : goal.converse-requires-clause-quiet
converse-requires-clause-quiet g c =
    let r = c.requires.ready in
    (begins_there c.args.conn r.0 r.1 c.args.single.now c.connect.new.self (g.D.Disk.view c.args.disk.now) c.in-Ok.field-0 r.2 c.in-Ok.ensures.connects c.in-Ok.ensures.left).1

pub converse-requires-clause-connected : goal.converse-requires-clause-connected
converse-requires-clause-connected g c =
    let r = c.requires.ready in
    (begins_there c.args.conn r.0 r.1 c.args.single.now c.connect.new.self (g.D.Disk.view c.args.disk.now) c.in-Ok.field-0 r.2 c.in-Ok.ensures.connects c.in-Ok.ensures.left).2

pub returns-in-Err-converse-clause-attends : goal.returns-in-Err-converse-clause-attends
returns-in-Err-converse-clause-attends g c = λ first x free.
    let begins = begins_there c.args.conn first x c.args.single.now c.connect.new.self (g.D.Disk.view c.args.disk.now) c.in-Ok.field-0 free c.in-Ok.ensures.connects c.in-Ok.ensures.left in
    c.in-Err-converse.ensures.converses (beginning_at first x (g.D.Disk.view c.args.disk.now)) begins.0

pub returns-in-Err-hang_up-clause-attends : goal.returns-in-Err-hang_up-clause-attends
returns-in-Err-hang_up-clause-attends g c = λ first x free.
    let begins = begins_there c.args.conn first x c.args.single.now c.connect.new.self (g.D.Disk.view c.args.disk.now) c.in-Ok.field-0 free c.in-Ok.ensures.connects c.in-Ok.ensures.left in
    unended_at c.args.conn (beginning_at first x (g.D.Disk.view c.args.disk.now)) c.converse.new.single (g.D.Disk.view c.converse.new.disk) (g.G.Door.visits c.args.door.now) (g.G.Door.visits c.converse.new.door)
    (c.in-Ok-converse.ensures.converses (beginning_at first x (g.D.Disk.view c.args.disk.now)) begins.0)

pub returns-clause-attends : goal.returns-clause-attends
returns-clause-attends g c = λ first x free.
    let begins = begins_there c.args.conn first x c.args.single.now c.connect.new.self (g.D.Disk.view c.args.disk.now) c.in-Ok.field-0 free c.in-Ok.ensures.connects c.in-Ok.ensures.left in
    attended c.args.conn (beginning_at first x (g.D.Disk.view c.args.disk.now)) c.converse.new.single c.hang_up.new.self (g.D.Disk.view c.converse.new.disk) (g.G.Door.visits c.args.door.now)
    (g.G.Door.visits c.converse.new.door) c.in-Ok-hang_up.field-0 (c.in-Ok-converse.ensures.converses (beginning_at first x (g.D.Disk.view c.args.disk.now)) begins.0)
    (λ d more. c.in-Ok-converse.ensures.queues d (λ same. absurd (omega (arith, more, same)))
    (unwaited_there c.args.conn first x c.args.single.now c.connect.new.self (g.D.Disk.view c.args.disk.now) c.in-Ok.field-0 free c.in-Ok.ensures.connects c.in-Ok.ensures.left d (omega (arith, more))))
    c.in-Ok-hang_up.ensures.hangs_up c.in-Ok-hang_up.ensures.left
