use Rattle.single_server.specs.Session.{beginning_at}
use Rattle.single_server.proofs.DoorLaws.{accepted}
use Rattle.single_server.proofs.ServeLaws.{cut_next, served_next}
use Rattle.single_server.proofs.serving.serve_next.Goals as goal

pub returns-in-Ok-clause-serves : goal.returns-in-Ok-clause-serves
returns-in-Ok-clause-serves g c = λ first x free.
    served_next c.args.conn (beginning_at first x (g.D.Disk.view c.args.disk.now)) c.attend-attended.new.single (g.D.Disk.view c.attend-attended.new.disk) (g.G.Door.visits c.args.door.now)
    (g.G.Door.visits c.accept.new.self) (g.G.Door.visits c.attend-attended.new.door) (g.G.Door.visits c.hang_up.new.self)
    (accepted (g.G.Door.visits c.args.door.now) (g.G.Door.visits c.accept.new.self) (rw c.in-Ok-true.field-0-test at c.in-Ok-true.ensures.told)) (c.in-Ok.ensures.attends first x free) c.hang_up.ensures.told

pub returns-in-Err-attended-clause-serves : goal.returns-in-Err-attended-clause-serves
returns-in-Err-attended-clause-serves g c = λ first x free.
    cut_next c.in-Err-attended.ended c.args.conn (beginning_at first x (g.D.Disk.view c.args.disk.now)) (g.D.Disk.view c.attend-attended.new.disk) (g.G.Door.visits c.args.door.now)
    (g.G.Door.visits c.accept.new.self) (g.G.Door.visits c.attend-attended.new.door) (g.G.Door.visits c.hang_up.new.self)
    (accepted (g.G.Door.visits c.args.door.now) (g.G.Door.visits c.accept.new.self) (rw c.in-Ok-true.field-0-test at c.in-Ok-true.ensures.told)) (c.in-Err-attended.ensures.attends first x free) c.hang_up.ensures.told
