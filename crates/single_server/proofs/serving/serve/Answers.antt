use Rattle.single_server.proofs.DoorLaws.{first_visit}
use Rattle.single_server.proofs.RunLaws.{disk_fails, is_fenced, is_ready, serves_begun, unvisited}
use Rattle.single_server.proofs.serving.serve.Goals as goal

pub returns-in-Err-clause-serves : goal.returns-in-Err-clause-serves
returns-in-Err-clause-serves g c =
    unvisited c.in-Err.ended c.args.stamp c.args.count (g.G.Door.visits c.args.door.now) (g.D.Disk.view c.args.disk.now) (g.D.Disk.view c.open.new.disk) c.in-Err.ensures.begins

pub serve_all-requires-clause-ready : goal.serve_all-requires-clause-ready
serve_all-requires-clause-ready g c = is_ready c.args.stamp (g.D.Disk.view c.args.disk.now) c.in-Ok.single (g.D.Disk.view c.open.new.disk) c.in-Ok.ensures.begins

pub returns-clause-serves : goal.returns-clause-serves
returns-clause-serves g c =
    serves_begun c.serve_all.result c.args.stamp c.args.count (g.G.Door.visits c.args.door.now) (g.G.Door.visits c.hang_up.new.self) (g.G.Door.visits c.serve_all.new.door)
    (g.D.Disk.view c.args.disk.now) (g.D.Disk.view c.open.new.disk) (g.D.Disk.view c.serve_all.new.disk) c.in-Ok.single c.in-Ok.ensures.begins
    (first_visit (g.G.Door.visits c.args.door.now) (g.G.Door.visits c.hang_up.new.self) c.hang_up.ensures.told) c.serve_all.ensures.serves

pub returns-clause-disk : goal.returns-clause-disk
returns-clause-disk g c =
    disk_fails c.serve_all.result c.args.stamp c.args.count (g.G.Door.visits c.args.door.now) (g.G.Door.visits c.serve_all.new.door) (g.D.Disk.view c.args.disk.now) (g.D.Disk.view c.serve_all.new.disk)
    (serves_begun c.serve_all.result c.args.stamp c.args.count (g.G.Door.visits c.args.door.now) (g.G.Door.visits c.hang_up.new.self) (g.G.Door.visits c.serve_all.new.door)
    (g.D.Disk.view c.args.disk.now) (g.D.Disk.view c.open.new.disk) (g.D.Disk.view c.serve_all.new.disk) c.in-Ok.single c.in-Ok.ensures.begins
    (first_visit (g.G.Door.visits c.args.door.now) (g.G.Door.visits c.hang_up.new.self) c.hang_up.ensures.told) c.serve_all.ensures.serves)

pub returns-clause-fenced : goal.returns-clause-fenced
returns-clause-fenced g c =
    is_fenced c.serve_all.result c.args.stamp c.args.count (g.G.Door.visits c.args.door.now) (g.G.Door.visits c.serve_all.new.door) (g.D.Disk.view c.args.disk.now) (g.D.Disk.view c.serve_all.new.disk)
    (serves_begun c.serve_all.result c.args.stamp c.args.count (g.G.Door.visits c.args.door.now) (g.G.Door.visits c.hang_up.new.self) (g.G.Door.visits c.serve_all.new.door)
    (g.D.Disk.view c.args.disk.now) (g.D.Disk.view c.open.new.disk) (g.D.Disk.view c.serve_all.new.disk) c.in-Ok.single c.in-Ok.ensures.begins
    (first_visit (g.G.Door.visits c.args.door.now) (g.G.Door.visits c.hang_up.new.self) c.hang_up.ensures.told) c.serve_all.ensures.serves)
