use Rattle.single_runs.proofs.BadLogs.{door_bad, door_exact}
use Rattle.single_runs.proofs.Fences.{door_fences}
use Rattle.single_runs.proofs.DoorLaws.{runs_door}
use Rattle.single_runs.proofs.door.serve.Goals as goal

pub returns-clause-runs : goal.returns-clause-runs
returns-clause-runs g c =
    runs_door c.args.stamp c.args.count (g.G.Door.visits c.args.door.now) (g.G.Door.visits c.serve.new.door) (g.D.Disk.view c.args.disk.now) (g.D.Disk.view c.serve.new.disk) c.serve.result
    c.serve.ensures.serves

pub returns-clause-bad_log : goal.returns-clause-bad_log
returns-clause-bad_log g c = λ place is told.
    door_bad (g.D.Disk.view c.args.disk.now) (g.D.Disk.view c.serve.new.disk) c.requires.disk_size c.serve.result c.args.stamp c.args.count (g.G.Door.visits c.args.door.now)
    (g.G.Door.visits c.serve.new.door) c.serve.ensures.serves place is told

pub returns-clause-exact : goal.returns-clause-exact
returns-clause-exact g c = λ place told bad.
    door_exact (g.D.Disk.view c.args.disk.now) (g.D.Disk.view c.serve.new.disk) c.requires.disk_size told (g.met.D.Disk.whole c.args.disk.now told) place bad c.serve.result c.args.stamp c.args.count
    (g.G.Door.visits c.args.door.now) (g.G.Door.visits c.serve.new.door) c.serve.ensures.serves

pub returns-clause-fences : goal.returns-clause-fences
returns-clause-fences g c = λ later.
    door_fences (g.D.Disk.view c.args.disk.now) (g.D.Disk.view c.serve.new.disk) later c.serve.result c.args.stamp c.args.count (g.G.Door.visits c.args.door.now) (g.G.Door.visits c.serve.new.door)
    c.serve.ensures.serves
