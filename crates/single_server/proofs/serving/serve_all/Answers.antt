use Rattle.std.proofs.Common.{refl, arith}
use Rattle.single_server.specs.Session.{beginning_at}
use Rattle.single_server.proofs.ServeLaws.{all_served, cut_there, fails_there, none_comes, none_so_far, one_more, ready}
use Rattle.single_server.proofs.Written.{same_disk_still, same_then}
use Rattle.single_server.proofs.serving.serve_all.Goals as goal

pub connections-init : goal.connections-init
connections-init g c = record {
  so_far = λ first x free. none_so_far first x c.args.single.now (g.D.Disk.view c.args.disk.now) (g.G.Door.visits c.args.door.now) free;
  few = omega arith;
  room = c.requires.room;
  accepts = omega arith;
  same_disk = same_disk_still (g.D.Disk.view c.args.disk.now);
}

pub serve_next-requires-clause-ready : goal.serve_next-requires-clause-ready
serve_next-requires-clause-ready g c =
    let f = c.requires.ready in
    ready c.connections.done (beginning_at f.0 f.1 (g.D.Disk.view c.args.disk.now)) c.connections.single (g.D.Disk.view c.connections.disk) (g.G.Door.visits c.args.door.now) (g.G.Door.visits c.connections.door)
    (c.connections.invariant.so_far f.0 f.1 f.2)

pub returns-in-NoneCame-clause-serves : goal.returns-in-NoneCame-clause-serves
returns-in-NoneCame-clause-serves g c = λ first x free.
    let r = c.connections.invariant.so_far first x free in
    let n = c.in-NoneCame.ensures.serves r.first r.node r.free in
    none_comes c.connections.done (beginning_at first x (g.D.Disk.view c.args.disk.now)) c.connections.single (g.D.Disk.view c.connections.disk) (g.G.Door.visits c.args.door.now) (g.G.Door.visits c.connections.door)
    r c.args.count (g.G.Door.visits c.serve_next.new.door) (g.D.Disk.view c.serve_next.new.disk) c.connections-test.true n.0 (n.1, n.2)

pub returns-in-Fails-clause-serves : goal.returns-in-Fails-clause-serves
returns-in-Fails-clause-serves g c = λ first x free.
    let r = c.connections.invariant.so_far first x free in
    let n = c.in-Fails.ensures.serves r.first r.node r.free in
    fails_there c.connections.done (beginning_at first x (g.D.Disk.view c.args.disk.now)) c.connections.single (g.D.Disk.view c.connections.disk) (g.G.Door.visits c.args.door.now) (g.G.Door.visits c.connections.door)
    r c.args.count (g.G.Door.visits c.serve_next.new.door) (g.D.Disk.view c.serve_next.new.disk) c.connections-test.true n.0 n.1

pub returns-in-CutOff-clause-serves : goal.returns-in-CutOff-clause-serves
returns-in-CutOff-clause-serves g c = λ first x free.
    let r = c.connections.invariant.so_far first x free in
    let n = c.in-CutOff.ensures.serves r.first r.node r.free in
    cut_there c.connections.done (beginning_at first x (g.D.Disk.view c.args.disk.now)) c.connections.single (g.D.Disk.view c.connections.disk) (g.G.Door.visits c.args.door.now) (g.G.Door.visits c.connections.door)
    r c.in-CutOff.ended c.args.count (g.G.Door.visits c.serve_next.new.door) (g.D.Disk.view c.serve_next.new.disk) c.connections-test.true n.0 n.1 (c.in-CutOff.ensures.ends c.in-CutOff.ended refl)

pub connections-preserved : goal.connections-preserved
connections-preserved g c = record {
  so_far = λ first x free. (let r = c.connections.invariant.so_far first x free in
      one_more c.connections.done (beginning_at first x (g.D.Disk.view c.args.disk.now)) c.connections.single (g.D.Disk.view c.connections.disk) (g.G.Door.visits c.args.door.now) (g.G.Door.visits c.connections.door)
      r c.serve_next.new.single (g.D.Disk.view c.serve_next.new.disk) (g.G.Door.visits c.serve_next.new.door) (c.in-Served.ensures.serves r.first r.node r.free));
  few = (let t = c.connections-test.true in omega (arith, t));
  room = c.in-Served.ensures.room;
  accepts = (let a = c.connections.invariant.accepts in let b = c.in-Served.ensures.accepts in omega (arith, a, b));
  same_disk = same_then (g.D.Disk.view c.args.disk.now) (g.D.Disk.view c.connections.disk) (g.D.Disk.view c.serve_next.new.disk) c.connections.invariant.same_disk c.in-Served.ensures.same_disk;
}

pub returns-clause-serves : goal.returns-clause-serves
returns-clause-serves g c = λ first x free.
    let few = c.connections.invariant.few in
    let over = c.connections-test.false in
    all_served c.connections.done (beginning_at first x (g.D.Disk.view c.args.disk.now)) c.connections.single (g.D.Disk.view c.connections.disk) (g.G.Door.visits c.args.door.now) (g.G.Door.visits c.connections.door)
    (c.connections.invariant.so_far first x free) c.args.count (omega (arith, few, over))
