use Rattle.std.proofs.Common.{◌++◌, ap, ◌∙◌, refl, subst, sym}
use Rattle.single_node.specs.Singles.{SingleState}
use Rattle.single_server.proofs.QueueLaws.{queues_none, queues_then}
use Rattle.single_server.proofs.TalkLaws.{cut_halts, cut_more, cut_out, heard_more, heard_now, no_edge}
use Rattle.single_server.proofs.Written.{same_disk_still, same_then}
use Rattle.single_server.specs.Endings.{ended_by}
use Rattle.single_server.specs.Talking.{QueuesOwn}
use Rattle.single_server.specs.declared.ended.Ended.TheVariants.{NoMemory}
use Rattle.single_server.proofs.talking.deliver_all.Goals as goal

pub messages-init : goal.messages-init
messages-init g c = record {
  alone = c.requires.alone;
  room = c.requires.room;
  leads = λ b stream told h. (
    heard_now c.args.conn b stream told c.args.single.now (g.D.Disk.view c.args.disk.now) c.args.is_broken.now c.args.is_broken.now (g.G.Door.visits c.args.door.now) (g.G.Door.visits c.args.door.now) h refl refl,
    λ closed. closed,
  );
  still = λ none. refl;
  queues = queues_none c.args.conn c.args.single.now.node;
  accepts = refl;
  same_disk = same_disk_still (g.D.Disk.view c.args.disk.now);
}

pub messages-preserved : goal.messages-preserved
messages-preserved g c =
    let t = c.in-GoesOn.ensures in
    let a = c.messages.invariant.alone in
    let one = t.steps a.0 a.1 a.2 a.3 in
    record {
      alone = (a.0, a.1, a.2 ++ one.0.more, one.0.heard);
      room = t.room;
      leads = λ b stream told h. (let f = c.messages.invariant.leads b stream told h in
          let n = t.steps b stream (told ++ f.0.more) f.0.heard in (
            heard_more c.args.conn b stream told f.0.more c.deliver_one.new.single (g.D.Disk.view c.deliver_one.new.disk) c.args.is_broken.now c.messages.is_broken c.deliver_one.new.is_broken
                (g.G.Door.visits c.args.door.now) (g.G.Door.visits c.messages.door) (g.G.Door.visits c.deliver_one.new.door) f.0.says n.0,
            λ closed. n.1.2 (f.1 closed),
          ));
      still = λ none. absurd (one.1.1 (ap (λ (s : SingleState). s.left) (c.messages.invariant.still none) ∙ none));
      queues = queues_then c.args.conn c.args.single.now.node c.messages.single.node c.deliver_one.new.single.node c.messages.invariant.queues one.1.3;
      accepts = t.accepts ∙ c.messages.invariant.accepts;
      same_disk = same_then (g.D.Disk.view c.args.disk.now) (g.D.Disk.view c.messages.disk) (g.D.Disk.view c.deliver_one.new.disk) c.messages.invariant.same_disk t.same_disk;
    }

pub messages-smaller : goal.messages-smaller
messages-smaller g c =
    let a = c.messages.invariant.alone in
    (c.in-GoesOn.ensures.steps a.0 a.1 a.2 a.3).1.0

pub returns-in-Rests-clause-delivers : goal.returns-in-Rests-clause-delivers
returns-in-Rests-clause-delivers g c = λ b stream told h.
    let f = c.messages.invariant.leads b stream told h in
    let r = c.in-Rests.ensures.steps b stream (told ++ f.0.more) f.0.heard in (
      heard_more c.args.conn b stream told f.0.more c.deliver_one.new.single (g.D.Disk.view c.deliver_one.new.disk) c.args.is_broken.now c.messages.is_broken c.deliver_one.new.is_broken
          (g.G.Door.visits c.args.door.now) (g.G.Door.visits c.messages.door) (g.G.Door.visits c.deliver_one.new.door) f.0.says
          (heard_now c.args.conn b stream (told ++ f.0.more) c.deliver_one.new.single (g.D.Disk.view c.deliver_one.new.disk) c.messages.is_broken c.deliver_one.new.is_broken
          (g.G.Door.visits c.messages.door) (g.G.Door.visits c.deliver_one.new.door) r.0.0 r.0.2 r.0.3),
      r.0.1,
      rw r.1 f.1,
    )

pub returns-in-Rests-clause-still : goal.returns-in-Rests-clause-still
returns-in-Rests-clause-still g c = λ none.
    let a = c.messages.invariant.alone in
    (c.in-Rests.ensures.steps a.0 a.1 a.2 a.3).1 ∙ c.messages.invariant.still none

pub returns-in-Rests-clause-queues : goal.returns-in-Rests-clause-queues
returns-in-Rests-clause-queues g c =
    let a = c.messages.invariant.alone in
    subst (λ (s : SingleState). QueuesOwn c.args.conn c.args.single.now.node s.node) (sym (c.in-Rests.ensures.steps a.0 a.1 a.2 a.3).1) c.messages.invariant.queues

pub returns-in-Halts-clause-delivers : goal.returns-in-Halts-clause-delivers
returns-in-Halts-clause-delivers g c = rw c.by_halt.ensures (λ b stream told h.
    let f = c.messages.invariant.leads b stream told h in
    let r = (c.in-Halts.ensures.steps b stream (told ++ f.0.more) f.0.heard).0 in
    cut_more c.args.conn b stream told (ended_by c.in-Halts.cause) f.0.more (g.D.Disk.view c.deliver_one.new.disk) c.args.is_broken.now c.messages.is_broken c.deliver_one.new.is_broken
    (g.G.Door.visits c.args.door.now) (g.G.Door.visits c.messages.door) (g.G.Door.visits c.deliver_one.new.door) f.0.says
    (cut_halts c.args.conn b stream (told ++ f.0.more) c.in-Halts.cause r.0 (g.D.Disk.view c.deliver_one.new.disk) c.messages.is_broken c.deliver_one.new.is_broken
    (g.G.Door.visits c.messages.door) (g.G.Door.visits c.deliver_one.new.door) r.1 r.2 r.3 r.4))

pub returns-in-Halts-clause-ends : goal.returns-in-Halts-clause-ends
returns-in-Halts-clause-ends g c = rw c.by_halt.ensures (no_edge c.in-Halts.cause)

pub returns-in-RunsOut-clause-delivers : goal.returns-in-RunsOut-clause-delivers
returns-in-RunsOut-clause-delivers g c = λ b stream told h.
    let f = c.messages.invariant.leads b stream told h in
    let r = (c.in-RunsOut.ensures.steps b stream (told ++ f.0.more) f.0.heard).0 in
    cut_more c.args.conn b stream told NoMemory f.0.more (g.D.Disk.view c.deliver_one.new.disk) c.args.is_broken.now c.messages.is_broken c.deliver_one.new.is_broken
    (g.G.Door.visits c.args.door.now) (g.G.Door.visits c.messages.door) (g.G.Door.visits c.deliver_one.new.door) f.0.says
    (cut_out c.args.conn b stream (told ++ f.0.more) (g.D.Disk.view c.deliver_one.new.disk) c.messages.is_broken c.deliver_one.new.is_broken
    (g.G.Door.visits c.messages.door) (g.G.Door.visits c.deliver_one.new.door) r.0 r.1 r.2)
