use Rattle.std.proofs.Common.{◌++◌, ap, ◌∙◌, refl, arith}
use Rattle.single_node.specs.Singles.{SingleState}
use Rattle.single_server.proofs.Written.{cut_by_halt, cut_by_memory, cut_by_write, cut_then, no_read, same_disk_still, same_then, told_nothing, told_then}
use Rattle.single_server.specs.Endings.{ended_by}
use Rattle.single_server.specs.declared.ended.Ended.TheVariants.{NoMemory, WriteFault}
use Rattle.single_server.proofs.delivering.deliver_all.Goals as goal

pub messages-init : goal.messages-init
messages-init g c = record {
  alone = c.requires.alone;
  room = c.requires.room;
  leads = λ b stream told h. told_nothing c.args.conn b stream told c.args.single.now (g.D.Disk.view c.args.disk.now) (g.K.Sink.written c.args.output.now) (g.K.Sink.written c.args.output.now) h refl;
  still = λ none. refl;
  same_disk = same_disk_still (g.D.Disk.view c.args.disk.now);
  later = omega arith;
}

pub messages-preserved : goal.messages-preserved
messages-preserved g c =
    let t = c.in-GoesOn.ensures in
    record {
      alone = (let a = c.messages.invariant.alone in let f = t.turns a.0 a.1 a.2 a.3 in (a.0, a.1, a.2 ++ f.more, f.heard));
      room = t.room;
      leads = λ b stream told h. (let f = c.messages.invariant.leads b stream told h in
          told_then c.args.conn b stream told c.messages.single c.deliver_one.new.single (g.D.Disk.view c.messages.disk) (g.D.Disk.view c.deliver_one.new.disk) (g.K.Sink.written c.args.output.now)
          (g.K.Sink.written c.messages.output) (g.K.Sink.written c.deliver_one.new.output) f (t.turns b stream (told ++ f.more) f.heard));
      still = λ none. absurd (t.less.1 (ap (λ (s : SingleState). s.left) (c.messages.invariant.still none) ∙ none));
      same_disk = same_then (g.D.Disk.view c.args.disk.now) (g.D.Disk.view c.messages.disk) (g.D.Disk.view c.deliver_one.new.disk) c.messages.invariant.same_disk t.same_disk;
      later = (let a = c.messages.invariant.later in let b = t.later in omega (arith, a, b));
    }

pub returns-in-Rests-clause-delivers : goal.returns-in-Rests-clause-delivers
returns-in-Rests-clause-delivers g c = λ b stream told h.
    let f = c.messages.invariant.leads b stream told h in
    let r = c.in-Rests.ensures.turns b stream (told ++ f.more) f.heard in (
      told_then c.args.conn b stream told c.messages.single c.deliver_one.new.single (g.D.Disk.view c.messages.disk) (g.D.Disk.view c.deliver_one.new.disk) (g.K.Sink.written c.args.output.now)
          (g.K.Sink.written c.messages.output) (g.K.Sink.written c.deliver_one.new.output) f
          (told_nothing c.args.conn b stream (told ++ f.more) c.deliver_one.new.single (g.D.Disk.view c.deliver_one.new.disk) (g.K.Sink.written c.messages.output) (g.K.Sink.written c.deliver_one.new.output) r.0 r.2),
      r.1,
    )

pub returns-in-Halts-clause-delivers : goal.returns-in-Halts-clause-delivers
returns-in-Halts-clause-delivers g c = rw c.by_halt.ensures (λ b stream told h.
    let f = c.messages.invariant.leads b stream told h in
    let r = c.in-Halts.ensures.turns b stream (told ++ f.more) f.heard in
    cut_then c.args.conn b stream told (ended_by c.in-Halts.cause) c.messages.single (g.D.Disk.view c.messages.disk) (g.D.Disk.view c.deliver_one.new.disk) (g.K.Sink.written c.args.output.now)
    (g.K.Sink.written c.messages.output) (g.K.Sink.written c.deliver_one.new.output) f
    (cut_by_halt c.args.conn b stream (told ++ f.more) c.in-Halts.cause r.0 (g.D.Disk.view c.deliver_one.new.disk) (g.K.Sink.written c.messages.output) (g.K.Sink.written c.deliver_one.new.output) r.1 r.2 r.3))

pub returns-in-Halts-clause-read : goal.returns-in-Halts-clause-read
returns-in-Halts-clause-read g c = rw c.by_halt.ensures (no_read c.in-Halts.cause)

pub returns-in-WriteFails-clause-delivers : goal.returns-in-WriteFails-clause-delivers
returns-in-WriteFails-clause-delivers g c = λ b stream told h.
    let f = c.messages.invariant.leads b stream told h in
    let r = c.in-WriteFails.ensures.turns b stream (told ++ f.more) f.heard in
    cut_then c.args.conn b stream told WriteFault c.messages.single (g.D.Disk.view c.messages.disk) (g.D.Disk.view c.deliver_one.new.disk) (g.K.Sink.written c.args.output.now)
    (g.K.Sink.written c.messages.output) (g.K.Sink.written c.deliver_one.new.output) f
    (cut_by_write c.args.conn b stream (told ++ f.more) r.0 c.deliver_one.new.single (g.D.Disk.view c.deliver_one.new.disk) (g.K.Sink.written c.messages.output) (g.K.Sink.written c.deliver_one.new.output) r.1 r.2)

pub returns-in-RunsOut-clause-delivers : goal.returns-in-RunsOut-clause-delivers
returns-in-RunsOut-clause-delivers g c = λ b stream told h.
    let f = c.messages.invariant.leads b stream told h in
    let r = c.in-RunsOut.ensures.turns b stream (told ++ f.more) f.heard in
    cut_then c.args.conn b stream told NoMemory c.messages.single (g.D.Disk.view c.messages.disk) (g.D.Disk.view c.deliver_one.new.disk) (g.K.Sink.written c.args.output.now)
    (g.K.Sink.written c.messages.output) (g.K.Sink.written c.deliver_one.new.output) f
    (cut_by_memory c.args.conn b stream (told ++ f.more) (g.D.Disk.view c.deliver_one.new.disk) (g.K.Sink.written c.messages.output) (g.K.Sink.written c.deliver_one.new.output) r.0 r.1)
