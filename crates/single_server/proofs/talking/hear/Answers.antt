use Rattle.std.proofs.Common.{arith}
use Rattle.single_server.proofs.HearLaws.{heard_after}
use Rattle.single_server.proofs.QueueLaws.{piece_queues_own, queues_then}
use Rattle.single_server.proofs.TalkLaws.{hears_at, ok_then, out_at_piece}
use Rattle.single_server.proofs.talking.hear.Goals as goal

pub returns-in-Err-clause-hears : goal.returns-in-Err-clause-hears
returns-in-Err-clause-hears g c = λ b stream told h.
    out_at_piece c.args.conn c.args.piece.now c.args.single.now c.bytes.new.self (g.D.Disk.view c.args.disk.now) b stream told c.args.is_broken.now (g.G.Door.visits c.args.door.now) h

pub deliver_all-requires-clause-alone : goal.deliver_all-requires-clause-alone
deliver_all-requires-clause-alone g c =
    heard_after c.args.conn c.args.piece.now c.args.single.now c.bytes.new.self (g.D.Disk.view c.args.disk.now) c.in-Ok.effects c.requires.quiet c.in-Ok.ensures.hears c.in-Ok.ensures.left c.requires.alone

pub returns-clause-hears : goal.returns-clause-hears
returns-clause-hears g c = λ b stream told h.
    hears_at c.args.conn c.args.piece.now c.args.single.now c.bytes.new.self (g.D.Disk.view c.args.disk.now) c.in-Ok.effects c.requires.quiet c.requires.connected c.in-Ok.ensures.hears c.in-Ok.ensures.left b stream told h
    c.deliver_all.result c.deliver_all.new.single (g.D.Disk.view c.deliver_all.new.disk) c.args.is_broken.now c.send_replies.new.is_broken c.deliver_all.new.is_broken
    (g.G.Door.visits c.args.door.now) (g.G.Door.visits c.send_replies.new.door) (g.G.Door.visits c.deliver_all.new.door)
    (rw c.as_slice.ensures at c.send_replies.ensures.says) c.deliver_all.ensures.delivers c.deliver_all.ensures.still

pub returns-clause-queues : goal.returns-clause-queues
returns-clause-queues g c =
    ok_then c.deliver_all.result _ _ (queues_then c.args.conn c.args.single.now.node c.bytes.new.self.node c.deliver_all.new.single.node
    (piece_queues_own c.args.conn c.args.piece.now c.args.single.now.node c.bytes.new.self.node c.in-Ok.effects c.in-Ok.ensures.hears)) c.deliver_all.ensures.queues

pub returns-in-Err-clause-bytes : goal.returns-in-Err-clause-bytes
returns-in-Err-clause-bytes g c = λ i. omega (arith, c.type_inv.piece i)

pub returns-clause-bytes : goal.returns-clause-bytes
returns-clause-bytes g c = λ i. omega (arith, c.type_inv.piece i)
