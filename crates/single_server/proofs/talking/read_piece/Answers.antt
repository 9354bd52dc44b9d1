use Rattle.single_server.proofs.DoorLaws.{unread}
use Rattle.single_server.proofs.talking.read_piece.Goals as goal

pub returns-in-Err-clause-reads : goal.returns-in-Err-clause-reads
returns-in-Err-clause-reads g c = unread (g.G.Door.visits c.args.door.now) (g.G.Door.visits c.read.new.self) c.in-Err.ensures.told
