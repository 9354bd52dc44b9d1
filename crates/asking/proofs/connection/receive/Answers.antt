use Rattle.std.proofs.Common.{take}
use Rattle.asking.proofs.VisitLaws.{read_more, read_unused, unread}
use Rattle.asking.proofs.connection.receive.Goals as goal

pub returns-in-Err-clause-receives : goal.returns-in-Err-clause-receives
returns-in-Err-clause-receives g c = unread (g.G.Door.visits c.args.door.now) (g.G.Door.visits c.read.new.self) c.in-Err.ensures.told

pub returns-in-Ok-feed-clause-receives : goal.returns-in-Ok-feed-clause-receives
returns-in-Ok-feed-clause-receives g c = (
  take c.in-Ok.count c.read.new.into,
  c.in-Ok-feed.ensures.fed.1,
  read_more c.read.new.into c.in-Ok.count (g.G.Door.visits c.args.door.now) (g.G.Door.visits c.read.new.self) c.in-Ok.ensures.given c.in-Ok.ensures.told,
)

pub returns-in-Err-Memory-clause-receives : goal.returns-in-Err-Memory-clause-receives
returns-in-Err-Memory-clause-receives g c =
    read_unused c.read.new.into c.in-Ok.count (g.G.Door.visits c.args.door.now) (g.G.Door.visits c.read.new.self) c.in-Ok.ensures.given c.in-Ok.ensures.told
