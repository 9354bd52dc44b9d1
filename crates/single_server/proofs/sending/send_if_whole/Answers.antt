use Rattle.std.proofs.Common.{Bool, sym, subst}
use Rattle.single_server.specs.Talking.{Says}
use Rattle.single_server.proofs.DoorLaws.{broken_says}
use Rattle.single_server.proofs.sending.send_if_whole.Goals as goal

pub returns-then-is_broken-clause-says : goal.returns-then-is_broken-clause-says
returns-then-is_broken-clause-says g c =
    subst (λ (b : Bool). Says c.args.bytes.now b b (g.G.Door.visits c.args.door.now) (g.G.Door.visits c.args.door.now)) (sym c.if-is_broken.true)
    (broken_says c.args.bytes.now (g.G.Door.visits c.args.door.now))
