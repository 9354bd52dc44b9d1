use Rattle.std.proofs.Common.{[], ◌∷◌, ◌++◌}
use Rattle.rpc_client.specs.declared.ask.Ask.TheVariants.{Write}
use Rattle.asking.specs.Asking.{edges}
use Rattle.asking.specs.Conversations.{parted}
use Rattle.asking.proofs.TalkLaws.{begun_here, begun_more, bytes_sent, bytes_unsent}
use Rattle.asking.proofs.conversation.carry_out.Goals as goal

pub returns-in-Err-clause-rests : goal.returns-in-Err-clause-rests
returns-in-Err-clause-rests g c = λ origin commands resting.
    begun_more commands (c.args.command ∷ []) origin (parted (edges (g.K.Sink.written c.args.output.now) (g.G.Door.visits c.args.door.now)))
    (begun_here origin commands resting.stream resting.given c.args.client.now (g.K.Sink.written c.args.output.now) (g.G.Door.visits c.args.door.now) resting.at)

pub returns-in-Ok-send-clause-rests : goal.returns-in-Ok-send-clause-rests
returns-in-Ok-send-clause-rests g c = λ origin commands resting.
    let behind = commands ++ c.args.command ∷ [] in
    c.converse.ensures.rests origin behind resting.stream (resting.given ++ Write c.in-Ok.request.items ∷ [])
    (bytes_sent c.in-Ok.request.items c.args.client.now c.start.new.self commands behind (g.K.Sink.written c.args.output.now) (g.G.Door.visits c.args.door.now) (g.G.Door.visits c.send.new.door)
    (λ s gs h. c.in-Ok.ensures.holds commands s gs h) (rw c.deref.ensures.value at c.in-Ok-send.ensures.sends) origin resting.stream resting.given resting.at)

pub returns-clause-rests : goal.returns-clause-rests
returns-clause-rests g c = λ origin commands resting.
    bytes_unsent c.in-Ok.request.items c.args.client.now c.start.new.self commands (commands ++ c.args.command ∷ []) (g.K.Sink.written c.args.output.now) (g.G.Door.visits c.args.door.now) (g.G.Door.visits c.send.new.door)
    (λ s gs h. c.in-Ok.ensures.holds commands s gs h) (rw c.deref.ensures.value at c.in-Err-send.ensures.sends) origin resting.stream resting.given resting.at
