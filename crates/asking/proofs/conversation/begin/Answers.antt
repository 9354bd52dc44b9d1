use Rattle.std.proofs.Common.{[], ◌∷◌}
use Rattle.rpc_client.specs.declared.ask.Ask.TheVariants.{Write}
use Rattle.asking.proofs.TalkLaws.{begun_here, bytes_sent, bytes_unsent}
use Rattle.asking.proofs.conversation.begin.Goals as goal

pub returns-in-Err-clause-rests : goal.returns-in-Err-clause-rests
returns-in-Err-clause-rests g c = λ origin at.
    begun_here origin [] [] [] c.args.client.now (g.K.Sink.written c.args.output.now) (g.G.Door.visits c.args.door.now) at

pub returns-in-Ok-send-clause-rests : goal.returns-in-Ok-send-clause-rests
returns-in-Ok-send-clause-rests g c = λ origin at.
    c.converse.ensures.rests origin [] [] (Write c.in-Ok.bind.items ∷ [])
    (bytes_sent c.in-Ok.bind.items c.args.client.now c.open.new.self [] [] (g.K.Sink.written c.args.output.now) (g.G.Door.visits c.args.door.now) (g.G.Door.visits c.send.new.door)
    (λ s gs h. c.in-Ok.ensures.holds [] s gs h) (rw c.deref.ensures.value at c.in-Ok-send.ensures.sends) origin [] [] at)

pub returns-clause-rests : goal.returns-clause-rests
returns-clause-rests g c = λ origin at.
    bytes_unsent c.in-Ok.bind.items c.args.client.now c.open.new.self [] [] (g.K.Sink.written c.args.output.now) (g.G.Door.visits c.args.door.now) (g.G.Door.visits c.send.new.door)
    (λ s gs h. c.in-Ok.ensures.holds [] s gs h) (rw c.deref.ensures.value at c.in-Err-send.ensures.sends) origin [] [] at
