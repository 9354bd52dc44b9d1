use Rattle.std.proofs.Common.{[], ◌∷◌, ◌++◌}
use Rattle.rpc_client.specs.declared.ask.Ask.TheVariants.{Write}
use Rattle.asking.proofs.TalkLaws.{bytes_sent, bytes_unsent, client_halts, line_printed, line_unprinted}
use Rattle.asking.proofs.conversation.give_next.Goals as goal

pub returns-in-Ok-clause-gives : goal.returns-in-Ok-clause-gives
returns-in-Ok-clause-gives g c =
    line_printed c.in-Ok-Line.line c.args.client.now c.next.new.self (g.K.Sink.written c.args.output.now) (g.K.Sink.written c.write_whole.new.sink) (g.G.Door.visits c.args.door.now)
    (rw c.in-Ok-Line.field-0-is at c.in-Ok-Line.ensures.next) (rw c.as_slice.ensures at c.in-Ok.ensures.whole)

pub returns-in-Ok-Line-clause-gives : goal.returns-in-Ok-Line-clause-gives
returns-in-Ok-Line-clause-gives g c =
    line_unprinted c.in-Ok-Line.line c.args.client.now c.next.new.self (g.K.Sink.written c.args.output.now) (g.K.Sink.written c.write_whole.new.sink) (g.G.Door.visits c.args.door.now)
    (rw c.in-Ok-Line.field-0-is at c.in-Ok-Line.ensures.next) (rw c.as_slice.ensures at c.in-Err-write_whole.ensures.prefix)

pub returns-in-Ok-send-clause-gives : goal.returns-in-Ok-send-clause-gives
returns-in-Ok-send-clause-gives g c = λ origin commands stream given at.
    let next = rw c.in-Ok-Write.field-0-is at c.in-Ok-Write.ensures.next in
    let bytes = c.in-Ok-Write.bytes in (
      given ++ Write bytes ∷ [],
      bytes_sent bytes c.args.client.now c.next.new.self commands commands (g.K.Sink.written c.args.output.now) (g.G.Door.visits c.args.door.now) (g.G.Door.visits c.send.new.door)
          (λ s gs h. next commands s gs h) (rw c.as_slice-in-Ok-Write.ensures at c.in-Ok-send.ensures.sends) origin stream given at,
    )

pub returns-in-Ok-Write-clause-gives : goal.returns-in-Ok-Write-clause-gives
returns-in-Ok-Write-clause-gives g c = λ origin commands stream given at.
    let next = rw c.in-Ok-Write.field-0-is at c.in-Ok-Write.ensures.next in
    let bytes = c.in-Ok-Write.bytes in
    bytes_unsent bytes c.args.client.now c.next.new.self commands commands (g.K.Sink.written c.args.output.now) (g.G.Door.visits c.args.door.now) (g.G.Door.visits c.send.new.door)
    (λ s gs h. next commands s gs h) (rw c.as_slice-in-Ok-Write.ensures at c.in-Err-send.ensures.sends) origin stream given at

pub returns-in-Ok-Wait-clause-gives : goal.returns-in-Ok-Wait-clause-gives
returns-in-Ok-Wait-clause-gives g c = λ origin commands stream given at.
    let next = (rw c.in-Ok-Wait.field-0-is at c.in-Ok-Wait.ensures.next) commands stream given at.holds in
    (given, record { holds = next.0; printed = at.printed; talks = at.talks }, next.1)

pub returns-in-Ok-Idle-clause-gives : goal.returns-in-Ok-Idle-clause-gives
returns-in-Ok-Idle-clause-gives g c = λ origin commands stream given at.
    let next = (rw c.in-Ok-Idle.field-0-is at c.in-Ok-Idle.ensures.next) commands stream given at.holds in
    (given, record { holds = next.0; printed = at.printed; talks = at.talks }, next.1)

pub returns-clause-gives : goal.returns-clause-gives
returns-clause-gives g c =
    rw c.from.ensures
    (client_halts c.in-Err.fault c.args.client.now c.next.new.self (g.K.Sink.written c.args.output.now) (g.G.Door.visits c.args.door.now) c.in-Err.ensures.next)
