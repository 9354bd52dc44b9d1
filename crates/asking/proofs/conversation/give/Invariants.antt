use Rattle.std.proofs.Common.{◌≡◌, ℕ, List, true}
use Rattle.client_commands.specs.declared.command.Command.{Command}
use Rattle.rpc_client.specs.declared.ask.Ask.{Ask}
use Rattle.rpc_client.specs.Progress.{to_feed, to_give}
use Rattle.asking.specs.Asking.{Edges, edges}
use Rattle.asking.specs.Conversations.{IsAt, IsLater}
use Rattle.asking.proofs.conversation.give.Given as goal

abbrev pub invariant-asks : goal.invariant-asks
invariant-asks g l = record {
  opened : l.client.opened ≡ true;
  at : (origin : Edges) (commands : List Command) (stream : List ℕ) (given : List Ask)
      → IsAt origin commands stream given l.initial.client (edges (g.K.Sink.written l.initial.output) (g.G.Door.visits l.initial.door))
      → (gave : List Ask) × IsAt origin commands stream gave l.client (edges (g.K.Sink.written l.output) (g.G.Door.visits l.door));
  unfed : to_feed l.client ≡ to_feed l.initial.client;
  later : IsLater (g.K.Sink.faults l.initial.output) (g.K.Sink.faults l.output) (g.G.Door.faults l.initial.door) (g.G.Door.faults l.door);
}

abbrev pub decreases-asks : goal.decreases-asks
decreases-asks g l = to_give l.client
