use Rattle.std.proofs.Common.{◌≡◌, ℕ, List, true}
use Rattle.client_commands.specs.declared.command.Command.{Command}
use Rattle.rpc_client.specs.declared.ask.Ask.{Ask}
use Rattle.rpc_client.specs.Progress.{to_feed}
use Rattle.asking.specs.Asking.{Edges, edges}
use Rattle.asking.specs.Conversations.{IsAt, IsLater}
use Rattle.asking.proofs.conversation.converse.Given as goal

abbrev pub invariant-pieces : goal.invariant-pieces
invariant-pieces g l = record {
  opened : l.client.opened ≡ true;
  at : (origin : Edges) (commands : List Command) (stream : List ℕ) (given : List Ask)
      → IsAt origin commands stream given l.initial.client (edges (g.K.Sink.written l.initial.output) (g.G.Door.visits l.initial.door))
      → (read : List ℕ) × (gave : List Ask) × IsAt origin commands read gave l.client (edges (g.K.Sink.written l.output) (g.G.Door.visits l.door));
  later : IsLater (g.K.Sink.faults l.initial.output) (g.K.Sink.faults l.output) (g.G.Door.faults l.initial.door) (g.G.Door.faults l.door);
}

abbrev pub decreases-pieces : goal.decreases-pieces
decreases-pieces g l = to_feed l.client
