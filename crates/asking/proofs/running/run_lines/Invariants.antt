use Rattle.std.proofs.Common.{◌≡◌, ◌+◌, ◌≤◌, [], List, length}
use Rattle.client_commands.specs.declared.command.Command.{Command}
use Rattle.rpc_client.specs.Clients.{IsIdle}
use Rattle.asking.specs.Asking.{Edges, edges}
use Rattle.asking.specs.Conversations.{IsLater, IsResting}
use Rattle.asking.specs.Inputs.{behind, lines_of, parsed_from}
use Rattle.asking.proofs.running.run_lines.Given as goal

abbrev pub invariant-lines : goal.invariant-lines
invariant-lines g l = record {
  idle : IsIdle l.client;
  few : l.number + length l.lines ≤ length l.text + 1;
  so_far : (origin : Edges) → IsResting origin [] l.initial.client (edges (g.K.Sink.written l.initial.output) (g.G.Door.visits l.initial.door))
      → (commands : List Command) × IsResting origin commands l.client (edges (g.K.Sink.written l.output) (g.G.Door.visits l.door))
      × (parsed_from 0 (lines_of l.text) ≡ behind commands (parsed_from l.number l.lines));
  later : IsLater (g.K.Sink.faults l.initial.output) (g.K.Sink.faults l.output) (g.G.Door.faults l.initial.door) (g.G.Door.faults l.door);
}

abbrev pub decreases-lines : goal.decreases-lines
decreases-lines g l = length l.lines
