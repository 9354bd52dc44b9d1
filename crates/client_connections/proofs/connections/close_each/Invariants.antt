use Rattle.std.proofs.Common.{◌≡◌, ◌≤◌, ◌++◌, length}
use Rattle.client_connections.specs.Clients.{closings}
use Rattle.client_connections.proofs.connections.close_each.Given as goal

abbrev pub invariant-conns : goal.invariant-conns
invariant-conns l = record {
  told : closings l.initial.conns.entries ≡ l.effects.items ++ closings l.conns.entries;
  fewer : length l.conns.entries ≤ length l.initial.conns.entries;
}

abbrev pub decreases-conns : goal.decreases-conns
decreases-conns l = length l.conns.entries
