use Rattle.std.proofs.Common.{◌≡◌, ◌≤◌, ℕ, List, true}
use Rattle.client_commands.specs.declared.command.Command.{Command}
use Rattle.rpc_client.specs.declared.ask.Ask.{Ask}
use Rattle.rpc_client.specs.Clients.{Holds}
use Rattle.rpc_client.specs.Progress.{to_feed, to_give}
use Rattle.rpc_client.proofs.client.Client.next.Given as goal

abbrev pub invariant-turns : goal.invariant-turns
invariant-turns l = record {
  opened : l.self.opened ≡ true;
  keeps : (commands : List Command) (stream : List ℕ) (given : List Ask) → Holds l.initial.self commands stream given → Holds l.self commands stream given;
  less : to_give l.self ≤ to_give l.initial.self;
  unfed : to_feed l.self ≡ to_feed l.initial.self;
}

abbrev pub decreases-turns : goal.decreases-turns
decreases-turns l = to_give l.self
