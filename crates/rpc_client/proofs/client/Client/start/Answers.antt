use Rattle.std.proofs.Common.{sym, subst}
use Rattle.rpc_client.specs.contracts.client.Client.{the_view}
use Rattle.rpc_client.specs.Clients.{Holds, IsIdle, Kept}
use Rattle.rpc_client.proofs.HoldingLaws.{is_begun}
use Rattle.rpc_client.proofs.client.Client.start.Goals as goal

pub returns-clause-holds : goal.returns-clause-holds
returns-clause-holds c = λ commands stream given h.
    let idle = subst IsIdle (sym c.self.view_is) c.requires.idle in
    let held = subst (λ (k : Kept). Holds k commands stream given) (sym c.self.view_is) h in
    rw c.in_ok-bytes.ensures.begun (is_begun (the_view c.self.inside) c.args.command c.in_ok-bytes.bytes.items commands stream given idle c.in_ok-bytes.ensures.bytes held)
