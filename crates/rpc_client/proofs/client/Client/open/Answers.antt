use Rattle.std.proofs.Common.{◌≡◌, false, sym, subst}
use Rattle.rpc_client.specs.contracts.client.Client.{the_view}
use Rattle.rpc_client.specs.Clients.{Holds, Kept}
use Rattle.rpc_client.proofs.HoldingLaws.{bind_given}
use Rattle.rpc_client.proofs.client.Client.open.Goals as goal

pub returns-clause-holds : goal.returns-clause-holds
returns-clause-holds c = λ commands stream given h.
    let closed = subst (λ (k : Kept). k.opened ≡ false) (sym c.self.view_is) c.requires in
    let held = subst (λ (k : Kept). Holds k commands stream given) (sym c.self.view_is) h in
    bind_given (the_view c.self.inside) c.in_ok-bytes.bytes.items commands stream given closed c.in_ok-bytes.ensures held
