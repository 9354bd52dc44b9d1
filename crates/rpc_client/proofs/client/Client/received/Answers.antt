use Rattle.std.proofs.Common.{◌≡◌, false, sym, subst}
use Rattle.rpc_client.specs.contracts.client.Client.{the_view}
use Rattle.rpc_client.specs.Clients.{Holds, Kept}
use Rattle.rpc_client.proofs.TurnLaws.{all_received}
use Rattle.rpc_client.proofs.client.Client.received.Goals as goal

pub returns : goal.returns
returns c = λ commands stream given h passed.
    let held = subst (λ (k : Kept). Holds k commands stream given) (sym c.self.view_is) h in
    let looks = subst (λ (k : Kept). k.passed ≡ false) (sym c.self.view_is) passed in
    all_received (the_view c.self.inside) c.received.result commands stream given c.received.ensures held looks
