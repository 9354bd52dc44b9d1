use Rattle.std.proofs.Common.{◌≡◌, ap, sym, subst, arith}
use Rattle.rpc_client.specs.contracts.client.Client.{the_view}
use Rattle.rpc_client.specs.Clients.{Holds, IsAwaiting, Kept}
use Rattle.rpc_client.specs.Progress.{to_give}
use Rattle.rpc_client.proofs.HoldingLaws.{is_answered, is_refused}
use Rattle.rpc_client.proofs.ProgressLaws.{answered_less}
use Rattle.rpc_client.proofs.client.Client.answer.Goals as goal

pub returns-in-Some-2-clause-turn : goal.returns-in-Some-2-clause-turn
returns-in-Some-2-clause-turn c = λ commands stream given h.
    let awaits = subst IsAwaiting (sym c.self.view_is) c.requires.awaits in
    let held = subst (λ (k : Kept). Holds k commands stream given) (sym c.self.view_is) h in
    let told = rw c.in-Some-2.is at c.in_ok-told.ensures in
    rw c.say.ensures (is_answered (the_view c.self.inside) c.in-Some.item _ commands stream given awaits c.in-Some.is told held)

pub returns-in-None-clause-turn : goal.returns-in-None-clause-turn
returns-in-None-clause-turn c = λ commands stream given h.
    let awaits = subst IsAwaiting (sym c.self.view_is) c.requires.awaits in
    let held = subst (λ (k : Kept). Holds k commands stream given) (sym c.self.view_is) h in
    let none = rw c.in-None.is at c.in_ok-told.ensures in
    rw (none.1, c.item_place.ensures) (held, is_refused (the_view c.self.inside) c.in-Some.item commands stream given awaits c.in-Some.is none.0 held)

pub returns-in-Some-2-clause-less : goal.returns-in-Some-2-clause-less
returns-in-Some-2-clause-less c =
    let awaits = subst IsAwaiting (sym c.self.view_is) c.requires.awaits in
    let told = rw c.in-Some-2.is at c.in_ok-told.ensures in
    let less = answered_less (the_view c.self.inside) c.in-Some.item _ awaits c.in-Some.is told in
    let same : to_give (the_view c.self.inside) ≡ to_give c.args.self.now = ap to_give c.self.view_is in
    rw c.say.ensures (omega (arith, less, same))
