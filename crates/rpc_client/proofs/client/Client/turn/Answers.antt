use Rattle.std.proofs.Common.{◌≡◌, true, sym, ◌∙◌, subst}
use Rattle.rpc_client.specs.contracts.client.Client.{the_view}
use Rattle.rpc_client.specs.Clients.{Holds, IsIdle, Kept}
use Rattle.rpc_client.proofs.HoldingLaws.{is_idle, line_given}
use Rattle.rpc_client.proofs.client.Client.turn.Goals as goal

pub returns-in-Some-clause-turn : goal.returns-in-Some-clause-turn
returns-in-Some-clause-turn c = λ commands stream given h.
    let opened = subst (λ (k : Kept). k.opened ≡ true) (sym c.self.view_is) c.requires in
    let held = subst (λ (k : Kept). Holds k commands stream given) (sym c.self.view_is) h in
    line_given (the_view c.self.inside) c.in-Some.line c.pop.new.self commands stream given opened c.in-Some.ensures.lines held

pub returns-then-is_resting-clause-turn : goal.returns-then-is_resting-clause-turn
returns-then-is_resting-clause-turn c = λ commands stream given h.
    let kept = the_view c.self.inside in
    let opened = subst (λ (k : Kept). k.opened ≡ true) (sym c.self.view_is) c.requires in
    let held = subst (λ (k : Kept). Holds k commands stream given) (sym c.self.view_is) h in
    let idle : IsIdle kept = record { opened = opened; no_lines = c.in_default.ensures.none; not_sent = sym c.in_default-take.ensures.value; resting = sym c.is_resting.ensures ∙ c.if-is_resting.true } in
    let lines : c.pop.new.self ≡ c.self.inside.lines = sym c.in_default.ensures.lines in
    let sent : c.take.new.self ≡ c.self.inside.sent = c.in_default-take.ensures.after ∙ c.in_default-take.ensures.value in
    rw (lines, sent) (held, is_idle kept commands stream given idle held)
