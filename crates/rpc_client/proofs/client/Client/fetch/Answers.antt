use Rattle.std.proofs.Common.{◌≡◌, None, refl, sym, subst}
use Rattle.rpc_client.specs.contracts.client.Client.{the_view}
use Rattle.rpc_client.specs.Clients.{IsAwaiting, Kept}
use Rattle.rpc_client.proofs.TurnLaws.{bad_reply, ended, fetched, no_memory}
use Rattle.rpc_client.proofs.client.Client.fetch.Goals as goal

pub returns-in-Ok-Some-clause-turn : goal.returns-in-Ok-Some-clause-turn
returns-in-Ok-Some-clause-turn c =
    let next = rw c.in-Ok-Some.field-0-is at c.in-Ok-Some.ensures in
    let none = subst (λ (k : Kept). k.item ≡ None) (sym c.self.view_is) c.requires.none in
    rw c.self.view_is at (fetched (the_view c.self.inside) c.next.new.self c.in-Ok-Some.item none next.gives next.numbers next.stays)

pub returns-in-Ok-None-clause-turn : goal.returns-in-Ok-None-clause-turn
returns-in-Ok-None-clause-turn c =
    let next = rw c.in-Ok-None.field-0-is at c.in-Ok-None.ensures in
    let none = subst (λ (k : Kept). k.item ≡ None) (sym c.self.view_is) c.requires.none in
    let awaits = subst IsAwaiting (sym c.self.view_is) c.requires.awaits in
    rw c.at_end.ensures (rw c.self.view_is at (ended (the_view c.self.inside) c.next.new.self c.self.inside.passed refl awaits none next.gives next.stays))

pub returns-in-Err-Memory-clause-turn : goal.returns-in-Err-Memory-clause-turn
returns-in-Err-Memory-clause-turn c =
    let next = rw c.in-Err-Memory.field-0-is at c.in-Err-Memory.ensures in
    let none = subst (λ (k : Kept). k.item ≡ None) (sym c.self.view_is) c.requires.none in
    rw c.self.view_is at (no_memory (the_view c.self.inside) c.next.new.self none next.gives next.stays)

pub returns-in-Err-Pdu-clause-turn : goal.returns-in-Err-Pdu-clause-turn
returns-in-Err-Pdu-clause-turn c =
    let next = rw c.in-Err-Pdu.field-0-is at c.in-Err-Pdu.ensures in
    let none = subst (λ (k : Kept). k.item ≡ None) (sym c.self.view_is) c.requires.none in
    let awaits = subst IsAwaiting (sym c.self.view_is) c.requires.awaits in
    rw c.self.view_is at (bad_reply (the_view c.self.inside) c.next.new.self _ c.in-Err-Pdu.place awaits none refl next.gives next.stays)

pub returns-in-Err-Interleaved-clause-turn : goal.returns-in-Err-Interleaved-clause-turn
returns-in-Err-Interleaved-clause-turn c =
    let next = rw c.in-Err-Interleaved.field-0-is at c.in-Err-Interleaved.ensures in
    let none = subst (λ (k : Kept). k.item ≡ None) (sym c.self.view_is) c.requires.none in
    let awaits = subst IsAwaiting (sym c.self.view_is) c.requires.awaits in
    rw c.self.view_is at (bad_reply (the_view c.self.inside) c.next.new.self _ c.in-Err-Interleaved.place awaits none refl next.gives next.stays)

pub returns-in-Err-StubTooLong-clause-turn : goal.returns-in-Err-StubTooLong-clause-turn
returns-in-Err-StubTooLong-clause-turn c =
    let next = rw c.in-Err-StubTooLong.field-0-is at c.in-Err-StubTooLong.ensures in
    let none = subst (λ (k : Kept). k.item ≡ None) (sym c.self.view_is) c.requires.none in
    let awaits = subst IsAwaiting (sym c.self.view_is) c.requires.awaits in
    rw c.self.view_is at (bad_reply (the_view c.self.inside) c.next.new.self _ c.in-Err-StubTooLong.place awaits none refl next.gives next.stays)
