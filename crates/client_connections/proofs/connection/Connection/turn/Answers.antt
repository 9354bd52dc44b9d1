use Rattle.std.proofs.Common.{sym, ap, ◌∙◌}
use Rattle.rpc_calls.specs.declared.intake_fault.IntakeFault.TheVariants as faults
use Rattle.client_connections.specs.Clients.{Client}
use Rattle.client_connections.specs.Courses.{course_of}
use Rattle.client_connections.proofs.TurnLaws.{fails, waits}
use Rattle.client_connections.proofs.connection.Connection.turn.Goals as goal

pub returns-in-Ok-None-clause-turn : goal.returns-in-Ok-None-clause-turn
returns-in-Ok-None-clause-turn c =
    waits c.args.conn c.args.self.now.intake c.self.inside.intake c.next.new.self _ _ (ap (λ (k : Client). k.intake) c.self.view_is) (ap (λ (k : Client). course_of c.args.shared.now k.association c.args.taken.now) c.self.view_is)
    (sym c.may_take.ensures ∙ c.if-not-may_take.false) c.self.invariant.side
    c.in-Ok-None.ensures.stays (rw c.in-Ok-None.field-0-is at c.in-Ok-None.ensures.gives)

pub returns-in-Err-Pdu-clause-turn : goal.returns-in-Err-Pdu-clause-turn
returns-in-Err-Pdu-clause-turn c =
    fails c.args.conn c.args.self.now.intake c.self.inside.intake c.next.new.self _ _ (faults.Pdu c.in-Err-Pdu.place c.in-Err-Pdu.fault) (ap (λ (k : Client). k.intake) c.self.view_is) (ap (λ (k : Client). course_of c.args.shared.now k.association c.args.taken.now) c.self.view_is)
    (sym c.may_take.ensures ∙ c.if-not-may_take.false) c.self.invariant.side
    c.in-Err-Pdu.ensures.stays (rw c.in-Err-Pdu.field-0-is at c.in-Err-Pdu.ensures.gives)

pub returns-in-Err-Interleaved-clause-turn : goal.returns-in-Err-Interleaved-clause-turn
returns-in-Err-Interleaved-clause-turn c =
    fails c.args.conn c.args.self.now.intake c.self.inside.intake c.next.new.self _ _ (faults.Interleaved c.in-Err-Interleaved.place) (ap (λ (k : Client). k.intake) c.self.view_is) (ap (λ (k : Client). course_of c.args.shared.now k.association c.args.taken.now) c.self.view_is)
    (sym c.may_take.ensures ∙ c.if-not-may_take.false) c.self.invariant.side
    c.in-Err-Interleaved.ensures.stays (rw c.in-Err-Interleaved.field-0-is at c.in-Err-Interleaved.ensures.gives)

pub returns-in-Err-StubTooLong-clause-turn : goal.returns-in-Err-StubTooLong-clause-turn
returns-in-Err-StubTooLong-clause-turn c =
    fails c.args.conn c.args.self.now.intake c.self.inside.intake c.next.new.self _ _ (faults.StubTooLong c.in-Err-StubTooLong.place) (ap (λ (k : Client). k.intake) c.self.view_is) (ap (λ (k : Client). course_of c.args.shared.now k.association c.args.taken.now) c.self.view_is)
    (sym c.may_take.ensures ∙ c.if-not-may_take.false) c.self.invariant.side
    c.in-Err-StubTooLong.ensures.stays (rw c.in-Err-StubTooLong.field-0-is at c.in-Err-StubTooLong.ensures.gives)
