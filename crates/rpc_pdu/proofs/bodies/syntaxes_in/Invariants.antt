use Rattle.std.proofs.Common.{◌≡◌, ◌-◌}
use Rattle.wire_fields.specs.Reading.{times}
use Rattle.wire_fields.proofs.ListLaws.{with_front}
use Rattle.rpc_pdu.specs.Reading.{syntax_at}
use Rattle.rpc_pdu.proofs.bodies.syntaxes_in.Given as goal

abbrev pub invariant-loop : goal.invariant-loop
invariant-loop l = with_front l.items.items (times (l.count - l.counter) syntax_at l.fields) ≡ times l.count syntax_at l.initial.fields
