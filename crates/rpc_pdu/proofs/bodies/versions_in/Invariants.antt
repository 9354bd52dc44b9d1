use Rattle.std.proofs.Common.{◌≡◌, ◌-◌}
use Rattle.wire_fields.specs.Reading.{times}
use Rattle.wire_fields.proofs.ListLaws.{with_front}
use Rattle.rpc_pdu.specs.Reading.{version_at}
use Rattle.rpc_pdu.proofs.bodies.versions_in.Given as goal

abbrev pub invariant-loop : goal.invariant-loop
invariant-loop l = with_front l.items.items (times (l.count - l.counter) version_at l.fields) ≡ times l.count version_at l.initial.fields
