use Rattle.std.proofs.Common.{arith}
use Rattle.update_records.specs.Entry.{entry_of}
use Rattle.update_records.proofs.RecordLaws.{record_placed}
use Rattle.update_records.proofs.decoding.read_record.Goals as goal

pub invariant_of-result : goal.invariant_of-result
invariant_of-result c =
    let read = rw c.new-fields.ensures at c.in_ok-place.ensures in
    record_placed c.args.bytes.now (entry_of (c.in_ok-place.place, c.in_ok-place.stamp, c.in_ok-place.id, c.in_ok-place.update), c.record_fields.new.fields) (λ i. omega (arith, c.type_inv.bytes i)) read
