use Rattle.std.proofs.Common.{◌≡◌, ap, ◌∙◌}
use Rattle.update_records.specs.Entry.{record_text}
use Rattle.update_records.proofs.RecordLaws.{record_short}
use Rattle.update_records.proofs.encoding.encode.Goals as goal

pub returns-clause-short : goal.returns-clause-short
returns-clause-short c =
    let written = rw c.new-put.ensures at c.in_ok-put_record.ensures.written in
    let is : c.into_bytes.result.items ≡ record_text c.args.entry.now = c.into_bytes.ensures ∙ ap (λ put. put.bytes) written in
    rw is (record_short c.args.entry.now c.in_ok-put_record.ensures.limits)
