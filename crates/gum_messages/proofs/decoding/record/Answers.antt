use Rattle.std.proofs.Common.{length}
use Rattle.update_records.specs.Grammar.{record_of}
use Rattle.update_records.proofs.Within.{record_within}
use Rattle.gum_messages.proofs.BodyLaws.{part_in_reach}
use Rattle.gum_messages.proofs.decoding.record.Goals as goal

pub shifted-requires : goal.shifted-requires
shifted-requires c =
    let bytes = c.part-start.result.1.now in
    part_in_reach (record_of bytes) c.part-start.result.0 (length bytes) c.in-Err.fault (record_within bytes) c.part-start.ensures.room c.in-Err.ensures.fault
