use Rattle.std.proofs.Common.{length}
use Rattle.update_records.specs.Grammar.{update_of}
use Rattle.update_records.proofs.Within.{update_within}
use Rattle.gum_messages.proofs.BodyLaws.{part_in_reach}
use Rattle.gum_messages.proofs.decoding.update.Goals as goal

pub shifted-requires : goal.shifted-requires
shifted-requires c =
    let bytes = c.part-start.result.1.now in
    part_in_reach (update_of bytes) c.part-start.result.0 (length bytes) c.in-Err.fault (update_within bytes) c.part-start.ensures.room c.in-Err.ensures.fault
