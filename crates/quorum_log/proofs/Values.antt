-- Laws of log values.
use Rattle.std.proofs.Common.{◌≡◌, ℕ, ◌≤◌, ◌⊎◌, arith}
use Rattle.quorum_log.specs.Layout.{most_record}
use Rattle.quorum_log.specs.Logs.{LogValue, Fits, begun}

-- A record fits behind a checkpoint.
pub fits_after : (log : LogValue) (state last count : ℕ) → (log.half ≡ 0) ⊎ (log.half ≡ 1) → state ≤ log.cap → last ≤ most_record → count ≤ most_record → Fits (begun log state last) count
fits_after log state last count half state_most last_most count_most = omega arith
