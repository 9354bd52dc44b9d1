-- What is kept beside a log of records.
use Rattle.std.specs.Prelude.{◌≡◌, ◌+◌}
use Rattle.quorum_log.specs.Logs.{LogValue}
use Rattle.record_log.specs.declared.recovered.Recovered.{Recovered}

-- The cap and the count are those of the log.
pub record IsToldOf (log : LogValue) (told : Recovered) : Type 0 where
  pub cap : told.cap ≡ log.cap
  pub count : told.count ≡ log.base + log.records
