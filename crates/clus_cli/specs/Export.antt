-- What `export` prints of the log that the disk holds.
use Rattle.std.specs.Prelude.{◌≡◌, ◌⊎◌, ℕ, ◌+◌, ◌≤◌, IsTrue, List, Option}
use Rattle.disk_core.specs.Views.{DiskView}
use Rattle.quorum_log.specs.declared.found.Found.{Found}
use Rattle.quorum_log.specs.Opening.{WasRead}
use Rattle.registry_defs.specs.Applying.{records_applied}
use Rattle.registry_defs.specs.Contents.{keys_in}
use Rattle.registry_defs.specs.Keys.{Keys}
use Rattle.hive_text.specs.HiveText.{hive_text}
use Rattle.log_contents.specs.declared.contents.LogContents.{LogContents}
use Rattle.log_contents.specs.Contents.{IsContents}
use Rattle.clus_cli.specs.declared.opening.Opened.{Opened}
use Rattle.clus_cli.specs.declared.status.Status.{Status}
use Rattle.clus_cli.specs.Showlog.{EndsAtBad, IsBadLog, IsFound, IsGoodLog, IsRefused, Prints}

-- The log was opened, and these are its contents.
pub record IsOpened (v : DiskView) (opened : Opened) (w : DiskView) : Type 0 where
  pub found : IsFound v opened.found w
  pub decoded : IsContents opened.found opened.contents

-- The registry of a log: what its records make of its state.
abbrev pub logged_keys : Found → LogContents → Keys
logged_keys x contents = records_applied x.cap (x.base + 1) contents.records (keys_in contents.registry)

abbrev pub export_text : Found → LogContents → List ℕ
export_text x contents = hive_text (logged_keys x contents)

-- The log of the disk is opened under fencing token 1, and its registry printed.
pub record IsExported (v : DiskView) (before : Option (List ℕ)) (status : Status) (w : DiskView) (now : Option (List ℕ)) : Type 0 where
  pub held_before : v.current.held ≤ 1
  pub held : w.current.held ≡ 1
  pub log : Found
  pub contents : LogContents
  -- whatever the disk tells: the log is the one in the bytes that were read
  pub read : WasRead v log
  pub decoded : IsContents log contents
  pub good : IsTrue v.tells → IsGoodLog v.current.seen log
  pub prints : Prints before (export_text log contents) status now

pub record ExportRuns (v : DiskView) (before : Option (List ℕ)) (status : Status) (w : DiskView) (now : Option (List ℕ)) : Type 0 where
  pub ends : IsRefused v before status w now ⊎ IsExported v before status w now
  pub exact : IsTrue v.tells → (place : ℕ) → IsBadLog v.current.seen v.size place → EndsAtBad place status
  -- a read of the disk gives what it gave before
  pub unchanged : IsTrue v.tells → w.current.seen ≡ v.current.seen
