-- What a run over the log of a disk leaves in each image.
use Rattle.std.specs.Prelude.{◌≡◌, ℕ, IsTrue, List, ◌++◌, Option}
use Rattle.std.specs.Option.{option_to_list}
use Rattle.disk_core.specs.Views.{DiskView}
use Rattle.rpc_calls.specs.declared.intake_fault.IntakeFault.{IntakeFault}
use Rattle.rpc_calls.specs.declared.item.Item.{Item}
use Rattle.rpc_calls.specs.declared.side.Side.TheVariants.{Server}
use Rattle.rpc_calls.specs.Streams.{Items}
use Rattle.update_records.specs.Entry.{Entry}
use Rattle.quorum_log.specs.declared.found.Found.{Found}
use Rattle.log_contents.specs.declared.contents.LogContents.{LogContents}
use Rattle.cluster_member.specs.States.{MemberState}
use Rattle.single_items.specs.Alone.{AloneRun, alone}
use Rattle.single_items.specs.Promises.{BeginsWith}
use Rattle.single_log.specs.Images.{IsCut, IsDone}
use Rattle.single_server.specs.Begins.{BeginsOn}
use Rattle.single_server.specs.Hearing.{RepliesLogged}

-- The log on which a run began, and what that says.
abbrev pub found_at : {stamp : ℕ} {v : DiskView} {first : AloneRun} {x : MemberState} {w : DiskView} → BeginsOn stamp v first x w → Found
found_at begins = begins.opened.found

abbrev pub contents_at : {stamp : ℕ} {v : DiskView} {first : AloneRun} {x : MemberState} {w : DiskView} → BeginsOn stamp v first x w → LogContents
contents_at begins = begins.opened.recovered.contents

-- Behind a run with these records each image holds those found and these, and at each moment since the opening the first so many
-- of them, or one more.
abbrev pub LeavesAll : {stamp : ℕ} {v : DiskView} {first : AloneRun} {x : MemberState} {u : DiskView} → BeginsOn stamp v first x u → List Entry → DiskView → Type 0
LeavesAll {v = v} begins records w = IsTrue v.tells → IsDone (found_at begins) (contents_at begins) records v w

-- Records of a connection that was cut off: they are the first of Alone's, one more than which may be held. Of its stream this text
-- was told, which is all that Alone writes for a front of the items, and each record of that front is among them. So a byte of a
-- reply to an update was written only where each image holds its record.
pub record FirstRecords (c : ℕ) (first : AloneRun) (stream text : List ℕ) : Type 0 where
  pub records : List Entry
  pub doubtful : Option Entry
  pub first_of : (given : List Item) (fault : Option IntakeFault) → Items Server stream given fault
      → BeginsWith (alone c first given).records (records ++ option_to_list doubtful)
  pub answered : RepliesLogged c first stream text records

-- Behind a run that was cut off at a connection, behind others with these records, each image holds the records found, these, and
-- the first of Alone's for that connection, or one more: with each of which a reply was begun among them.
abbrev pub LeavesFirst : {stamp : ℕ} {v : DiskView} {first : AloneRun} {x : MemberState} {u : DiskView}
    → BeginsOn stamp v first x u → List Entry → ℕ → AloneRun → List ℕ → List ℕ → DiskView → Type 0
LeavesFirst {v = v} begins before c last stream text w =
    IsTrue v.tells → (more : FirstRecords c last stream text) × IsCut (found_at begins) (contents_at begins) (before ++ more.records) more.doubtful v w
