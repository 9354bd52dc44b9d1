-- What the calls that add a record leave in the log of a node alone.
use Rattle.std.specs.Prelude.{◌≡◌, ◌+◌, List, [], ◌∷◌, ◌++◌, length, Option, Some, None, IfOk, Result, Ok, Err}
use Rattle.update_records.specs.Entry.{Entry, IsRecord, record_text}
use Rattle.disk_core.specs.Images.{EachImage}
use Rattle.disk_core.specs.Views.{DiskView, Passes}
use Rattle.quorum_log.specs.declared.fault.AppendFault.TheVariants.{Failed, Fenced}
use Rattle.quorum_log.specs.declared.found.Found.{Found}
use Rattle.quorum_log.specs.Logs.{LogValue}
use Rattle.log_contents.specs.declared.contents.LogContents.{LogContents}
use Rattle.record_log.specs.declared.fault.AddFault.{AddFault}
use Rattle.record_log.specs.declared.fault.AddFault.TheVariants.{Append, Checkpoint, Memory}
use Rattle.record_log.specs.Adding.{Adds, CheckpointsTo, is_due}
use Rattle.single_log.specs.Contents.{count_found}
use Rattle.single_log.specs.Images.{HoldsFurther, MayHoldOne}
use Rattle.single_log.specs.Keeping.{KeepsLog, last_text_behind, state_behind}

-- The record that comes next behind the records found and these further ones.
pub record IsNextBehind (found : Found) (q : List Entry) (e : Entry) : Type 0 where
  pub valid : IsRecord e
  pub place_is : e.place ≡ count_found found + length q + 1

-- Where the calls were fenced, the checkpoint failed, or memory ran out before any call, it isn't in doubt.
abbrev pub in_doubt : Entry → Result LogValue AddFault → Option Entry
in_doubt e (Ok log) = Some e
in_doubt e (Err (Append Failed)) = Some e
in_doubt e (Err (Append (Fenced held))) = None
in_doubt e (Err (Checkpoint fault)) = None
in_doubt e (Err Memory) = None

-- At each moment meanwhile each image holds what it held, or the record that is in doubt too. Behind Ok the record is one of the further ones.
pub record KeepsAdding (found : Found) (contents : LogContents) (q : List Entry) (e : Entry) (v : DiskView) (r : Result LogValue AddFault) (w : DiskView) : Type 0 where
  pub moments : Passes (EachImage (MayHoldOne found contents q (in_doubt e r))) v w
  pub keeps : IfOk r (λ new. KeepsLog found contents (q ++ e ∷ []) new w)
  pub held : w.current.held ≡ v.current.held

abbrev pub AddingKeeps : Type 0
AddingKeeps =
    (found : Found) (contents : LogContents) (q : List Entry) (e : Entry) (log : LogValue) (v : DiskView) (r : Result LogValue AddFault) (w : DiskView)
    → KeepsLog found contents q log v → IsNextBehind found q e
    → Adds (is_due log (length (record_text e))) log (state_behind contents q) (last_text_behind contents q) (record_text e) v r w
    → KeepsAdding found contents q e v r w

-- A checkpoint by itself leaves what the log holds.
pub record KeepsCheckpoint (found : Found) (contents : LogContents) (q : List Entry) (v : DiskView) (r : Result LogValue AddFault) (w : DiskView) : Type 0 where
  pub moments : Passes (EachImage (HoldsFurther found contents q)) v w
  pub keeps : IfOk r (λ new. KeepsLog found contents q new w)

abbrev pub CheckpointKeeps : Type 0
CheckpointKeeps =
    (found : Found) (contents : LogContents) (q : List Entry) (log : LogValue) (v : DiskView) (r : Result LogValue AddFault) (w : DiskView)
    → KeepsLog found contents q log v → CheckpointsTo log (state_behind contents q) (last_text_behind contents q) v r w
    → KeepsCheckpoint found contents q v r w
