-- A log that has contents gives these.
use Rattle.std.proofs.Common.{◌≡◌, ℕ, ◌+◌, List, Result, Ok, Err, subst, inl, inr}
use Rattle.std.specs.Prelude.{IfOk, IfErr}
use Rattle.quorum_log.specs.declared.found.Found.{Found}
use Rattle.quorum_log.specs.declared.found.FoundRecord.{FoundRecord}
use Rattle.update_records.specs.Entry.{Entry}
use Rattle.log_contents.specs.declared.contents.LogContents.{LogContents}
use Rattle.log_contents.specs.declared.fault.ContentsFault.{ContentsFault}
use Rattle.log_contents.specs.declared.fault.ContentsFault.TheVariants.{Bad, Memory}
use Rattle.log_contents.specs.Contents.{AreRecords, IsContents}
use Rattle.log_contents.specs.Faults.{IsFirstBad, IsFaultAt, FailsOn, GivesContents}
use Rattle.log_contents.proofs.Unique.{one_state, one_last, one_list}
use Rattle.log_contents.proofs.Lists.{none_behind}

no_records : (version place : ℕ) (stored : List FoundRecord) (at : ℕ) (entries : List Entry) → IsFirstBad version place stored at → AreRecords version place stored entries → ⊥
no_records version place stored at entries bad h =
    none_behind version place bad.before bad.bad bad.behind entries bad.none (subst (λ (l : List FoundRecord). AreRecords version place l entries) bad.split h)

pub no_contents : (found : Found) (place : ℕ) (held : LogContents) → IsFaultAt found place → IsContents found held → ⊥
no_contents found place held (inl state) is = state.0 held.registry is.state
no_contents found place held (inr (inl last)) is = last.2 held.last is.last
no_contents found place held (inr (inr records)) is = no_records found.version (found.base + 1) found.records place held.records records.4 is.records

one_content : (found : Found) (read held : LogContents) → IsContents found read → IsContents found held → read ≡ held
one_content found read held x y =
    let registry = one_state found read.registry held.registry x.state y.state in
    let last = one_last found read.last held.last x.last y.last in
    let records = one_list found.version (found.base + 1) found.records read.records held.records x.records y.records in
    λ i. record { registry = registry i; last = last i; records = records i }

pub gives_contents : (found : Found) (result : Result LogContents ContentsFault) (held : LogContents)
    → IfOk result (IsContents found) → IfErr result (FailsOn found) → IsContents found held → GivesContents result held
gives_contents found (Ok read) held ok err is = one_content found read held ok is
gives_contents found (Err (Bad place)) held ok err is = no_contents found place held err is
gives_contents found (Err Memory) held ok err is = tt
