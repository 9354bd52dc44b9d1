-- What adding a record does, and a checkpoint.
use Rattle.std.specs.Prelude.{◌≡◌, ℕ, ◌+◌, ◌-◌, Bool, true, false, not, ◌||◌, ◌==◌, nat_lt, List, [], ◌∷◌, ◌++◌, length, IfOk, Result, Ok, Err}
use Rattle.disk_core.specs.Calls.{Made, SameDisk, write, sync}
use Rattle.disk_core.specs.Views.{DiskView, Passes}
use Rattle.quorum_log.specs.declared.found.Found.{Found}
use Rattle.quorum_log.specs.declared.fault.AppendFault.{AppendFault}
use Rattle.quorum_log.specs.Changes.{IsInChange, closing, framed_record, half_text, with_checkpoint, with_record}
use Rattle.quorum_log.specs.Faults.{AnsweredBy, disk_answer}
use Rattle.quorum_log.specs.Layout.{half_at, half_size, next_generation}
use Rattle.quorum_log.specs.Logs.{LogValue, StandsFor, appended, begun}
use Rattle.update_records.specs.Entry.{Entry, IsId, IsRecord}
use Rattle.record_log.specs.declared.fault.AddFault.{AddFault}
use Rattle.record_log.specs.declared.fault.AddFault.TheVariants.{Checkpoint, Append, Memory}

-- Bytes were appended to a log: its value, what the disk holds behind it and at any moment, the answer and the calls.
pub record Appends (log : LogValue) (bytes : List ℕ) (v : DiskView) (r : Result LogValue AppendFault) (w : DiskView) : Type 0 where
  pub value : IfOk r (λ new. new ≡ appended log (length bytes))
  pub stands : (x : Found) → StandsFor log v x → IfOk r (λ new. StandsFor new w (with_record x bytes))
  pub any_moment : (x : Found) → StandsFor log v x → Passes (IsInChange v.current.held x (with_record x bytes)) v w
  pub answer : AnsweredBy log.claim v (disk_answer r) w
  pub calls : Made (write log.claim (log.tail + 1) (framed_record bytes) ∷ sync log.claim
      ∷ write log.claim log.tail (1 ∷ []) ∷ sync log.claim ∷ []) v (disk_answer r) w
  pub held : w.current.held ≡ v.current.held
  pub same : SameDisk v w

-- The other half was begun with this state and last record.
pub record Checkpoints (log : LogValue) (state last : List ℕ) (v : DiskView) (r : Result LogValue AppendFault) (w : DiskView) : Type 0 where
  pub value : IfOk r (λ new. new ≡ begun log (length state) (length last))
  pub stands : (x : Found) → StandsFor log v x → IfOk r (λ new. StandsFor new w (with_checkpoint x state last))
  pub any_moment : (x : Found) → StandsFor log v x → Passes (IsInChange v.current.held x (with_checkpoint x state last)) v w
  pub answer : AnsweredBy log.claim v (disk_answer r) w
  pub calls : Made (closing log.other_valid log.claim (half_at log.cap (1 - log.half))
      ++ write log.claim (half_at log.cap (1 - log.half) + 1) (half_text (next_generation log.generation) (log.base + log.records) state last)
      ∷ sync log.claim ∷ write log.claim (half_at log.cap (1 - log.half)) (1 ∷ []) ∷ sync log.claim ∷ []) v (disk_answer r) w
  pub held : w.current.held ≡ v.current.held
  pub same : SameDisk v w

abbrev pub AppendsTo : LogValue → List ℕ → DiskView → Result LogValue AddFault → DiskView → Type 0
AppendsTo log bytes v (Ok new) w = Appends log bytes v (Ok new) w
AppendsTo log bytes v (Err (Append fault)) w = Appends log bytes v (Err fault) w
AppendsTo log bytes v (Err fault) w = ⊥

-- The checkpoint itself, which takes no memory.
abbrev pub BeginsTo : LogValue → List ℕ → List ℕ → DiskView → Result LogValue AddFault → DiskView → Type 0
BeginsTo log state last v (Ok new) w = Checkpoints log state last v (Ok new) w
BeginsTo log state last v (Err (Checkpoint fault)) w = Checkpoints log state last v (Err fault) w
BeginsTo log state last v (Err fault) w = ⊥

-- Out of memory comes before any call.
abbrev pub CheckpointsTo : LogValue → List ℕ → List ℕ → DiskView → Result LogValue AddFault → DiskView → Type 0
CheckpointsTo log state last v (Ok new) w = Checkpoints log state last v (Ok new) w
CheckpointsTo log state last v (Err (Checkpoint fault)) w = Checkpoints log state last v (Err fault) w
CheckpointsTo log state last v (Err (Append fault)) w = ⊥
CheckpointsTo log state last v (Err Memory) w = w ≡ v

-- A checkpoint was made, and the bytes were appended behind it.
abbrev pub AddsBehind : LogValue → List ℕ → List ℕ → List ℕ → DiskView → Result LogValue AddFault → DiskView → Type 0
AddsBehind log state last bytes v r w =
    (u : DiskView) × Checkpoints log state last v (Ok (begun log (length state) (length last))) u
    × AppendsTo (begun log (length state) (length last)) bytes u r w

-- The first argument: a checkpoint is due, with this state and last record. Out of memory comes before any call.
abbrev pub Adds : Bool → LogValue → List ℕ → List ℕ → List ℕ → DiskView → Result LogValue AddFault → DiskView → Type 0
Adds due log state last bytes v (Err Memory) w = w ≡ v
Adds true log state last bytes v (Err (Checkpoint fault)) w = Checkpoints log state last v (Err fault) w
Adds true log state last bytes v r w = AddsBehind log state last bytes v r w
Adds false log state last bytes v r w = AppendsTo log bytes v r w

-- Unless memory ran out, what was encoded is such a record as decodes again, where its id is one.
abbrev pub IsSound : Entry → Result LogValue AddFault → Type 0
IsSound e (Err Memory) = Unit {0}
IsSound e r = IsId e.id → IsRecord e

-- A checkpoint is due before a record of that length: the log isn't of version 2, or the record doesn't fit.
abbrev pub is_due : LogValue → ℕ → Bool
is_due log count = not (log.version == 2) || not (nat_lt (log.tail + 5 + count) (half_at log.cap log.half + half_size log.cap))
