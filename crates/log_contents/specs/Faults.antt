-- Which part of a log that was found is at fault.
use Rattle.std.specs.Prelude.{◌≡◌, ◌⊎◌, ℕ, ◌+◌, List, ◌∷◌, ◌++◌, length, Option, Result, Ok, Err}
use Rattle.quorum_log.specs.declared.found.Found.{Found}
use Rattle.quorum_log.specs.declared.found.FoundRecord.{FoundRecord}
use Rattle.update_records.specs.Entry.{Entry}
use Rattle.registry_defs.specs.Contents.{Contents}
use Rattle.log_contents.specs.declared.contents.LogContents.{LogContents}
use Rattle.log_contents.specs.declared.fault.ContentsFault.{ContentsFault}
use Rattle.log_contents.specs.declared.fault.ContentsFault.TheVariants.{Bad, Memory}
use Rattle.log_contents.specs.Contents.{IsState, IsLast, IsRecordAt, AreRecords}

abbrev pub HasNone : {A : Type 0} → (A → Type 0) → Type 0
HasNone {A} Is = (x : A) → Is x → ⊥

-- One of the records, which begins there, isn't that of its place; those before it are.
pub record IsFirstBad (version place : ℕ) (records : List FoundRecord) (at : ℕ) : Type 0 where
  pub before : List FoundRecord
  pub bad : FoundRecord
  pub behind : List FoundRecord
  pub split : records ≡ before ++ bad ∷ behind
  pub entries : List Entry
  pub good : AreRecords version place before entries
  pub none : HasNone (IsRecordAt version (place + length before) bad.bytes)
  pub begins : at ≡ bad.at

-- The first part that is at fault begins there: the state, the last record before those of the half, or one of these.
abbrev pub IsFaultAt : Found → ℕ → Type 0
IsFaultAt found at =
    (HasNone (IsState found) × (at ≡ found.state_at))
    ⊎ ((registry : Contents) × IsState found registry × HasNone (IsLast found) × (at ≡ found.last_at))
    ⊎ ((registry : Contents) × (last : Option Entry) × IsState found registry × IsLast found last × IsFirstBad found.version (found.base + 1) found.records at)

abbrev pub FailsOn : Found → ContentsFault → Type 0
FailsOn found (Bad place) = IsFaultAt found place
FailsOn found Memory = Unit {0}

-- These contents, unless memory ran out.
abbrev pub GivesContents : Result LogContents ContentsFault → LogContents → Type 0
GivesContents (Ok read) contents = read ≡ contents
GivesContents (Err Memory) contents = Unit {0}
GivesContents (Err (Bad place)) contents = ⊥

-- What a part is, which begins there, or that it is none, unless memory ran out.
abbrev pub IsPart : {A : Type 0} → (A → Type 0) → ℕ → Result A ContentsFault → Type 0
IsPart Is at (Ok x) = Is x
IsPart Is at (Err (Bad place)) = HasNone Is × (place ≡ at)
IsPart Is at (Err Memory) = Unit {0}

abbrev pub ArePart : ℕ → ℕ → List FoundRecord → Result (List Entry) ContentsFault → Type 0
ArePart version place records (Ok entries) = AreRecords version place records entries
ArePart version place records (Err (Bad at)) = IsFirstBad version place records at
ArePart version place records (Err Memory) = Unit {0}
