-- What a log that was found holds.
use Rattle.std.specs.Prelude.{◌≡◌, ℕ, ◌+◌, List, [], ◌∷◌, Bool, true, false, ◌==◌, Option, Some, None}
use Rattle.quorum_log.specs.declared.found.Found.{Found}
use Rattle.quorum_log.specs.declared.found.FoundRecord.{FoundRecord}
use Rattle.update_records.specs.Entry.{Entry, IsRecord, IsFirst, record_text, first_text}
use Rattle.registry_defs.specs.Contents.{Contents, IsCap}
use Rattle.clus_registry.specs.States.{IsReadFrom}
use Rattle.log_contents.specs.declared.contents.LogContents.{LogContents}

-- The bytes are the encoding of the record, in version 1 or in version 2.
abbrev pub IsEncodedFirst : Bool → List ℕ → Entry → Type 0
IsEncodedFirst true bytes entry = IsRecord entry × IsFirst entry × (bytes ≡ first_text entry)
IsEncodedFirst false bytes entry = IsRecord entry × (bytes ≡ record_text entry)

abbrev pub IsEncoded : ℕ → List ℕ → Entry → Type 0
IsEncoded version bytes entry = IsEncodedFirst (version == 1) bytes entry

-- They are that of a record with this place in the update order.
pub record IsRecordAt (version place : ℕ) (bytes : List ℕ) (entry : Entry) : Type 0 where
  pub encoded : IsEncoded version bytes entry
  pub place_is : entry.place ≡ place

-- They are those of records with the places from this one on.
abbrev pub AreRecords : ℕ → ℕ → List FoundRecord → List Entry → Type 0
AreRecords version place [] [] = Unit {0}
AreRecords version place (stored ∷ others) (entry ∷ entries) = IsRecordAt version place stored.bytes entry × AreRecords version (place + 1) others entries
AreRecords version place stored entries = ⊥

-- The state is the encoding of the registry, whose cap is that of the log.
pub record IsState (found : Found) (registry : Contents) : Type 0 where
  pub range : IsCap found.cap
  pub read : IsReadFrom found.cap found.state registry

-- The record at the base, which a log has unless its base is 0.
abbrev pub IsLast : Found → Option Entry → Type 0
IsLast found None = (found.base ≡ 0) × (found.last ≡ [])
IsLast found (Some entry) = IsRecordAt found.version found.base found.last entry

pub record IsContents (found : Found) (contents : LogContents) : Type 0 where
  pub state : IsState found contents.registry
  pub last : IsLast found contents.last
  pub records : AreRecords found.version (found.base + 1) found.records contents.records
