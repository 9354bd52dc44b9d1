-- Which updates are valid, of those that the types allow.
use Rattle.std.specs.Prelude.{ℕ, ◌<◌, ◌≤◌, List, ◌++◌, length, All}
use Rattle.clus_names.specs.Parts.{text_of}
use Rattle.update_records.specs.declared.change.Change.{Change}
use Rattle.update_records.specs.declared.change.Change.TheVariants as change
use Rattle.update_records.specs.declared.update.Update.{Update}
use Rattle.update_records.specs.declared.update.Update.TheVariants.{Create, SetValue, DeleteValue, DeleteKey, Batch}
use Rattle.update_records.specs.Spelling.{update_text}

-- Key and subkey joined are no longer than a path may be.
abbrev pub FitTogether : List (List ℕ) → List (List ℕ) → Type 0
FitTogether key subkey = length (text_of (key ++ subkey)) ≤ 1023

abbrev pub IsValidChange : Change → Type 0
IsValidChange (change.Create key birth subkey) = FitTogether key subkey
IsValidChange (change.SetValue key birth name kind bytes) = length bytes ≤ 49152
IsValidChange (change.DeleteValue key birth name) = Unit {0}
IsValidChange (change.DeleteKey key birth subkey) = FitTogether key subkey × (0 < length subkey)

-- A batch has 1 to 64 valid changes, and a spelling with which its record keeps to 57,344 bytes.
pub record IsValidBatch (changes : List Change) : Type 0 where
  pub some : 0 < length changes
  pub few : length changes ≤ 64
  pub each : All IsValidChange changes
  pub short : length (update_text (Batch changes)) ≤ 57310

abbrev pub IsValid : Update → Type 0
IsValid (Batch changes) = IsValidBatch changes
IsValid (Create key birth subkey) = IsValidChange (change.Create key birth subkey)
IsValid (SetValue key birth name kind bytes) = IsValidChange (change.SetValue key birth name kind bytes)
IsValid (DeleteValue key birth name) = IsValidChange (change.DeleteValue key birth name)
IsValid (DeleteKey key birth subkey) = IsValidChange (change.DeleteKey key birth subkey)
