-- The updates that there are: valid, and with fields that the types hold.
use Rattle.std.specs.Prelude.{ℕ, ◌<◌, ◌^◌, List, All}
use Rattle.wire_fields.specs.Numbers.{IsBytes}
use Rattle.clus_names.specs.Limits.{IsName, IsPath}
use Rattle.update_records.specs.declared.change.Change.{Change}
use Rattle.update_records.specs.declared.change.Change.TheVariants as change
use Rattle.update_records.specs.declared.update.Update.{Update}
use Rattle.update_records.specs.declared.update.Update.TheVariants.{Create, SetValue, DeleteValue, DeleteKey, Batch}
use Rattle.update_records.specs.Validity.{IsValidChange, IsValidBatch}

pub record IsKey (key : List (List ℕ)) (birth : ℕ) : Type 0 where
  pub path : IsPath key
  pub in_range : birth < 2 ^ 64

abbrev pub HasFields : Change → Type 0
HasFields (change.Create key birth subkey) = IsKey key birth × IsPath subkey
HasFields (change.SetValue key birth name kind bytes) = IsKey key birth × IsName name × (kind < 2 ^ 32) × IsBytes bytes
HasFields (change.DeleteValue key birth name) = IsKey key birth × IsName name
HasFields (change.DeleteKey key birth subkey) = IsKey key birth × IsPath subkey

pub record IsChange (c : Change) : Type 0 where
  pub fields : HasFields c
  pub valid : IsValidChange c

pub record IsBatch (changes : List Change) : Type 0 where
  pub valid : IsValidBatch changes
  pub each : All IsChange changes

abbrev pub IsUpdate : Update → Type 0
IsUpdate (Batch changes) = IsBatch changes
IsUpdate (Create key birth subkey) = IsChange (change.Create key birth subkey)
IsUpdate (SetValue key birth name kind bytes) = IsChange (change.SetValue key birth name kind bytes)
IsUpdate (DeleteValue key birth name) = IsChange (change.DeleteValue key birth name)
IsUpdate (DeleteKey key birth subkey) = IsChange (change.DeleteKey key birth subkey)
