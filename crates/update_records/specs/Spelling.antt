-- The one spelling of each update. Numbers are little-endian.
use Rattle.std.specs.Prelude.{ℕ, List, ◌++◌, length}
use Rattle.std.specs.List.{flat_map}
use Rattle.wire_fields.specs.declared.endian.Endian.TheVariants.{Little}
use Rattle.wire_fields.specs.Numbers.{num}
use Rattle.clus_names.specs.Parts.{text_of}
use Rattle.update_records.specs.declared.change.Change.{Change}
use Rattle.update_records.specs.declared.change.Change.TheVariants as change
use Rattle.update_records.specs.declared.update.Update.{Update}
use Rattle.update_records.specs.declared.update.Update.TheVariants.{Create, SetValue, DeleteValue, DeleteKey, Batch}

abbrev pub units_text : List ℕ → List ℕ
units_text units = flat_map (λ unit. num Little 2 unit) units

-- A name, and the text of a path: how many units, and the units.
unfoldable pub name_text : List ℕ → List ℕ
name_text units = num Little 2 (length units) ++ units_text units

abbrev pub path_text : List (List ℕ) → List ℕ
path_text path = name_text (text_of path)

unfoldable pub data_text : List ℕ → List ℕ
data_text bytes = num Little 4 (length bytes) ++ bytes

-- The kind, the key and its birth begin each change.
unfoldable pub key_text : ℕ → List (List ℕ) → ℕ → List ℕ
key_text kind key birth = num Little 1 kind ++ path_text key ++ num Little 8 birth

unfoldable pub change_text : Change → List ℕ
change_text (change.Create key birth subkey) = key_text 1 key birth ++ path_text subkey
change_text (change.SetValue key birth name kind bytes) = key_text 2 key birth ++ name_text name ++ num Little 4 kind ++ data_text bytes
change_text (change.DeleteValue key birth name) = key_text 3 key birth ++ name_text name
change_text (change.DeleteKey key birth subkey) = key_text 4 key birth ++ path_text subkey

-- An update of a single kind is spelled as the change of that kind.
abbrev pub update_text : Update → List ℕ
update_text (Create key birth subkey) = change_text (change.Create key birth subkey)
update_text (SetValue key birth name kind bytes) = change_text (change.SetValue key birth name kind bytes)
update_text (DeleteValue key birth name) = change_text (change.DeleteValue key birth name)
update_text (DeleteKey key birth subkey) = change_text (change.DeleteKey key birth subkey)
update_text (Batch changes) = num Little 1 5 ++ num Little 2 (length changes) ++ flat_map change_text changes

abbrev pub single : Change → Update
single (change.Create key birth subkey) = Create key birth subkey
single (change.SetValue key birth name kind bytes) = SetValue key birth name kind bytes
single (change.DeleteValue key birth name) = DeleteValue key birth name
single (change.DeleteKey key birth subkey) = DeleteKey key birth subkey
