-- What an update does to the registry and what it comes to, with the place and the stamp of its record.
use Rattle.std.specs.Prelude.{ℕ, ◌+◌, List, [], ◌∷◌, ◌++◌, Bool, false, Option, Some, None, is_some, is_none, nat_lt, ◌==◌, take, if◌then◌else◌}
use Rattle.clus_names.specs.Folding.{folded, folded_parts}
use Rattle.update_records.specs.declared.change.Change.{Change}
use Rattle.update_records.specs.declared.change.Change.TheVariants as change
use Rattle.update_records.specs.declared.update.Update.{Update}
use Rattle.update_records.specs.declared.update.Update.TheVariants.{Create, SetValue, DeleteValue, DeleteKey, Batch}
use Rattle.update_records.specs.Entry.{Entry}
use Rattle.registry_defs.specs.declared.outcome.Outcome.{Outcome}
use Rattle.registry_defs.specs.Keys.{KeyData, Keys, key_at, value_at, root_alone}
use Rattle.registry_defs.specs.Sections.{has_subkeys}
use Rattle.registry_defs.specs.Sizes.{size}
use Rattle.registry_defs.specs.Changes.{at_key, with_value, without_value, created, key_deleted}

-- The keys afterwards, and what the update came to.
pub record Applied : Type 0 where
  pub keys : Keys
  pub outcome : Outcome

abbrev pub answered : ℕ → ℕ → ℕ → Keys → Applied
answered status disposition birth keys = record { keys = keys; outcome = record { status = status; disposition = disposition; birth = birth; index = 0 } }

abbrev pub refused : ℕ → Keys → Applied
refused status keys = answered status 0 0 keys

abbrev pub done : Keys → Applied
done keys = answered 0 0 0 keys

-- ---- the checks

abbrev pub is_born : ℕ → Option KeyData → Bool
is_born birth None = false
is_born birth (Some key) = key.birth == birth

-- There is no key at the path with that creation number: 1018.
abbrev pub if_born : ℕ → Option KeyData → Keys → Applied → Applied
if_born birth found keys applied = if is_born birth found then applied else refused 1018 keys

-- The size after the change passes the cap: 112.
abbrev pub if_fits : ℕ → Keys → Applied → Applied
if_fits cap keys applied = if nat_lt cap (size applied.keys) then refused 112 keys else applied

abbrev pub has_value : List ℕ → Option KeyData → Bool
has_value name None = false
has_value name (Some key) = is_some (value_at (folded name) key.values)

-- ---- the four kinds of change, each at a key that is there with the right creation number

abbrev pub create_found : ℕ → ℕ → ℕ → List (List ℕ) → List (List ℕ) → Option KeyData → Keys → Applied
create_found cap place stamp key subkey (Some target) keys = answered 0 2 target.birth keys
create_found cap place stamp key subkey None keys = if_fits cap keys (answered 0 1 place (created place stamp (folded_parts key) subkey keys))

abbrev pub create_applied : ℕ → ℕ → ℕ → List (List ℕ) → List (List ℕ) → Keys → Applied
create_applied cap place stamp key subkey keys = create_found cap place stamp key subkey (key_at (folded_parts (key ++ subkey)) keys) keys

abbrev pub set_value_applied : ℕ → ℕ → List (List ℕ) → List ℕ → ℕ → List ℕ → Keys → Applied
set_value_applied cap stamp key name kind bytes keys = if_fits cap keys (done (at_key (with_value name kind bytes stamp) (folded_parts key) keys))

-- There is no such value: 2.
abbrev pub delete_value_applied : ℕ → List (List ℕ) → List ℕ → Keys → Applied
delete_value_applied stamp key name keys =
    if has_value name (key_at (folded_parts key) keys) then done (at_key (without_value name stamp) (folded_parts key) keys)
    else refused 2 keys

-- There is no such key: 2. It has subkeys: 1020.
abbrev pub delete_key_applied : ℕ → List (List ℕ) → Keys → Applied
delete_key_applied stamp path keys =
    if is_none (key_at path keys) then refused 2 keys
    else if has_subkeys path keys then refused 1020 keys
    else done (key_deleted stamp path keys)

abbrev pub change_applied : ℕ → ℕ → ℕ → Change → Keys → Applied
change_applied cap place stamp (change.Create key birth subkey) keys =
    if_born birth (key_at (folded_parts key) keys) keys (create_applied cap place stamp key subkey keys)
change_applied cap place stamp (change.SetValue key birth name kind bytes) keys =
    if_born birth (key_at (folded_parts key) keys) keys (set_value_applied cap stamp key name kind bytes keys)
change_applied cap place stamp (change.DeleteValue key birth name) keys =
    if_born birth (key_at (folded_parts key) keys) keys (delete_value_applied stamp key name keys)
change_applied cap place stamp (change.DeleteKey key birth subkey) keys =
    if_born birth (key_at (folded_parts key) keys) keys (delete_key_applied stamp (folded_parts (key ++ subkey)) keys)

-- ---- batches

abbrev pub birth_or : ℕ → Option KeyData → ℕ
birth_or birth None = birth
birth_or birth (Some key) = if birth == 0 then key.birth else birth

-- In a batch 0 stands for the creation number of whatever key is at the path.
abbrev pub resolved : Change → Keys → Change
resolved (change.Create key birth subkey) keys = change.Create key (birth_or birth (key_at (folded_parts key) keys)) subkey
resolved (change.SetValue key birth name kind bytes) keys = change.SetValue key (birth_or birth (key_at (folded_parts key) keys)) name kind bytes
resolved (change.DeleteValue key birth name) keys = change.DeleteValue key (birth_or birth (key_at (folded_parts key) keys)) name
resolved (change.DeleteKey key birth subkey) keys = change.DeleteKey key (birth_or birth (key_at (folded_parts key) keys)) subkey

-- A refused batch changes nothing, and tells the number of the change.
abbrev pub refused_at : ℕ → ℕ → Keys → Applied
refused_at index status before = record { keys = before; outcome = record { status = status; disposition = 0; birth = 0; index = index } }

-- The changes from a number on, in turn, each to the keys that those before it left; all or none.
unfoldable pub changes_applied : ℕ → ℕ → ℕ → Keys → ℕ → List Change → Keys → Applied
changes_applied cap place stamp before index [] keys = done keys
changes_applied cap place stamp before index (c ∷ cs) keys =
    if (change_applied cap place stamp (resolved c keys) keys).outcome.status == 0 then
    changes_applied cap place stamp before (index + 1) cs (change_applied cap place stamp (resolved c keys) keys).keys
    else refused_at index (change_applied cap place stamp (resolved c keys) keys).outcome.status before

abbrev pub update_applied : ℕ → ℕ → ℕ → Update → Keys → Applied
update_applied cap place stamp (Create key birth subkey) keys = change_applied cap place stamp (change.Create key birth subkey) keys
update_applied cap place stamp (SetValue key birth name kind bytes) keys = change_applied cap place stamp (change.SetValue key birth name kind bytes) keys
update_applied cap place stamp (DeleteValue key birth name) keys = change_applied cap place stamp (change.DeleteValue key birth name) keys
update_applied cap place stamp (DeleteKey key birth subkey) keys = change_applied cap place stamp (change.DeleteKey key birth subkey) keys
update_applied cap place stamp (Batch changes) keys = changes_applied cap place stamp keys 1 changes keys

-- ---- the order of updates

unfoldable pub records_applied : ℕ → ℕ → List Entry → Keys → Keys
records_applied cap place [] keys = keys
records_applied cap place (entry ∷ entries) keys = records_applied cap (place + 1) entries (update_applied cap place entry.stamp entry.update keys).keys

-- The registry after the first so many records of the order.
abbrev pub registry_after : ℕ → List Entry → ℕ → Keys
registry_after cap order count = records_applied cap 1 (take count order) root_alone
