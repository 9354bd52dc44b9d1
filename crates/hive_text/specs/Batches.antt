-- Changes cut into batches: each batch takes changes as long as it may.
use Rattle.std.specs.Prelude.{List, [], ◌∷◌, ◌++◌, length, Bool, ◌&&◌, nat_le, ◌==◌, if◌then◌else◌}
use Rattle.update_records.specs.declared.change.Change.{Change}
use Rattle.update_records.specs.declared.update.Update.{Update}
use Rattle.update_records.specs.declared.update.Update.TheVariants.{Create, SetValue, DeleteValue, DeleteKey, Batch}
use Rattle.update_records.specs.Spelling.{update_text}
use Rattle.registry_defs.specs.Keys.{Keys}
use Rattle.hive_text.specs.Changes.{changes_of}

-- So many changes, and so many bytes, a batch may have.
abbrev pub may_be_batch : List Change → Bool
may_be_batch changes = nat_le (length changes) 64 && nat_le (length (update_text (Batch changes))) 57310

abbrev pub last_batch : List Change → List Update
last_batch taken = if length taken == 0 then [] else Batch taken ∷ []

-- The batches of the changes that the first one has taken, and of the changes behind them.
unfoldable pub cut : List Change → List Change → List Update
cut taken [] = last_batch taken
cut taken (change ∷ changes) =
    if may_be_batch (taken ++ change ∷ []) then cut (taken ++ change ∷ []) changes
    else Batch taken ∷ cut (change ∷ []) changes

abbrev pub batches_of : Keys → List Update
batches_of keys = cut [] (changes_of keys)

abbrev pub changes_in : Update → List Change
changes_in (Batch changes) = changes
changes_in (Create key birth subkey) = []
changes_in (SetValue key birth name kind bytes) = []
changes_in (DeleteValue key birth name) = []
changes_in (DeleteKey key birth subkey) = []
