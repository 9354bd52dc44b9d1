-- How far the cutting into batches has come.
use Rattle.std.specs.Prelude.{◌≡◌, ℕ, ◌≤◌, List, ◌++◌, length, All}
use Rattle.std.specs.List.{AllByRecursion}
use Rattle.clus_names.specs.Folding.{folded_parts}
use Rattle.clus_names.specs.Limits.{IsPart}
use Rattle.clus_names.specs.Parts.{text_of}
use Rattle.update_records.specs.declared.change.Change.{Change}
use Rattle.update_records.specs.declared.update.Update.{Update}
use Rattle.update_records.specs.declared.update.Update.TheVariants.{Batch}
use Rattle.update_records.specs.Spelling.{update_text}
use Rattle.update_records.specs.Validity.{IsValid, IsValidChange}
use Rattle.registry_defs.specs.Keys.{Keys}
use Rattle.hive_text.specs.declared.batcher.Batcher.{Batcher}
use Rattle.hive_text.specs.Batches.{cut}

-- What the changes taken so far keep.
pub record IsTaken (taken : List Change) (size : ℕ) : Type 0 where
  pub counted : size ≡ length (update_text (Batch taken))
  pub short : size ≤ 57310
  pub few : length taken ≤ 64
  pub each : All IsValidChange taken

pub record IsSound (batcher : Batcher) : Type 0 where
  pub taken : IsTaken batcher.taken.items batcher.size
  pub done : All IsValid batcher.done.items

-- All batches, where these changes are still to come.
abbrev pub all_batches : Batcher → List Change → List Update
all_batches batcher rest = batcher.done.items ++ cut batcher.taken.items rest

-- These changes, and no others, were taken.
pub record Takes (old : Batcher) (changes : List Change) (new : Batcher) : Type 0 where
  pub sound : IsSound new
  pub batches : (rest : List Change) → all_batches new rest ≡ all_batches old (changes ++ rest)

-- The keys below a path have names and paths within the limits.
abbrev pub HavePaths : List (List ℕ) → Keys → Type 0
HavePaths path keys = AllByRecursion (λ entry. IsPart entry.1.part × (length (text_of (folded_parts path ++ entry.0)) ≤ 1023)) keys
