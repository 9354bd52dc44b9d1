-- How often each of four kinds of told values came.
use Rattle.std.specs.Prelude.{ℕ, ◌+◌, ◌<◌, ◌^◌, List, [], ◌∷◌}
use Rattle.cluster_worlds.specs.declared.told.Told.{Told}
use Rattle.cluster_worlds.specs.declared.told.Told.TheVariants.{Order, Reply, Closed, Acked}
use Rattle.script_text.specs.declared.counts.Counts.{Counts}

abbrev pub nothing : Counts
nothing = record { order = 0; acks = 0; replies = 0; closed = 0 }

abbrev pub with_one : Counts → Told → Counts
with_one counts (Order place spelling) = record counts { order = counts.order + 1 }
with_one counts (Acked node view place) = record counts { acks = counts.acks + 1 }
with_one counts (Reply conn point bytes) = record counts { replies = counts.replies + 1 }
with_one counts (Closed conn cause) = record counts { closed = counts.closed + 1 }
with_one counts _ = counts

-- The told values one after the other, behind those that were counted before.
unfoldable pub counted : Counts → List Told → Counts
counted counts [] = counts
counted counts (one ∷ others) = counted (with_one counts one) others

-- So many more can be counted.
pub record HasRoom (counts : Counts) (more : ℕ) : Type 0 where
  pub order : counts.order + more < 2 ^ 128
  pub acks : counts.acks + more < 2 ^ 128
  pub replies : counts.replies + more < 2 ^ 128
  pub closed : counts.closed + more < 2 ^ 128
