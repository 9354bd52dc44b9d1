-- Where memory runs out before a client's commands are read.
use Rattle.std.proofs.Common.{ℕ, List, Option, inl, refl}
use Rattle.asking.specs.declared.asked.Asked.TheVariants as comes
use Rattle.asking.specs.Asking.{Edges}
use Rattle.clus_cli.specs.declared.status.Status.TheVariants as statuses
use Rattle.clus_cli.specs.Asking.{AskRuns}

pub nothing_ran : (left : Option (List ℕ)) (v : Edges) → AskRuns statuses.NoMemory left left v v
nothing_ran left v = record { asked = comes.NoMemory; told = refl; runs = inl (refl, inl refl) }
