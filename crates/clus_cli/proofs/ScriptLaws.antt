-- A script that was played, told by its status.
use Rattle.std.proofs.Common.{◌≡◌, ℕ, List, Option, Some, inl, refl, subst}
use Rattle.causes.specs.Counts.{Rose}
use Rattle.command_words.specs.Commands.{Asked, drill}
use Rattle.script_player.specs.declared.replayed.Replayed.{Replayed}
use Rattle.script_player.specs.declared.replayed.Replayed.TheVariants as comes
use Rattle.script_player.specs.Replaying.{Edges, HasCauses, edges}
use Rattle.clus_cli.specs.declared.status.Status.{Status}
use Rattle.clus_cli.specs.declared.status.Status.TheVariants as statuses
use Rattle.clus_cli.specs.Scripts.{DrillRuns, MayReplay, ReplayRuns, status_from}

pub replay_may : (replayed : Replayed) (reads read_then prints printed_then : ℕ) → HasCauses replayed reads read_then prints printed_then
    → MayReplay (status_from replayed) reads read_then prints printed_then
replay_may comes.Done reads read_then prints printed_then causes = tt
replay_may (comes.BadScript line fault) reads read_then prints printed_then causes = tt
replay_may comes.ReadFault reads read_then prints printed_then causes = causes
replay_may comes.WriteFault reads read_then prints printed_then causes = causes
replay_may comes.NoMemory reads read_then prints printed_then causes = tt
replay_may comes.TooLong reads read_then prints printed_then causes = tt

-- Where memory runs out before the script is read or generated.
pub nothing_replayed : (v : Edges) (left : Option (List ℕ)) → ReplayRuns statuses.NoMemory v (edges left v.output)
nothing_replayed v left = record { replayed = comes.NoMemory; told = refl; replays = inl refl }

pub nothing_drilled : (number events : ℕ) (written : Option (List ℕ)) → DrillRuns number events statuses.NoMemory written written
nothing_drilled number events written = record { replayed = comes.NoMemory; told = refl; drills = refl }

-- ---- the numbers of the words

abbrev IsDrill : ℕ → ℕ → Asked → Type 0
IsDrill number events (drill other count) = (number ≡ other) × (events ≡ count)
IsDrill number events asked = ⊥

pub drilled_as_asked : (number events other count : ℕ) (status : Status) (before now : Option (List ℕ)) → Some (drill number events) ≡ Some (drill other count)
    → DrillRuns number events status before now → DrillRuns other count status before now
drilled_as_asked number events other count status before now is runs =
    let same : drill number events ≡ drill other count = cc is in
    let numbers : IsDrill number events (drill other count) = subst (λ (a : Asked). IsDrill number events a) same (refl, refl) in
    subst (λ (n : ℕ). DrillRuns n count status before now) numbers.0 (subst (λ (n : ℕ). DrillRuns number n status before now) numbers.1 runs)
