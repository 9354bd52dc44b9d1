-- What a member that pulls the locker's state has of it, and how it goes on.
use Rattle.std.specs.Prelude.{◌≡◌, ℕ, ◌+◌, true, false, List, [], ◌++◌, flat_map, IfSome, IsSome, Option, None, Some, length, take, drop, if◌then◌else◌, nat_eq, unwrap_or}
use Rattle.registry_defs.specs.Spelling.{registry_text}
use Rattle.registry_states.specs.Builds.{Kept}
use Rattle.clus_registry.specs.Builds.{IsFed}
use Rattle.gum_messages.specs.Messages.{IsOffered}
use Rattle.gum_messages.specs.declared.body.Body.TheVariants.{Need}
use Rattle.view_reconcile.specs.declared.stage.Stage.TheVariants as stage
use Rattle.view_reconcile.specs.declared.step.Step.{Step}
use Rattle.view_reconcile.specs.declared.step.Step.TheVariants as step
use Rattle.view_reconcile.specs.Joining.{ReconcileState, locks, offered, piece_length, pulled_bytes, taken}
use Rattle.cluster_rules.specs.declared.offering.Offering.{Offering}
use Rattle.cluster_rules.specs.Nodes.{NodeState, Out, done_of, locker_at, nothing, place_of, tells}
use Rattle.cluster_rules.specs.Joins.{follows, joined, known_done, pulls, says_ready, with_replica}
use Rattle.cluster_rules.specs.Updates.{applied}
use Rattle.registry_machine.specs.Machine.{ReplicatedRegistry, registry_machine}
use Rattle.member_rules.specs.States.{PulledState}

-- The pieces in the order in which they came, each with its offset, in a row.
abbrev pub joined_pieces : List (List ℕ × ℕ) → List ℕ
joined_pieces pieces = flat_map (λ p. p.0) pieces

-- The build reads these bytes as a state of the capacity that was offered.
pub record Reads (offer : Offering) (build : Kept) (bytes : List ℕ) : Type 0 where
  pub offered : IsOffered offer.count offer.cap
  pub same_cap : build.cap ≡ offer.cap
  pub fed : IsFed build bytes

-- ---- the steps of a member that isn't the locker

-- It wasn't ready, and an Offer of the locker came; `last` is the place of the last record, `done` how many it has applied.
abbrev pub HasFollowed : ReconcileState → ℕ → Option ℕ → Option ℕ → ReconcileState → Step → Type 0
HasFollowed s count last known t step.Ready = IsSome known × (t ≡ record s { stage = stage.Ready })
HasFollowed s count last known t step.ApplyLast = (k : ℕ) × (known ≡ Some k) × (k + 1 ≡ count) × (last ≡ Some count) × (t ≡ record s { stage = stage.Taking })
HasFollowed s count last known t (step.Pull offset) = (offset ≡ unwrap_or (pulled_bytes s) 0) × (t ≡ record s { stage = stage.Pulling offset })
HasFollowed s count last known t step.Nothing = t ≡ s
HasFollowed s count last known t other = ⊥

-- A piece of the locker's state came.
abbrev pub HasGathered : ReconcileState → ReconcileState → Step → Type 0
HasGathered s t (step.Pull offset) = IsSome (pulled_bytes s) × (t ≡ record s { stage = stage.Pulling offset })
HasGathered s t step.Whole = IsSome (pulled_bytes s) × (t ≡ record s { stage = stage.Taking })
HasGathered s t step.Nothing = t ≡ s
HasGathered s t other = ⊥

-- It lacks the last record alone, which was offered: it applies it, and is ready.
abbrev pub takes_last : NodeState registry_machine → Offering → Out registry_machine
takes_last x o = elim o.last [ None ↦ nothing x | Some e ↦ says_ready (joined (applied e x) o.count o.last (taken x.join true).0) ]

-- What that needs.
pub record LacksLast (x : NodeState registry_machine) (o : Offering) : Type 0 where
  pub taking : x.join.stage ≡ stage.Taking
  pub follows : locks x.join ≡ false
  pub some : IsSome x.replica
  pub next : IfSome o.last (λ e. e.place ≡ done_of x + 1)

-- It pulls from an offset on, and what was offered counts where that is the beginning.
abbrev pub pulled_at : Option PulledState → ℕ → Offering → Option PulledState
pulled_at pulled offset o = if nat_eq offset 0 then Some (record { offer = o; bytes = [] }) else pulled

-- One more piece came.
abbrev pub fed_with : Option PulledState → List ℕ → Option PulledState
fed_with pulled piece = elim pulled [ None ↦ None | Some p ↦ Some (record { offer = p.offer; bytes = p.bytes ++ piece }) ]

-- What a member does for a step as the locker offers, once it is at that step.
abbrev pub follows_by : NodeState registry_machine → Offering → Step → Out registry_machine
follows_by y o s = elim s [
  | step.Ready ↦ says_ready (joined y o.count o.last y.join)
  | step.ApplyLast ↦ takes_last y o
  | step.Pull offset ↦ tells (pulls y o offset y.join) (locker_at y) (Need offset)
  | _ ↦ nothing y
]

-- It isn't ready, and the locker offers its log.
abbrev pub follows_offer : NodeState registry_machine → Offering → Out registry_machine
follows_offer x o = follows x o (offered x.join o.count (place_of o.last) (known_done x))

-- The state came, and is taken.
abbrev pub stands_with : NodeState registry_machine → ReplicatedRegistry → Offering → Out registry_machine
stands_with x registry o = says_ready (joined (with_replica x registry o.count) o.count o.last (taken x.join true).0)

-- The state came, and doesn't decode.
abbrev pub begins_again : NodeState registry_machine → Offering → Out registry_machine
begins_again x o = tells (record x { join = (taken x.join false).0; offer = Some o; bytes = [] }) (locker_at x) (Need 0)

-- ---- the locker's pieces

-- How long the state is, and its next bytes from an offset on; none past its end.
abbrev pub piece_in : List ℕ → ℕ → Option (ℕ × List ℕ)
piece_in bytes offset = elim (piece_length (length bytes) offset) [ None ↦ None | Some count ↦ Some (length bytes, take count (drop offset bytes)) ]

abbrev pub piece_at : NodeState registry_machine → ℕ → Option (ℕ × List ℕ)
piece_at x offset = elim x.replica [ None ↦ None | Some r ↦ piece_in (registry_text r.registry.keys) offset ]
