-- The definitions compute: what the first world refuses, and what is told.
use Rattle.std.proofs.Common.{◌≡◌, [], ◌∷◌, refl}
use Rattle.std.specs.Prelude.{None, Some}
use Rattle.disk_core.specs.Views.{DiskView}
use Rattle.gum_messages.specs.Messages.{Sent}
use Rattle.gum_messages.specs.Views.{view_of}
use Rattle.view_reconcile.specs.declared.chain_fault.ChainFault.TheVariants.{NotNext}
use Rattle.cluster_rules.specs.declared.effect.CloseCause.TheVariants.{Peer}
use Rattle.cluster_rules.specs.declared.effect.Effect.TheVariants.{Send, Closed}
use Rattle.cluster_worlds.specs.declared.bad_event.BadEvent.TheVariants.{NotRunning, Running, NotStarted, UnknownView, UnknownMessage, UnknownConnection, UsedConnection, Chain}
use Rattle.cluster_worlds.specs.declared.event.Event.TheVariants as event
use Rattle.cluster_worlds.specs.declared.told.Told.TheVariants as trace
use Rattle.cluster_worlds.specs.Happening.{with_conn, with_start}
use Rattle.cluster_worlds.specs.Refusing.{refusal}
use Rattle.cluster_worlds.specs.Telling.{told_effects}
use Rattle.cluster_worlds.specs.Worlds.{WorldState, first_world}

module _ (v : DiskView) where
  abbrev w : WorldState
  w = with_conn 7 3 (with_start 3 (first_world v))

  starts : refusal (event.Start 3) (first_world v) ≡ None
  starts = refl

  runs_already : refusal (event.Start 3) w ≡ Some (Running 3)
  runs_already = refl

  -- the first member that was never started is named, also where the chain would break
  never_started : refusal (event.Declare (view_of 2 (record { node = 3; inc = 1 } ∷ record { node = 4; inc = 1 } ∷ record { node = 5; inc = 2 } ∷ []))) w ≡ Some (NotStarted 4 1)
  never_started = refl

  not_next : refusal (event.Declare (view_of 2 (record { node = 3; inc = 1 } ∷ []))) w ≡ Some (Chain NotNext)
  not_next = refl

  declares : refusal (event.Declare (view_of 1 (record { node = 3; inc = 1 } ∷ []))) w ≡ None
  declares = refl

  -- that the node runs is asked before its view
  no_node : refusal (event.Install 2 1) w ≡ Some (NotRunning 2)
  no_node = refl

  no_view : refusal (event.Install 3 1) w ≡ Some (UnknownView 1)
  no_view = refl

  -- that the number is new is asked before its node
  used : refusal (event.Connect 7 2) w ≡ Some (UsedConnection 7)
  used = refl

  no_such_node : refusal (event.Connect 8 2) w ≡ Some (NotRunning 2)
  no_such_node = refl

  unknown : refusal (event.HangUp 8) w ≡ Some (UnknownConnection 8)
  unknown = refl

  no_message : refusal (event.Deliver 1) w ≡ Some (UnknownMessage 1)
  no_message = refl

  fails : refusal (event.Fail 1) w ≡ None
  fails = refl

-- Messages go on from those that were sent before.
told_in_turn : (p q : Sent)
    → told_effects 2 4 (Send p ∷ Closed 7 Peer ∷ Send q ∷ []) ≡ trace.Sent 5 p ∷ trace.Closed 7 Peer ∷ trace.Sent 6 q ∷ []
unfolding told_effects
told_in_turn p q = refl
