-- The definitions compute: which events are steps, and what they are.
use Rattle.std.proofs.Common.{◌≡◌, ℕ, false, List, [], ◌∷◌, refl}
use Rattle.std.specs.Prelude.{None, Some}
use Rattle.disk_core.specs.Views.{DiskView}
use Rattle.gum_messages.specs.declared.message.Message.{Message}
use Rattle.cluster_rules.specs.declared.effect.CloseCause.TheVariants.{Peer}
use Rattle.cluster_rules.specs.declared.effect.Effect.TheVariants.{Acked, Batched, Closed, Reply}
use Rattle.cluster_node.specs.Explained.{Connects, Finishes, Other, Stops}
use Rattle.cluster_worlds.specs.declared.event.Event.TheVariants as event
use Rattle.cluster_worlds.specs.declared.inner.Inner.TheVariants as inner
use Rattle.cluster_worlds.specs.declared.told.Told.TheVariants as trace
use Rattle.cluster_worlds.specs.Happening.{with_start}
use Rattle.cluster_worlds.specs.Worlds.{WorldState, first_world}
use Rattle.world_answers.specs.Histories.{acknowledged_in, clients_told, points_in, steps_in}

module _ (v : DiskView) where
  abbrev w : WorldState
  w = with_start 3 (first_world v)

  -- the first incarnation of node 3 takes a step, and no other does
  connects : steps_in 3 1 w (event.Connect 7 3) [] w ≡ record { input = Connects 7; is_open = false; done = 0; told = [] } ∷ []
  unfolding clients_told
  connects = refl

  no_second : steps_in 3 2 w (event.Connect 7 3) [] w ≡ []
  unfolding clients_told
  no_second = refl

  no_other : steps_in 4 1 w (event.Connect 7 3) [] w ≡ []
  unfolding clients_told
  no_other = refl

  -- of a death inside an event the death is seen
  dies : steps_in 3 1 w (event.DieIn 0 [] (inner.Tick 3)) (trace.Closed 7 Peer ∷ []) (first_world v) ≡ record { input = Stops; is_open = false; done = 0; told = Closed 7 Peer ∷ [] } ∷ []
  unfolding clients_told
  dies = refl

  ticks : steps_in 3 1 w (event.Tick 3) [] w ≡ record { input = Other; is_open = false; done = 0; told = [] } ∷ []
  unfolding clients_told acknowledged_in
  ticks = refl

module _ (spelling bytes : List ℕ) (message : Message) where
  -- what isn't for clients is left out, and what is stays in its order
  for_clients : clients_told (trace.Order 5 spelling ∷ trace.Acked 3 1 5 ∷ trace.Sent 9 message ∷ trace.Reply 7 (Some 5) bytes ∷ trace.Reply 7 None bytes ∷ trace.Batched 3 2 (Some 6) 0 0 ∷ [])
      ≡ Acked 1 5 ∷ Reply 7 (Some 5) bytes ∷ Reply 7 None bytes ∷ Batched 2 (Some 6) 0 0 ∷ []
  unfolding clients_told
  for_clients = refl

  finishes : acknowledged_in (Reply 7 None bytes ∷ Acked 1 5 ∷ []) ≡ Finishes 1 5
  unfolding acknowledged_in
  finishes = refl

  points : points_in (Acked 1 5 ∷ Reply 7 (Some 5) bytes ∷ Reply 7 None bytes ∷ Batched 2 (Some 6) 0 0 ∷ []) ≡ 5 ∷ 6 ∷ []
  unfolding points_in
  points = refl
