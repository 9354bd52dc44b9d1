-- A node alone, seen to run: two updates in turn, by computation alone.
use Rattle.std.proofs.Common.{◌≡◌, ℕ, false, List, [], ◌∷◌, length, Some, None, refl}
use Rattle.update_records.specs.Entry.{Entry}
use Rattle.update_records.specs.Limits.{IsUpdate}
use Rattle.update_records.specs.declared.update.Update.{Update}
use Rattle.cluster_rules.specs.Updates.{InDoubt, Written}
use Rattle.cluster_rules.specs.Worlds.{Declare, Deliver, Event, Install, Recovered, Start, Submit, World, acked, opening, run}
use Rattle.cluster_rules.proofs.Scripts.{tally}
use Rattle.single_rules.specs.Single.{Single, at_rest, view_of_one}
use Rattle.single_rules.specs.Rounds.{Round, after_all, rounds}

-- Node 1, in its first incarnation, over an empty log of 4,096 bytes.
abbrev alone : Single tally
alone = record { node = 1; inc = 1; view = 1; stamp = 0; passed = 0; greatest = 0; registry = (4096, 0); done = 0; last = None }

module _ (u v : Update) (is_u : IsUpdate u) (is_v : IsUpdate v) where
  abbrev both : Round tally
  both = rounds 1 Written (at_rest alone) (u ∷ v ∷ [])

  -- Each is acknowledged at the next place, and is told how many records stood before its own.
  pub both_acked : acked both.effects ≡ (1, 1) ∷ (1, 2) ∷ []
  both_acked = refl

  pub both_told : both.outcomes ≡ 0 ∷ 1 ∷ []
  both_told = refl

  -- Eight effects: each update has three messages, all of which were delivered, and an acknowledgement.
  pub both_heard : length both.effects ∷ length both.left ∷ [] ≡ 8 ∷ 0 ∷ []
  both_heard = refl

  abbrev shown : List Entry → List (ℕ × (ℕ × Update))
  shown [] = []
  shown (e ∷ es) = (e.place, (e.id.req, e.update)) ∷ shown es

  pub both_logged : shown both.records ≡ (1, (1, u)) ∷ (2, (2, v)) ∷ []
  both_logged = refl

  pub both_applied : (after_all alone (u ∷ v ∷ [])).registry ≡ (4096, 2)
  both_applied = refl

  -- Where the append fails, the first halts it, and nothing is asked for behind that.
  pub doubt_stops : (rounds 1 InDoubt (at_rest alone) (u ∷ v ∷ [])).node ≡ None
  doubt_stops = refl

  pub doubt_tells : length (rounds 1 InDoubt (at_rest alone) (u ∷ v ∷ [])).effects ≡ 2
  doubt_tells = refl

  -- The world of the protocol does the same, message by message: same node, same records, same acknowledgements.
  abbrev first : List Event
  first = Start 1 ∷ Declare (view_of_one 1 1 1) ∷ Install 1 1 (Recovered false) ∷ []

  abbrev in_turn : List Event
  in_turn = Submit 1 u is_u ∷ Deliver 1 Written ∷ Deliver 2 Written ∷ Deliver 3 Written ∷ Submit 1 v is_v ∷ Deliver 4 Written ∷ Deliver 5 Written ∷ Deliver 6 Written ∷ []

  abbrev opened : World tally
  opened = run first (opening tally 4096)

  pub world_opens : opened.nodes 1 ≡ Some (at_rest alone)
  world_opens = refl

  pub world_rests : (run in_turn opened).nodes 1 ≡ both.node
  world_rests = refl

  pub world_logs : (run in_turn opened).log.order ≡ both.records
  world_logs = refl

  pub world_acks : (run in_turn opened).acks ≡ acked both.effects
  world_acks = refl
