-- What a node does behind an event of its member, which knows no connections.
use Rattle.std.specs.Prelude.{◌≡◌, ℕ, List, [], ◌∷◌, ◌++◌, Option, Some, None, Result, Ok, Err, option_map, option_to_list, if◌then◌else◌}
use Rattle.update_records.specs.declared.update.Update.{Update}
use Rattle.registry_defs.specs.Keys.{Keys}
use Rattle.cluster_rules.specs.declared.effect.Effect.{Effect}
use Rattle.cluster_rules.specs.declared.effect.Effect.TheVariants.{Acked, Halted}
use Rattle.cluster_rules.specs.Nodes.{NodeState, Out, done_of, nothing}
use Rattle.cluster_rules.specs.Updates.{submit}
use Rattle.cluster_rules.specs.Worlds.{acked}
use Rattle.registry_machine.specs.Machine.{registry_machine}
use Rattle.cluster_member.specs.declared.stop.Stop.{Stop}
use Rattle.cluster_member.specs.declared.stop.Stop.TheVariants as stop
use Rattle.member_rules.specs.declared.told.Told.{Told}
use Rattle.cluster_member.specs.States.{MemberState}
use Rattle.client_connections.specs.Clients.{Clients, client_at, closings}
use Rattle.client_connections.specs.Finishing.{Finish, finished}
use Rattle.client_connections.specs.Taking.{Hears, Resumes, Serving, serving}
use Rattle.cluster_node.specs.declared.following.Followed.{Followed}
use Rattle.cluster_node.specs.declared.following.Followed.TheVariants.{GoesOn, Stops}
use Rattle.cluster_node.specs.States.{RunningNode}

-- ---- what clients are answered from

-- The keys of the node's own registry, where it is open.
abbrev pub keys_if_open : NodeState registry_machine → Option Keys
keys_if_open x = if x.core.is_open then option_map (λ r. r.registry.keys) x.replica else None

abbrev pub serving_of : MemberState → Serving
serving_of m = serving (keys_if_open m.rules) (done_of m.rules)

-- ---- a connection takes items

-- The update that it queued, where it queued one, is submitted.
abbrev pub submitted_by : Option Update → NodeState registry_machine → Out registry_machine
submitted_by None x = nothing x
submitted_by (Some update) x = submit x update

-- What is told of that stands behind what the client was told.
pub record Submits (queued : Option Update) (told : List Effect) (m n : MemberState) (all : List Effect) : Type 0 where
  pub rules : (submitted_by queued m.rules).node ≡ Some n.rules
  pub log : n.log ≡ m.log
  pub effects : all ≡ told ++ (submitted_by queued m.rules).effects

-- A piece of a connection's stream comes.
pub record HearsPiece (conn : ℕ) (piece : List ℕ) (m : MemberState) (s : Clients) (n : MemberState) (t : Clients) (effects : List Effect) : Type 0 where
  pub told : List Effect
  pub queued : Option Update
  pub hears : Hears (serving_of m) conn piece (client_at conn s) s t told queued
  pub submits : Submits queued told m n effects

-- A connection that waited for its update goes on.
pub record Continues (conn : ℕ) (m : MemberState) (s : Clients) (n : MemberState) (t : Clients) (effects : List Effect) : Type 0 where
  pub told : List Effect
  pub queued : Option Update
  pub resumes : Resumes (serving_of m) conn (client_at conn s) s t told queued
  pub submits : Submits queued told m n effects

abbrev pub ContinuesAt : Option ℕ → MemberState → Clients → MemberState → Clients → List Effect → Type 0
ContinuesAt None m s n t effects = (n ≡ m) × (t ≡ s) × (effects ≡ [])
ContinuesAt (Some conn) m s n t effects = Continues conn m s n t effects

-- ---- the head is acknowledged

-- The answer stands right behind the acknowledgement.
unfoldable pub answered_with : Option Effect → List Effect → List Effect
answered_with answer [] = []
answered_with answer (Acked view place ∷ es) = Acked view place ∷ (option_to_list answer ++ es)
answered_with answer (e ∷ es) = e ∷ answered_with answer es

-- The client is answered, and behind all else the further items of its connection are taken.
pub record Finishes (end : Finish) (m : MemberState) (told : List Effect) (n : MemberState) (t : Clients) (all : List Effect) : Type 0 where
  pub more : List Effect
  pub continues : ContinuesAt end.resumes m end.clients n t more
  pub effects : all ≡ answered_with end.effect told ++ more

-- The member, now m, told this; `req` was the request of the queue's head, and these acknowledgements are in what it told.
abbrev pub Acts : List (ℕ × ℕ) → ℕ → MemberState → Clients → Told → MemberState → Clients → List Effect → Type 0
Acts [] req m s told n t effects = (n ≡ m) × (t ≡ s) × (effects ≡ told.effects)
Acts (ack ∷ acks) req m s told n t effects = Finishes (finished s.common.waiting req ack.1 told.outcome s) m told.effects n t effects

-- ---- an event of the member

-- Where the member halts the node stops, and each connection is closed.
abbrev pub Follows : Result Told Stop → ℕ → MemberState → Clients → Option RunningNode → List Effect → Type 0
Follows (Ok told) req m s (Some y) effects = Acts (acked told.effects) req m s told y.member y.clients effects
Follows (Err (stop.Halted cause)) req m s None effects = effects ≡ Halted cause ∷ closings s.conns
Follows came req m s y effects = ⊥

-- The node goes on, or stops.
abbrev pub FollowsTo : Result Told Stop → ℕ → RunningNode → RunningNode → Followed → Type 0
FollowsTo came req x y (GoesOn effects) = Follows came req x.member x.clients (Some y) effects
FollowsTo came req x y (Stops effects) = Follows came req x.member x.clients None effects

-- With a node that goes on its event has changed nothing more.
abbrev pub EndsAs : {E : Type 0} → Result Followed E → Option RunningNode → List Effect → Option RunningNode → Type 0
EndsAs (Ok (GoesOn told)) x effects y = (effects ≡ told) × (y ≡ x)
EndsAs (Ok (Stops told)) x effects y = (effects ≡ told) × (y ≡ None)
EndsAs (Err fault) x effects y = ⊥
