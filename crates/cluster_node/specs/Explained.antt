-- What one incarnation of a node tells its clients, event by event, under the update order of the whole run.
use Rattle.std.specs.Prelude.{◌≡◌, ℕ, ◌+◌, ◌-◌, Bool, true, false, List, [], ◌∷◌, ◌++◌, filter, Option, Some, None, option_to_list, if◌then◌else◌}
use Rattle.gum_messages.specs.Places.{at_place}
use Rattle.registry_defs.specs.Keys.{Keys}
use Rattle.update_records.specs.Entry.{Entry}
use Rattle.update_records.specs.declared.update.Update.{Update}
use Rattle.cluster_rules.specs.Machines.{outcome_at, registry_at}
use Rattle.cluster_rules.specs.declared.effect.Effect.{Effect}
use Rattle.cluster_rules.specs.declared.effect.Effect.TheVariants.{Acked, Batched, Closed, Reply}
use Rattle.registry_machine.specs.Machine.{registry_machine}
use Rattle.client_connections.specs.Clients.{Clients, client_at, closings, connected, hung_up, no_clients, without_any}
use Rattle.client_connections.specs.Finishing.{Finish, batched, finished}
use Rattle.client_connections.specs.Taking.{Hears, Resumes, Serving, serving}

-- What concerns the clients of a node.
pub data Input : Type 0 where
  Connects : (conn : ℕ) → Input
  Brings : (conn : ℕ) → (piece : List ℕ) → Input
  HangsUp : (conn : ℕ) → Input
  -- The head of its queue was acknowledged.
  Finishes : (view place : ℕ) → Input
  Batches : (update : Update) → Input
  -- The node died or halted.
  Stops : Input
  Other : Input

-- One event, with the node behind it and what it told its clients.
pub record Step : Type 0 where
  pub input : Input
  pub is_open : Bool
  pub done : ℕ
  pub told : List Effect

-- What the clients of an incarnation have come to.
pub record Incarnation : Type 0 where
  pub clients : Clients
  -- The updates of the calls and batches that were taken; that of request q is the q-th.
  pub requests : List Update
  -- How many of them were acknowledged.
  pub passed : ℕ

abbrev pub first_state : ℕ → Incarnation
first_state node = record { clients = no_clients node; requests = []; passed = 0 }

-- Of what a node tells, these are for its clients.
abbrev pub is_for_clients : Effect → Bool
is_for_clients (Acked view place) = true
is_for_clients (Reply conn point bytes) = true
is_for_clients (Closed conn cause) = true
is_for_clients (Batched req point status index) = true
is_for_clients effect = false

abbrev pub told_to_clients : List Effect → List Effect
told_to_clients effects = filter is_for_clients effects

-- ---- what a client is answered from: the registry behind so many records of the order, where the node is open

abbrev pub keys_at : ℕ → List Entry → Step → Option Keys
keys_at cap order t = if t.is_open then Some (registry_at registry_machine cap order t.done).keys else None

abbrev pub serving_at : ℕ → List Entry → Step → Serving
serving_at cap order t = serving (keys_at cap order t) t.done

-- ---- the inputs

-- The clients are those, no request was taken and none acknowledged.
abbrev pub with_clients : Incarnation → Clients → Incarnation
with_clients s clients = record s { clients = clients }

-- The update that was queued, if one was, is the next request.
abbrev pub with_request : Incarnation → Clients → Option Update → Incarnation
with_request s clients queued = record s { clients = clients; requests = s.requests ++ option_to_list queued }

abbrev pub Changes : Clients × Option Effect → Step → Incarnation → Incarnation → Type 0
Changes changed t s u = (t.told ≡ option_to_list changed.1) × (u ≡ with_clients s changed.0)

-- A connection hears a piece of its stream.
pub record Heard (v : Serving) (conn : ℕ) (piece : List ℕ) (told : List Effect) (s u : Incarnation) : Type 0 where
  pub queued : Option Update
  pub hears : Hears v conn piece (client_at conn s.clients) s.clients u.clients told queued
  pub state : u ≡ with_request s u.clients queued

-- A connection that waited for its update takes further items.
pub record Resumed (v : Serving) (conn : ℕ) (told : List Effect) (s u : Incarnation) : Type 0 where
  pub queued : Option Update
  pub resumes : Resumes v conn (client_at conn s.clients) s.clients u.clients told queued
  pub state : u ≡ with_request s u.clients queued

abbrev pub ResumedAt : Option ℕ → Serving → List Effect → Incarnation → Incarnation → Type 0
ResumedAt None v told s u = (told ≡ []) × (u ≡ s)
ResumedAt (Some conn) v told s u = Resumed v conn told s u

abbrev pub acknowledged : Incarnation → Clients → Incarnation
acknowledged s clients = record s { clients = clients; passed = s.passed + 1 }

-- The head's update stands in the order, and its client is answered by what came of it there; then its connection goes on.
pub record Answered (cap : ℕ) (order : List Entry) (node inc : ℕ) (t : Step) (view place : ℕ) (s u : Incarnation) : Type 0 where
  pub entry : Entry
  pub stands : at_place order place ≡ Some entry
  pub id : entry.id ≡ record { node = node; inc = inc; req = s.passed + 1 }
  pub update : at_place s.requests (s.passed + 1) ≡ Some entry.update
  pub end : Finish
  pub finishes : end ≡ finished s.clients.common.waiting (s.passed + 1) place (Some (outcome_at registry_machine cap order (place - 1) entry)) s.clients
  pub more : List Effect
  pub told : t.told ≡ Acked view place ∷ (option_to_list end.effect ++ more)
  pub continues : ResumedAt end.resumes (serving_at cap order t) more (acknowledged s end.clients) u

-- A batch is refused, or the next request.
abbrev pub BatchedBy : Update → Clients × Option Effect → Step → Incarnation → Incarnation → Type 0
BatchedBy update (clients, None) t s u = (t.told ≡ []) × (u ≡ with_request s clients (Some update))
BatchedBy update (clients, Some refused) t s u = (t.told ≡ refused ∷ []) × (u ≡ with_clients s clients)

abbrev pub IsStepBy : Input → ℕ → List Entry → ℕ → ℕ → Step → Incarnation → Incarnation → Type 0
IsStepBy (Connects conn) cap order node inc t s u = Changes (connected conn s.clients) t s u
IsStepBy (Brings conn piece) cap order node inc t s u = Heard (serving_at cap order t) conn piece t.told s u
IsStepBy (HangsUp conn) cap order node inc t s u = Changes (hung_up conn (client_at conn s.clients) s.clients) t s u
IsStepBy (Finishes view place) cap order node inc t s u = Answered cap order node inc t view place s u
IsStepBy (Batches update) cap order node inc t s u = BatchedBy update (batched t.is_open s.clients) t s u
IsStepBy Stops cap order node inc t s u = (t.told ≡ closings s.clients.conns) × (u ≡ with_clients s (without_any s.clients))
IsStepBy Other cap order node inc t s u = (t.told ≡ []) × (u ≡ s)

-- ---- the whole incarnation

-- Each record of the incarnation is the update of its request.
abbrev pub AreRequests : List Entry → ℕ → ℕ → List Update → Type 0
AreRequests order node inc requests =
    (place : ℕ) (e : Entry) → at_place order place ≡ Some e → e.id.node ≡ node → e.id.inc ≡ inc → at_place requests e.id.req ≡ Some e.update

-- What was told from this state on is explained by the order, which has the capacity of the log.
unfoldable pub Explained : ℕ → List Entry → ℕ → ℕ → List Step → Incarnation → Type 0
Explained cap order node inc [] s = AreRequests order node inc s.requests
Explained cap order node inc (t ∷ ts) s = (u : Incarnation) × IsStepBy t.input cap order node inc t s u × Explained cap order node inc ts u

abbrev pub IsExplained : ℕ → List Entry → ℕ → ℕ → List Step → Type 0
IsExplained cap order node inc steps = Explained cap order node inc steps (first_state node)
