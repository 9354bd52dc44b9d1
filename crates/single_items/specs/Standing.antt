-- Where a node that is alone stands between two of its events, by what Alone says of the items that it took.
use Rattle.std.specs.Prelude.{◌≡◌, ◌⊎◌, ℕ, ◌+◌, ◌<◌, ◌≤◌, false, List, [], ◌∷◌, ◌++◌, length, Option, Some, None}
use Rattle.std.specs.List.{list_any}
use Rattle.update_records.specs.Entry.{Entry}
use Rattle.update_records.specs.declared.update.Update.{Update}
use Rattle.gum_messages.specs.Messages.{Sent}
use Rattle.rpc_calls.specs.declared.intake_fault.IntakeFault.{IntakeFault}
use Rattle.rpc_calls.specs.declared.item.Item.{Item}
use Rattle.rpc_calls.specs.declared.side.Side.TheVariants.{Server}
use Rattle.rpc_calls.specs.Intakes.{Holds, Kept, no_fault}
use Rattle.rpc_calls.specs.Streams.{Items}
use Rattle.gum_core.specs.declared.lock.Lock.{Lock}
use Rattle.gum_core.specs.Updating.{last_place}
use Rattle.cluster_rules.specs.Nodes.{NodeState}
use Rattle.registry_machine.specs.Machine.{registry_machine}
use Rattle.client_connections.specs.declared.origin.Origin.{Origin}
use Rattle.client_connections.specs.declared.origin.Origin.TheVariants.{Call, Batch}
use Rattle.client_connections.specs.Clients.{Clients, waits_at}
use Rattle.client_connections.specs.Items.{most_taken}
use Rattle.single_rules.specs.Rounds.{after_all, all_made}
use Rattle.single_rules.specs.Single.{IsSound, Single, ask, grant, granting, lock_of, made, release, updated, with_queue}
use Rattle.single_items.specs.Alone.{AloneRun, alone, handles_behind, takes_alone, update_alone}

-- The node, its connections, and the messages that it has sent to itself and not heard yet, the oldest first.
pub record NodeAlone : Type 0 where
  pub node : NodeState registry_machine
  pub clients : Clients
  pub left : List Sent

-- ---- what is under way

-- An update that was acknowledged, and the node before it; its Release isn't heard yet.
pub record Lately : Type 0 where
  pub before : Single registry_machine
  pub update : Update

pub data Way : Type 0 where
  -- nothing is queued
  Calm : (lately : Option Lately) → Way
  -- an update is queued, and its Ask isn't heard yet
  Asked : (lately : Option Lately) → (origin : Origin) → (update : Update) → Way
  -- its record is logged, and its Granted isn't heard yet
  Granting : (origin : Origin) → (update : Update) → Way
  -- the log is full: these updates are queued and stay so
  Stuck : (head : Update) → (others : List Update) → (origins : List Origin) → Way

abbrev pub lock_behind : Option Lately → Option Lock
lock_behind None = None
lock_behind (Some l) = Some (lock_of l.before)

abbrev pub release_behind : Option Lately → List Sent
release_behind None = []
release_behind (Some l) = release l.before ∷ []

abbrev pub node_on : Way → Single registry_machine → NodeState registry_machine
node_on (Calm lately) a = with_queue a [] (lock_behind lately) None
node_on (Asked lately origin u) a = with_queue a (u ∷ []) (lock_behind lately) None
node_on (Granting origin u) a = granting a u
node_on (Stuck head others origins) a = with_queue a (head ∷ others) None None

abbrev pub left_on : Way → Single registry_machine → List Sent
left_on (Calm lately) a = release_behind lately
left_on (Asked lately origin u) a = release_behind lately ++ ask a u ∷ []
left_on (Granting origin u) a = grant a u ∷ []
left_on (Stuck head others origins) a = []

-- For whom the queued updates were made.
abbrev pub waiting_on : Way → List Origin
waiting_on (Calm lately) = []
waiting_on (Asked lately origin u) = origin ∷ []
waiting_on (Granting origin u) = origin ∷ []
waiting_on (Stuck head others origins) = origins

abbrev pub queued_on : Way → ℕ
queued_on (Calm lately) = 0
queued_on (Asked lately origin u) = 1
queued_on (Granting origin u) = 1
queued_on (Stuck head others origins) = 1 + length others

-- ---- the connection

-- It is the only one, with this intake; or it was closed, and there is none.
abbrev pub clients_of : ℕ → List Origin → AloneRun → Option Kept → Clients
clients_of c waiting r (Some intake) = record {
  common = record { table = r.client.handles; waiting = waiting; taken = r.taken };
  conns = (c, record { intake = intake; association = r.client.association }) ∷ [];
}
clients_of c waiting r None = record { common = record { table = handles_behind r; waiting = waiting; taken = r.taken }; conns = [] }

-- ---- the whole

-- The node stands behind what Alone did (but for the update that is under way), with this under way.
pub record Phase : Type 0 where
  pub run : AloneRun
  pub way : Way
  pub intake : Option Kept

abbrev pub node_alone : ℕ → Phase → NodeAlone
node_alone c p = record { node = node_on p.way p.run.single; clients = clients_of c (waiting_on p.way) p.run p.intake; left = left_on p.way p.run.single }

-- What Alone says of all items that it took.
abbrev pub promised_on : Way → AloneRun → AloneRun
promised_on (Asked lately origin u) r = update_alone origin u r
promised_on (Granting origin u) r = update_alone origin u r
promised_on way r = r

-- The records that it has logged.
abbrev pub logged_on : Way → AloneRun → List Entry
logged_on (Granting origin u) r = r.records ++ made r.single u ∷ []
logged_on way r = r.records

-- ---- what is always so

-- An update of this connection.
abbrev pub IsCallOf : ℕ → Origin → Type 0
IsCallOf c (Call conn call_id context opnum target) = conn ≡ c
IsCallOf c Batch = ⊥

abbrev pub IsBehind : Option Lately → Single registry_machine → Type 0
IsBehind None a = Unit {0}
IsBehind (Some l) a = (a ≡ updated l.before l.update) × IsSound l.before

-- While an update is under way the connection is open.
abbrev pub IsOpen : Option Kept → Type 0
IsOpen None = ⊥
IsOpen (Some intake) = Unit {0}

abbrev pub FitsWay : ℕ → Way → AloneRun → Option Kept → Type 0
FitsWay c (Calm lately) r intake = IsBehind lately r.single × (r.waits ≡ false)
FitsWay c (Asked lately origin u) r intake = IsBehind lately r.single × (r.waits ≡ false) × IsCallOf c origin × IsOpen intake
FitsWay c (Granting origin u) r intake = (r.single.done < last_place) × (r.waits ≡ false) × IsCallOf c origin × IsOpen intake
FitsWay c (Stuck head others origins) r intake = (last_place ≤ r.single.done) × (r.waits ≡ list_any (waits_at c) origins)

-- Its records are those of these updates, and each item may have been an update.
pub record GrownFrom (first : AloneRun) (queued : ℕ) (r : AloneRun) : Type 0 where
  pub sound : IsSound first.single
  pub updates : List Update
  pub single : r.single ≡ after_all first.single updates
  pub records : r.records ≡ first.records ++ all_made first.single updates
  pub requests : r.single.passed + queued ≤ r.taken
  pub items : r.taken ≤ most_taken

-- No further item of the stream may be taken: none is whole, or Alone takes none.
abbrev pub IsAllTaken : List ℕ → List Item → AloneRun → Type 0
IsAllTaken stream given r = Items Server stream given no_fault ⊎ (takes_alone r ≡ false)

-- It was fed this stream of the client, and has given these items.
pub record IsKeptFrom (intake : Kept) (stream : List ℕ) (given : List Item) : Type 0 where
  pub side : intake.side ≡ Server
  pub holds : Holds intake stream given

-- The items were given by the intake. A connection that is gone had no further one, or its stream had a fault behind them.
abbrev pub IsHeardOn : Way → AloneRun → Option Kept → List ℕ → List Item → Type 0
IsHeardOn (Asked lately origin u) r (Some intake) stream given = IsKeptFrom intake stream given
IsHeardOn (Granting origin u) r (Some intake) stream given = IsKeptFrom intake stream given
IsHeardOn way r (Some intake) stream given = IsKeptFrom intake stream given × IsAllTaken stream given r
IsHeardOn way r None stream given = ((intake : Kept) × IsKeptFrom intake stream given × IsAllTaken stream given r) ⊎ ((fault : IntakeFault) × Items Server stream given (Some fault))

-- Alone began with `first`, and this is the stream of the connection so far.
pub record StandsAt (c : ℕ) (first : AloneRun) (stream : List ℕ) (z : NodeAlone) (output : List ℕ) (records : List Entry) : Type 0 where
  pub phase : Phase
  pub given : List Item
  pub is : z ≡ node_alone c phase
  pub fits : FitsWay c phase.way phase.run phase.intake
  pub grown : GrownFrom first (queued_on phase.way) phase.run
  pub promised : promised_on phase.way phase.run ≡ alone c first given
  pub heard : IsHeardOn phase.way phase.run phase.intake stream given
  pub told : output ≡ phase.run.output
  pub logged : records ≡ logged_on phase.way phase.run
