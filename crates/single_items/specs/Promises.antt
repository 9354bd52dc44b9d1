-- What is promised of a node that is alone: how it goes on from where it stands, and what that says of its connection.
use Rattle.std.specs.Prelude.{◌≡◌, ◌≢◌, ◌⊎◌, ℕ, ◌+◌, ◌<◌, ◌≤◌, false, List, [], ◌∷◌, ◌++◌, length, Option, Some, None}
use Rattle.std.specs.Option.{option_to_list}
use Rattle.update_records.specs.Entry.{Entry}
use Rattle.gum_messages.specs.Messages.{Sent}
use Rattle.rpc_calls.specs.declared.intake_fault.IntakeFault.{IntakeFault}
use Rattle.rpc_calls.specs.declared.item.Item.{Item}
use Rattle.rpc_calls.specs.declared.side.Side.TheVariants.{Server}
use Rattle.rpc_calls.specs.Streams.{Items}
use Rattle.cluster_rules.specs.declared.effect.CloseCause.{CloseCause}
use Rattle.cluster_rules.specs.declared.effect.Effect.{Effect}
use Rattle.cluster_rules.specs.declared.effect.Effect.TheVariants.{Halted}
use Rattle.cluster_rules.specs.declared.effect.HaltCause.{HaltCause}
use Rattle.cluster_rules.specs.declared.effect.HaltCause.TheVariants as halt
use Rattle.cluster_rules.specs.Machines.{registry_at}
use Rattle.cluster_rules.specs.Nodes.{NodeState}
use Rattle.cluster_rules.specs.Receiving.{receive}
use Rattle.cluster_rules.specs.Updates.{Answer, Written}
use Rattle.cluster_rules.specs.Worlds.{sent}
use Rattle.registry_machine.specs.Machine.{registry_machine}
use Rattle.client_connections.specs.Clients.{Client, Clients, client_at, has_waiting, hung_up, no_clients, with_new}
use Rattle.client_connections.specs.Items.{most_taken}
use Rattle.client_connections.specs.Taking.{closes, refusal}
use Rattle.context_handles.specs.Table.{Table}
use Rattle.context_handles.specs.Table as handles
use Rattle.gum_core.specs.Updating.{last_place}
use Rattle.single_rules.specs.Promises.{InPlaces, OnOrder}
use Rattle.single_rules.specs.Single.{IsSound, Single, at_rest}
use Rattle.single_items.specs.Alone.{AloneRun, alone, begins_alone, next_alone, opened_alone}
use Rattle.single_items.specs.Events.{MessageComes, PieceComes, told_to}
use Rattle.single_items.specs.Standing.{NodeAlone, StandsAt, Stuck, Way, left_on, node_on, queued_on, waiting_on}

-- The node with its connections behind an event that had these effects.
abbrev pub behind : NodeState registry_machine → Clients → List Sent → List Effect → NodeAlone
behind y t left es = record { node = y; clients = t; left = left ++ sent es }

-- The oldest of its messages comes, and it doesn't halt: it stands where Alone says, and has logged what that event has.
abbrev pub MessageLeads : ℕ → AloneRun → List ℕ → NodeAlone → List ℕ → List Entry → Type 0
MessageLeads c first stream z output records =
    (p : Sent) (left : List Sent) (held : ℕ) (answer : Answer) (y : NodeState registry_machine) (t : Clients) (es : List Effect)
    → z.left ≡ p ∷ left → MessageComes p held answer z.node z.clients y t es
    → StandsAt c first stream (behind y t left es) (output ++ told_to c es) (records ++ option_to_list (receive z.node p held answer).appended)

-- The piece is no part of the stream: the connection was closed before, or it is now, since the piece was too much.
abbrev pub IsRefused : ℕ → List ℕ → Clients → List Effect → Type 0
IsRefused c piece s es =
    ((client_at c s ≡ None) × (es ≡ []))
    ⊎ ((k : Client) × (cause : CloseCause) × (client_at c s ≡ Some k) × (refusal k.intake piece ≡ Some cause) × (es ≡ closes c cause))

-- None of its messages is under way, and a piece of the connection's stream comes.
abbrev pub PieceLeads : ℕ → AloneRun → List ℕ → NodeAlone → List ℕ → List Entry → Type 0
PieceLeads c first stream z output records =
    (piece : List ℕ) (y : NodeState registry_machine) (t : Clients) (es : List Effect)
    → z.left ≡ [] → PieceComes c piece z.node z.clients y t es
    → StandsAt c first (stream ++ piece) (behind y t [] es) (output ++ told_to c es) records
    ⊎ (StandsAt c first stream (behind y t [] es) output records × IsRefused c piece z.clients es)

-- ---- connections

-- Updates stay queued at a full log alone.
abbrev pub IsFullIf : Way → Single registry_machine → Type 0
IsFullIf (Stuck head others origins) a = last_place ≤ a.done
IsFullIf way a = Unit {0}

-- The node has no connection, and no message of it is under way: what tells its state is this.
pub record IsUnconnected (z : NodeAlone) (a : Single registry_machine) (handles : Table) (taken : ℕ) : Type 0 where
  pub way : Way
  pub left : left_on way a ≡ []
  pub is : z ≡ record {
    node = node_on way a;
    clients = record { common = record { table = handles; waiting = waiting_on way; taken = taken }; conns = [] };
    left = [];
  }
  pub full : IsFullIf way a
  pub sound : IsSound a
  pub requests : a.passed + queued_on way ≤ taken
  pub items : taken ≤ most_taken

-- The next connection of the node begins with this run.
abbrev pub IsUnconnectedFor : AloneRun → NodeAlone → Type 0
IsUnconnectedFor first z = IsUnconnected z first.single first.client.handles first.taken

-- It has just opened alone.
abbrev pub OpensUnconnected : Type 0
OpensUnconnected =
    (a : Single registry_machine) → IsSound a → a.passed ≡ 0
    → IsUnconnected (record { node = at_rest a; clients = no_clients a.node; left = [] }) a (handles.fresh a.node) 0

-- So it has over a log that holds an order, and its registry is that of the whole order.
abbrev pub OpensOverOrder : Type 0
OpensOverOrder =
    (cap stamp : ℕ) (order : List Entry) → InPlaces order
    → IsUnconnectedFor (opened_alone cap order stamp) (record { node = at_rest (opened_alone cap order stamp).single; clients = no_clients 1; left = [] })
    × OnOrder cap order (opened_alone cap order stamp).single

-- A connection begins, for which no update waits.
abbrev pub ConnectsAlone : Type 0
ConnectsAlone =
    (c : ℕ) (z : NodeAlone) (a : Single registry_machine) (handles : Table) (taken : ℕ)
    → IsUnconnected z a handles taken → has_waiting c z.clients.common ≡ false
    → StandsAt c (begins_alone a handles taken) [] (record z { clients = with_new c z.clients }) [] []

-- The client hangs up.
abbrev pub HangingUpLeads : ℕ → AloneRun → List ℕ → NodeAlone → List ℕ → List Entry → Type 0
HangingUpLeads c first stream z output records =
    z.left ≡ [] → StandsAt c first stream (record z { clients = (hung_up c (client_at c z.clients) z.clients).0 }) output records

-- Its connection is gone, and no message is under way.
abbrev pub EndsUnconnected : ℕ → AloneRun → List ℕ → NodeAlone → Type 0
EndsUnconnected c first stream z =
    z.left ≡ [] → z.clients.conns ≡ [] → (all : List Item) (fault : Option IntakeFault) → Items Server stream all fault
    → IsUnconnectedFor (next_alone (alone c first all)) z

-- ---- what that says

-- All that is still to come is under way: behind it the connection was sent what Alone says of all items of its stream,
-- and the records are Alone's.
pub record IsAlone (c : ℕ) (first : AloneRun) (items : List Item) (output : List ℕ) (records : List Entry) : Type 0 where
  pub told : output ≡ (alone c first items).output
  pub logged : records ≡ (alone c first items).records

abbrev pub TellsAlone : ℕ → AloneRun → List ℕ → NodeAlone → List ℕ → List Entry → Type 0
TellsAlone c first stream z output records =
    z.left ≡ [] → (all : List Item) (fault : Option IntakeFault) → Items Server stream all fault → IsAlone c first all output records

-- ---- at any moment

abbrev pub BeginsWith : {A : Type 0} → List A → List A → Type 0
BeginsWith {A} all front = (more : List A) × (all ≡ front ++ more)

-- What the connection was sent so far and the records so far are the first of Alone's.
pub record AreAlonesFirst (c : ℕ) (first : AloneRun) (items : List Item) (output : List ℕ) (records : List Entry) : Type 0 where
  pub told : BeginsWith (alone c first items).output output
  pub logged : BeginsWith (alone c first items).records records

-- So it is between any two events.
abbrev pub TellsFirst : ℕ → AloneRun → List ℕ → List ℕ → List Entry → Type 0
TellsFirst c first stream output records =
    (all : List Item) (fault : Option IntakeFault) → Items Server stream all fault → AreAlonesFirst c first all output records

-- So it is where the node halts, as the log is fenced or fails: the record that is in doubt then is Alone's next one.
abbrev pub HaltsAlone : ℕ → AloneRun → List ℕ → NodeAlone → List ℕ → List Entry → Type 0
HaltsAlone c first stream z output records =
    (p : Sent) (left : List Sent) (held : ℕ) (answer : Answer) → z.left ≡ p ∷ left → (receive z.node p held answer).out.node ≡ None
    → TellsFirst c first stream output (records ++ option_to_list (receive z.node p held answer).doubtful)

-- Its log didn't take the record, or a greater fencing token than its view's number is held.
abbrev pub IsReason : HaltCause → ℕ → ℕ → Answer → Type 0
IsReason halt.Disk view held answer = answer ≢ Written
IsReason (halt.Fenced claim) view held answer = (view < held) × (claim ≡ held)
IsReason (halt.Image place) view held answer = ⊥

-- For such a reason alone it halts at a message.
abbrev pub HaltsBecause : AloneRun → NodeAlone → Type 0
HaltsBecause first z =
    (p : Sent) (left : List Sent) (held : ℕ) (answer : Answer) (cause : HaltCause) → z.left ≡ p ∷ left → (receive z.node p held answer).out.node ≡ None
    → (receive z.node p held answer).out.effects ≡ Halted cause ∷ [] → IsReason cause first.single.view held answer

-- The registry of the node is that of the whole order, where it was so at first.
pub record IsOnOrder (cap : ℕ) (order : List Entry) (x : NodeState registry_machine) : Type 0 where
  pub done : ℕ
  pub length : length order ≡ done
  pub replica : x.replica ≡ Some (record { registry = registry_at registry_machine cap order done; done = done })

abbrev pub OrderGoesOn : AloneRun → NodeAlone → List Entry → Type 0
OrderGoesOn first z records = (cap : ℕ) (order : List Entry) → first.records ≡ [] → OnOrder cap order first.single → IsOnOrder cap (order ++ records) z.node
