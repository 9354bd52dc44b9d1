-- The items that a connection takes in one event.
use Rattle.std.specs.Prelude.{◌≡◌, ℕ, ◌+◌, ◌≤◌, Bool, true, false, not, List, [], ◌∷◌, ◌++◌, length, nat_lt, Option, Some, None, IfSome, IsTrue, is_some, if◌then◌else◌}
use Rattle.std.specs.List.{fold}
use Rattle.update_records.specs.declared.update.Update.{Update}
use Rattle.registry_defs.specs.Keys.{Keys}
use Rattle.rpc_pdu.specs.declared.pdu_fault.PduFault.TheVariants as pdu_faults
use Rattle.rpc_calls.specs.declared.intake_fault.IntakeFault.{IntakeFault}
use Rattle.rpc_calls.specs.declared.intake_fault.IntakeFault.TheVariants as faults
use Rattle.rpc_calls.specs.declared.item.Item.{Item}
use Rattle.rpc_calls.specs.declared.side.Side.TheVariants.{Server}
use Rattle.rpc_calls.specs.Intakes.{Holds, Kept, fed, most_unprocessed, no_fault, stream_length}
use Rattle.rpc_calls.specs.Streams.{Items}
use Rattle.rpc_assoc.specs.State.{State}
use Rattle.cluster_rules.specs.declared.effect.Effect.{Effect}
use Rattle.cluster_rules.specs.declared.effect.Effect.TheVariants.{Reply, Closed}
use Rattle.cluster_rules.specs.declared.effect.CloseCause.{CloseCause}
use Rattle.cluster_rules.specs.declared.effect.CloseCause.TheVariants as causes
use Rattle.client_connections.specs.declared.took.Ending.{Ending}
use Rattle.client_connections.specs.declared.took.Ending.TheVariants.{Waits, Fails, Rests}
use Rattle.client_connections.specs.declared.took.Took.{Took}
use Rattle.client_connections.specs.declared.took.Took.TheVariants as took
use Rattle.client_connections.specs.Clients.{Client, Clients, Common, left_by, may_take, most_stream, put_back}
use Rattle.client_connections.specs.Items.{ClientState, item_of, most_taken, state}

-- The node as it is after the event: its keys where it is open, and how many records they have.
pub record Serving : Type 0 where
  pub keys : Option Keys
  pub done : ℕ

abbrev pub serving : Option Keys → ℕ → Serving
serving keys done = record { keys = keys; done = done }

-- What changes while a connection takes items: what all share, its association, the effects so far, and the update that
-- was queued.
pub record Course : Type 0 where
  pub common : Common
  pub association : State
  pub effects : List Effect
  pub update : Option Update

abbrev pub course_from : Common → Client → Course
course_from common k = record { common = common; association = k.association; effects = []; update = None }

-- ---- one item

-- The point of an answer is how many records the registry had that it was read of.
abbrev pub point_if : ℕ → Bool → Option ℕ
point_if done reads = if reads then Some done else None

abbrev pub counted : Course → ClientState → Course
counted p n = record p {
  common = record (p.common) { table = n.handles; taken = p.common.taken + 1 };
  association = n.association;
}

abbrev pub took_by : Serving → ℕ → Course → Took × ClientState → Course
took_by v c p (took.Nothing, n) = counted p n
took_by v c p (took.Reply bytes reads, n) = record (counted p n) { effects = p.effects ++ Reply c (point_if v.done reads) bytes ∷ [] }
took_by v c p (took.Queues origin update, n) = record (counted p n) {
  common = record { table = n.handles; waiting = p.common.waiting ++ origin ∷ []; taken = p.common.taken + 1 };
  update = Some update;
}

abbrev pub takes_one : Serving → ℕ → Course → Item → Course
takes_one v c p item = took_by v c p (item_of v.keys c (state p.common.table p.association) item)

-- ---- items in turn

abbrev pub takes_all : Serving → ℕ → Course → List Item → Course
takes_all v c p items = fold (takes_one v c) p items

-- Each of them may be taken when it is: none behind a queued update of the connection, and none past the number of items.
unfoldable pub MayAll : Serving → ℕ → Course → List Item → Type 0
MayAll v c p [] = Unit {0}
MayAll v c p (item ∷ items) = (may_take c p.common ≡ true) × MayAll v c (takes_one v c p item) items

-- ---- where they end

abbrev pub is_rest : Ending → Bool
is_rest Rests = true
is_rest ending = false

-- With no further item whole, or at a fault, these are all items of the stream.
abbrev pub Ends : Ending → List ℕ → List Item → Type 0
Ends Waits stream all = Items Server stream all no_fault
Ends (Fails fault) stream all = Items Server stream all (Some fault)
Ends Rests stream all = Unit {0}

-- A connection with this intake takes items, until none is whole, its stream has a fault, or it may take no further one.
pub record Takes (v : Serving) (c : ℕ) (before after : Kept) (p q : Course) (ending : Ending) : Type 0 where
  pub items : List Item
  pub may : MayAll v c p items
  pub course : q ≡ takes_all v c p items
  pub rests : may_take c q.common ≡ not (is_rest ending)
  pub side : after.side ≡ before.side
  pub stands : (stream : List ℕ) (given : List Item) → Holds before stream given → Holds after stream (given ++ items) × Ends ending stream (given ++ items)

-- ---- why a connection is closed

abbrev pub cause_of : IntakeFault → CloseCause
cause_of (faults.Pdu place pdu_faults.HasAuth) = causes.Verifier
cause_of (faults.Pdu place fault) = causes.Pdu place
cause_of (faults.Interleaved place) = causes.Interleaved
cause_of (faults.StubTooLong place) = causes.StubTooLong
cause_of faults.Memory = causes.NodeStopped

-- What stands behind the items: with a fault the connection is closed.
abbrev pub client_after : Kept → Course → Client
client_after intake q = record { intake = intake; association = q.association }

abbrev pub goes_on : ℕ → Kept → Course → Ending → Clients → Clients
goes_on c intake q (Fails fault) s = left_by c (client_after intake q) (put_back c q.common (client_after intake q) s)
goes_on c intake q ending s = put_back c q.common (client_after intake q) s

abbrev pub effects_of : ℕ → Course → Ending → List Effect
effects_of c q (Fails fault) = q.effects ++ Closed c (cause_of fault) ∷ []
effects_of c q ending = q.effects

-- ---- what is queued

abbrev pub count_of : Option Update → ℕ
count_of None = 0
count_of (Some update) = 1

-- One update at most, which counts among what was taken, and none where the node isn't open.
pub record QueuesOne (v : Serving) (before after : Common) (queued : Option Update) : Type 0 where
  pub waiting : length after.waiting ≡ length before.waiting + count_of queued
  pub taken : before.taken + count_of queued ≤ after.taken
  pub few : before.taken ≤ most_taken → after.taken ≤ most_taken
  pub at_open : IfSome queued (λ _. IsTrue (is_some v.keys))

-- ---- the events

-- A connection that is open goes on with its items.
pub record GoesOn (v : Serving) (c : ℕ) (k : Client) (s t : Clients) (told : List Effect) (queued : Option Update) : Type 0 where
  pub intake : Kept
  pub ending : Ending
  pub course : Course
  pub takes : Takes v c k.intake intake (course_from s.common k) course ending
  pub clients : t ≡ goes_on c intake course ending s
  pub effects : told ≡ effects_of c course ending
  pub update : queued ≡ course.update

pub record Tells (s t : Clients) (wanted told : List Effect) (queued : Option Update) : Type 0 where
  pub clients : t ≡ s
  pub effects : told ≡ wanted
  pub update : queued ≡ None

-- It does nothing where the connection isn't open.
abbrev pub Resumes : Serving → ℕ → Option Client → Clients → Clients → List Effect → Option Update → Type 0
Resumes v c None s t effects update = Tells s t [] effects update
Resumes v c (Some k) s t effects update = GoesOn v c k s t effects update

abbrev pub closes : ℕ → CloseCause → List Effect
closes c cause = Closed c cause ∷ []

-- Why a piece isn't taken in: the stream would be too long, or too many bytes unprocessed.
abbrev pub refusal : Kept → List ℕ → Option CloseCause
refusal kept piece =
    if nat_lt most_stream (stream_length kept + length piece) then Some causes.Limit
    else if nat_lt most_unprocessed (kept.unprocessed + length piece) then Some causes.Backlog
    else None

abbrev pub fed_client : Client → List ℕ → Client
fed_client k piece = record k { intake = fed k.intake piece }

abbrev pub HearsBy : Option CloseCause → Serving → ℕ → List ℕ → Client → Clients → Clients → List Effect → Option Update → Type 0
HearsBy (Some cause) v c piece k s t effects update = Tells (left_by c k s) t (closes c cause) effects update
HearsBy None v c piece k s t effects update = GoesOn v c (fed_client k piece) s t effects update

-- The connection takes a piece in and goes on, or is closed.
abbrev pub Hears : Serving → ℕ → List ℕ → Option Client → Clients → Clients → List Effect → Option Update → Type 0
Hears v c piece None s t effects update = Tells s t [] effects update
Hears v c piece (Some k) s t effects update = HearsBy (refusal k.intake piece) v c piece k s t effects update
