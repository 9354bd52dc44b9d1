-- What the steps of a run make of the connection that is present at the door. Clauses of private functions alone cite this.
use Rattle.std.specs.Prelude.{◌≡◌, ◌≢◌, ◌⊎◌, ℕ, ◌+◌, ◌<◌, ◌≤◌, Bool, true, false, List, [], ◌∷◌, ◌++◌, length, take, Option, Some, None, Result, Ok, Err, ⊤}
use Rattle.edge_io.specs.declared.failed.Failed.{Failed}
use Rattle.edge_io.specs.Visits.{Tells, Visit, Visits, hung_up}
use Rattle.disk_core.specs.Views.{DiskView}
use Rattle.rpc_calls.specs.declared.intake_fault.IntakeFault.{IntakeFault}
use Rattle.rpc_calls.specs.declared.item.Item.{Item}
use Rattle.rpc_calls.specs.declared.side.Side.TheVariants.{Server}
use Rattle.rpc_calls.specs.Streams.{Items}
use Rattle.cluster_rules.specs.declared.effect.Effect.{Effect}
use Rattle.client_connections.specs.Clients.{has_waiting}
use Rattle.cluster_node.specs.States.{NodeValue, RunningNode, client_in}
use Rattle.single_items.specs.Alone.{AloneRun, alone, begins_alone, next_alone}
use Rattle.single_items.specs.Events.{told_to}
use Rattle.single_items.specs.Promises.{IsUnconnectedFor}
use Rattle.single_node.specs.Delivering.{LogsAll}
use Rattle.single_node.specs.Singles.{SingleState, halt_cause}
use Rattle.single_node.specs.Standing.{alone_node}
use Rattle.single_server.specs.declared.ended.Ended.{Ended}
use Rattle.single_server.specs.declared.running.Piece.{Piece}
use Rattle.single_server.specs.declared.running.Piece.TheVariants.{Bytes, End, Fails}
use Rattle.single_server.specs.declared.serving.Next.{Next}
use Rattle.single_server.specs.declared.serving.Next.TheVariants as next
use Rattle.single_server.specs.declared.talking.Step.{Step}
use Rattle.single_server.specs.declared.talking.Step.TheVariants as step
use Rattle.single_server.specs.Hearing.{Beginning, CutOff, HaltsFor, HasRunOut, Heard, work_left}
use Rattle.single_server.specs.Serving.{IsBrokenOff, IsCutShort, ServesFrom, Visited}
use Rattle.single_server.specs.Session.{most_stream, piece_length}
use Rattle.single_server.specs.Visits.{HasItems, IsOver, IsRefused, IsSent, IsServed, Talk, input_of}

-- ---- the connection that is present

abbrev pub Fact : Type 1
Fact = Visit → Type 0

-- The door handed out its next connection, which is present.
pub record IsPresent (old : Visits) (visit : Visit) (now : Visits) : Type 0 where
  pub rest : List (List ℕ)
  pub came : old.coming ≡ input_of visit ∷ rest
  pub is : now ≡ record { coming = rest; present = Some visit; ended = (hung_up old).ended }

-- Where the door tells: it did, and of this connection that is so.
abbrev pub Talks : Fact → Option Visits → Option Visits → Type 0
Talks is before now = Tells before now (λ old new. (visit : Visit) × IsPresent old visit new × is visit)

-- From whatever moment on one was so, the other is so.
abbrev pub Leads : Fact → Fact → Option Visits → Option Visits → Type 0
Leads one other old new = (first : Option Visits) → Talks one first old → Talks other first new

-- The text was sent, and of a connection that is broken a front of it.
abbrev pub HasSent : Bool → List ℕ → Visit → Type 0
HasSent false text visit = (visit.failed_writes ≡ 0) × (visit.written ≡ text)
HasSent true text visit = (0 < visit.failed_writes) × (count : ℕ) × (visit.written ≡ take count text)

-- These bytes were read of it, and this text was told.
pub record Exchanged (stream text : List ℕ) (is_broken : Bool) (visit : Visit) : Type 0 where
  pub taken : visit.taken ≡ stream
  pub sent : HasSent is_broken text visit

-- This text was told to it too.
abbrev pub Says : List ℕ → Bool → Bool → Option Visits → Option Visits → Type 0
Says text before now old new = (stream front : List ℕ) → Leads (Exchanged stream front before) (Exchanged stream (front ++ text) now) old new

-- The connection is sent these bytes, or a front of them.
abbrev pub Sends : Result ⊤ Failed → List ℕ → Option Visits → Option Visits → Type 0
Sends (Ok done) bytes old new = Says bytes false false old new
Sends (Err fault) bytes old new = Says bytes false true old new

-- ---- the numbers of connections

-- Whether an update of that connection is queued.
abbrev pub waits_in : ℕ → NodeValue → Bool
waits_in c n = elim n.running [ None ↦ false | Some x ↦ has_waiting c x.clients.common ]

-- Behind an event of connection `c` no update of another one waits that didn't before.
abbrev pub QueuesOwn : ℕ → NodeValue → NodeValue → Type 0
QueuesOwn c n m = (d : ℕ) → d ≢ c → waits_in d n ≡ false → waits_in d m ≡ false

-- ---- a message

-- A connection that is gone was closed, since its stream has a fault.
abbrev pub IsClosedFor : ℕ → List ℕ → NodeValue → Type 0
IsClosedFor c stream n = client_in c n ≡ None → (given : List Item) × (fault : IntakeFault) × Items Server stream given (Some fault)

-- All of this more was told.
pub record IsHeardAt (c : ℕ) (b : Beginning) (stream : List ℕ) (told : List Effect) (t : SingleState) (w : DiskView) (before now : Bool) (old new : Option Visits) : Type 0 where
  pub more : List Effect
  pub heard : Heard c b stream (told ++ more) t w
  pub says : Says (told_to c more) before now old new

-- Or the run was cut off.
pub record IsCutAt (ended : Ended) (c : ℕ) (b : Beginning) (stream : List ℕ) (told : List Effect) (w : DiskView) (before now : Bool) (old new : Option Visits) : Type 0 where
  pub more : List Effect
  pub cut : CutOff ended c b stream (told ++ more) w
  pub says : Says (told_to c more) before now old new

-- The node told this, and goes on; or it halted, and nothing is sent.
abbrev pub TellsAt : Step → ℕ → List Effect → Bool → Bool → Bool → Option Visits → Option Visits → Type 0
TellsAt step.GoesOn c es stopped before now old new = (stopped ≡ false) × Says (told_to c es) before now old new
TellsAt (step.Halts cause) c es stopped before now old new = (stopped ≡ true) × (halt_cause es ≡ Some cause) × (now ≡ before) × (new ≡ old)
TellsAt step c es stopped before now old new = ⊥

-- The node heard one of its messages, where there was one.
abbrev pub StepsTo : Step → ℕ → Beginning → List ℕ → List Effect → SingleState → DiskView → Bool → Bool → Option Visits → Option Visits → Type 0
StepsTo step.Rests c b stream told t w before now old new = Heard c b stream told t w × (t.left ≡ []) × (now ≡ before) × (new ≡ old)
StepsTo step.GoesOn c b stream told t w before now old new = IsHeardAt c b stream told t w before now old new
StepsTo (step.Halts cause) c b stream told t w before now old new =
    (more : List Effect) × HaltsFor cause c b stream (told ++ more) w × (told_to c more ≡ []) × (now ≡ before) × (new ≡ old)
StepsTo step.RunsOut c b stream told t w before now old new = HasRunOut c b stream told w × (now ≡ before) × (new ≡ old)

-- Then less is left to hear, and a connection that is gone was closed for a fault; without a message nothing changes.
abbrev pub StepsOn : Step → ℕ → List ℕ → SingleState → SingleState → Type 0
StepsOn step.Rests c stream s t = t ≡ s
StepsOn step.GoesOn c stream s t = (work_left t < work_left s) × (s.left ≢ []) × (IsClosedFor c stream s.node → IsClosedFor c stream t.node) × QueuesOwn c s.node t.node
StepsOn step c stream s t = Unit {0}

-- ---- all messages

-- None is left, unless the run was cut off.
abbrev pub DeliversAt : Result ⊤ Ended → ℕ → Beginning → List ℕ → List Effect → SingleState → SingleState → DiskView → Bool → Bool → Option Visits → Option Visits → Type 0
DeliversAt (Ok done) c b stream told s t w before now old new =
    IsHeardAt c b stream told t w before now old new × (t.left ≡ []) × (IsClosedFor c stream s.node → IsClosedFor c stream t.node)
DeliversAt (Err ended) c b stream told s t w before now old new = IsCutAt ended c b stream told w before now old new

-- ---- a piece

-- It is behind the stream now, or the node refused it and closed the connection.
abbrev pub TakesAt : ℕ → Beginning → List ℕ → List ℕ → List Effect → SingleState → DiskView → Bool → Bool → Option Visits → Option Visits → Type 0
TakesAt c b stream piece told t w before now old new =
    (IsHeardAt c b (stream ++ piece) told t w before now old new × IsClosedFor c (stream ++ piece) t.node)
    ⊎ (IsHeardAt c b stream told t w before now old new × (client_in c t.node ≡ None) × IsRefused stream piece)

abbrev pub HearsAt : Result ⊤ Ended → ℕ → Beginning → List ℕ → List ℕ → List Effect → SingleState → DiskView → Bool → Bool → Option Visits → Option Visits → Type 0
HearsAt (Ok done) c b stream piece told t w before now old new = TakesAt c b stream piece told t w before now old new × (t.left ≡ [])
HearsAt (Err ended) c b stream piece told t w before now old new =
    IsCutAt ended c b (stream ++ piece) told w before now old new ⊎ IsCutAt ended c b stream told w before now old new

-- ---- a read

-- The stream ends with this piece, which is too much where it isn't empty.
pub record IsEndAt (taken : ℕ) (stream piece text : List ℕ) (visit : Visit) : Type 0 where
  pub exchanged : Exchanged (stream ++ piece) text false visit
  pub ends : ((piece ≡ []) × (visit.left ≡ [])) ⊎ (most_stream < taken + length piece)

pub record IsUnread (stream text : List ℕ) (visit : Visit) : Type 0 where
  pub exchanged : Exchanged stream text false visit
  pub failed : 0 < visit.failed_reads

abbrev pub Reads : Piece → ℕ → List ℕ → Option Visits → Option Visits → Type 0
Reads (Bytes size) taken buffer old new =
    ((stream text : List ℕ) → Leads (Exchanged stream text false) (Exchanged (stream ++ take size buffer) text false) old new)
    × (0 < size) × (size ≤ piece_length) × (taken + size ≤ most_stream)
Reads End taken buffer old new =
    (piece : List ℕ) × (length piece ≤ piece_length) × ((stream text : List ℕ) → Leads (Exchanged stream text false) (IsEndAt taken stream piece text) old new)
Reads Fails taken buffer old new = (stream text : List ℕ) → Leads (Exchanged stream text false) (IsUnread stream text) old new

-- ---- one connection

-- All that was told of it was sent, unless it broke, and no more of it was heard.
pub record IsOverAt (talk : Talk) (text : List ℕ) (visit : Visit) : Type 0 where
  pub taken : visit.taken ≡ talk.stream ++ talk.unused
  pub over : IsOver talk visit
  pub sent : IsSent visit text

-- It was heard to its end.
pub record IsHeardOutAt (c : ℕ) (b : Beginning) (t : SingleState) (w : DiskView) (old new : Option Visits) : Type 0 where
  pub talk : Talk
  pub items : HasItems talk
  pub short : length talk.unused ≤ piece_length
  pub told : List Effect
  pub heard : Heard c b talk.stream told t w
  pub quiet : t.left ≡ []
  pub over : Leads (Exchanged [] [] false) (IsOverAt talk (told_to c told)) old new

-- Or the run was cut off at it.
pub record IsCutOffAt (ended : Ended) (c : ℕ) (b : Beginning) (w : DiskView) (old new : Option Visits) : Type 0 where
  pub off : IsBrokenOff ended c b w
  pub over : Leads (Exchanged [] [] false) (IsCutShort c off.stream off.told) old new

abbrev pub ConversesAt : Result ⊤ Ended → ℕ → Beginning → SingleState → DiskView → Option Visits → Option Visits → Type 0
ConversesAt (Ok done) c b t w old new = IsHeardOutAt c b t w old new
ConversesAt (Err ended) c b t w old new = IsCutOffAt ended c b w old new

-- ---- the next one

-- The node has no connection, and Alone begins the next one, of number `c`, with `first`; none from that number on was used.
pub record IsFree (c : ℕ) (first : AloneRun) (x : RunningNode) (s : SingleState) : Type 0 where
  pub runs : s.node.running ≡ Some x
  pub quiet : s.left ≡ []
  pub unconnected : IsUnconnectedFor first (alone_node x [])
  pub begun : first ≡ begins_alone first.single first.client.handles first.taken
  pub unwaited : (d : ℕ) → c ≤ d → has_waiting d x.clients.common ≡ false

-- From some beginning.
abbrev pub IsReady : ℕ → SingleState → Type 0
IsReady c s = (first : AloneRun) × (x : RunningNode) × IsFree c first x s

-- It was served, and the next one begins where Alone says.
pub record IsAttended (c : ℕ) (b : Beginning) (t : SingleState) (w : DiskView) (Told : Talk → Type 0) : Type 0 where
  pub talk : Talk
  pub items : HasItems talk
  pub node : RunningNode
  pub free : IsFree (c + 1) (next_alone (alone c b.first talk.given)) node t
  pub logs : LogsAll (alone c b.first talk.given).records b.member b.disk node.member w
  pub told : Told talk

abbrev pub Attends : Result ⊤ Ended → ℕ → Beginning → SingleState → DiskView → Option Visits → Option Visits → Type 0
Attends (Ok done) c b t w old new = IsAttended c b t w (λ talk. Leads (Exchanged [] [] false) (IsServed c b.first talk) old new)
Attends (Err ended) c b t w old new = IsCutOffAt ended c b w old new

-- ---- one after another

-- The door handed out one connection, which is ended now, and of which that is so.
abbrev pub VisitsOne : Fact → Option Visits → Option Visits → Type 0
VisitsOne is old new = Tells old new (λ old new. (visit : Visit) × is visit × Visited (visit ∷ []) old new)

-- No connection was accepted.
abbrev pub VisitsNone : Option Visits → Option Visits → Type 0
VisitsNone old new = Tells old new (λ old new. new ≡ hung_up old)

abbrev pub NoneComes : Option Visits → Type 0
NoneComes None = Unit {0}
NoneComes (Some visits) = visits.coming ≡ []

abbrev pub ServesNext : Next → ℕ → Beginning → SingleState → DiskView → Option Visits → Option Visits → Type 0
ServesNext next.Served c b t w old new = IsAttended c b t w (λ talk. VisitsOne (IsServed c b.first talk) old new)
ServesNext next.NoneCame c b t w old new = (w ≡ b.disk) × VisitsNone old new × NoneComes new
ServesNext next.Fails c b t w old new = (w ≡ b.disk) × VisitsNone old new
ServesNext (next.CutOff ended) c b t w old new = (off : IsBrokenOff ended c b w) × VisitsOne (IsCutShort c off.stream off.told) old new

-- These visits were made so far.
abbrev pub HasVisited : List Visit → Option Visits → Option Visits → Type 0
HasVisited visits old now = Tells old now (Visited visits)

-- From whatever moment on the door was asked for a connection first.
abbrev pub ServesRest : Ended → Beginning → ℕ → Option Visits → Option Visits → DiskView → Type 0
ServesRest ended b count old new w = (first : Option Visits) → HasVisited [] first old → ServesFrom ended b count first new w
