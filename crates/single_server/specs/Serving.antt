-- What a run over the connections of a door does: one node serves them one after another.
use Rattle.std.specs.Prelude.{◌≡◌, ◌⊎◌, ℕ, ◌+◌, ◌<◌, ◌≤◌, List, [], ◌∷◌, ◌++◌, length, map, Option, Some, None}
use Rattle.std.specs.List.{AllByRecursion}
use Rattle.edge_io.specs.Visits.{Tells, Visit, Visits, hung_up}
use Rattle.disk_core.specs.Views.{DiskView}
use Rattle.rpc_calls.specs.declared.intake_fault.IntakeFault.{IntakeFault}
use Rattle.rpc_calls.specs.declared.item.Item.{Item}
use Rattle.rpc_calls.specs.declared.side.Side.TheVariants.{Server}
use Rattle.rpc_calls.specs.Streams.{Items}
use Rattle.cluster_rules.specs.declared.effect.Effect.{Effect}
use Rattle.cluster_member.specs.States.{MemberState}
use Rattle.single_items.specs.Alone.{alone}
use Rattle.single_items.specs.Events.{told_to}
use Rattle.single_items.specs.Promises.{BeginsWith}
use Rattle.single_node.specs.Delivering.{LogsAll}
use Rattle.single_server.specs.declared.ended.Ended.{Ended}
use Rattle.single_server.specs.declared.ended.Ended.TheVariants.{BadLog, DiskFault, Done, Fenced, NoMemory, ReadFault, WriteFault}
use Rattle.single_server.specs.Begins.{BeginsOn, NotBegun}
use Rattle.single_server.specs.Hearing.{Beginning, CutOff}
use Rattle.single_server.specs.Session.{piece_length}
use Rattle.single_server.specs.Visits.{AreServed, HasItems, IsSent, Talk, first_behind, input_of, records_of}

-- ---- the door

-- These visits were made since: they stand behind those that were ended before, and the others are still to come.
pub record Visited (visits : List Visit) (old now : Visits) : Type 0 where
  pub inputs : old.coming ≡ map input_of visits ++ now.coming
  pub is : now ≡ record { coming = now.coming; present = None; ended = (hung_up old).ended ++ visits }

-- As many connections were served as were asked for, or all that were to come.
abbrev pub AreEnough : ℕ → List Talk → Option Visits → Type 0
AreEnough count talks None = Unit {0}
AreEnough count talks (Some now) = (length talks ≡ count) ⊎ (now.coming ≡ [])

-- ---- the connections that were served

-- From this beginning on, one after another: the records that were added to the log are Alone's for all of them.
pub record HaveServed (start : Beginning) (count : ℕ) (old now : Option Visits) (w : DiskView) : Type 0 where
  pub talks : List Talk
  pub items : AllByRecursion HasItems talks
  pub most : length talks ≤ count
  pub member : MemberState
  pub logs : LogsAll (records_of 1 start.first talks) start.member start.disk member w
  pub told : Tells old now (λ old now. (visits : List Visit) × AreServed 1 start.first talks visits × Visited visits old now)

-- ---- the run is cut off

-- At the connection `c`, which began with `b`: this was told of what was heard, the first of what Alone says.
pub record IsBrokenOff (ended : Ended) (c : ℕ) (b : Beginning) (w : DiskView) : Type 0 where
  pub stream : List ℕ
  pub told : List Effect
  pub cut : CutOff ended c b stream told w
  pub first_of : (given : List Item) (fault : Option IntakeFault) → Items Server stream given fault → BeginsWith (alone c b.first given).output (told_to c told)

-- All of that was sent, and where a write failed, a front of it.
pub record IsCutShort (c : ℕ) (stream : List ℕ) (told : List Effect) (visit : Visit) : Type 0 where
  pub unused : List ℕ
  pub taken : visit.taken ≡ stream ++ unused
  pub short : length unused ≤ piece_length
  pub sent : IsSent visit (told_to c told)

-- Behind these connections another one began, at which the run was cut off.
pub record HaveServedInPart (ended : Ended) (start : Beginning) (count : ℕ) (old now : Option Visits) (w : DiskView) : Type 0 where
  pub talks : List Talk
  pub items : AllByRecursion HasItems talks
  pub most : length talks < count
  pub last : Beginning
  pub logs : LogsAll (records_of 1 start.first talks) start.member start.disk last.member last.disk
  pub goes_on : last.first ≡ first_behind 1 start.first talks
  pub off : IsBrokenOff ended (1 + length talks) last w
  pub told : Tells old now (λ old now. (visits : List Visit) × (visit : Visit) × AreServed 1 start.first talks visits
      × IsCutShort (1 + length talks) off.stream off.told visit × Visited (visits ++ visit ∷ []) old now)

-- ---- the whole

abbrev pub ServesFrom : Ended → Beginning → ℕ → Option Visits → Option Visits → DiskView → Type 0
ServesFrom Done start count old now w = (out : HaveServed start count old now w) × AreEnough count out.talks now
ServesFrom ReadFault start count old now w = (out : HaveServed start count old now w) × (length out.talks < count)
ServesFrom WriteFault start count old now w = ⊥
ServesFrom ended start count old now w = HaveServedInPart ended start count old now w

-- The log was opened, and connections were served.
pub record ServesOpened (ended : Ended) (stamp count : ℕ) (old now : Option Visits) (v w : DiskView) : Type 0 where
  pub start : Beginning
  pub begins : BeginsOn stamp v start.first start.member start.disk
  pub serves : ServesFrom ended start count old now w

-- Or it wasn't, and the door was asked nothing.
pub record IsUnvisited (ended : Ended) (old now : Option Visits) (v w : DiskView) : Type 0 where
  pub fault : NotBegun ended v w
  pub unvisited : now ≡ old

abbrev pub ServesDoor : Ended → ℕ → ℕ → Option Visits → Option Visits → DiskView → DiskView → Type 0
ServesDoor Done stamp count old now v w = ServesOpened Done stamp count old now v w
ServesDoor ReadFault stamp count old now v w = ServesOpened ReadFault stamp count old now v w
ServesDoor WriteFault stamp count old now v w = ⊥
ServesDoor DiskFault stamp count old now v w = IsUnvisited DiskFault old now v w ⊎ ServesOpened DiskFault stamp count old now v w
ServesDoor NoMemory stamp count old now v w = IsUnvisited NoMemory old now v w ⊎ ServesOpened NoMemory stamp count old now v w
ServesDoor (BadLog place) stamp count old now v w = IsUnvisited (BadLog place) old now v w
ServesDoor (Fenced held) stamp count old now v w = IsUnvisited (Fenced held) old now v w
