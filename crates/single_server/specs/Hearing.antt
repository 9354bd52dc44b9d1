-- What the node hears of a connection and of itself, and what is written of it.
use Rattle.std.specs.Prelude.{◌≡◌, ◌≢◌, ◌⊎◌, ℕ, ◌<◌, Bool, true, false, List, [], ◌++◌, Option, Some, None, Result, Ok, Err, ⊤, is_some}
use Rattle.std.specs.declared.alloc.AllocError.{AllocError}
use Rattle.causes.specs.Writing.{Wrote, WroteSome}
use Rattle.disk_core.specs.Views.{DiskView}
use Rattle.rpc_calls.specs.declared.intake_fault.IntakeFault.{IntakeFault}
use Rattle.rpc_calls.specs.declared.item.Item.{Item}
use Rattle.rpc_calls.specs.declared.side.Side.TheVariants.{Server}
use Rattle.rpc_calls.specs.Streams.{Items}
use Rattle.update_records.specs.Entry.{Entry}
use Rattle.cluster_rules.specs.declared.effect.Effect.{Effect}
use Rattle.cluster_rules.specs.declared.effect.HaltCause.{HaltCause}
use Rattle.cluster_rules.specs.declared.effect.HaltCause.TheVariants as halt
use Rattle.cluster_member.specs.States.{MemberState}
use Rattle.cluster_node.specs.States.{RunningNode, client_in}
use Rattle.single_items.specs.Alone.{AloneRun, alone}
use Rattle.single_items.specs.Events.{told_to}
use Rattle.single_items.specs.Promises.{BeginsWith}
use Rattle.single_node.specs.Delivering.{StoppedAt, UnderWay}
use Rattle.single_node.specs.Singles.{BreaksOff, SingleState, halt_cause}
use Rattle.single_node.specs.Standing.{alone_node, work}
use Rattle.single_server.specs.declared.delivering.Turn.{Turn}
use Rattle.single_server.specs.declared.delivering.Turn.TheVariants.{GoesOn, Halts, Rests, RunsOut, WriteFails}
use Rattle.single_server.specs.declared.ended.Ended.{Ended}
use Rattle.single_server.specs.declared.ended.Ended.TheVariants.{BadLog, DiskFault, Done, Fenced, NoMemory, ReadFault, WriteFault}

-- Where a connection began: Alone's beginning, what the member kept, and the disk.
pub record Beginning : Type 0 where
  pub first : AloneRun
  pub member : MemberState
  pub disk : DiskView

-- ---- replies and records

-- The text is all that Alone writes for the first of these items, and the records are those that it makes for them, or more:
-- a reply comes behind the record of its update.
pub record AnswersLogged (c : ℕ) (first : AloneRun) (given : List Item) (text : List ℕ) (records : List Entry) : Type 0 where
  pub front : List Item
  pub among : BeginsWith given front
  pub told : text ≡ (alone c first front).output
  pub logged : BeginsWith records (alone c first front).records

-- So it is of the items of the stream.
abbrev pub RepliesLogged : ℕ → AloneRun → List ℕ → List ℕ → List Entry → Type 0
RepliesLogged c first stream text records = (given : List Item) (fault : Option IntakeFault) → Items Server stream given fault → AnswersLogged c first given text records

-- ---- between two events

-- Since the connection `c` began, this stream of it was heard, and all of this was told; the node stands as Alone says.
pub record Heard (c : ℕ) (b : Beginning) (stream : List ℕ) (told : List Effect) (s : SingleState) (w : DiskView) : Type 0 where
  pub now : RunningNode
  pub runs : s.node.running ≡ Some now
  pub under_way : UnderWay c b.first stream [] [] b.member b.disk s.left now w told
  pub answered : RepliesLogged c b.first stream (told_to c told) under_way.added

-- So it is from some beginning.
abbrev pub IsHeard : ℕ → SingleState → DiskView → Type 0
IsHeard c s w = (b : Beginning) × (stream : List ℕ) × (told : List Effect) × Heard c b stream told s w

-- How much the node may still hear of itself.
abbrev pub work_left : SingleState → ℕ
work_left s = elim s.node.running [ None ↦ 0 | Some x ↦ work (alone_node x s.left) ]

-- ---- the run is cut off

-- The node halted for this cause.
abbrev pub HaltsFor : HaltCause → ℕ → Beginning → List ℕ → List Effect → DiskView → Type 0
HaltsFor cause c b stream told w =
    (at : StoppedAt c b.first stream [] [] b.member b.disk w told) × (at.halted.cause ≡ cause) × RepliesLogged c b.first stream (told_to c told) at.added

-- Memory ran out between two events, or in one whose calls of the disk were made all the same.
abbrev pub RunsOutAt : ℕ → Beginning → List ℕ → List Effect → DiskView → Type 0
RunsOutAt c b stream told w =
    (s : SingleState) × (v : DiskView) × Heard c b stream told s v × ((w ≡ v) ⊎ ((error : AllocError) × BreaksOff s v error w))

-- Or as the connection was to begin.
abbrev pub HasRunOut : ℕ → Beginning → List ℕ → List Effect → DiskView → Type 0
HasRunOut c b stream told w = RunsOutAt c b stream told w ⊎ ((stream ≡ []) × (told ≡ []) × (w ≡ b.disk))

-- Where the run was cut off, all of this was told.
abbrev pub CutOff : Ended → ℕ → Beginning → List ℕ → List Effect → DiskView → Type 0
CutOff Done c b stream told w = ⊥
CutOff ReadFault c b stream told w = (s : SingleState) × Heard c b stream told s w
CutOff WriteFault c b stream told w = (s : SingleState) × Heard c b stream told s w
CutOff DiskFault c b stream told w = HaltsFor halt.Disk c b stream told w
CutOff (Fenced held) c b stream told w = HaltsFor (halt.Fenced held) c b stream told w
CutOff (BadLog place) c b stream told w = HaltsFor (halt.Image place) c b stream told w
CutOff NoMemory c b stream told w = HasRunOut c b stream told w

-- All of the text was written, but for a write that failed.
abbrev pub Writes : Ended → Option (List ℕ) → Option (List ℕ) → List ℕ → Type 0
Writes WriteFault before now text = WroteSome before now text
Writes ended before now text = Wrote before now text

-- These effects more were told, and what they sent to the connection was written.
pub record IsCut (ended : Ended) (c : ℕ) (b : Beginning) (stream : List ℕ) (told : List Effect) (before now : Option (List ℕ)) (w : DiskView) : Type 0 where
  pub more : List Effect
  pub cut : CutOff ended c b stream (told ++ more) w
  pub writes : Writes ended before now (told_to c more)

-- ---- a message

-- The replies to the connection among what is told were written.
pub record IsTold (c : ℕ) (b : Beginning) (stream : List ℕ) (told : List Effect) (t : SingleState) (w : DiskView) (before now : Option (List ℕ)) : Type 0 where
  pub more : List Effect
  pub heard : Heard c b stream (told ++ more) t w
  pub wrote : Wrote before now (told_to c more)

-- The node told this, and goes on; or it halted, and nothing is written.
abbrev pub Tells : Turn → ℕ → List Effect → Bool → Option (List ℕ) → Option (List ℕ) → Type 0
Tells GoesOn c es stopped before now = (stopped ≡ false) × Wrote before now (told_to c es)
Tells WriteFails c es stopped before now = (stopped ≡ false) × WroteSome before now (told_to c es)
Tells (Halts cause) c es stopped before now = (stopped ≡ true) × (halt_cause es ≡ Some cause) × (now ≡ before)
Tells turn c es stopped before now = ⊥

-- The node heard one of its messages, where there was one.
abbrev pub Turns : Turn → ℕ → Beginning → List ℕ → List Effect → SingleState → DiskView → Option (List ℕ) → Option (List ℕ) → Type 0
Turns Rests c b stream told t w before now = Heard c b stream told t w × (t.left ≡ []) × (now ≡ before)
Turns GoesOn c b stream told t w before now = IsTold c b stream told t w before now
Turns (Halts cause) c b stream told t w before now = (es : List Effect) × HaltsFor cause c b stream (told ++ es) w × (told_to c es ≡ []) × (now ≡ before)
Turns WriteFails c b stream told t w before now = (es : List Effect) × Heard c b stream (told ++ es) t w × WroteSome before now (told_to c es)
Turns RunsOut c b stream told t w before now = HasRunOut c b stream told w × (now ≡ before)

-- Then less is left to hear, and without a message nothing changes.
abbrev pub Lessens : Turn → SingleState → SingleState → Type 0
Lessens GoesOn s t = (work_left t < work_left s) × (s.left ≢ [])
Lessens Rests s t = t ≡ s
Lessens turn s t = Unit {0}

-- ---- all messages

-- None is left, unless the run was cut off.
abbrev pub Delivers : Result ⊤ Ended → ℕ → Beginning → List ℕ → List Effect → SingleState → DiskView → Option (List ℕ) → Option (List ℕ) → Type 0
Delivers (Ok done) c b stream told t w before now = IsTold c b stream told t w before now × (t.left ≡ [])
Delivers (Err ended) c b stream told t w before now = IsCut ended c b stream told before now w

-- ---- a piece

-- The piece is behind the stream now, or the node closed the connection, since the piece was too much.
abbrev pub TakesPiece : ℕ → Beginning → List ℕ → List ℕ → List Effect → SingleState → DiskView → Option (List ℕ) → Option (List ℕ) → Type 0
TakesPiece c b stream piece told t w before now =
    IsTold c b (stream ++ piece) told t w before now ⊎ (IsTold c b stream told t w before now × (is_some (client_in c t.node) ≡ false))

abbrev pub HearsAll : Result ⊤ Ended → ℕ → Beginning → List ℕ → List ℕ → List Effect → SingleState → DiskView → Option (List ℕ) → Option (List ℕ) → Type 0
HearsAll (Ok done) c b stream piece told t w before now = TakesPiece c b stream piece told t w before now × (t.left ≡ [])
HearsAll (Err ended) c b stream piece told t w before now = IsCut ended c b (stream ++ piece) told before now w ⊎ IsCut ended c b stream told before now w
