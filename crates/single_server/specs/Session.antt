-- What a run over one recorded stream does.
use Rattle.std.specs.Prelude.{◌≡◌, ◌⊎◌, ℕ, ◌+◌, ◌<◌, ◌≤◌, Bool, false, true, List, [], ◌++◌, length, take, Option, Some, Result, Ok, Err, ⊤, is_some}
use Rattle.std.specs.Io.KnownBytes.{Consumes, IsAtEnd}
use Rattle.causes.specs.Writing.{Wrote}
use Rattle.disk_core.specs.Views.{DiskView}
use Rattle.rpc_calls.specs.declared.intake_fault.IntakeFault.{IntakeFault}
use Rattle.rpc_calls.specs.declared.item.Item.{Item}
use Rattle.rpc_calls.specs.declared.side.Side.TheVariants.{Server}
use Rattle.rpc_calls.specs.Streams.{Items}
use Rattle.update_records.specs.Entry.{Entry}
use Rattle.cluster_rules.specs.declared.effect.Effect.{Effect}
use Rattle.cluster_member.specs.States.{MemberState}
use Rattle.cluster_node.specs.States.{RunningNode, client_in}
use Rattle.single_items.specs.Alone.{AloneRun, alone, begins_alone}
use Rattle.single_items.specs.Events.{told_to}
use Rattle.single_items.specs.Promises.{BeginsWith, IsAlone, IsUnconnectedFor}
use Rattle.single_node.specs.Delivering.{LogsAll}
use Rattle.single_node.specs.Singles.{SingleState}
use Rattle.single_node.specs.Standing.{alone_node}
use Rattle.single_server.specs.declared.ended.Ended.{Ended}
use Rattle.single_server.specs.declared.ended.Ended.TheVariants.{BadLog, DiskFault, Done, Fenced, NoMemory, ReadFault, WriteFault}
use Rattle.single_server.specs.declared.running.Piece.{Piece}
use Rattle.single_server.specs.declared.running.Piece.TheVariants.{Bytes, End, Fails}
use Rattle.single_server.specs.Begins.{BeginsOn, NotBegun}
use Rattle.single_server.specs.Hearing.{Beginning, CutOff, Heard, Writes}

-- ---- the stream

-- How many bytes one connection may send, and how many are read at once.
abbrev pub most_stream : ℕ
most_stream = 1073741824

abbrev pub piece_length : ℕ
piece_length = 4096

-- Why no piece was taken: nothing is left, or the piece is more than the connection may still send.
abbrev pub IsEnd : List ℕ → ℕ → Option (List ℕ) → Type 0
IsEnd piece taken now = ((piece ≡ []) × IsAtEnd now) ⊎ (most_stream < taken + length piece)

abbrev pub PieceComes : Piece → ℕ → List ℕ → Option (List ℕ) → Option (List ℕ) → Type 0
PieceComes (Bytes size) taken buffer left now = Consumes left now (take size buffer) × (0 < size) × (size ≤ piece_length) × (taken + size ≤ most_stream)
PieceComes End taken buffer left now = (piece : List ℕ) × (length piece ≤ piece_length) × Consumes left now piece × IsEnd piece taken now
PieceComes Fails taken buffer left now = Consumes left now []

-- ---- one connection

-- It has just begun.
abbrev pub Starts : ℕ → Beginning → SingleState → DiskView → Type 0
Starts c b s w = Heard c b [] [] s w

-- This stream of it was taken from the input, and what the node told it was written.
pub record Reached (c : ℕ) (b : Beginning) (left now : Option (List ℕ)) (written holds : Option (List ℕ)) (taken : ℕ) (s : SingleState) (w : DiskView) : Type 0 where
  pub stream : List ℕ
  pub told : List Effect
  pub heard : Heard c b stream told s w
  pub consumed : Consumes left now stream
  pub counted : length stream ≡ taken
  pub wrote : Wrote written holds (told_to c told)

-- Why the stream was heard no further: a last piece brought its end, or was too much, or the node has closed the connection.
abbrev pub IsOver : ℕ → List ℕ → List ℕ → Option (List ℕ) → SingleState → Type 0
IsOver c stream unused now s = IsEnd unused (length stream) now ⊎ (is_some (client_in c s.node) ≡ false)

-- It was heard to its end.
pub record IsHeardOut (c : ℕ) (b : Beginning) (left now : Option (List ℕ)) (written holds : Option (List ℕ)) (s : SingleState) (w : DiskView) : Type 0 where
  pub stream : List ℕ
  -- what was read behind it
  pub unused : List ℕ
  pub told : List Effect
  pub heard : Heard c b stream told s w
  pub quiet : s.left ≡ []
  pub consumed : Consumes left now (stream ++ unused)
  pub short : length unused ≤ piece_length
  pub over : IsOver c stream unused now s
  pub wrote : Wrote written holds (told_to c told)

-- Or the run was cut off.
pub record IsCutOff (ended : Ended) (c : ℕ) (b : Beginning) (left now : Option (List ℕ)) (written holds : Option (List ℕ)) (w : DiskView) : Type 0 where
  pub stream : List ℕ
  pub unused : List ℕ
  pub told : List Effect
  pub cut : CutOff ended c b stream told w
  pub consumed : Consumes left now (stream ++ unused)
  pub short : length unused ≤ piece_length
  pub writes : Writes ended written holds (told_to c told)

abbrev pub Converses : Result ⊤ Ended → ℕ → Beginning → SingleState → DiskView → Option (List ℕ) → Option (List ℕ) → Option (List ℕ) → Option (List ℕ) → Type 0
Converses (Ok done) c b s w left now written holds = IsHeardOut c b left now written holds s w
Converses (Err ended) c b s w left now written holds = IsCutOff ended c b left now written holds w

-- ---- the whole

-- A node without a connection that has taken no item, where Alone begins.
pub record IsFresh (s : SingleState) : Type 0 where
  pub first : AloneRun
  pub node : RunningNode
  pub runs : s.node.running ≡ Some node
  pub quiet : s.left ≡ []
  pub unconnected : IsUnconnectedFor first (alone_node node [])
  pub none_taken : first.taken ≡ 0
  pub begun : first ≡ begins_alone first.single first.client.handles first.taken

-- Alone's beginning for the next connection of a node.
abbrev pub beginning_at : AloneRun → RunningNode → DiskView → Beginning
beginning_at first x v = record { first = first; member = x.member; disk = v }

abbrev pub ServesStream : Result ⊤ Ended → SingleState → Option (List ℕ) → Option (List ℕ) → Option (List ℕ) → Option (List ℕ) → DiskView → DiskView → Type 0
ServesStream result s left now written holds v w =
    (first : AloneRun) (x : RunningNode) → s.node.running ≡ Some x → IsUnconnectedFor first (alone_node x [])
    → first.taken ≡ 0 → first ≡ begins_alone first.single first.client.handles first.taken
    → (t : SingleState) × Converses result 1 (beginning_at first x v) t w left now written holds

-- All that the node told was written, and its log has the records of Alone, where these are the items of the stream.
pub record IsDone (stamp : ℕ) (left now : Option (List ℕ)) (written holds : Option (List ℕ)) (v w : DiskView) : Type 0 where
  pub start : Beginning
  pub begins : BeginsOn stamp v start.first start.member start.disk
  pub state : SingleState
  pub out : IsHeardOut 1 start left now written holds state w
  pub records : List Entry
  pub member : MemberState
  pub logs : LogsAll records start.member start.disk member w
  pub alone : (given : List Item) (fault : Option IntakeFault) → Items Server out.stream given fault → IsAlone 1 start.first given (told_to 1 out.told) records

-- The run was cut off behind the opening: what the node told is the first of what Alone says.
pub record IsInPart (ended : Ended) (stamp : ℕ) (left now : Option (List ℕ)) (written holds : Option (List ℕ)) (v w : DiskView) : Type 0 where
  pub start : Beginning
  pub begins : BeginsOn stamp v start.first start.member start.disk
  pub off : IsCutOff ended 1 start left now written holds w
  pub first_of : (given : List Item) (fault : Option IntakeFault) → Items Server off.stream given fault → BeginsWith (alone 1 start.first given).output (told_to 1 off.told)

-- Or before it: nothing was read and nothing written.
pub record IsUnserved (ended : Ended) (left now : Option (List ℕ)) (written holds : Option (List ℕ)) (v w : DiskView) : Type 0 where
  pub fault : NotBegun ended v w
  pub unread : now ≡ left
  pub unwritten : holds ≡ written

abbrev pub Serves : Ended → ℕ → Option (List ℕ) → Option (List ℕ) → Option (List ℕ) → Option (List ℕ) → DiskView → DiskView → Type 0
Serves Done stamp left now written holds v w = IsDone stamp left now written holds v w
Serves ReadFault stamp left now written holds v w = IsInPart ReadFault stamp left now written holds v w
Serves WriteFault stamp left now written holds v w = IsInPart WriteFault stamp left now written holds v w
Serves DiskFault stamp left now written holds v w = IsUnserved DiskFault left now written holds v w ⊎ IsInPart DiskFault stamp left now written holds v w
Serves NoMemory stamp left now written holds v w = IsUnserved NoMemory left now written holds v w ⊎ IsInPart NoMemory stamp left now written holds v w
Serves (BadLog place) stamp left now written holds v w = IsUnserved (BadLog place) left now written holds v w
Serves (Fenced held) stamp left now written holds v w = IsUnserved (Fenced held) left now written holds v w
