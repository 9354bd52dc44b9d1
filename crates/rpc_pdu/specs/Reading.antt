-- Reading bodies, and what a call of a reader gave.
use Rattle.std.specs.Prelude.{◌≡◌, ℕ, ◌+◌, List, length, drop, slice_index, ◌==◌, Option, Some, None, Result, Ok, Err, if◌then◌else◌}
use Rattle.wire_fields.specs.Reading.{Reading, ◌>>=◌, bytes_at, gap, number_at, uuid_at, times}
use Rattle.rpc_pdu.specs.declared.bodies.BindAckBody.{BindAckBody}
use Rattle.rpc_pdu.specs.declared.bodies.BindBody.{BindBody}
use Rattle.rpc_pdu.specs.declared.head.Head.{Head}
use Rattle.rpc_pdu.specs.declared.pdu.Pdu.{Pdu}
use Rattle.rpc_pdu.specs.declared.pdu.Pdu.TheVariants.{Request, Response, Fault, Bind, BindAck, BindNak, AlterContext, AlterContextResp, Shutdown, CoCancel, Orphaned}
use Rattle.rpc_pdu.specs.declared.pdu_fault.PduFault.{PduFault}
use Rattle.rpc_pdu.specs.declared.pdu_fault.PduFault.TheVariants as faults
use Rattle.rpc_pdu.specs.declared.pdu_type.PduType.{PduType}
use Rattle.rpc_pdu.specs.declared.pdu_type.PduType.TheVariants as types
use Rattle.rpc_pdu.specs.declared.proposal.Proposal.{Proposal}
use Rattle.rpc_pdu.specs.declared.syntax.Syntax.{Syntax}
use Rattle.rpc_pdu.specs.declared.verdict.Verdict.{Verdict}
use Rattle.rpc_pdu.specs.Flags.{has_flag}
use Rattle.rpc_pdu.specs.Header.{header_fault, head_at}
use Rattle.rpc_pdu.specs.PduTypes.{type_with}

-- ---- parts of bodies

unfoldable pub syntax_at : Reading → Option (Syntax × Reading)
syntax_at s = do
  id ← uuid_at s
  version ← number_at 4 id.1
  Some (record { id = id.0; version = version.0 }, version.1)

unfoldable pub proposal_at : Reading → Option (Proposal × Reading)
proposal_at s = do
  id ← number_at 2 s
  count ← number_at 1 id.1
  reserved ← bytes_at 1 count.1
  abstract ← syntax_at reserved.1
  transfers ← times count.0 syntax_at abstract.1
  Some (record { id = id.0; abstract_syntax = abstract.0; transfers = transfers.0 }, transfers.1)

unfoldable pub verdict_at : Reading → Option (Verdict × Reading)
verdict_at s = do
  outcome ← number_at 2 s
  reason ← number_at 2 outcome.1
  syntax ← syntax_at reason.1
  Some (record { result = outcome.0; reason = reason.0; syntax = syntax.0 }, syntax.1)

unfoldable pub version_at : Reading → Option ((ℕ × ℕ) × Reading)
version_at s = do
  major ← number_at 1 s
  minor ← number_at 1 major.1
  Some ((major.0, minor.0), minor.1)

unfoldable pub object_at : ℕ → Reading → Option (Option (List ℕ) × Reading)
object_at flags s = if has_flag flags 0x80 then (uuid_at s >>= λ id. Some (Some id.0, id.1)) else Some (None, s)

-- All bytes that are left.
unfoldable pub rest_at : Reading → Option (List ℕ × Reading)
rest_at s = bytes_at (length s.left) s

-- The value, where no byte is left behind it.
abbrev pub alone : {A : Type 0} → A → Reading → Option A
alone x s = if length s.left == 0 then Some x else None

-- How many bytes follow a secondary address of this length up to a multiple of 4 from the PDU's start:
-- the address starts at byte 26.
abbrev pub padding_behind : ℕ → ℕ
padding_behind count = gap 4 (26 + count)

-- ---- bodies

unfoldable pub request_at : Head → Reading → Option Pdu
request_at head s = do
  hint ← number_at 4 s
  context ← number_at 2 hint.1
  opnum ← number_at 2 context.1
  object ← object_at head.flags opnum.1
  stub ← rest_at object.1
  Some (Request head hint.0 context.0 opnum.0 object.0 stub.0)

unfoldable pub response_at : Head → Reading → Option Pdu
response_at head s = do
  hint ← number_at 4 s
  context ← number_at 2 hint.1
  cancels ← number_at 1 context.1
  reserved ← bytes_at 1 cancels.1
  stub ← rest_at reserved.1
  Some (Response head hint.0 context.0 cancels.0 stub.0)

unfoldable pub fault_at : Head → Reading → Option Pdu
fault_at head s = do
  hint ← number_at 4 s
  context ← number_at 2 hint.1
  cancels ← number_at 1 context.1
  reserved ← bytes_at 1 cancels.1
  status ← number_at 4 reserved.1
  second ← bytes_at 4 status.1
  Some (Fault head hint.0 context.0 cancels.0 status.0)

unfoldable pub bind_at : Reading → Option BindBody
bind_at s = do
  xmit ← number_at 2 s
  recv ← number_at 2 xmit.1
  group ← number_at 4 recv.1
  count ← number_at 1 group.1
  reserved ← bytes_at 3 count.1
  proposals ← times count.0 proposal_at reserved.1
  alone (record { max_xmit = xmit.0; max_recv = recv.0; group = group.0; proposals = proposals.0 }) proposals.1

unfoldable pub bind_ack_at : Reading → Option BindAckBody
bind_ack_at s = do
  xmit ← number_at 2 s
  recv ← number_at 2 xmit.1
  group ← number_at 4 recv.1
  size ← number_at 2 group.1
  address ← bytes_at size.0 size.1
  padding ← bytes_at (padding_behind size.0) address.1
  count ← number_at 1 padding.1
  reserved ← bytes_at 3 count.1
  verdicts ← times count.0 verdict_at reserved.1
  alone (record { max_xmit = xmit.0; max_recv = recv.0; group = group.0; address = address.0; verdicts = verdicts.0 }) verdicts.1

unfoldable pub bind_nak_at : Head → Reading → Option Pdu
bind_nak_at head s = do
  reason ← number_at 2 s
  count ← number_at 1 reason.1
  versions ← times count.0 version_at count.1
  Some (BindNak head reason.0 versions.0)

abbrev pub with_bind : (ℕ → ℕ → ℕ → List Proposal → Pdu) → Option BindBody → Option Pdu
with_bind make body = body >>= λ b. Some (make b.max_xmit b.max_recv b.group b.proposals)

abbrev pub with_bind_ack : (ℕ → ℕ → ℕ → List ℕ → List Verdict → Pdu) → Option BindAckBody → Option Pdu
with_bind_ack make body = body >>= λ b. Some (make b.max_xmit b.max_recv b.group b.address b.verdicts)

unfoldable pub body_at : PduType → Head → Reading → Option Pdu
body_at types.Request head s = request_at head s
body_at types.Response head s = response_at head s
body_at types.Fault head s = fault_at head s
body_at types.Bind head s = with_bind (Bind head) (bind_at s)
body_at types.BindAck head s = with_bind_ack (BindAck head) (bind_ack_at s)
body_at types.BindNak head s = bind_nak_at head s
body_at types.AlterContext head s = with_bind (AlterContext head) (bind_at s)
body_at types.AlterContextResp head s = with_bind_ack (AlterContextResp head) (bind_ack_at s)
body_at types.Shutdown head s = alone (Shutdown head) s
body_at types.CoCancel head s = alone (CoCancel head) s
body_at types.Orphaned head s = alone (Orphaned head) s

-- ---- a whole PDU

-- The reader at the front of a body.
abbrev pub body_of : Head → List ℕ → Reading
body_of head bytes = record { endian = head.endian; place = 0; left = drop 16 bytes }

abbrev pub or_short : Option Pdu → Result Pdu PduFault
or_short None = Err faults.BadLength
or_short (Some pdu) = Ok pdu

abbrev pub behind_header : Option PduFault → Option PduType → Head → Reading → Result Pdu PduFault
behind_header (Some fault) kind head s = Err fault
behind_header None None head s = Err faults.BadType
behind_header None (Some kind) head s = or_short (body_at kind head s)

unfoldable pub pdu_at : List ℕ → Result Pdu PduFault
pdu_at bytes = behind_header (header_fault bytes) (type_with (slice_index bytes 2)) (head_at bytes) (body_of (head_at bytes) bytes)

-- ---- what a call gave

-- A fault of reading a body: memory ran out, or the body is short or too long.
abbrev pub FailsAs : {Y : Type 0} → PduFault → Option Y → Type 0
FailsAs faults.Memory read = Unit {0}
FailsAs faults.BadLength read = read ≡ None
FailsAs _ read = ⊥

-- A part of a body, and the place behind it.
abbrev pub Takes : {X Y : Type 0} → (X → Y) → Result X PduFault → Option (Y × Reading) → Reading → Type 0
Takes view (Ok x) read now = read ≡ Some (view x, now)
Takes view (Err fault) read now = FailsAs fault read

-- A whole body.
abbrev pub Reads : {X : Type 0} → Result X PduFault → Option X → Type 0
Reads (Ok x) read = read ≡ Some x
Reads (Err fault) read = FailsAs fault read

-- A PDU, or the first fault, unless memory ran out.
abbrev pub Decodes : Result Pdu PduFault → Result Pdu PduFault → Type 0
Decodes (Ok pdu) read = read ≡ Ok pdu
Decodes (Err faults.Memory) read = Unit {0}
Decodes (Err fault) read = read ≡ Err fault
