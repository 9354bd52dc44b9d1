-- The canonical encoding of a PDU: little-endian, with zero reserved bytes and padding.
use Rattle.std.specs.Prelude.{◌≡◌, ℕ, ◌+◌, ◌^◌, ◌≤◌, ◌<◌, List, [], ◌∷◌, ◌++◌, length, replicate, Option, Some, None, is_some, IfSome, IsTrue}
use Rattle.std.specs.List.{flat_map, AllByRecursion}
use Rattle.wire_fields.specs.declared.endian.Endian.TheVariants.{Little}
use Rattle.wire_fields.specs.Numbers.{num, uuid_text}
use Rattle.rpc_pdu.specs.declared.head.Head.{Head}
use Rattle.rpc_pdu.specs.declared.pdu.Pdu.{Pdu}
use Rattle.rpc_pdu.specs.declared.pdu.Pdu.TheVariants.{Request, Response, Fault, Bind, BindAck, BindNak, AlterContext, AlterContextResp, Shutdown, CoCancel, Orphaned}
use Rattle.rpc_pdu.specs.declared.pdu_type.PduType.{PduType}
use Rattle.rpc_pdu.specs.declared.proposal.Proposal.{Proposal}
use Rattle.rpc_pdu.specs.declared.syntax.Syntax.{Syntax}
use Rattle.rpc_pdu.specs.declared.verdict.Verdict.{Verdict}
use Rattle.rpc_pdu.specs.Flags.{has_flag, flags_fit}
use Rattle.rpc_pdu.specs.PduTypes.{head_in, type_number, type_of}
use Rattle.rpc_pdu.specs.Reading.{padding_behind}

-- ---- parts of bodies

unfoldable pub syntax_text : Syntax → List ℕ
syntax_text s = uuid_text Little s.id ++ num Little 4 s.version

unfoldable pub proposal_text : Proposal → List ℕ
proposal_text p = num Little 2 p.id ++ num Little 1 (length p.transfers) ++ 0 ∷ [] ++ syntax_text p.abstract_syntax ++ flat_map syntax_text p.transfers

unfoldable pub verdict_text : Verdict → List ℕ
verdict_text v = num Little 2 v.result ++ num Little 2 v.reason ++ syntax_text v.syntax

unfoldable pub version_text : ℕ × ℕ → List ℕ
version_text v = num Little 1 v.0 ++ num Little 1 v.1

abbrev pub object_text : Option (List ℕ) → List ℕ
object_text None = []
object_text (Some id) = uuid_text Little id

-- ---- bodies

unfoldable pub request_text : ℕ → ℕ → ℕ → Option (List ℕ) → List ℕ → List ℕ
request_text hint context opnum object stub = num Little 4 hint ++ num Little 2 context ++ num Little 2 opnum ++ object_text object ++ stub

unfoldable pub response_text : ℕ → ℕ → ℕ → List ℕ → List ℕ
response_text hint context cancels stub = num Little 4 hint ++ num Little 2 context ++ num Little 1 cancels ++ 0 ∷ [] ++ stub

unfoldable pub fault_text : ℕ → ℕ → ℕ → ℕ → List ℕ
fault_text hint context cancels status =
    num Little 4 hint ++ num Little 2 context ++ num Little 1 cancels ++ 0 ∷ [] ++ num Little 4 status ++ 0 ∷ 0 ∷ 0 ∷ 0 ∷ []

unfoldable pub bind_text : ℕ → ℕ → ℕ → List Proposal → List ℕ
bind_text xmit recv group proposals =
    num Little 2 xmit ++ num Little 2 recv ++ num Little 4 group ++ num Little 1 (length proposals) ++ 0 ∷ 0 ∷ 0 ∷ [] ++ flat_map proposal_text proposals

unfoldable pub bind_ack_text : ℕ → ℕ → ℕ → List ℕ → List Verdict → List ℕ
bind_ack_text xmit recv group address verdicts =
    num Little 2 xmit ++ num Little 2 recv ++ num Little 4 group ++ num Little 2 (length address) ++ address ++ replicate (padding_behind (length address)) 0
    ++ num Little 1 (length verdicts) ++ 0 ∷ 0 ∷ 0 ∷ [] ++ flat_map verdict_text verdicts

unfoldable pub bind_nak_text : ℕ → List (ℕ × ℕ) → List ℕ
bind_nak_text reason versions = num Little 2 reason ++ num Little 1 (length versions) ++ flat_map version_text versions

abbrev pub body_text : Pdu → List ℕ
body_text (Request head hint context opnum object stub) = request_text hint context opnum object stub
body_text (Response head hint context cancels stub) = response_text hint context cancels stub
body_text (Fault head hint context cancels status) = fault_text hint context cancels status
body_text (Bind head xmit recv group proposals) = bind_text xmit recv group proposals
body_text (BindAck head xmit recv group address verdicts) = bind_ack_text xmit recv group address verdicts
body_text (BindNak head reason versions) = bind_nak_text reason versions
body_text (AlterContext head xmit recv group proposals) = bind_text xmit recv group proposals
body_text (AlterContextResp head xmit recv group address verdicts) = bind_ack_text xmit recv group address verdicts
body_text (Shutdown head) = []
body_text (CoCancel head) = []
body_text (Orphaned head) = []

-- ---- a whole PDU

-- A body behind its header.
unfoldable pub frame_text : PduType → Head → List ℕ → List ℕ
frame_text kind head body =
    5 ∷ head.minor ∷ type_number kind ∷ head.flags ∷ 0x10 ∷ 0 ∷ 0 ∷ 0 ∷ []
    ++ num Little 2 (16 + length body) ++ num Little 2 0 ++ num Little 4 head.call_id ++ body

unfoldable pub spelling : Pdu → List ℕ
spelling pdu = frame_text (type_of pdu) (head_in pdu) (body_text pdu)

-- Each list fits its count.
abbrev pub CountsFit : Pdu → Type 0
CountsFit (Bind head xmit recv group proposals) = (length proposals < 256) × AllByRecursion (λ p. length p.transfers < 256) proposals
CountsFit (BindAck head xmit recv group address verdicts) = (length address < 65536) × (length verdicts < 256)
CountsFit (BindNak head reason versions) = length versions < 256
CountsFit (AlterContext head xmit recv group proposals) = (length proposals < 256) × AllByRecursion (λ p. length p.transfers < 256) proposals
CountsFit (AlterContextResp head xmit recv group address verdicts) = (length address < 65536) × (length verdicts < 256)
CountsFit _ = Unit {0}

-- A request has an object exactly where its flags say so.
abbrev pub ObjectFits : Pdu → Type 0
ObjectFits (Request head hint context opnum object stub) = has_flag head.flags 0x80 ≡ is_some object
ObjectFits _ = Unit {0}

-- What has an encoding.
pub record CanSpell (pdu : Pdu) : Type 0 where
  pub minor : (head_in pdu).minor ≤ 1
  pub flags : IsTrue (flags_fit (type_of pdu) (head_in pdu).flags)
  pub object : ObjectFits pdu
  pub counts : CountsFit pdu
  pub size : 16 + length (body_text pdu) ≤ 65535

-- ---- reading back

-- What the types say of a PDU: its numbers keep to their widths, and identifiers have 16 bytes.
abbrev pub SyntaxInRange : Syntax → Type 0
SyntaxInRange s = (length s.id ≡ 16) × (s.version < 256 ^ 4)

abbrev pub ProposalInRange : Proposal → Type 0
ProposalInRange p = (p.id < 256 ^ 2) × SyntaxInRange p.abstract_syntax × AllByRecursion SyntaxInRange p.transfers

abbrev pub VerdictInRange : Verdict → Type 0
VerdictInRange v = (v.result < 256 ^ 2) × (v.reason < 256 ^ 2) × SyntaxInRange v.syntax

abbrev pub VersionInRange : ℕ × ℕ → Type 0
VersionInRange v = (v.0 < 256 ^ 1) × (v.1 < 256 ^ 1)

abbrev pub HeadInRange : Head → Type 0
HeadInRange head = (head.minor < 256 ^ 1) × (head.flags < 256 ^ 1) × (head.call_id < 256 ^ 4)

abbrev pub BodyInRange : Pdu → Type 0
BodyInRange (Request head hint context opnum object stub) = (hint < 256 ^ 4) × (context < 256 ^ 2) × (opnum < 256 ^ 2) × IfSome object (λ id. length id ≡ 16)
BodyInRange (Response head hint context cancels stub) = (hint < 256 ^ 4) × (context < 256 ^ 2) × (cancels < 256 ^ 1)
BodyInRange (Fault head hint context cancels status) = (hint < 256 ^ 4) × (context < 256 ^ 2) × (cancels < 256 ^ 1) × (status < 256 ^ 4)
BodyInRange (Bind head xmit recv group proposals) = (xmit < 256 ^ 2) × (recv < 256 ^ 2) × (group < 256 ^ 4) × AllByRecursion ProposalInRange proposals
BodyInRange (BindAck head xmit recv group address verdicts) = (xmit < 256 ^ 2) × (recv < 256 ^ 2) × (group < 256 ^ 4) × AllByRecursion VerdictInRange verdicts
BodyInRange (BindNak head reason versions) = (reason < 256 ^ 2) × AllByRecursion VersionInRange versions
BodyInRange (AlterContext head xmit recv group proposals) = (xmit < 256 ^ 2) × (recv < 256 ^ 2) × (group < 256 ^ 4) × AllByRecursion ProposalInRange proposals
BodyInRange (AlterContextResp head xmit recv group address verdicts) = (xmit < 256 ^ 2) × (recv < 256 ^ 2) × (group < 256 ^ 4)
    × AllByRecursion VerdictInRange verdicts
BodyInRange (Shutdown head) = Unit {0}
BodyInRange (CoCancel head) = Unit {0}
BodyInRange (Orphaned head) = Unit {0}

abbrev pub InRange : Pdu → Type 0
InRange pdu = HeadInRange (head_in pdu) × BodyInRange pdu

-- The PDU in little-endian order.
abbrev pub little : Head → Head
little head = record head { endian = Little }

abbrev pub in_little : Pdu → Pdu
in_little (Request head hint context opnum object stub) = Request (little head) hint context opnum object stub
in_little (Response head hint context cancels stub) = Response (little head) hint context cancels stub
in_little (Fault head hint context cancels status) = Fault (little head) hint context cancels status
in_little (Bind head xmit recv group proposals) = Bind (little head) xmit recv group proposals
in_little (BindAck head xmit recv group address verdicts) = BindAck (little head) xmit recv group address verdicts
in_little (BindNak head reason versions) = BindNak (little head) reason versions
in_little (AlterContext head xmit recv group proposals) = AlterContext (little head) xmit recv group proposals
in_little (AlterContextResp head xmit recv group address verdicts) = AlterContextResp (little head) xmit recv group address verdicts
in_little (Shutdown head) = Shutdown (little head)
in_little (CoCancel head) = CoCancel (little head)
in_little (Orphaned head) = Orphaned (little head)
