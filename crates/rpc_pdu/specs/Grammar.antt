-- Which bytes spell which PDU (C706 12.6.4). Reserved bytes and padding may be any.
use Rattle.std.specs.Prelude.{◌≡◌, ℕ, ◌<◌, ◌^◌, ◌⊎◌, true, false, List, [], ◌++◌, length, drop, Option, Some, None}
use Rattle.wire_fields.specs.declared.endian.Endian.{Endian}
use Rattle.wire_fields.specs.Lists.{IsList}
use Rattle.wire_fields.specs.Numbers.{num, uuid_text}
use Rattle.rpc_pdu.specs.declared.pdu.Pdu.{Pdu}
use Rattle.rpc_pdu.specs.declared.pdu.Pdu.TheVariants.{Request, Response, Fault, Bind, BindAck, BindNak, AlterContext, AlterContextResp, Shutdown, CoCancel, Orphaned}
use Rattle.rpc_pdu.specs.declared.pdu_fault.PduFault.{PduFault}
use Rattle.rpc_pdu.specs.declared.pdu_fault.PduFault.TheVariants.{BadLength, Memory}
use Rattle.rpc_pdu.specs.declared.proposal.Proposal.{Proposal}
use Rattle.rpc_pdu.specs.declared.syntax.Syntax.{Syntax}
use Rattle.rpc_pdu.specs.declared.verdict.Verdict.{Verdict}
use Rattle.rpc_pdu.specs.Flags.{has_flag}
use Rattle.rpc_pdu.specs.Header.{IsHeader, header_fault}
use Rattle.rpc_pdu.specs.PduTypes.{head_in, type_of}
use Rattle.rpc_pdu.specs.Reading.{padding_behind}

-- ---- parts of bodies

abbrev pub IsSyntax : Endian → Syntax → List ℕ → Type 0
IsSyntax e s text = (length s.id ≡ 16) × (s.version < 256 ^ 4) × (text ≡ uuid_text e s.id ++ num e 4 s.version)

abbrev pub IsProposal : Endian → Proposal → List ℕ → Type 0
IsProposal e p text =
    (reserved : List ℕ) × (interface : List ℕ) × (transfers : List ℕ)
    × (length reserved ≡ 1) × IsSyntax e p.abstract_syntax interface × IsList (IsSyntax e) p.transfers transfers
    × (p.id < 256 ^ 2) × (length p.transfers < 256 ^ 1)
    × (text ≡ num e 2 p.id ++ (num e 1 (length p.transfers) ++ (reserved ++ (interface ++ transfers))))

abbrev pub IsVerdict : Endian → Verdict → List ℕ → Type 0
IsVerdict e v text =
    (syntax : List ℕ) × IsSyntax e v.syntax syntax × (v.result < 256 ^ 2) × (v.reason < 256 ^ 2)
    × (text ≡ num e 2 v.result ++ (num e 2 v.reason ++ syntax))

abbrev pub IsVersion : Endian → ℕ × ℕ → List ℕ → Type 0
IsVersion e v text = (v.0 < 256 ^ 1) × (v.1 < 256 ^ 1) × (text ≡ num e 1 v.0 ++ num e 1 v.1)

-- An object stands exactly where flag 0x80 does.
abbrev pub IsObject : ℕ → Endian → Option (List ℕ) → List ℕ → Type 0
IsObject flags e None text = (has_flag flags 0x80 ≡ false) × (text ≡ [])
IsObject flags e (Some id) text = (has_flag flags 0x80 ≡ true) × (length id ≡ 16) × (text ≡ uuid_text e id)

-- ---- bodies

-- The body of bind and alter_context.
abbrev pub IsBindBody : Endian → ℕ → ℕ → ℕ → List Proposal → List ℕ → Type 0
IsBindBody e xmit recv group proposals body =
    (reserved : List ℕ) × (contexts : List ℕ)
    × (length reserved ≡ 3) × IsList (IsProposal e) proposals contexts
    × (xmit < 256 ^ 2) × (recv < 256 ^ 2) × (group < 256 ^ 4) × (length proposals < 256 ^ 1)
    × (body ≡ num e 2 xmit ++ (num e 2 recv ++ (num e 4 group ++ (num e 1 (length proposals) ++ (reserved ++ contexts)))))

-- The body of bind_ack and alter_context_resp.
abbrev pub IsBindAckBody : Endian → ℕ → ℕ → ℕ → List ℕ → List Verdict → List ℕ → Type 0
IsBindAckBody e xmit recv group address verdicts body =
    (padding : List ℕ) × (reserved : List ℕ) × (outcomes : List ℕ)
    × (length padding ≡ padding_behind (length address)) × (length reserved ≡ 3) × IsList (IsVerdict e) verdicts outcomes
    × (xmit < 256 ^ 2) × (recv < 256 ^ 2) × (group < 256 ^ 4) × (length address < 256 ^ 2) × (length verdicts < 256 ^ 1)
    × (body
    ≡ num e 2 xmit ++ (num e 2 recv ++ (num e 4 group ++ (num e 2 (length address)
    ++ (address ++ (padding ++ (num e 1 (length verdicts) ++ (reserved ++ outcomes))))))))

-- Behind a fault and a bind_nak any bytes may stand.
abbrev pub IsBody : Pdu → List ℕ → Type 0
IsBody (Request head hint context opnum object stub) body =
    (id : List ℕ) × IsObject head.flags head.endian object id
    × (hint < 256 ^ 4) × (context < 256 ^ 2) × (opnum < 256 ^ 2)
    × (body ≡ num head.endian 4 hint ++ (num head.endian 2 context ++ (num head.endian 2 opnum ++ (id ++ stub))))
IsBody (Response head hint context cancels stub) body =
    (reserved : List ℕ) × (length reserved ≡ 1)
    × (hint < 256 ^ 4) × (context < 256 ^ 2) × (cancels < 256 ^ 1)
    × (body ≡ num head.endian 4 hint ++ (num head.endian 2 context ++ (num head.endian 1 cancels ++ (reserved ++ stub))))
IsBody (Fault head hint context cancels status) body =
    (reserved : List ℕ) × (second : List ℕ) × (behind : List ℕ) × (length reserved ≡ 1) × (length second ≡ 4)
    × (hint < 256 ^ 4) × (context < 256 ^ 2) × (cancels < 256 ^ 1) × (status < 256 ^ 4)
    × (body
    ≡ num head.endian 4 hint ++ (num head.endian 2 context ++ (num head.endian 1 cancels
    ++ (reserved ++ (num head.endian 4 status ++ (second ++ behind))))))
IsBody (Bind head xmit recv group proposals) body = IsBindBody head.endian xmit recv group proposals body
IsBody (BindAck head xmit recv group address verdicts) body = IsBindAckBody head.endian xmit recv group address verdicts body
IsBody (BindNak head reason versions) body =
    (listed : List ℕ) × (behind : List ℕ) × IsList (IsVersion head.endian) versions listed
    × (reason < 256 ^ 2) × (length versions < 256 ^ 1)
    × (body ≡ num head.endian 2 reason ++ (num head.endian 1 (length versions) ++ (listed ++ behind)))
IsBody (AlterContext head xmit recv group proposals) body = IsBindBody head.endian xmit recv group proposals body
IsBody (AlterContextResp head xmit recv group address verdicts) body = IsBindAckBody head.endian xmit recv group address verdicts body
IsBody (Shutdown head) body = body ≡ []
IsBody (CoCancel head) body = body ≡ []
IsBody (Orphaned head) body = body ≡ []

-- ---- a whole PDU

-- The bytes spell the PDU.
pub record IsPdu (bytes : List ℕ) (pdu : Pdu) : Type 0 where
  pub header : IsHeader bytes (type_of pdu) (head_in pdu)
  pub body : IsBody pdu (drop 16 bytes)

-- The bytes spell no PDU: the fault is that of their header, and else of the body's length.
abbrev pub PduBad : List ℕ → PduFault → Type 0
PduBad bytes fault =
    (header_fault bytes ≡ Some fault)
    ⊎ ((header_fault bytes ≡ None) × (fault ≡ BadLength) × ((pdu : Pdu) → IsPdu bytes pdu → ⊥))

-- A call may answer the fault: memory ran out, or the bytes spell no PDU.
abbrev pub MayFail : List ℕ → PduFault → Type 0
MayFail bytes fault = (fault ≡ Memory) ⊎ PduBad bytes fault
