-- The types of PDU and their numbers (C706 12.6.4).
use Rattle.std.specs.Prelude.{ℕ, List, [], ◌∷◌, ◌==◌, Option, Some, None, if◌then◌else◌}
use Rattle.rpc_pdu.specs.declared.head.Head.{Head}
use Rattle.rpc_pdu.specs.declared.pdu.Pdu.{Pdu}
use Rattle.rpc_pdu.specs.declared.pdu.Pdu.TheVariants as pdus
use Rattle.rpc_pdu.specs.declared.pdu_type.PduType.{PduType}
use Rattle.rpc_pdu.specs.declared.pdu_type.PduType.TheVariants.{Request, Response, Fault, Bind, BindAck, BindNak, AlterContext, AlterContextResp, Shutdown, CoCancel, Orphaned}

-- The PTYPE of each type.
abbrev pub type_number : PduType → ℕ
type_number Request = 0
type_number Response = 2
type_number Fault = 3
type_number Bind = 11
type_number BindAck = 12
type_number BindNak = 13
type_number AlterContext = 14
type_number AlterContextResp = 15
type_number Shutdown = 17
type_number CoCancel = 18
type_number Orphaned = 19

-- The first of the types that has the number.
abbrev pub first_with : ℕ → List PduType → Option PduType
first_with number [] = None
first_with number (kind ∷ kinds) = if number == type_number kind then Some kind else first_with number kinds

-- The type that has the number, if one has it.
abbrev pub type_with : ℕ → Option PduType
type_with number =
    first_with number
    (Request ∷ Response ∷ Fault ∷ Bind ∷ BindAck ∷ BindNak ∷ AlterContext ∷ AlterContextResp ∷ Shutdown ∷ CoCancel ∷ Orphaned ∷ [])

abbrev pub type_of : Pdu → PduType
type_of (pdus.Request head hint context opnum object stub) = Request
type_of (pdus.Response head hint context cancels stub) = Response
type_of (pdus.Fault head hint context cancels status) = Fault
type_of (pdus.Bind head xmit recv group proposals) = Bind
type_of (pdus.BindAck head xmit recv group address verdicts) = BindAck
type_of (pdus.BindNak head reason versions) = BindNak
type_of (pdus.AlterContext head xmit recv group proposals) = AlterContext
type_of (pdus.AlterContextResp head xmit recv group address verdicts) = AlterContextResp
type_of (pdus.Shutdown head) = Shutdown
type_of (pdus.CoCancel head) = CoCancel
type_of (pdus.Orphaned head) = Orphaned

abbrev pub head_in : Pdu → Head
head_in (pdus.Request head hint context opnum object stub) = head
head_in (pdus.Response head hint context cancels stub) = head
head_in (pdus.Fault head hint context cancels status) = head
head_in (pdus.Bind head xmit recv group proposals) = head
head_in (pdus.BindAck head xmit recv group address verdicts) = head
head_in (pdus.BindNak head reason versions) = head
head_in (pdus.AlterContext head xmit recv group proposals) = head
head_in (pdus.AlterContextResp head xmit recv group address verdicts) = head
head_in (pdus.Shutdown head) = head
head_in (pdus.CoCancel head) = head
head_in (pdus.Orphaned head) = head
