-- What a frame stands for by itself.
use Rattle.std.specs.Prelude.{◌≡◌, ℕ, ◌==◌, List, slice_index, Option, Some, None, if◌then◌else◌}
use Rattle.wire_fields.specs.Reading.{number_in}
use Rattle.rpc_pdu.specs.declared.pdu_fault.PduFault.{PduFault}
use Rattle.rpc_pdu.specs.declared.pdu_fault.PduFault.TheVariants.{BadVersion, HasAuth}
use Rattle.rpc_pdu.specs.Encoding.{CountsFit}
use Rattle.rpc_pdu.specs.Grammar.{IsPdu, PduBad}
use Rattle.rpc_pdu.specs.Header.{order_of}
use Rattle.rpc_calls.specs.declared.item.Item.{Item}
use Rattle.rpc_calls.specs.declared.item.Item.TheVariants as items

abbrev pub no_reason : Option ℕ
no_reason = None

-- The reason of the bind_nak to a bind with this fault, where it gets one: the protocol version isn't
-- supported (4), or none is told (0) (C706 12.6.4.5).
abbrev pub refusal_of : PduFault → Option ℕ
refusal_of BadVersion = Some 4
refusal_of HasAuth = Some 0
refusal_of fault = None

-- The same for a frame with this fault, which may be a bind (PTYPE 11) or not.
abbrev pub refusal : List ℕ → PduFault → Option ℕ
refusal frame fault = if slice_index frame 2 == 11 then refusal_of fault else no_reason

-- The call id, whatever else is wrong with the frame.
abbrev pub call_id_in : List ℕ → ℕ
call_id_in frame = number_in (order_of frame) 4 12 frame

-- The frame is this PDU, or a bind that is refused for this reason.
abbrev pub IsPart : List ℕ → Item → Type 0
IsPart frame (items.Single pdu) = IsPdu frame pdu
IsPart frame (items.BadBind call_id reason) = (call_id ≡ call_id_in frame) × ((fault : PduFault) × PduBad frame fault × (refusal frame fault ≡ Some reason))
IsPart frame (items.Call call) = ⊥

-- The frame is neither.
abbrev pub FrameBad : List ℕ → PduFault → Type 0
FrameBad frame fault = PduBad frame fault × (refusal frame fault ≡ no_reason)

-- Each list of an item fits its count, so at most 255 contexts are proposed.
abbrev pub ItemFits : Item → Type 0
ItemFits (items.Single pdu) = CountsFit pdu
ItemFits item = Unit {0}
