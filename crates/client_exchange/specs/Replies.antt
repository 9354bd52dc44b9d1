-- Which items are awaited, and what they say.
use Rattle.std.specs.Prelude.{◌≡◌, ℕ, min, nat_lt, nat_le, ◌==◌, ◌&&◌, Bool, false, not, ◌||◌, if◌then◌else◌, List, [], ◌∷◌, Option, None, Some, Result, Ok, Err}
use Rattle.rpc_pdu.specs.declared.pdu.Pdu.{Pdu}
use Rattle.rpc_pdu.specs.declared.pdu.Pdu.TheVariants as pdus
use Rattle.rpc_pdu.specs.declared.verdict.Verdict.{Verdict}
use Rattle.rpc_calls.specs.declared.call.Call.{Call}
use Rattle.rpc_calls.specs.declared.item.Item.{Item}
use Rattle.rpc_calls.specs.declared.item.Item.TheVariants as items
use Rattle.rpc_assoc.specs.Verdicts.{ndr, same_syntax}
use Rattle.clusapi_stubs.specs.declared.fault.InFault.{InFault}
use Rattle.clusapi_stubs.specs.declared.output.Out.{Out}
use Rattle.clusapi_stubs.specs.Results.{TextsLackZero, output_in}
use Rattle.client_exchange.specs.declared.replies.Reply.{Reply}
use Rattle.client_exchange.specs.declared.replies.Reply.TheVariants.{Fault, Results}
use Rattle.client_exchange.specs.Stages.{greatest, least}

-- ---- the answer to the bind

abbrev pub is_ndr : Verdict → Bool
is_ndr verdict = verdict.result == 0 && verdict.reason == 0 && same_syntax verdict.syntax ndr

-- The one context is accepted, in the one transfer syntax.
abbrev pub are_ndr : List Verdict → Bool
are_ndr (verdict ∷ []) = is_ndr verdict
are_ndr verdicts = false

-- A bind_ack with the bind's call id. It tells the longest fragment that is sent from then on.
abbrev pub accepted_by : Pdu → Option ℕ
accepted_by (pdus.BindAck head max_xmit max_recv group address verdicts) =
    if not (head.call_id == 1) || nat_lt max_xmit least || nat_lt max_recv least then None
    else if not (are_ndr verdicts) then None
    else Some (min max_recv greatest)
accepted_by pdu = None

abbrev pub accepted_size : Item → Option ℕ
accepted_size (items.Single pdu) = accepted_by pdu
accepted_size item = None

-- ---- the answer to a request

abbrev pub if_read : Result Out InFault → Option Reply
if_read (Ok out) = Some (Results out)
if_read (Err fault) = None

-- A call with the request's call id, a prefix of whose stub spells the results of its method.
abbrev pub results_in : ℕ → ℕ → Call → Option Reply
results_in opnum call_id call = if call.call_id == call_id then if_read (output_in opnum call.endian call.stub) else None

-- Or a fault with that call id.
abbrev pub fault_in : ℕ → Pdu → Option Reply
fault_in call_id (pdus.Fault head hint context cancels status) = if head.call_id == call_id then Some (Fault status) else None
fault_in call_id pdu = None

abbrev pub reply_in : ℕ → ℕ → Item → Option Reply
reply_in opnum call_id (items.Call call) = results_in opnum call_id call
reply_in opnum call_id (items.Single pdu) = fault_in call_id pdu
reply_in opnum call_id (items.BadBind id reason) = None

abbrev pub ReplyFits : Reply → Type 0
ReplyFits (Results out) = TextsLackZero out
ReplyFits (Fault status) = Unit {0}
