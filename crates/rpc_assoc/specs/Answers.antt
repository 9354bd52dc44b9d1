-- The PDUs that answer a client: little-endian, with minor version 0 and the call id of what they answer.
use Rattle.std.specs.Prelude.{ℕ, List, [], ◌∷◌}
use Rattle.wire_fields.specs.declared.endian.Endian.TheVariants.{Little}
use Rattle.rpc_pdu.specs.declared.head.Head.{Head}
use Rattle.rpc_pdu.specs.declared.pdu.Pdu.{Pdu}
use Rattle.rpc_pdu.specs.declared.pdu.Pdu.TheVariants.{Fault, BindAck, BindNak, AlterContextResp}
use Rattle.rpc_pdu.specs.declared.verdict.Verdict.{Verdict}
use Rattle.rpc_assoc.specs.declared.terms.Terms.{Terms}

abbrev pub head_of : ℕ → ℕ → Head
head_of call_id flags = record { endian = Little; minor = 0; flags = flags; call_id = call_id }

-- A bind is refused; the server speaks version 5.0 alone.
abbrev pub nak : ℕ → ℕ → Pdu
nak call_id reason = BindNak (head_of call_id 0x03) reason ((5, 0) ∷ [])

abbrev pub accepts_bind : ℕ → Terms → List Verdict → Pdu
accepts_bind call_id terms verdicts = BindAck (head_of call_id 0x03) terms.max_xmit terms.max_recv terms.group [] verdicts

abbrev pub accepts_alter : ℕ → Terms → List Verdict → Pdu
accepts_alter call_id terms verdicts = AlterContextResp (head_of call_id 0x03) terms.max_xmit terms.max_recv terms.group [] verdicts

-- A call fails with this status and wasn't executed (flag 0x20).
abbrev pub fault_on : ℕ → ℕ → ℕ → Pdu
fault_on call_id context status = Fault (head_of call_id 0x23) 0 context 0 status
