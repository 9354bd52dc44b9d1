-- Flags of a header, and which of them a type of PDU wants (C706 12.6.3.1).
use Rattle.std.specs.Prelude.{ℕ, Bool, true, not, ◌==◌, bit_and}
use Rattle.rpc_pdu.specs.declared.pdu_type.PduType.{PduType}
use Rattle.rpc_pdu.specs.declared.pdu_type.PduType.TheVariants.{Request, Response, Fault, Bind, BindAck, BindNak, AlterContext, AlterContextResp, Shutdown, CoCancel, Orphaned}

-- All bits of the flag stand.
abbrev pub has_flag : ℕ → ℕ → Bool
has_flag flags flag = bit_and flags flag == flag

-- What opens or changes an association, and its answers, are one fragment each (flags 0x01 and 0x02).
-- A request that wants no answer (flag 0x40) isn't taken.
abbrev pub flags_fit : PduType → ℕ → Bool
flags_fit Request flags = not (has_flag flags 0x40)
flags_fit Response flags = true
flags_fit Fault flags = true
flags_fit Bind flags = has_flag flags 0x03
flags_fit BindAck flags = has_flag flags 0x03
flags_fit BindNak flags = has_flag flags 0x03
flags_fit AlterContext flags = has_flag flags 0x03
flags_fit AlterContextResp flags = has_flag flags 0x03
flags_fit Shutdown flags = true
flags_fit CoCancel flags = true
flags_fit Orphaned flags = true
