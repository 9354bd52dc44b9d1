-- Fragments of calls: which PDUs they are, and what they say (C706 12.6.3.1).
use Rattle.std.specs.Prelude.{ℕ, Bool, List, Option, Some, None}
use Rattle.rpc_pdu.specs.Flags.{has_flag}
use Rattle.rpc_pdu.specs.declared.pdu.Pdu.TheVariants.{Request, Response, Orphaned}
use Rattle.rpc_calls.specs.declared.call.Call.{Call}
use Rattle.rpc_calls.specs.declared.item.Item.{Item}
use Rattle.rpc_calls.specs.declared.item.Item.TheVariants.{Single}
use Rattle.rpc_calls.specs.declared.side.Side.{Side}
use Rattle.rpc_calls.specs.declared.side.Side.TheVariants.{Server, Client}

abbrev pub is_first : ℕ → Bool
is_first flags = has_flag flags 0x01

abbrev pub is_last : ℕ → Bool
is_last flags = has_flag flags 0x02

-- A call with the fragment's own stub, and the fragment's flags, where the part is a fragment of this side.
abbrev pub fragment_of : Side → Item → Option (Call × ℕ)
fragment_of Server (Single (Request head hint context opnum object stub)) =
    Some (record { context = context; opnum = opnum; call_id = head.call_id; endian = head.endian; stub = stub }, head.flags)
fragment_of Client (Single (Response head hint context cancels stub)) =
    Some (record { context = context; opnum = 0; call_id = head.call_id; endian = head.endian; stub = stub }, head.flags)
fragment_of side part = None

-- The id of the call that the part gives up, if it does.
abbrev pub orphan_of : Item → Option ℕ
orphan_of (Single (Orphaned head)) = Some head.call_id
orphan_of part = None

-- A call with another stub.
abbrev pub with_stub : Call → List ℕ → Call
with_stub call stub = record { context = call.context; opnum = call.opnum; call_id = call.call_id; endian = call.endian; stub = stub }
