-- The answer of an association to each item of a client's stream (C706, 12.6.3 and 12.6.4).
use Rattle.std.specs.Prelude.{ℕ, Bool, IsTrue, min, nat_lt, ◌==◌, ◌||◌, ◌++◌, List, map, Option, Some, None, is_some, if◌then◌else◌}
use Rattle.std.specs.List.{list_any}
use Rattle.rpc_calls.specs.declared.call.Call as calls
use Rattle.rpc_calls.specs.declared.item.Item.{Item}
use Rattle.rpc_calls.specs.declared.item.Item.TheVariants as items
use Rattle.rpc_pdu.specs.declared.pdu.Pdu.{Pdu}
use Rattle.rpc_pdu.specs.declared.pdu.Pdu.TheVariants.{Bind, AlterContext}
use Rattle.rpc_pdu.specs.declared.proposal.Proposal.{Proposal}
use Rattle.rpc_pdu.specs.Encoding.{CanSpell}
use Rattle.rpc_assoc.specs.declared.assoc.AssocOut.{AssocOut}
use Rattle.rpc_assoc.specs.declared.assoc.AssocOut.TheVariants.{Reply, Call, Nothing}
use Rattle.rpc_assoc.specs.declared.terms.Terms.{Terms}
use Rattle.rpc_assoc.specs.Answers.{accepts_alter, accepts_bind, fault_on, nak}
use Rattle.rpc_assoc.specs.State.{State, group_of}
use Rattle.rpc_assoc.specs.Verdicts.{accepted_in, verdict_of}

-- A client that can't take or send fragments of 1,432 bytes is refused.
abbrev pub is_too_small : ℕ → ℕ → Bool
is_too_small max_xmit max_recv = nat_lt max_xmit 1432 || nat_lt max_recv 1432

-- What a bind is answered that may have the group: each side sends no more than the other takes.
abbrev pub terms_for : ℕ → ℕ → ℕ → Terms
terms_for max_xmit max_recv group = record { max_xmit = min max_recv 5840; max_recv = min max_xmit 5840; group = group }

-- Accepted contexts are remembered.
abbrev pub bound : State → Terms → List Proposal → State
bound s terms proposals = record { terms = Some terms; accepted = s.accepted ++ accepted_in proposals }

abbrev pub admit : State → ℕ → Terms → List Proposal → AssocOut × State
admit s call_id terms proposals = (Reply (accepts_bind call_id terms (map verdict_of proposals)), bound s terms proposals)

-- The group that the bind gets is the last argument; None where it can't have one.
abbrev pub in_group : State → ℕ → ℕ → ℕ → List Proposal → Option ℕ → AssocOut × State
in_group s call_id max_xmit max_recv proposals None = (Reply (nak call_id 0), s)
in_group s call_id max_xmit max_recv proposals (Some group) = admit s call_id (terms_for max_xmit max_recv group) proposals

-- A second bind is refused (reason 0), and so is one of too small fragments (reason 2: a local limit).
unfoldable pub bind_answer : State → ℕ → ℕ → ℕ → List Proposal → Option ℕ → AssocOut × State
bind_answer s call_id max_xmit max_recv proposals group =
    if is_some s.terms then (Reply (nak call_id 0), s)
    else if is_too_small max_xmit max_recv then (Reply (nak call_id 2), s)
    else in_group s call_id max_xmit max_recv proposals group

-- Further contexts are proposed on a bound association alone.
abbrev pub alter_by : State → ℕ → List Proposal → Option Terms → AssocOut × State
alter_by s call_id proposals None = (Reply (nak call_id 0), s)
alter_by s call_id proposals (Some terms) = (Reply (accepts_alter call_id terms (map verdict_of proposals)), bound s terms proposals)

unfoldable pub alter_answer : State → ℕ → List Proposal → AssocOut × State
alter_answer s call_id proposals = alter_by s call_id proposals s.terms

-- A call on a context that wasn't accepted fails with nca_s_unk_if.
unfoldable pub call_answer : State → calls.Call → AssocOut × State
call_answer s call =
    if list_any (λ id. id == call.context) s.accepted then (Call call, s)
    else (Reply (fault_on call.call_id call.context 0x1C010003), s)

-- The answers to a PDU that is no fragment of a call.
unfoldable pub single_answer : State → Pdu → Option ℕ → AssocOut × State
single_answer s (Bind head max_xmit max_recv wanted proposals) group = bind_answer s head.call_id max_xmit max_recv proposals group
single_answer s (AlterContext head max_xmit max_recv wanted proposals) group = alter_answer s head.call_id proposals
single_answer s _ group = (Nothing, s)

-- The table of answers.
unfoldable pub step_of : State → Item → Option ℕ → AssocOut × State
step_of s (items.Call call) group = call_answer s call
step_of s (items.Single pdu) group = single_answer s pdu group
step_of s (items.BadBind call_id reason) group = (Reply (nak call_id reason), s)

-- The group that the item asks for: a bind that isn't refused whatever its group.
abbrev pub group_in : State → Pdu → Option ℕ
group_in s (Bind head max_xmit max_recv wanted proposals) =
    if is_some s.terms || is_too_small max_xmit max_recv then None else Some wanted
group_in s _ = None

abbrev pub group_wanted : State → Item → Option ℕ
group_wanted s (items.Single pdu) = group_in s pdu
group_wanted s _ = None

-- The longest fragment that the server sends; before a bind, the longest that it ever sends.
abbrev pub reply_size : Option Terms → ℕ
reply_size None = 5840
reply_size (Some terms) = terms.max_xmit

-- Whether a reply has an encoding.
abbrev pub SpellsReply : AssocOut → Type 0
SpellsReply (Reply reply) = CanSpell reply
SpellsReply _ = Unit {0}

-- A call that is taken is that of a connection in a group.
abbrev pub IsInGroup : AssocOut → State → Type 0
IsInGroup (Call call) s = IsTrue (is_some (group_of s))
IsInGroup _ s = Unit {0}

abbrev pub IsNoCall : AssocOut → Type 0
IsNoCall (Call call) = ⊥
IsNoCall _ = Unit {0}
