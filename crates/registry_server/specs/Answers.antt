-- What each item of a client's stream is answered, and what it changes.
use Rattle.std.specs.Prelude.{ℕ, List, [], ◌∷◌, ◌++◌, flat_map, Option, None, Some}
use Rattle.context_handles.specs.Table.{group_for, joined}
use Rattle.rpc_pdu.specs.declared.pdu.Pdu.{Pdu}
use Rattle.rpc_pdu.specs.Encoding.{spelling}
use Rattle.rpc_calls.specs.declared.call.Call as calls
use Rattle.rpc_calls.specs.declared.item.Item.{Item}
use Rattle.rpc_assoc.specs.declared.assoc.AssocOut.{AssocOut}
use Rattle.rpc_assoc.specs.declared.assoc.AssocOut.TheVariants.{Call, Nothing, Reply}
use Rattle.rpc_assoc.specs.Association.{group_wanted, reply_size, step_of}
use Rattle.rpc_assoc.specs.State.{State, group_of}
use Rattle.registry_server.specs.declared.effect.Effect.{Effect}
use Rattle.registry_server.specs.Calls.{called}
use Rattle.registry_server.specs.Replies.{replies_to}
use Rattle.registry_server.specs.Servers.{ServerState}

-- ---- groups

-- What the table gives to a bind that asks for a group.
abbrev pub group_given : ServerState → Option ℕ → Option ℕ
group_given s None = None
group_given s (Some asked) = group_for s.handles asked

-- The group that the item gets, where it is a bind that may have one.
abbrev pub given_group : ServerState → Item → Option ℕ
given_group s item = group_given s (group_wanted s.association item)

-- The connection is in this group from now on.
abbrev pub in_group : ServerState → Option ℕ → ServerState
in_group s None = s
in_group s (Some group) = record s { handles = joined s.handles (Some group) }

-- ---- one item

-- What comes of the association's step.
abbrev pub stepped : ServerState → AssocOut × State → AssocOut × ServerState
stepped s (out, next) = (out, record s { association = next })

-- The association takes the item, in the group that it gets.
abbrev pub taken : ServerState → Item → AssocOut × ServerState
taken s item = stepped (in_group s (given_group s item)) (step_of s.association item (given_group s item))

-- What a call came to, in fragments that the client takes.
abbrev pub replied : calls.Call → Effect × ServerState → List Pdu × ServerState
replied call (effect, next) = (replies_to (reply_size next.association.terms) call effect, next)

-- A call that is taken is that of a connection in a group, since no context is accepted before the bind.
abbrev pub call_answered : ServerState → calls.Call → Option ℕ → List Pdu × ServerState
call_answered s call None = ([], s)
call_answered s call (Some group) = replied call (called s group call)

abbrev pub answered : AssocOut × ServerState → List Pdu × ServerState
answered (Reply reply, s) = (reply ∷ [], s)
answered (Call call, s) = call_answered s call (group_of s.association)
answered (Nothing, s) = ([], s)

-- The replies to an item, and the server behind it.
unfoldable pub answer_to : ServerState → Item → List Pdu × ServerState
answer_to s item = answered (taken s item)

-- ---- items in turn

abbrev pub text_of : List Pdu → List ℕ
text_of replies = flat_map spelling replies

-- The replies to the items as bytes, and the server behind them.
unfoldable pub answers : ServerState → List Item → List ℕ × ServerState
answers s [] = ([], s)
answers s (item ∷ items) = (text_of (answer_to s item).0 ++ (answers (answer_to s item).1 items).0, (answers (answer_to s item).1 items).1)
