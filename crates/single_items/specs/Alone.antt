-- What the items of a client come to at a node that is alone: what it would queue, it does at once.
use Rattle.std.specs.Prelude.{ℕ, ◌+◌, Bool, true, false, not, ◌&&◌, List, [], ◌∷◌, ◌++◌, length, Option, Some, nat_lt, if◌then◌else◌}
use Rattle.std.specs.List.{fold}
use Rattle.ndr_values.specs.declared.handle.WireHandle.{WireHandle}
use Rattle.update_records.specs.Entry.{Entry}
use Rattle.update_records.specs.declared.update.Update.{Update}
use Rattle.registry_defs.specs.declared.outcome.Outcome.{Outcome}
use Rattle.clusapi_methods.specs.Finishing.{finished_as}
use Rattle.context_handles.specs.Table.{Table, fresh}
use Rattle.rpc_calls.specs.declared.item.Item.{Item}
use Rattle.rpc_assoc.specs.Association.{reply_size}
use Rattle.rpc_assoc.specs.State.{State, group_of, unbound}
use Rattle.registry_server.specs.Servers.{without}
use Rattle.gum_core.specs.Updating.{last_place}
use Rattle.registry_machine.specs.Machine.{registry_machine}
use Rattle.client_connections.specs.declared.origin.Origin.{Origin}
use Rattle.client_connections.specs.declared.origin.Origin.TheVariants.{Call, Batch}
use Rattle.client_connections.specs.declared.took.Took.{Took}
use Rattle.client_connections.specs.declared.took.Took.TheVariants.{Nothing, Reply, Queues}
use Rattle.client_connections.specs.Finishing.{opened_in, opened_on}
use Rattle.client_connections.specs.Items.{ClientState, item_of, most_taken, results_text, state}
use Rattle.single_rules.specs.Single.{Single, made, outcome_of, over_order, updated}

-- The node between two items of a connection, and what these came to so far.
pub record AloneRun : Type 0 where
  -- what the connection was sent, and the records that were made for it
  pub output : List ℕ
  pub records : List Entry
  -- the protocol's part of the node, and what an item of the connection may change
  pub single : Single registry_machine
  pub client : ClientState
  -- how many items the node has taken
  pub taken : ℕ
  -- whether an update of the connection waits for a place, since the log is full
  pub waits : Bool

-- ---- an update

abbrev pub replied_alone : ℕ → ℕ → ℕ → Outcome → State → Option WireHandle × Table → List ℕ × ClientState
replied_alone call_id context opnum outcome association (handle, handles) =
    (results_text (reply_size association.terms) call_id context (finished_as opnum outcome handle), state handles association)

-- The reply to the call that made the update.
abbrev pub answer_alone : Origin → Outcome → ClientState → List ℕ × ClientState
answer_alone Batch outcome n = ([], n)
answer_alone (Call conn call_id context opnum target) outcome n =
    replied_alone call_id context opnum outcome n.association (opened_in (group_of n.association) (opened_on target outcome) n.handles)

abbrev pub done_alone : Update → List ℕ × ClientState → AloneRun → AloneRun
done_alone u (bytes, n) r = record r { output = r.output ++ bytes; records = r.records ++ made r.single u ∷ []; single = updated r.single u; client = n }

-- It gets the next place at once, if there is one.
abbrev pub update_alone : Origin → Update → AloneRun → AloneRun
update_alone origin u r =
    if nat_lt r.single.done last_place then done_alone u (answer_alone origin (outcome_of r.single u) r.client) r
    else record r { waits = true }

-- ---- items

-- An item was taken, and the connection is in this state behind it.
abbrev pub counted_alone : ClientState → AloneRun → AloneRun
counted_alone n r = record r { client = n; taken = r.taken + 1 }

abbrev pub replies_alone : List ℕ → AloneRun → AloneRun
replies_alone bytes r = record r { output = r.output ++ bytes }

abbrev pub took_alone : Took × ClientState → AloneRun → AloneRun
took_alone (Nothing, n) r = counted_alone n r
took_alone (Reply bytes reads, n) r = replies_alone bytes (counted_alone n r)
took_alone (Queues origin u, n) r = update_alone origin u (counted_alone n r)

-- No item is taken behind an update that waits, and none past the number of items.
abbrev pub takes_alone : AloneRun → Bool
takes_alone r = not r.waits && nat_lt r.taken most_taken

abbrev pub item_alone : ℕ → AloneRun → Item → AloneRun
item_alone c r item = if takes_alone r then took_alone (item_of (Some r.single.registry.keys) c r.client item) r else r

-- The items of connection `c`, in turn.
abbrev pub alone : ℕ → AloneRun → List Item → AloneRun
alone c r items = fold (item_alone c) r items

-- ---- connections

-- A connection begins at a node that has none.
abbrev pub begins_alone : Single registry_machine → Table → ℕ → AloneRun
begins_alone a handles taken = record { output = []; records = []; single = a; client = state handles unbound; taken = taken; waits = false }

-- The groups and handles behind a connection.
abbrev pub handles_behind : AloneRun → Table
handles_behind r = without (group_of r.client.association) r.client.handles

-- The next connection begins where this one has ended.
abbrev pub next_alone : AloneRun → AloneRun
next_alone r = begins_alone r.single (handles_behind r) r.taken

-- Node 1 has opened over a log of this capacity that holds this order: its incarnation is one more than the records found.
abbrev pub opened_alone : ℕ → List Entry → ℕ → AloneRun
opened_alone cap order stamp = begins_alone (over_order registry_machine 1 (length order + 1) 1 stamp cap order) (fresh 1) 0
