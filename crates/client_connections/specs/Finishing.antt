-- The answer of an update that came to its outcome, and a batch.
use Rattle.std.specs.Prelude.{ℕ, ◌+◌, ◌==◌, ◌&&◌, Bool, List, [], ◌∷◌, ◌++◌, nat_lt, Option, Some, None, if◌then◌else◌}
use Rattle.std.specs.Option.{unwrap_or}
use Rattle.ndr_values.specs.declared.handle.WireHandle.{WireHandle}
use Rattle.registry_defs.specs.declared.outcome.Outcome.{Outcome}
use Rattle.context_handles.specs.declared.held.Held.{Held}
use Rattle.context_handles.specs.declared.held.Kind.TheVariants.{Key}
use Rattle.context_handles.specs.Table.{Table, opened}
use Rattle.clusapi_methods.specs.Finishing.{finished_as}
use Rattle.rpc_assoc.specs.Association.{reply_size}
use Rattle.rpc_assoc.specs.State.{State, group_of}
use Rattle.cluster_rules.specs.declared.effect.Effect.{Effect}
use Rattle.cluster_rules.specs.declared.effect.Effect.TheVariants.{Batched, Reply}
use Rattle.client_connections.specs.declared.finishing.Finished.{Finished}
use Rattle.client_connections.specs.declared.origin.Origin.{Origin}
use Rattle.client_connections.specs.declared.origin.Origin.TheVariants.{Call, Batch}
use Rattle.client_connections.specs.Clients.{Client, Clients, Common, client_at}
use Rattle.client_connections.specs.Items.{most_taken, next_handle, results_text}

-- The clients behind an event, its effect if it has one, and the connection that may go on with its items.
pub record Finish : Type 0 where
  pub clients : Clients
  pub effect : Option Effect
  pub resumes : Option ℕ

-- What was answered, with the clients behind it.
abbrev pub finish : Clients → Finished → Finish
finish s end = record { clients = s; effect = end.effect; resumes = end.resumes }

-- ---- the handle of a key that was created

-- What a Create that was made opens a handle on.
abbrev pub opened_on : Option (List (List ℕ)) → Outcome → Option Held
opened_on None outcome = None
opened_on (Some path) outcome = if outcome.status == 0 then Some (record { kind = Key; path = path; birth = outcome.birth }) else None

-- It is opened in the group of the connection, which is bound.
abbrev pub opened_in : Option ℕ → Option Held → Table → Option WireHandle × Table
opened_in (Some group) (Some held) table = (Some (next_handle table), opened table group held)
opened_in group held table = (None, table)

-- ---- the reply

abbrev pub reply_of : ℕ → ℕ → State → ℕ → ℕ → ℕ → Outcome → Option WireHandle → Effect
reply_of conn place association call_id context opnum outcome handle =
    Reply conn (Some place) (results_text (reply_size association.terms) call_id context (finished_as opnum outcome handle))

-- The call is answered, with the place of its update as the point, and its connection goes on.
abbrev pub replied : ℕ → ℕ → ℕ → ℕ → Outcome → ℕ → State → Option WireHandle × Table → Clients → Finish
replied conn call_id context opnum outcome place association (handle, table) s = record {
  clients = record s { common = record (s.common) { table = table } };
  effect = Some (reply_of conn place association call_id context opnum outcome handle);
  resumes = Some conn;
}

abbrev pub unanswered : Clients → Finish
unanswered s = record { clients = s; effect = None; resumes = None }

-- A call whose connection is gone is answered nothing, and opens no handle.
abbrev pub call_finished : ℕ → ℕ → ℕ → ℕ → Option (List (List ℕ)) → ℕ → Outcome → Option Client → Clients → Finish
call_finished conn call_id context opnum target place outcome None s = unanswered s
call_finished conn call_id context opnum target place outcome (Some k) s =
    replied conn call_id context opnum outcome place k.association (opened_in (group_of k.association) (opened_on target outcome) s.common.table) s

-- ---- the first that waits

abbrev pub finished_for : Origin → ℕ → ℕ → Outcome → Clients → Finish
finished_for Batch req place outcome s = record { clients = s; effect = Some (Batched req (Some place) outcome.status outcome.index); resumes = None }
finished_for (Call conn call_id context opnum target) req place outcome s = call_finished conn call_id context opnum target place outcome (client_at conn s) s

-- The update wasn't applied here.
abbrev pub not_applied : Outcome
not_applied = record { status = 70; disposition = 0; birth = 0; index = 0 }

abbrev pub without_first : Clients → List Origin → Clients
without_first s others = record s { common = record (s.common) { waiting = others } }

-- The first that waits is answered by the outcome of its update, which was the node's request with this number.
abbrev pub finished : List Origin → ℕ → ℕ → Option Outcome → Clients → Finish
finished [] req place outcome s = unanswered s
finished (origin ∷ others) req place outcome s = finished_for origin req place (unwrap_or outcome not_applied) (without_first s others)

-- ---- a batch

-- It is queued where the node is open and has room for it, and else answered at once.
abbrev pub may_batch : Bool → Common → Bool
may_batch is_open s = is_open && nat_lt s.taken most_taken

abbrev pub queued : Origin → Common → Common
queued origin s = record s { waiting = s.waiting ++ origin ∷ []; taken = s.taken + 1 }

abbrev pub refused_batch : Option Effect
refused_batch = Some (Batched 0 None 70 0)

abbrev pub batched : Bool → Clients → Clients × Option Effect
batched is_open s = if may_batch is_open s.common then (record s { common = queued Batch s.common }, None) else (s, refused_batch)
