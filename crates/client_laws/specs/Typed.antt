-- What the types of the code hold of a node's clients.
use Rattle.std.specs.Prelude.{◌≡◌, ℕ, ◌<◌, ◌^◌, List, Option, Some, IfSome}
use Rattle.std.specs.List.{AllByRecursion}
use Rattle.wire_fields.specs.Numbers.{IsBytes}
use Rattle.clus_names.specs.Limits.{IsPath}
use Rattle.update_records.specs.Limits.{IsKey}
use Rattle.registry_defs.specs.declared.outcome.Outcome.{Outcome}
use Rattle.registry_defs.specs.Keys.{KeyData, Keys, key_at}
use Rattle.context_handles.specs.declared.held.Entry.{Entry}
use Rattle.rpc_calls.specs.declared.item.Item.{Item}
use Rattle.rpc_calls.specs.Intakes.{Holds, Kept}
use Rattle.client_connections.specs.declared.origin.Origin.{Origin}
use Rattle.client_connections.specs.declared.origin.Origin.TheVariants.{Call, Batch}
use Rattle.client_connections.specs.Clients.{Client, Clients, Common}

-- Creation numbers have 64 bits: those of the registry that a client reads, and that of an outcome.
pub record AreBorn (keys : Keys) : Type 0 where
  pub each : (path : List (List ℕ)) (key : KeyData) → key_at path keys ≡ Some key → key.birth < 2 ^ 64

abbrev pub AreBornIn : Option Keys → Type 0
AreBornIn keys = IfSome keys AreBorn

abbrev pub IsBorn : Outcome → Type 0
IsBorn outcome = outcome.birth < 2 ^ 64

-- Each handle was opened on a key.
abbrev pub IsHeld : ℕ × Entry → Type 0
IsHeld (serial, entry) = IsKey entry.held.path entry.held.birth

-- What a Create makes has a path.
abbrev pub IsTarget : Origin → Type 0
IsTarget (Call conn call_id context opnum target) = IfSome target IsPath
IsTarget Batch = Unit {0}

-- A stream of bytes was fed, and these items were given of it.
pub record IsFed (kept : Kept) : Type 0 where
  pub stream : List ℕ
  pub given : List Item
  pub bytes : IsBytes stream
  pub holds : Holds kept stream given

abbrev pub IsFedClient : ℕ × Client → Type 0
IsFedClient (conn, client) = IsFed client.intake

pub record IsTypedCommon (s : Common) : Type 0 where
  pub handles : AllByRecursion IsHeld s.table.entries
  pub targets : AllByRecursion IsTarget s.waiting

pub record AreTyped (s : Clients) : Type 0 where
  pub common : IsTypedCommon s.common
  pub conns : AllByRecursion IsFedClient s.conns
