-- A server of one registry, for one connection at a time.
use Rattle.std.specs.Prelude.{◌≡◌, ℕ, ◌<◌, ◌^◌, Option, None, Some}
use Rattle.context_handles.specs.Table.{Table, fresh, left}
use Rattle.registry_defs.specs.Keys.{Keys, root_alone}
use Rattle.rpc_assoc.specs.State.{State, group_of, unbound}

-- A server between two items of a client.
pub record ServerState : Type 0 where
  pub handles : Table
  -- the registry
  pub keys : Keys
  -- how many calls that update were made so far
  pub updates : ℕ
  -- the association of the connection that is present
  pub association : State

-- How many bytes the encoding of the registry may have.
abbrev pub most_size : ℕ
most_size = 1048576

abbrev pub new_server : ℕ → ServerState
new_server node = record { handles = fresh node; keys = root_alone; updates = 0; association = unbound }

-- The connection leaves its group, if it has one.
abbrev pub without : Option ℕ → Table → Table
without None table = table
without (Some group) table = left table group

-- The connection that was present ended.
abbrev pub hung_up : ServerState → ServerState
hung_up s = record s { handles = without (group_of s.association) s.handles; association = unbound }

-- What is always so.
pub record IsKept (cap updates : ℕ) : Type 0 where
  pub size : cap ≡ most_size
  pub few : updates < 2 ^ 63
