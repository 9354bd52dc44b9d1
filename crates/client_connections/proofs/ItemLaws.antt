-- What an item comes to is what comes of its step.
use Rattle.std.proofs.Common.{◌≡◌, ℕ, Option, sym, ap}
use Rattle.registry_defs.specs.Keys.{Keys}
use Rattle.rpc_calls.specs.declared.item.Item.{Item}
use Rattle.rpc_assoc.specs.declared.assoc.AssocOut.{AssocOut}
use Rattle.client_connections.specs.Items.{ClientState, answered, item_of, taken}

pub item_is : (keys : Option Keys) (conn : ℕ) (s next : ClientState) (item : Item) (out : AssocOut) → (out, next) ≡ taken s item
    → item_of keys conn s item ≡ answered keys conn (out, next)
unfolding item_of
item_is keys conn s next item out step = ap (answered keys conn) (sym step)
