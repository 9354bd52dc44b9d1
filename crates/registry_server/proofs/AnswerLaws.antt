-- The answer to an item is what comes of its step.
use Rattle.std.proofs.Common.{◌≡◌, Result, Ok, Err, IfOk, sym, ap}
use Rattle.rpc_calls.specs.declared.item.Item.{Item}
use Rattle.rpc_assoc.specs.declared.assoc.AssocOut.{AssocOut}
use Rattle.registry_server.specs.Answers.{answer_to, answered, taken}
use Rattle.registry_server.specs.Servers.{ServerState}

pub answer_is : (s next : ServerState) (item : Item) (out : AssocOut) → (out, next) ≡ taken s item → answer_to s item ≡ answered (out, next)
unfolding answer_to
answer_is s next item out step = ap answered (sym step)

-- The server is the same whether there is room for the bytes or not.
pub whatever : {T E : Type 0} (result : Result T E) (a b : ServerState) → a ≡ b → IfOk result (λ _. a ≡ b)
whatever (Ok value) a b same = same
whatever (Err fault) a b same = tt
