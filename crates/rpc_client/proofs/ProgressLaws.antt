-- What a client has yet to give grows less.
use Rattle.std.proofs.Common.{◌≡◌, ℕ, ◌<◌, ◌≤◌, List, length, Option, None, Some, ap, arith}
use Rattle.rpc_calls.specs.declared.item.Item.{Item}
use Rattle.client_exchange.specs.Exchange.{Answered, answered}
use Rattle.rpc_client.specs.Clients.{IsAwaiting, Kept}
use Rattle.rpc_client.specs.Progress.{count, to_give}
use Rattle.rpc_client.proofs.LineCounts.{few_lines}

at_most_one : {A : Type 0} (x : Option A) → count x ≤ 1
at_most_one None = omega arith
at_most_one (Some x) = omega arith

-- An item that is answered weighs more than its lines and its request.
pub answered_less : (kept : Kept) (item : Item) (reply : Answered) → IsAwaiting kept → kept.item ≡ Some item → answered kept.asking item ≡ Some reply
    → to_give (record { opened = kept.opened; asking = reply.next; lines = reply.lines; sent = reply.sent; intake = kept.intake; item = None; passed = kept.passed }) < to_give kept
answered_less kept item reply awaits held some =
    let one : count kept.item ≡ 1 = ap count held in
    let none : length kept.lines ≡ 0 = ap (λ (l : List (List ℕ)). length l) awaits.no_lines in
    omega (arith, few_lines kept.asking item reply some, one, none, at_most_one reply.sent)
