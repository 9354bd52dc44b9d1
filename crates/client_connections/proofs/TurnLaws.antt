-- One turn: what the intake gives next is taken, or ends the turns.
use Rattle.std.proofs.Common.{◌≡◌, ℕ, true, List, Option, Some, None, Ok, sym, ap, ◌∙◌, subst}
use Rattle.rpc_calls.specs.declared.intake_fault.IntakeFault.{IntakeFault}
use Rattle.rpc_calls.specs.declared.item.Item.{Item}
use Rattle.rpc_calls.specs.declared.side.Side.{Side}
use Rattle.rpc_calls.specs.declared.side.Side.TheVariants.{Server}
use Rattle.rpc_calls.specs.Intakes.{Holds, Kept, NextIs, Stays, no_fault}
use Rattle.rpc_calls.specs.Streams.{Items}
use Rattle.client_connections.specs.declared.took.Ending.TheVariants.{Fails, Waits}
use Rattle.client_connections.specs.Clients.{may_take}
use Rattle.client_connections.specs.Courses.{Ended}
use Rattle.client_connections.specs.Taking.{Course}

of_server : (before after : Kept) (stream : List ℕ) (given : List Item) (fault : Option IntakeFault) → before.side ≡ Server → Stays before after
    → Items after.side stream given fault → Items Server stream given fault
of_server before after stream given fault served stays items = subst (λ (side : Side). Items side stream given fault) (stays.side ∙ served) items

-- Nothing was taken, and what the intake has kept is what it had.
pub waits : (c : ℕ) (before kept after : Kept) (p q : Course) → kept ≡ before → q ≡ p → may_take c p.common ≡ true → kept.side ≡ Server → Stays kept after
    → NextIs (Ok None) kept after → Ended c before after p q Waits
waits c before kept after p q same still may served stays next = record {
  course = still;
  side = stays.side ∙ ap (λ (k : Kept). k.side) same;
  rests = may;
  stands = λ stream given holds. let gives = next stream given (subst (λ (k : Kept). Holds k stream given) (sym same) holds) in
      (gives.0, of_server kept after stream given no_fault served stays gives.1);
}

pub fails : (c : ℕ) (before kept after : Kept) (p q : Course) (fault : IntakeFault) → kept ≡ before → q ≡ p → may_take c p.common ≡ true → kept.side ≡ Server → Stays kept after
    → ((stream : List ℕ) (given : List Item) → Holds kept stream given → Holds after stream given × Items after.side stream given (Some fault))
    → Ended c before after p q (Fails fault)
fails c before kept after p q fault same still may served stays next = record {
  course = still;
  side = stays.side ∙ ap (λ (k : Kept). k.side) same;
  rests = may;
  stands = λ stream given holds. let gives = next stream given (subst (λ (k : Kept). Holds k stream given) (sym same) holds) in
      (gives.0, of_server kept after stream given (Some fault) served stays gives.1);
}
