-- Which contexts a client was told that it may use.
use Rattle.std.specs.Prelude.{◌≡◌, ℕ, ◌==◌, List, [], ◌∷◌, ◌++◌, Option, if◌then◌else◌}
use Rattle.rpc_pdu.specs.declared.pdu.Pdu.TheVariants.{AlterContext, AlterContextResp, Bind, BindAck}
use Rattle.rpc_pdu.specs.declared.proposal.Proposal.{Proposal}
use Rattle.rpc_pdu.specs.declared.verdict.Verdict.{Verdict}
use Rattle.rpc_calls.specs.declared.item.Item.{Item}
use Rattle.rpc_calls.specs.declared.item.Item.TheVariants as items
use Rattle.rpc_assoc.specs.declared.assoc.AssocOut.{AssocOut}
use Rattle.rpc_assoc.specs.declared.assoc.AssocOut.TheVariants.{Reply}
use Rattle.rpc_assoc.specs.Association.{step_of}
use Rattle.rpc_assoc.specs.State.{State, unbound}

-- The ids of the contexts that are answered with result 0.
abbrev pub with_result_0 : List Proposal → List Verdict → List ℕ
with_result_0 (proposal ∷ proposals) (verdict ∷ verdicts) =
    if verdict.result == 0 then proposal.id ∷ with_result_0 proposals verdicts else with_result_0 proposals verdicts
with_result_0 proposals verdicts = []

-- Those of one answer: a bind_ack to a bind, or an alter_context_resp to an alter_context.
abbrev pub told : Item → AssocOut → List ℕ
told (items.Single (Bind head max_xmit max_recv wanted proposals)) (Reply (BindAck answer xmit recv group address verdicts)) = with_result_0 proposals verdicts
told (items.Single (AlterContext head max_xmit max_recv wanted proposals)) (Reply (AlterContextResp answer xmit recv group address verdicts)) =
    with_result_0 proposals verdicts
told item out = []

-- Those of the answers to items in turn, each with the group that it gets.
abbrev pub told_in : State → List (Item × Option ℕ) → List ℕ
told_in s [] = []
told_in s (step ∷ steps) = told step.0 (step_of s step.0 step.1).0 ++ told_in (step_of s step.0 step.1).1 steps

-- The association behind them.
abbrev pub behind : State → List (Item × Option ℕ) → State
behind s [] = s
behind s (step ∷ steps) = behind (step_of s step.0 step.1).1 steps

-- Calls are taken on the contexts of which the client was told so, and on no others.
abbrev pub AcceptsAsTold : Type 0
AcceptsAsTold = (steps : List (Item × Option ℕ)) → (behind unbound steps).accepted ≡ told_in unbound steps
