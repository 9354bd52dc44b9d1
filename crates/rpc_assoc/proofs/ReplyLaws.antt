-- Each reply of an association has an encoding.
use Rattle.std.proofs.Common.{◌≡◌, ℕ, ◌<◌, Bool, true, false, cond, List, [], ◌∷◌, length, map, Option, Some, None, Result, Ok, Err, refl, subst, arith}
use Rattle.std.specs.Prelude.{IfOk, is_some}
use Rattle.std.specs.List.{list_any}
use Rattle.std.proofs.lemmas.List.{length-map}
use Rattle.rpc_pdu.specs.declared.pdu.Pdu.{Pdu}
use Rattle.rpc_pdu.specs.declared.pdu.Pdu.TheVariants.{Request, Response, Fault, Bind, BindAck, BindNak, AlterContext, AlterContextResp, Shutdown, CoCancel, Orphaned}
use Rattle.rpc_pdu.specs.declared.proposal.Proposal.{Proposal}
use Rattle.rpc_pdu.specs.declared.verdict.Verdict.{Verdict}
use Rattle.rpc_pdu.specs.Encoding.{CanSpell, CountsFit}
use Rattle.rpc_pdu.proofs.Answered.{ack_spells, alter_context_resp_spells, fault_spells, nak_spells}
use Rattle.rpc_calls.specs.declared.item.Item.{Item}
use Rattle.rpc_calls.specs.declared.item.Item.TheVariants as items
use Rattle.rpc_calls.specs.Parts.{ItemFits}
use Rattle.rpc_assoc.specs.declared.assoc.AssocOut.{AssocOut}
use Rattle.rpc_assoc.specs.declared.assoc.AssocOut.TheVariants.{Reply, Call}
use Rattle.rpc_assoc.specs.declared.terms.Terms.{Terms}
use Rattle.rpc_assoc.specs.Answers.{accepts_alter, accepts_bind, fault_on, head_of, nak}
use Rattle.rpc_assoc.specs.Association.{SpellsReply, alter_answer, alter_by, bind_answer, call_answer, in_group, is_too_small, single_answer, step_of, terms_for}
use Rattle.rpc_assoc.specs.State.{State}
use Rattle.rpc_assoc.specs.Verdicts.{verdict_of}

-- ---- each PDU that it answers

pub fault_on_spells : (call_id context status : ℕ) → CanSpell (fault_on call_id context status)
fault_on_spells call_id context status = fault_spells (head_of call_id 0x23) 0 context 0 status (omega arith)

nak_answer_spells : (call_id reason : ℕ) → CanSpell (nak call_id reason)
nak_answer_spells call_id reason = nak_spells (head_of call_id 0x03) reason ((5, 0) ∷ []) (omega arith) refl (omega arith)

accepts_bind_spells : (call_id : ℕ) (terms : Terms) (vs : List Verdict) → length vs < 256 → CanSpell (accepts_bind call_id terms vs)
accepts_bind_spells call_id terms vs few =
    ack_spells (head_of call_id 0x03) terms.max_xmit terms.max_recv terms.group [] vs (omega arith) refl (omega arith) few

accepts_alter_spells : (call_id : ℕ) (terms : Terms) (vs : List Verdict) → length vs < 256 → CanSpell (accepts_alter call_id terms vs)
accepts_alter_spells call_id terms vs few =
    alter_context_resp_spells (head_of call_id 0x03) terms.max_xmit terms.max_recv terms.group [] vs (omega arith) refl (omega arith) few

-- ---- the table

either : (test : Bool) (x y : AssocOut × State) → SpellsReply x.0 → SpellsReply y.0 → SpellsReply (cond test x y).0
either true x y a b = a
either false x y a b = b

few_verdicts : (proposals : List Proposal) → length proposals < 256 → length (map verdict_of proposals) < 256
few_verdicts proposals few = omega (arith, few, length-map proposals verdict_of)

in_group_spells : (s : State) (call_id xmit recv : ℕ) (proposals : List Proposal) (group : Option ℕ) → length proposals < 256
    → SpellsReply (in_group s call_id xmit recv proposals group).0
in_group_spells s call_id xmit recv proposals None few = nak_answer_spells call_id 0
in_group_spells s call_id xmit recv proposals (Some group) few =
    accepts_bind_spells call_id (terms_for xmit recv group) (map verdict_of proposals) (few_verdicts proposals few)

alter_by_spells : (s : State) (call_id : ℕ) (proposals : List Proposal) (terms : Option Terms) → length proposals < 256
    → SpellsReply (alter_by s call_id proposals terms).0
alter_by_spells s call_id proposals None few = nak_answer_spells call_id 0
alter_by_spells s call_id proposals (Some terms) few = accepts_alter_spells call_id terms (map verdict_of proposals) (few_verdicts proposals few)

single_spells : (s : State) (pdu : Pdu) (group : Option ℕ) → CountsFit pdu → SpellsReply (single_answer s pdu group).0
unfolding single_answer bind_answer alter_answer
single_spells s (Bind head xmit recv wanted proposals) group few =
    either (is_some s.terms) (Reply (nak head.call_id 0), s) _ (nak_answer_spells head.call_id 0)
    (either (is_too_small xmit recv) (Reply (nak head.call_id 2), s) _ (nak_answer_spells head.call_id 2) (in_group_spells s head.call_id xmit recv proposals group few.0))
single_spells s (AlterContext head xmit recv wanted proposals) group few = alter_by_spells s head.call_id proposals s.terms few.0
single_spells s (Request head hint context opnum object stub) group few = tt
single_spells s (Response head hint context cancels stub) group few = tt
single_spells s (Fault head hint context cancels status) group few = tt
single_spells s (BindAck head xmit recv wanted address verdicts) group few = tt
single_spells s (BindNak head reason versions) group few = tt
single_spells s (AlterContextResp head xmit recv wanted address verdicts) group few = tt
single_spells s (Shutdown head) group few = tt
single_spells s (CoCancel head) group few = tt
single_spells s (Orphaned head) group few = tt

step_spells : (s : State) (item : Item) (group : Option ℕ) → ItemFits item → SpellsReply (step_of s item group).0
unfolding step_of call_answer
step_spells s (items.Call call) group few =
    either (list_any _ s.accepted) (Call call, s) (Reply (fault_on call.call_id call.context 0x1C010003), s) tt (fault_on_spells call.call_id call.context 0x1C010003)
step_spells s (items.Single pdu) group few = single_spells s pdu group few
step_spells s (items.BadBind call_id reason) group few = nak_answer_spells call_id reason

reply_spells : (s next : State) (item : Item) (group : Option ℕ) (out : AssocOut) → (out, next) ≡ step_of s item group → ItemFits item → SpellsReply out
reply_spells s next item group out step few =
    let same : (step_of s item group).0 ≡ out = rw (← step) refl in
    let P : AssocOut → Type 0 = λ o. SpellsReply o in
    subst P same (step_spells s item group few)

-- What a step answers has an encoding.
pub result_spells : {E : Type 0} (s next : State) (item : Item) (group : Option ℕ) (result : Result AssocOut E)
    → IfOk result (λ out. (out, next) ≡ step_of s item group) → ItemFits item → IfOk result SpellsReply
result_spells s next item group (Ok out) step few = reply_spells s next item group out step few
result_spells s next item group (Err fault) step few = tt
