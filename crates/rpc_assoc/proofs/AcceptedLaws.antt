-- Contexts are accepted as the client is told, and none before the terms.
use Rattle.std.proofs.Common.{◌≡◌, ℕ, Bool, true, false, cond, List, [], ◌∷◌, ◌++◌, map, filter, Option, Some, None, refl, sym, ap, ◌∙◌, append_assoc}
use Rattle.std.specs.Prelude.{◌==◌, IsTrue, is_some}
use Rattle.std.specs.List.{list_any}
use Rattle.std.specs.Option.{option_map}
use Rattle.std.proofs.lemmas.List.{append-nil}
use Rattle.rpc_pdu.specs.declared.pdu.Pdu.{Pdu}
use Rattle.rpc_pdu.specs.declared.pdu.Pdu.TheVariants.{Request, Response, Fault, Bind, BindAck, BindNak, AlterContext, AlterContextResp, Shutdown, CoCancel, Orphaned}
use Rattle.rpc_pdu.specs.declared.proposal.Proposal.{Proposal}
use Rattle.rpc_calls.specs.declared.item.Item.{Item}
use Rattle.rpc_calls.specs.declared.item.Item.TheVariants as items
use Rattle.rpc_assoc.specs.declared.assoc.AssocOut.{AssocOut}
use Rattle.rpc_assoc.specs.declared.assoc.AssocOut.TheVariants.{Call, Reply}
use Rattle.rpc_assoc.specs.declared.terms.Terms.{Terms}
use Rattle.rpc_assoc.specs.Answers.{fault_on, nak}
use Rattle.rpc_assoc.specs.Association.{alter_answer, alter_by, bind_answer, call_answer, is_too_small, single_answer, step_of}
use Rattle.rpc_assoc.specs.Laws.{AcceptsAsTold, behind, told, told_in, with_result_0}
use Rattle.rpc_assoc.specs.State.{AcceptsBy, State, unbound}
use Rattle.rpc_assoc.specs.Verdicts.{accepted_in, is_accepted, verdict_of}

-- ---- none before the terms

pub accepts_bound : (terms : Option Terms) (accepted : List ℕ) (context : ℕ) → AcceptsBy terms accepted → list_any (λ id. id == context) accepted ≡ true → IsTrue (is_some (option_map (λ terms. terms.group) terms))
accepts_bound (Some terms) accepted context by found = refl
accepts_bound None accepted context by found =
    let none : list_any (λ id. id == context) accepted ≡ false = rw by refl in
    absurd (cc (none, found))

-- ---- one answer

one_more : (test : Bool) (p : Proposal) (ps : List Proposal) (ids : List ℕ) → ids ≡ map (λ (proposal : Proposal). proposal.id) ps
    → cond test (p.id ∷ ids) ids ≡ map (λ (proposal : Proposal). proposal.id) (cond test (p ∷ ps) ps)
one_more true p ps ids same = ap (λ (xs : List ℕ). p.id ∷ xs) same
one_more false p ps ids same = same

verdicts_told : (proposals : List Proposal) → with_result_0 proposals (map verdict_of proposals) ≡ accepted_in proposals
verdicts_told [] = refl
verdicts_told (p ∷ ps) = one_more (is_accepted p) p (filter is_accepted ps) (with_result_0 ps (map verdict_of ps)) (verdicts_told ps)

-- What the step accepts is what its answer tells.
abbrev Tells : State → Item → AssocOut × State → Type 0
Tells s item answer = answer.1.accepted ≡ s.accepted ++ told item answer.0

either : (s : State) (item : Item) (test : Bool) (x y : AssocOut × State) → Tells s item x → Tells s item y → Tells s item (cond test x y)
either s item true x y a b = a
either s item false x y a b = b

nothing : (s : State) → s.accepted ≡ s.accepted ++ []
nothing s = sym (append-nil s.accepted)

bound_tells : (s : State) (proposals : List Proposal) → s.accepted ++ accepted_in proposals ≡ s.accepted ++ with_result_0 proposals (map verdict_of proposals)
bound_tells s proposals = ap (λ (ids : List ℕ). s.accepted ++ ids) (sym (verdicts_told proposals))

single_tells : (s : State) (pdu : Pdu) (group : Option ℕ) → Tells s (items.Single pdu) (single_answer s pdu group)
unfolding single_answer bind_answer alter_answer
single_tells s (Bind head xmit recv wanted proposals) None =
    let item = items.Single (Bind head xmit recv wanted proposals) in
    either s item (is_some s.terms) (Reply (nak head.call_id 0), s) _ (nothing s)
    (either s item (is_too_small xmit recv) (Reply (nak head.call_id 2), s) _ (nothing s) (nothing s))
single_tells s (Bind head xmit recv wanted proposals) (Some group) =
    let item = items.Single (Bind head xmit recv wanted proposals) in
    either s item (is_some s.terms) (Reply (nak head.call_id 0), s) _ (nothing s)
    (either s item (is_too_small xmit recv) (Reply (nak head.call_id 2), s) _ (nothing s) (bound_tells s proposals))
single_tells s (AlterContext head xmit recv wanted proposals) group = by_terms s.terms
  where
    by_terms : (terms : Option Terms) → Tells s (items.Single (AlterContext head xmit recv wanted proposals)) (alter_by s head.call_id proposals terms)
    by_terms None = nothing s
    by_terms (Some terms) = bound_tells s proposals
single_tells s (Request head hint context opnum object stub) group = nothing s
single_tells s (Response head hint context cancels stub) group = nothing s
single_tells s (Fault head hint context cancels status) group = nothing s
single_tells s (BindAck head xmit recv wanted address verdicts) group = nothing s
single_tells s (BindNak head reason versions) group = nothing s
single_tells s (AlterContextResp head xmit recv wanted address verdicts) group = nothing s
single_tells s (Shutdown head) group = nothing s
single_tells s (CoCancel head) group = nothing s
single_tells s (Orphaned head) group = nothing s

step_tells : (s : State) (item : Item) (group : Option ℕ) → Tells s item (step_of s item group)
unfolding step_of call_answer
step_tells s (items.Call call) group =
    either s (items.Call call) (list_any (λ id. id == call.context) s.accepted) (Call call, s) (Reply (fault_on call.call_id call.context 0x1C010003), s) (nothing s) (nothing s)
step_tells s (items.Single pdu) group = single_tells s pdu group
step_tells s (items.BadBind call_id reason) group = nothing s

-- ---- the answers in turn

all_told : (s : State) (steps : List (Item × Option ℕ)) → (behind s steps).accepted ≡ s.accepted ++ told_in s steps
all_told s [] = nothing s
all_told s (step ∷ steps) =
    let next = (step_of s step.0 step.1).1 in
    let here = told step.0 (step_of s step.0 step.1).0 in
    all_told next steps ∙ (ap (λ (ids : List ℕ). ids ++ told_in next steps) (step_tells s step.0 step.1) ∙ append_assoc s.accepted here (told_in next steps))

pub accepts_as_told : AcceptsAsTold
accepts_as_told steps = all_told unbound steps
