-- The answer of the connection's update is Alone's.
use Rattle.std.proofs.Common.{◌≡◌, ℕ, List, [], ◌∷◌, Option, Some, refl, sym, ap, ◌∙◌, subst}
use Rattle.ndr_values.specs.declared.handle.WireHandle.{WireHandle}
use Rattle.registry_defs.specs.declared.outcome.Outcome.{Outcome}
use Rattle.context_handles.specs.Table.{Table}
use Rattle.rpc_assoc.specs.State.{group_of}
use Rattle.rpc_calls.specs.Intakes.{Kept}
use Rattle.cluster_rules.specs.declared.effect.Effect.TheVariants.{Reply}
use Rattle.client_connections.specs.declared.origin.Origin.{Origin}
use Rattle.client_connections.specs.declared.origin.Origin.TheVariants.{Call, Batch}
use Rattle.client_connections.specs.Clients.{Client, Clients}
use Rattle.client_connections.specs.Finishing.{Finish, call_finished, finished, opened_in, opened_on, replied}
use Rattle.client_connections.specs.Items.{ClientState}
use Rattle.single_items.specs.Alone.{AloneRun, answer_alone, replied_alone}
use Rattle.single_items.specs.Standing.{IsCallOf, clients_of}
use Rattle.single_items.proofs.Keeping.{found_one}
use Rattle.single_items.proofs.Serving.{client_of}

-- The clients behind an answer.
abbrev pub answered_clients : ℕ → AloneRun → Kept → List ℕ × ClientState → Clients
answered_clients c r intake (bytes, n) = record {
  common = record { table = n.handles; waiting = []; taken = r.taken };
  conns = (c, record { intake = intake; association = r.client.association }) ∷ [];
}

abbrev pub answered_with : ℕ → ℕ → AloneRun → Kept → List ℕ × ClientState → Finish
answered_with c place r intake answer = record {
  clients = answered_clients c r intake answer;
  effect = Some (Reply c (Some place) answer.0);
  resumes = Some c;
}

replies : (c place call_id context opnum : ℕ) (outcome : Outcome) (r : AloneRun) (intake : Kept) (p : Option WireHandle × Table)
    → replied c call_id context opnum outcome place r.client.association p (clients_of c [] r (Some intake))
    ≡ answered_with c place r intake (replied_alone call_id context opnum outcome r.client.association p)
replies c place call_id context opnum outcome r intake (handle, table) = refl

pub finishes : (c req place : ℕ) (origin : Origin) (outcome : Outcome) (r : AloneRun) (intake : Kept) → IsCallOf c origin
    → finished (origin ∷ []) req place (Some outcome) (clients_of c (origin ∷ []) r (Some intake)) ≡ answered_with c place r intake (answer_alone origin outcome r.client)
finishes c req place (Call conn call_id context opnum target) outcome r intake own =
    subst (λ (n : ℕ). finished (Call n call_id context opnum target ∷ []) req place (Some outcome) (clients_of c (Call n call_id context opnum target ∷ []) r (Some intake))
    ≡ answered_with c place r intake (answer_alone (Call n call_id context opnum target) outcome r.client)) (sym own)
    (ap (λ (client : Option Client). call_finished c call_id context opnum target place outcome client (clients_of c [] r (Some intake)))
    (found_one (clients_of c [] r (Some intake)).common c (client_of intake r))
    ∙ replies c place call_id context opnum outcome r intake (opened_in (group_of r.client.association) (opened_on target outcome) r.client.handles))
finishes c req place Batch outcome r intake own = absurd own

-- The association stays.
pub keeps_association : (origin : Origin) (outcome : Outcome) (n : ClientState) → (answer_alone origin outcome n).1.association ≡ n.association
keeps_association (Call conn call_id context opnum target) outcome n = of_pair (opened_in (group_of n.association) (opened_on target outcome) n.handles)
  where
    of_pair : (p : Option WireHandle × Table) → (replied_alone call_id context opnum outcome n.association p).1.association ≡ n.association
    of_pair (handle, table) = refl
keeps_association Batch outcome n = refl
