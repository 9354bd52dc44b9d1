-- What a node does behind an event is what the events of a node alone say.
use Rattle.std.proofs.Common.{◌≡◌, ℕ, ◌+◌, Bool, List, [], ◌∷◌, ◌++◌, Option, Some, None, option_map, if◌then◌else◌, refl, sym, ap, ◌∙◌, subst}
use Rattle.std.specs.Prelude.{option_to_list}
use Rattle.update_records.specs.declared.update.Update.{Update}
use Rattle.registry_defs.specs.declared.outcome.Outcome.{Outcome}
use Rattle.view_reconcile.specs.Joining as joining
use Rattle.cluster_rules.specs.declared.effect.Effect.{Effect}
use Rattle.cluster_rules.specs.declared.effect.Effect.TheVariants.{Acked, Batched, Closed, Halted, Opened, Reply, Send}
use Rattle.cluster_rules.specs.Nodes.{NodeState, Out, done_of}
use Rattle.registry_machine.specs.Machine.{registry_machine}
use Rattle.member_rules.specs.declared.told.Told.{Told}
use Rattle.cluster_member.specs.States.{MemberState}
use Rattle.client_connections.specs.Clients.{Clients, client_at}
use Rattle.client_connections.specs.Finishing.{Finish, finished}
use Rattle.client_connections.specs.Taking.{Resumes, Serving, serving}
use Rattle.cluster_node.specs.Acting.{Acts, ContinuesAt, Finishes, Submits, answered_with, serving_of, submitted_by}
use Rattle.single_rules.specs.Single.{Single}
use Rattle.single_items.specs.Events.{AnswersHead, FollowsAcks, GoesFurther, IsServedBy, answer_behind, serving_by, submitted_if}
use Rattle.single_items.specs.Standing.{Asked, Calm, Granting, Stuck, Way, node_on}

-- ---- what clients are answered from

-- Both parts of the rules say whether the view is open.
abbrev pub AgreesOpen : NodeState registry_machine → Type 0
AgreesOpen x = x.core.is_open ≡ joining.is_open x.join

pub serves_by : (m : MemberState) → AgreesOpen m.rules → serving_of m ≡ serving_by m.rules
serves_by m same = ap (λ (b : Bool). serving (if b then option_map (λ r. r.registry.keys) m.rules.replica else None) (done_of m.rules)) same

pub open_on : (way : Way) (a : Single registry_machine) → AgreesOpen (node_on way a)
open_on (Calm lately) a = refl
open_on (Asked lately origin u) a = refl
open_on (Granting origin u) a = refl
open_on (Stuck head others origins) a = refl

-- ---- an update is submitted

submitted_is : (queued : Option Update) (x : NodeState registry_machine) → submitted_by queued x ≡ submitted_if queued x
submitted_is None x = refl
submitted_is (Some u) x = refl

pub served_by : (Took : Clients → List Effect → Option Update → Type 0) (told : List Effect) (queued : Option Update) (m n : MemberState) (t : Clients) (es : List Effect)
    → Took t told queued → Submits queued told m n es → IsServedBy Took m.rules n.rules t es
served_by Took told queued m n t es took s =
    let is = submitted_is queued m.rules in
    record {
      told = told;
      update = queued;
      took = took;
      node = ap (λ (o : Out registry_machine). o.node) (sym is) ∙ s.rules;
      effects = s.effects ∙ ap (λ (o : Out registry_machine). told ++ o.effects) is;
    }

-- ---- a head is answered

answers_behind : (answer : Option Effect) (es : List Effect) → answered_with answer es ≡ answer_behind (option_to_list answer) es
unfolding answered_with
answers_behind answer [] = refl
answers_behind answer (Acked view place ∷ es) = refl
answers_behind answer (Send p ∷ es) = ap (λ (l : List Effect). Send p ∷ l) (answers_behind answer es)
answers_behind answer (Reply conn point bytes ∷ es) = ap (λ (l : List Effect). Reply conn point bytes ∷ l) (answers_behind answer es)
answers_behind answer (Closed conn cause ∷ es) = ap (λ (l : List Effect). Closed conn cause ∷ l) (answers_behind answer es)
answers_behind answer (Opened view ∷ es) = ap (λ (l : List Effect). Opened view ∷ l) (answers_behind answer es)
answers_behind answer (Batched req point status index ∷ es) = ap (λ (l : List Effect). Batched req point status index ∷ l) (answers_behind answer es)
answers_behind answer (Halted cause ∷ es) = ap (λ (l : List Effect). Halted cause ∷ l) (answers_behind answer es)

goes_further : (resumes : Option ℕ) (m n : MemberState) (s t : Clients) (more : List Effect) → AgreesOpen m.rules → ContinuesAt resumes m s n t more → GoesFurther resumes m.rules s n.rules t more
goes_further None m n s t more same (there, kept, none) = (ap (λ (x : MemberState). x.rules) there, kept, none)
goes_further (Some c) m n s t more same h =
    served_by (Resumes (serving_by m.rules) c (client_at c s) s) h.told h.queued m n t more
    (subst (λ (v : Serving). Resumes v c (client_at c s) s t h.told h.queued) (serves_by m same) h.resumes) h.submits

answers_head : (end : Finish) (out : Out registry_machine) (told : List Effect) (m n : MemberState) (t : Clients) (es : List Effect) → told ≡ out.effects → AgreesOpen m.rules
    → Finishes end m told n t es → AnswersHead end out m.rules n.rules t es
answers_head end out told m n t es says same h = (
  h.more,
  goes_further end.resumes m n end.clients t h.more same h.continues,
  h.effects ∙ ap (λ (l : List Effect). l ++ h.more) (answers_behind end.effect told ∙ ap (answer_behind (option_to_list end.effect)) says),
)

-- What a node does behind what its member told.
pub follows_acks : (acks : List (ℕ × ℕ)) (req passed : ℕ) (m n : MemberState) (s t : Clients) (told : Told) (out : Out registry_machine) (es : List Effect)
    → told.effects ≡ out.effects → told.outcome ≡ out.outcome → ((view place : ℕ) (others : List (ℕ × ℕ)) → acks ≡ (view, place) ∷ others → (req ≡ passed + 1) × AgreesOpen m.rules)
    → Acts acks req m s told n t es → FollowsAcks acks passed s out m.rules n.rules t es
follows_acks [] req passed m n s t told out es says came ready (there, kept, whole) = (ap (λ (x : MemberState). x.rules) there, kept, whole ∙ says)
follows_acks ((view, place) ∷ others) req passed m n s t told out es says came ready h =
    let here = ready view place others refl in
    let is : finished s.common.waiting req place told.outcome s ≡ finished s.common.waiting (passed + 1) place out.outcome s =
    ap (λ (r : ℕ). finished s.common.waiting r place told.outcome s) here.0 ∙ ap (λ (o : Option Outcome). finished s.common.waiting (passed + 1) place o s) came in
    answers_head (finished s.common.waiting (passed + 1) place out.outcome s) out told.effects m n t es says here.1
    (subst (λ (e : Finish). Finishes e m told.effects n t es) is h)
