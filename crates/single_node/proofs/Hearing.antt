-- The oldest message leads the node on.
use Rattle.std.proofs.Common.{◌≡◌, ℕ, ◌+◌, List, [], ◌∷◌, ◌++◌, Option, Some, None, Result, Ok, Err, unwrap_or, refl, sym, ap, ◌∙◌, subst}
use Rattle.std.specs.Prelude.{option_to_list}
use Rattle.disk_core.specs.Views.{DiskView}
use Rattle.gum_core.specs.Updating as updating
use Rattle.gum_messages.specs.Messages.{Sent}
use Rattle.update_records.specs.Entry.{Entry}
use Rattle.update_records.specs.declared.update.Update.{Update}
use Rattle.cluster_rules.specs.declared.effect.Effect.{Effect}
use Rattle.cluster_rules.specs.Receiving.{receive}
use Rattle.cluster_rules.specs.Updates.{Answer, Logged}
use Rattle.cluster_rules.specs.Worlds.{acked, sent}
use Rattle.registry_machine.specs.Machine.{registry_machine}
use Rattle.member_rules.specs.declared.told.Told.{Told}
use Rattle.cluster_member.specs.declared.stop.Stop.{Stop}
use Rattle.cluster_member.specs.declared.stop.Stop.TheVariants as stop
use Rattle.cluster_member.specs.Events.{Receives}
use Rattle.cluster_member.specs.Logging.{answer_to}
use Rattle.cluster_member.specs.States.{MemberState}
use Rattle.client_connections.specs.Clients.{Clients}
use Rattle.cluster_node.specs.Acting.{Acts, ContinuesAt, Follows}
use Rattle.cluster_node.specs.Events.{head_request}
use Rattle.cluster_node.specs.States.{RunningNode}
use Rattle.single_rules.specs.Logging.{to_log}
use Rattle.single_rules.specs.Single.{IsSound, Single, ask, grant, granting, release, releasing}
use Rattle.single_rules.proofs.Events.{finishes_one}
use Rattle.single_items.specs.Alone.{AloneRun}
use Rattle.single_items.specs.Events.{MessageComes, told_to}
use Rattle.single_items.specs.Standing.{Asked, Calm, Granting, NodeAlone, StandsAt, Stuck, Way, left_on, node_on, queued_on}
use Rattle.single_items.proofs.Hearing.{hears_message, on_first, sound_now}
use Rattle.single_node.specs.Laws.{HeardOne, MessageLeads}
use Rattle.single_node.specs.Standing.{alone_node}
use Rattle.single_node.proofs.Agreeing.{AgreesOpen, follows_acks}
use Rattle.single_node.proofs.Falling.{IsLight, ask_light, falls, release_light}
use Rattle.single_node.proofs.Going.{State, WentOn, logs_one, next_place, receives_on}
use Rattle.single_node.proofs.Applied.{changes_as_stands}

-- ---- what an acknowledgement tells

-- Its request is that of the head, and the node that it leaves is open.
abbrev Acks : State → State → Type 0
Acks x m = (unwrap_or (updating.head_request x.core) 0 ≡ x.core.passed + 1) × AgreesOpen m

abbrev AcksAt : State → Sent → ℕ → Answer → Type 0
AcksAt x p held answer = (m : State) (view place : ℕ) (others : List (ℕ × ℕ)) → (receive x p held answer).out.node ≡ Some m
    → acked (receive x p held answer).out.effects ≡ (view, place) ∷ others → Acks x m

acks_not : (most : ℕ) (x : State) (p : Sent) (held : ℕ) (answer : Answer) → IsLight most x (receive x p held answer).out → AcksAt x p held answer
acks_not most x p held answer light m view place others node is = let no : ◌≡◌ {A = List (ℕ × ℕ)} [] ((view, place) ∷ others) = sym light.acks ∙ is in absurd (cc)

open_behind : (a : Single registry_machine) (u : Update) (held : ℕ) (answer : Answer) (m : State) → IsSound a → (receive (granting a u) (grant a u) held answer).out.node ≡ Some m → AgreesOpen m
open_behind a u held answer m sound node =
    let there : Some (releasing a u) ≡ Some m = sym (ap (λ (d : Logged registry_machine). d.out.node) (finishes_one a u held answer sound)) ∙ node in
    let is : releasing a u ≡ m = cc in
    subst (λ (x : State). AgreesOpen x) is refl

acks_on : (way : Way) (a : Single registry_machine) (p : Sent) (left : List Sent) (held : ℕ) (answer : Answer) → IsSound a → left_on way a ≡ p ∷ left → AcksAt (node_on way a) p held answer
acks_on (Calm None) a p left held answer sound at = absurd (cc)
acks_on (Calm (Some l)) a p left held answer sound at =
    on_first (λ q rest. AcksAt (node_on (Calm (Some l)) a) q held answer) (release l.before) p [] left at
    (acks_not 0 (node_on (Calm (Some l)) a) (release l.before) held answer (release_light (node_on (Calm (Some l)) a) l.before held answer))
acks_on (Asked None origin u) a p left held answer sound at =
    on_first (λ q rest. AcksAt (node_on (Asked None origin u) a) q held answer) (ask a u) p [] left at
    (acks_not 2 (node_on (Asked None origin u) a) (ask a u) held answer (ask_light (node_on (Asked None origin u) a) a u held answer))
acks_on (Asked (Some l) origin u) a p left held answer sound at =
    on_first (λ q rest. AcksAt (node_on (Asked (Some l) origin u) a) q held answer) (release l.before) p (ask a u ∷ []) left at
    (acks_not 0 (node_on (Asked (Some l) origin u) a) (release l.before) held answer (release_light (node_on (Asked (Some l) origin u) a) l.before held answer))
acks_on (Granting origin u) a p left held answer sound at =
    on_first (λ q rest. AcksAt (granting a u) q held answer) (grant a u) p [] left at
    (λ m view place others node is. (refl, open_behind a u held answer m sound node))
acks_on (Stuck head others origins) a p left held answer sound at = absurd (cc)

acks_here : (c : ℕ) (first : AloneRun) (stream : List ℕ) (z : NodeAlone) (output : List ℕ) (records : List Entry) → StandsAt c first stream z output records
    → (p : Sent) (left : List Sent) (held : ℕ) (answer : Answer) → z.left ≡ p ∷ left → AcksAt z.node p held answer
acks_here c first stream z output records h p left held answer at =
    let way : Way = h.phase.way in
    let a : Single registry_machine = h.phase.run.single in
    subst (λ (x : NodeAlone). AcksAt x.node p held answer) (sym h.is)
    (acks_on way a p left held answer (sound_now first h.phase.run (queued_on way) h.grown) (sym (ap (λ (x : NodeAlone). x.left) h.is) ∙ at))

-- ---- the log stays behind the member's event

continues_log : (resumes : Option ℕ) (m n : MemberState) (s t : Clients) (es : List Effect) → ContinuesAt resumes m s n t es → n.log ≡ m.log
continues_log None m n s t es h = ap (λ (x : MemberState). x.log) h.0
continues_log (Some c) m n s t es h = h.submits.log

acts_log : (acks : List (ℕ × ℕ)) (req : ℕ) (m n : MemberState) (s t : Clients) (told : Told) (es : List Effect) → Acts acks req m s told n t es → n.log ≡ m.log
acts_log [] req m n s t told es h = ap (λ (x : MemberState). x.log) h.0
acts_log (ack ∷ acks) req m n s t told es h = continues_log _ m n _ t h.more h.continues

-- ---- the event

module _ (c : ℕ) (first : AloneRun) (stream : List ℕ) (p : Sent) (left : List Sent) (x : RunningNode) (v : DiskView) (y : RunningNode) (w : DiskView) (es : List Effect) (output : List ℕ) (records : List Entry)
    (stands : StandsAt c first stream (alone_node x (p ∷ left)) output records) where
  heard_ok : (told : Told) (m : MemberState) → Receives v x.member p (Ok told) m w → Acts (acked told.effects) (head_request x) m x.clients told y.member y.clients es
      → HeardOne c first stream p left x v y w es output records
  heard_ok told m r acts =
      let answer : Answer = answer_to r.added in
      let d : Logged registry_machine = receive x.member.rules p v.current.held answer in
      let comes : MessageComes p v.current.held answer x.member.rules x.clients y.member.rules y.clients es = record {
        left = m.rules;
        node = r.comes.node;
        follows = follows_acks (acked d.out.effects) (head_request x) x.member.rules.core.passed m y.member x.clients y.clients told d.out es (sym r.comes.effects) (sym r.comes.outcome)
            (λ view place others is. acks_here c first stream (alone_node x (p ∷ left)) output records stands p left v.current.held answer refl m.rules view place others r.comes.node is)
            (subst (λ (l : List Effect). Acts (acked l) (head_request x) m x.clients told y.member y.clients es) (sym r.comes.effects) acts);
      } in
      let on : WentOn d (to_log x.member.rules p) answer = receives_on x.member.rules m.rules p v.current.held answer r.comes.node in
      let next = hears_message c first stream (alone_node x (p ∷ left)) output records stands p left v.current.held answer y.member.rules y.clients es refl comes in
      let behind = subst (λ (e : Option Entry). StandsAt c first stream (alone_node y (left ++ sent es)) (output ++ told_to c es) (records ++ option_to_list e)) on.appended next in
      record {
        logged = to_log x.member.rules p;
        logs = logs_one (to_log x.member.rules p) r.added x.member m y.member v w r.logs r.kept (acts_log (acked told.effects) (head_request x) m y.member x.clients y.clients told es acts) on.written
            (changes_as_stands c first stream (to_log x.member.rules p) x y (p ∷ left) (left ++ sent es) output (output ++ told_to c es) records (next_place x.member.rules p) stands behind);
        stands = behind;
        less = falls c first stream stream (alone_node x (p ∷ left)) output (output ++ told_to c es) records (records ++ option_to_list d.appended) stands p left v.current.held answer
            y.member.rules y.clients es refl comes next;
      }

  heard_as : (came : Result Told Stop) (m : MemberState) → Receives v x.member p came m w → Follows came (head_request x) m x.clients (Some y) es → HeardOne c first stream p left x v y w es output records
  heard_as (Ok told) m r follows = heard_ok told m r follows
  heard_as (Err (stop.Halted cause)) m r follows = absurd follows
  heard_as (Err stop.Memory) m r follows = absurd follows

pub message_leads : MessageLeads
message_leads c first stream p left x v y w es output records stands receives =
    heard_as c first stream p left x v y w es output records stands receives.came receives.member receives.event receives.follows
