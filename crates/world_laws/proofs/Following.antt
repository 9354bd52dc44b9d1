-- What a node does behind an event of its member: at most an update more is submitted.
use Rattle.std.proofs.Common.{◌≡◌, ℕ, List, [], ◌∷◌, ◌++◌, Option, Some, None, Result, Ok, Err, refl, sym, ap, ◌∙◌, subst, append-nil}
use Rattle.std.specs.Prelude.{IfSome}
use Rattle.wire_fields.specs.Numbers.{IsBytes}
use Rattle.gum_messages.specs.Messages.{Sent}
use Rattle.update_records.specs.declared.update.Update.{Update}
use Rattle.cluster_rules.specs.declared.effect.Effect.{Effect}
use Rattle.cluster_rules.specs.Worlds.{acked, sent}
use Rattle.client_connections.specs.Clients.{Clients, client_at}
use Rattle.client_connections.specs.Finishing.{finished}
use Rattle.cluster_member.specs.declared.stop.Stop.{Stop}
use Rattle.cluster_member.specs.declared.stop.Stop.TheVariants as stop
use Rattle.cluster_member.specs.States.{MemberState}
use Rattle.member_rules.specs.declared.told.Told.{Told}
use Rattle.cluster_node.specs.Acting.{Acts, ContinuesAt, Follows, HearsPiece, Submits, answered_with, keys_if_open, serving_of, submitted_by}
use Rattle.cluster_node.specs.States.{RunningNode}
use Rattle.client_laws.specs.Laws.{QueuesUpdate}
use Rattle.client_laws.specs.Typed.{AreBornIn, AreTyped, IsBorn}
use Rattle.client_laws.proofs.Events.{finished_typed, hears_typed, resumes_typed}
use Rattle.world_laws.proofs.Births.{Born}
use Rattle.world_laws.proofs.Coming.{Sufficed, left, tells}
use Rattle.world_laws.proofs.Speaking.{Mute, SaysAs, acked_both, answered_says, closings_mute, finished_mute, hears_mute, mute_none, resumes_mute, sent_both}

-- What comes behind the member's own effects.
pub record Then (queued : Option Update) (told : List Effect) (m n : MemberState) (effects : List Effect) : Type 0 where
  pub rules : (submitted_by queued m.rules).node ≡ Some n.rules
  pub log : n.log ≡ m.log
  pub sends : sent effects ≡ sent told ++ sent (submitted_by queued m.rules).effects
  pub acks : acked effects ≡ acked told ++ acked (submitted_by queued m.rules).effects

-- what a member told, then what its node tells clients, and then what is submitted
submits_then : (queued : Option Update) (first mute all whole : List Effect) (m n : MemberState) → Mute mute → Submits queued mute m n all → whole ≡ first ++ all → Then queued first m n whole
submits_then queued first mute all whole m n mutes s is =
    let more = (submitted_by queued m.rules).effects in
    record {
      rules = s.rules;
      log = s.log;
      sends = ap sent is ∙ sent_both first all ∙ ap (λ (ps : List Sent). sent first ++ ps) (ap sent s.effects ∙ sent_both mute more ∙ (λ i. (mutes.sends i) ++ sent more));
      acks = ap acked is ∙ acked_both first all ∙ ap (λ (ps : List (ℕ × ℕ)). acked first ++ ps) (ap acked s.effects ∙ acked_both mute more ∙ (λ i. (mutes.acks i) ++ acked more));
    }

-- nothing is submitted
then_none : (told effects : List Effect) (m n : MemberState) → n ≡ m → SaysAs told effects → Then None told m n effects
then_none told effects m n same says = record {
  rules = ap (λ (k : MemberState). Some k.rules) (sym same);
  log = ap (λ (k : MemberState). k.log) same;
  sends = says.sends ∙ sym (append-nil (sent told));
  acks = says.acks ∙ sym (append-nil (acked told));
}

continues_then : (resumes : Option ℕ) (told front more all : List Effect) (m n : MemberState) (s t : Clients) → AreTyped s → AreBornIn (keys_if_open m.rules) → ContinuesAt resumes m s n t more → SaysAs told front
    → all ≡ front ++ more → (queued : Option Update) × Then queued told m n all × QueuesUpdate t queued
continues_then None told front more all m n s t typed born (same, clients, none) says is =
    let whole : all ≡ front = is ∙ ap (λ (es : List Effect). front ++ es) none ∙ append-nil front in (
      None,
      then_none told all m n same (record { sends = ap sent whole ∙ says.sends; acks = ap acked whole ∙ says.acks }),
      record { clients = subst (λ (u : Clients). AreTyped u) (sym clients) typed; update = tt },
    )
continues_then (Some conn) told front more all m n s t typed born c says is =
    let mutes = resumes_mute (serving_of m) conn (client_at conn s) s t c.told c.queued c.resumes in
    let r = submits_then c.queued front c.told more all m n mutes c.submits is in (
      c.queued,
      record {
        rules = r.rules;
        log = r.log;
        sends = r.sends ∙ ap (λ (ps : List Sent). ps ++ sent (submitted_by c.queued m.rules).effects) says.sends;
        acks = r.acks ∙ ap (λ (ps : List (ℕ × ℕ)). ps ++ acked (submitted_by c.queued m.rules).effects) says.acks;
      },
      resumes_typed (serving_of m) conn s t c.told c.queued typed born c.resumes,
    )

acts_then : (acks : List (ℕ × ℕ)) (req : ℕ) (m n : MemberState) (s t : Clients) (told : Told) (effects : List Effect) → AreTyped s → AreBornIn (keys_if_open m.rules)
    → ((ack : ℕ × ℕ) (others : List (ℕ × ℕ)) → acks ≡ ack ∷ others → IfSome told.outcome IsBorn) → Acts acks req m s told n t effects
    → (queued : Option Update) × Then queued told.effects m n effects × QueuesUpdate t queued
acts_then [] req m n s t told effects typed born outcome (same, clients, is) =
    (None, then_none told.effects effects m n same (record { sends = ap sent is; acks = ap acked is }), record { clients = subst (λ (u : Clients). AreTyped u) (sym clients) typed; update = tt })
acts_then (ack ∷ acks) req m n s t told effects typed born outcome f =
    let end = finished s.common.waiting req ack.1 told.outcome s in
    continues_then end.resumes told.effects (answered_with end.effect told.effects) f.more effects m n end.clients t
    (finished_typed s req ack.1 told.outcome typed (outcome ack acks refl)) born f.continues
    (answered_says end.effect told.effects (finished_mute s.common.waiting req ack.1 told.outcome s)) f.effects

-- Behind an event of a member the node has gone on, or stopped.
abbrev pub Left : Result Told Stop → MemberState → Option RunningNode → List Effect → Type 0
Left came m (Some y) effects = (told : Told) × (came ≡ Ok told) × (queued : Option Update) × Then queued (tells came) m y.member effects × QueuesUpdate y.clients queued
Left came m None effects = (left came m ≡ None) × (sent effects ≡ sent (tells came)) × (acked effects ≡ acked (tells came))

pub follows_suffice : (came : Result Told Stop) (req : ℕ) (m : MemberState) (s : Clients) (y : Option RunningNode) (effects : List Effect) → Follows came req m s y effects → Sufficed came
follows_suffice (Ok told) req m s y effects f = tt
follows_suffice (Err (stop.Halted cause)) req m s y effects f = tt
follows_suffice (Err stop.Memory) req m s None effects f = absurd f
follows_suffice (Err stop.Memory) req m s (Some y) effects f = absurd f

-- What the event came to tells creation numbers of 64 bits, and so does the registry behind it.
pub record ComesBorn (came : Result Told Stop) (m : MemberState) : Type 0 where
  pub outcome : Born came
  pub keys : (told : Told) → came ≡ Ok told → AreBornIn (keys_if_open m.rules)

pub follows_left : (came : Result Told Stop) (req : ℕ) (m : MemberState) (s : Clients) (y : Option RunningNode) (effects : List Effect) → AreTyped s → ComesBorn came m → Follows came req m s y effects
    → Left came m y effects
follows_left (Ok told) req m s (Some y) effects typed born f =
    let t = acts_then (acked told.effects) req m y.member s y.clients told effects typed (born.keys told refl) (λ ack others is. born.outcome told refl ack others is) f in
    (told, refl, t.0, t.1, t.2)
follows_left (Ok told) req m s None effects typed born f = absurd f
follows_left (Err (stop.Halted cause)) req m s None effects typed born f =
    let mutes = closings_mute s.conns in
    (refl, ap sent f ∙ mutes.sends, ap acked f ∙ mutes.acks)
follows_left (Err (stop.Halted cause)) req m s (Some y) effects typed born f = absurd f
follows_left (Err stop.Memory) req m s None effects typed born f = absurd f
follows_left (Err stop.Memory) req m s (Some y) effects typed born f = absurd f

-- ---- a connection's bytes, and a batch

pub hears_then : (conn : ℕ) (piece : List ℕ) (m n : MemberState) (s t : Clients) (effects : List Effect) → AreTyped s → AreBornIn (keys_if_open m.rules) → IsBytes piece → HearsPiece conn piece m s n t effects
    → (queued : Option Update) × Then queued [] m n effects × QueuesUpdate t queued
hears_then conn piece m n s t effects typed born bytes h = (
  h.queued,
  submits_then h.queued [] h.told effects effects m n (hears_mute (serving_of m) conn piece (client_at conn s) s t h.told h.queued h.hears) h.submits refl,
  hears_typed (serving_of m) conn piece s t h.told h.queued typed born bytes h.hears,
)

pub submits_alone : (update : Update) (m n : MemberState) (effects : List Effect) → Submits (Some update) [] m n effects → Then (Some update) [] m n effects
submits_alone update m n effects s = submits_then (Some update) [] [] effects effects m n mute_none s refl
