-- A piece of the connection's stream leads the node on, or the node closes the connection.
use Rattle.std.proofs.Common.{◌≡◌, ◌⊎◌, inl, inr, ℕ, List, [], ◌++◌, Option, Some, None, refl, sym, ap, ◌∙◌, subst}
use Rattle.std.proofs.lemmas.List.{append-nil}
use Rattle.disk_core.specs.Views.{DiskView}
use Rattle.gum_messages.specs.Messages.{Sent}
use Rattle.update_records.specs.declared.update.Update.{Update}
use Rattle.rpc_calls.specs.Intakes.{Kept}
use Rattle.cluster_rules.specs.declared.effect.CloseCause.{CloseCause}
use Rattle.cluster_rules.specs.declared.effect.Effect.{Effect}
use Rattle.cluster_rules.specs.Worlds.{sent}
use Rattle.client_connections.specs.declared.origin.Origin.{Origin}
use Rattle.client_connections.specs.Clients.{Client, Clients, client_at, left_by}
use Rattle.client_connections.specs.Taking.{Hears, HearsBy, Serving}
use Rattle.cluster_node.specs.Acting.{HearsPiece, serving_of}
use Rattle.cluster_node.specs.Events.{HearsBytes}
use Rattle.cluster_node.specs.States.{RunningNode, client_in}
use Rattle.single_items.specs.Events.{told_to}
use Rattle.single_items.specs.Promises.{IsRefused}
use Rattle.single_items.specs.Standing.{NodeAlone, Phase, StandsAt, clients_of, waiting_on}
use Rattle.single_items.specs.Alone.{AloneRun}
use Rattle.single_items.proofs.Keeping.{left_one}
use Rattle.single_items.proofs.Telling.{told_both}
use Rattle.single_node.specs.Singles.{Sends, SingleState}
use Rattle.single_node.specs.Standing.{alone_node}
use Rattle.single_node.proofs.Applied.{still_as_stands}
use Rattle.single_node.proofs.Delivery.{logs_still}
use Rattle.single_node.proofs.Pieces.{bytes_lead}
use Rattle.single_server.specs.Hearing.{Beginning, Heard, RepliesLogged}
use Rattle.single_server.proofs.Answering.{piece_logged}

-- ---- a connection that is closed is gone

gone_from : (c : ℕ) (waiting : List Origin) (r : AloneRun) (kept : Kept) (k : Client) → client_at c (left_by c k (clients_of c waiting r (Some kept))) ≡ None
gone_from c waiting r kept k = ap (client_at c) (left_one (clients_of c waiting r (Some kept)).common c (record { intake = kept; association = r.client.association }) k)

-- It takes no piece: it was gone, or leaves now.
is_gone : (c : ℕ) (piece : List ℕ) (v : Serving) (s t : Clients) (waiting : List Origin) (r : AloneRun) (intake : Option Kept) (told : List Effect) (queued : Option Update) (es : List Effect)
    → s ≡ clients_of c waiting r intake → Hears v c piece (client_at c s) s t told queued → IsRefused c piece s es → client_at c t ≡ None
is_gone c piece v s t waiting r intake told queued es is hears (inl (none, silent)) =
    let h = subst (λ (k : Option Client). Hears v c piece k s t told queued) none hears in ap (client_at c) h.clients ∙ none
is_gone c piece v s t waiting r None told queued es is hears (inr (k, cause, here, because, says)) =
    let e : ◌≡◌ {A = Option Client} None (Some k) = sym (ap (client_at c) is) ∙ here in absurd (cc)
is_gone c piece v s t waiting r (Some kept) told queued es is hears (inr (k, cause, here, because, says)) =
    let h = subst (λ (q : Option Client). Hears v c piece q s t told queued) here hears in
    let g = subst (λ (q : Option CloseCause). HearsBy q v c piece k s t told queued) because h in
    ap (client_at c) (g.clients ∙ ap (left_by c k) is) ∙ gone_from c waiting r kept k

-- ---- the piece

module _ (c : ℕ) (b : Beginning) (stream piece : List ℕ) (told : List Effect) (s t : SingleState) (v : DiskView) (es : List Effect) (h : Heard c b stream told s v) (quiet : s.left ≡ [])
    (heard : HearsBytes c piece s.node.running t.node.running es) (sends : Sends s es t) where
  pub stands : StandsAt c b.first stream (alone_node h.now []) (told_to c told) h.under_way.added
  stands = subst (λ (l : List Sent). StandsAt c b.first stream (alone_node h.now l) (told_to c told) h.under_way.added) quiet h.under_way.stands

  pub left_is : t.left ≡ sent es
  left_is = sends ∙ ap (λ (l : List Sent). l ++ sent es) quiet

  pub heard_at : (y : RunningNode) → t.node.running ≡ Some y → HearsPiece c piece h.now.member h.now.clients y.member y.clients es
  heard_at y is = subst (λ (r : Option RunningNode). HearsBytes c piece (Some h.now) r es) is (subst (λ (r : Option RunningNode). HearsBytes c piece r t.node.running es) h.runs heard)

  -- The node stands there behind this stream.
  pub heard_of : (y : RunningNode) (more : List ℕ) → t.node.running ≡ Some y → StandsAt c b.first more (alone_node y (sent es)) (told_to c (told ++ es)) h.under_way.added
      → RepliesLogged c b.first more (told_to c (told ++ es)) h.under_way.added → Heard c b more (told ++ es) t v
  heard_of y more is there answered = record {
    now = y;
    runs = is;
    under_way = record {
      added = h.under_way.added;
      logs = logs_still h.under_way.added b.member h.now.member y.member b.disk v v h.under_way.logs refl
          (still_as_stands c b.first stream more h.now y [] (sent es) (told_to c told) (told_to c (told ++ es)) h.under_way.added (heard_at y is).submits.log stands there);
      stands = subst (λ (l : List Sent). StandsAt c b.first more (alone_node y l) (told_to c (told ++ es)) h.under_way.added) (sym left_is) there;
    };
    answered = answered;
  }

  -- What it tells of the piece comes behind the records.
  pub taken_answered : (y : RunningNode) → t.node.running ≡ Some y → StandsAt c b.first (stream ++ piece) (alone_node y (sent es)) (told_to c told ++ told_to c es) h.under_way.added
      → RepliesLogged c b.first (stream ++ piece) (told_to c (told ++ es)) h.under_way.added
  taken_answered y is there =
      subst (λ (l : List ℕ). RepliesLogged c b.first (stream ++ piece) l h.under_way.added) (sym (told_both c told es))
      (piece_logged c b.first stream piece h.now y es (told_to c told) h.under_way.added stands (heard_at y is) there)

  abbrev Taken : Type 0
  Taken = Heard c b (stream ++ piece) (told ++ es) t v ⊎ (Heard c b stream (told ++ es) t v × (client_in c t.node ≡ None) × (t.left ≡ []))

  refused_silent : IsRefused c piece h.now.clients es → (told_to c es ≡ []) × (sent es ≡ [])
  refused_silent (inl (gone, none)) = (ap (told_to c) none, ap sent none)
  refused_silent (inr (k, cause, here, because, says)) = (ap (told_to c) says, ap sent says)

  by_case : (y : RunningNode) → t.node.running ≡ Some y
      → StandsAt c b.first (stream ++ piece) (alone_node y (sent es)) (told_to c told ++ told_to c es) h.under_way.added ⊎ (StandsAt c b.first stream (alone_node y (sent es)) (told_to c told) h.under_way.added × IsRefused c piece h.now.clients es)
      → Taken
  by_case y is (inl there) = inl (heard_of y (stream ++ piece) is
      (subst (λ (l : List ℕ). StandsAt c b.first (stream ++ piece) (alone_node y (sent es)) l h.under_way.added) (sym (told_both c told es)) there)
      (taken_answered y is there))
  by_case y is (inr (there, refused)) =
      let silent = refused_silent refused in
      let same : told_to c told ≡ told_to c (told ++ es) = sym (told_both c told es ∙ ap (λ (l : List ℕ). told_to c told ++ l) silent.0 ∙ append-nil (told_to c told)) in
      let p : Phase = stands.phase in
      let at = heard_at y is in
      let gone : client_at c y.clients ≡ None = is_gone c piece (serving_of h.now.member) h.now.clients y.clients (waiting_on p.way) p.run p.intake at.told at.queued es (ap (λ (z : NodeAlone). z.clients) stands.is) at.hears refused in
      inr (
        heard_of y stream is (subst (λ (l : List ℕ). StandsAt c b.first stream (alone_node y (sent es)) l h.under_way.added) same there)
            (subst (λ (l : List ℕ). RepliesLogged c b.first stream l h.under_way.added) same h.answered),
        ap (λ (r : Option RunningNode). elim r [ None ↦ None | Some x ↦ client_at c x.clients ]) is ∙ gone,
        left_is ∙ silent.1,
      )

  by_running : (r : Option RunningNode) → t.node.running ≡ r → Taken
  by_running None is =
      absurd (subst (λ (r : Option RunningNode). HearsBytes c piece (Some h.now) r es) is (subst (λ (r : Option RunningNode). HearsBytes c piece r t.node.running es) h.runs heard))
  by_running (Some y) is = by_case y is (bytes_lead c b.first stream piece h.now y es (told_to c told) h.under_way.added stands (heard_at y is))

  pub piece_taken : Heard c b (stream ++ piece) (told ++ es) t v ⊎ (Heard c b stream (told ++ es) t v × (client_in c t.node ≡ None) × (t.left ≡ []))
  piece_taken = by_running t.node.running refl
