-- What the node was told and tells leads it on as Alone says.
use Rattle.std.proofs.Common.{◌≡◌, inl, inr, ℕ, ◌<◌, Bool, true, false, List, [], ◌∷◌, ◌++◌, map, Option, Some, None, Ok, refl, sym, ap, ◌∙◌, subst}
use Rattle.std.specs.Map.{keys_of}
use Rattle.std.proofs.lemmas.List.{append-nil}
use Rattle.std.specs.Prelude.{is_none, option_to_list}
use Rattle.std.specs.declared.alloc.AllocError.{AllocError}
use Rattle.disk_core.specs.Views.{DiskView}
use Rattle.gum_messages.specs.Messages.{Sent}
use Rattle.update_records.specs.Entry.{Entry}
use Rattle.cluster_member.specs.States.{MemberState}
use Rattle.cluster_rules.specs.declared.effect.CloseCause.TheVariants.{NodeStopped}
use Rattle.cluster_rules.specs.declared.effect.Effect.{Effect}
use Rattle.cluster_rules.specs.declared.effect.Effect.TheVariants.{Closed}
use Rattle.cluster_rules.specs.declared.effect.HaltCause.{HaltCause}
use Rattle.cluster_rules.specs.Worlds.{sent}
use Rattle.cluster_node.specs.Events.{NodeReceives}
use Rattle.cluster_node.specs.States.{RunningNode}
use Rattle.single_items.specs.Events.{told_to}
use Rattle.single_items.specs.Standing.{StandsAt}
use Rattle.single_items.proofs.Telling.{told_both}
use Rattle.single_node.specs.Delivering.{LogsAll, StoppedAt, UnderWay}
use Rattle.single_node.specs.Laws.{HaltedAt}
use Rattle.single_node.specs.Singles.{BreaksOff, HearsOldest, SingleState, halt_cause}
use Rattle.single_node.specs.Standing.{LogsOne, alone_node, work}
use Rattle.single_node.proofs.Applied.{still_self}
use Rattle.single_node.proofs.Delivery.{logs_both}
use Rattle.single_node.proofs.Halting.{halt_leads}
use Rattle.single_node.proofs.Hearing.{message_leads}
use Rattle.single_server.specs.declared.delivering.Turn.{Turn}
use Rattle.single_server.specs.declared.delivering.Turn.TheVariants.{GoesOn, Halts, Rests, RunsOut, WriteFails}
use Rattle.single_server.specs.Hearing.{Beginning, HaltsFor, Heard, Lessens, RepliesLogged, Tells, Turns, work_left}
use Rattle.single_server.proofs.Answering.{message_logged}

-- ---- what a node that stops tells

pub tells_nothing : (c : ℕ) (numbers : List ℕ) → told_to c (map (λ conn. Closed conn NodeStopped) numbers) ≡ []
tells_nothing c [] = refl
tells_nothing c (n ∷ numbers) = tells_nothing c numbers

-- ---- a message

-- One record is a list of records.
logs_at_most : (logged : Option Entry) (x y : MemberState) (v w : DiskView) → LogsOne logged x v y w → LogsAll (option_to_list logged) x v y w
logs_at_most None x y v w one = one
logs_at_most (Some e) x y v w one = (x, y, w, still_self x, one, (refl, still_self y))

module _ (c : ℕ) (b : Beginning) (stream : List ℕ) (told : List Effect) (s t : SingleState) (v w : DiskView) (es : List Effect) (h : Heard c b stream told s v) (hears : HearsOldest s v es t w) where
  -- the node before, with its oldest message in front
  pub before : UnderWay c b.first stream [] [] b.member b.disk (hears.message ∷ hears.others) h.now v told
  before = record {
    added = h.under_way.added;
    logs = h.under_way.logs;
    stands = subst (λ (l : List Sent). StandsAt c b.first stream (alone_node h.now l) (told_to c told) h.under_way.added) hears.oldest h.under_way.stands;
  }

  pub receives : (r : Option RunningNode) → t.node.running ≡ r → NodeReceives {E = AllocError} v (Some h.now) hears.message (Ok es) r w
  receives r is = subst (λ (q : Option RunningNode). NodeReceives {E = AllocError} v (Some h.now) hears.message (Ok es) q w) is
      (subst (λ (q : Option RunningNode). NodeReceives {E = AllocError} v q hears.message (Ok es) t.node.running w) h.runs hears.receives)

  halted : t.node.running ≡ None → HaltedAt c b.first stream hears.message h.now v w es (told_to c told) before.added
  halted is = halt_leads c b.first stream hears.message hears.others h.now v w es (told_to c told) before.added before.stands (receives None is)

  halts_silent : HaltedAt c b.first stream hears.message h.now v w es (told_to c told) before.added → told_to c es ≡ []
  halts_silent at = ap (told_to c) at.effects ∙ tells_nothing c (keys_of h.now.clients.conns)

  -- The halt tells nothing more.
  halts_answered : HaltedAt c b.first stream hears.message h.now v w es (told_to c told) before.added → RepliesLogged c b.first stream (told_to c (told ++ es)) before.added
  unfolding before
  halts_answered at =
      let same : told_to c told ≡ told_to c (told ++ es) = sym (told_both c told es ∙ ap (λ (l : List ℕ). told_to c told ++ l) (halts_silent at) ∙ append-nil (told_to c told)) in
      subst (λ (l : List ℕ). RepliesLogged c b.first stream l before.added) same h.answered

  pub halts : t.node.running ≡ None → (cause : HaltCause) × (halt_cause es ≡ Some cause) × HaltsFor cause c b stream (told ++ es) w × (told_to c es ≡ [])
  halts is =
      let at : HaltedAt c b.first stream hears.message h.now v w es (told_to c told) before.added = halted is in
      let stopped : StoppedAt c b.first stream [] [] b.member b.disk w (told ++ es) = record {
        message = hears.message;
        before = h.now;
        disk = v;
        said = told;
        last = es;
        added = before.added;
        logs = before.logs;
        halted = at;
        whole = refl;
      } in (at.cause, ap halt_cause at.effects, (stopped, refl, halts_answered at), halts_silent at)

  goes_on : (y : RunningNode) → t.node.running ≡ Some y → Heard c b stream (told ++ es) t w × (work_left t < work_left s)
  unfolding before
  goes_on y is =
      let g = message_leads c b.first stream hears.message hears.others h.now v y w es (told_to c told) before.added before.stands (receives (Some y) is) in
      let added : List Entry = before.added ++ option_to_list g.logged in
      let both : told_to c told ++ told_to c es ≡ told_to c (told ++ es) = sym (told_both c told es) in (
        record {
          now = y;
          runs = is;
          under_way = record {
            added = added;
            logs = logs_both before.added (option_to_list g.logged) b.member h.now.member y.member b.disk v w before.logs (logs_at_most g.logged h.now.member y.member v w g.logs);
            stands = subst (λ (l : List Sent). StandsAt c b.first stream (alone_node y l) (told_to c (told ++ es)) added) (sym hears.left)
                (subst (λ (l : List ℕ). StandsAt c b.first stream (alone_node y (hears.others ++ sent es)) l added) both g.stands);
          };
          answered = subst (λ (l : List ℕ). RepliesLogged c b.first stream l added) both
              (message_logged c b.first stream hears.message hears.others h.now v y w es (told_to c told) before.added (option_to_list g.logged) before.stands h.answered (receives (Some y) is));
        },
        subst (λ (n : ℕ). n < work_left s) (sym (worth t y (hears.others ++ sent es) is hears.left))
            (subst (λ (n : ℕ). work (alone_node y (hears.others ++ sent es)) < n) (sym (worth s h.now (hears.message ∷ hears.others) h.runs hears.oldest)) g.less),
      )
    where
      worth : (u : SingleState) (x : RunningNode) (left : List Sent) → u.node.running ≡ Some x → u.left ≡ left → work_left u ≡ work (alone_node x left)
      worth u x left running says = ap (λ (q : Option RunningNode). elim q [ None ↦ 0 | Some z ↦ work (alone_node z u.left) ]) running ∙ ap (λ (l : List Sent). work (alone_node x l)) says

  -- ---- what is written of it

  abbrev pub Stopped : Bool
  Stopped = is_none t.node.running

  pub ends_at : (r : Option RunningNode) → t.node.running ≡ r → (is_none r ≡ true) → t.node.running ≡ None
  ends_at None is stops = is
  ends_at (Some y) is stops = let e : false ≡ true = stops in absurd (cc)

  pub runs_on : (r : Option RunningNode) → t.node.running ≡ r → (is_none r ≡ false) → (y : RunningNode) × (t.node.running ≡ Some y)
  runs_on (Some y) is goes = (y, is)
  runs_on None is goes = let e : true ≡ false = goes in absurd (cc)

  pub stop_has_cause : Stopped ≡ true → (cause : HaltCause) × (halt_cause es ≡ Some cause)
  stop_has_cause stops = let f = halts (ends_at t.node.running refl stops) in (f.0, f.1)

  pub heard_on : Stopped ≡ false → Heard c b stream (told ++ es) t w × (work_left t < work_left s)
  heard_on goes = let r = runs_on t.node.running refl goes in goes_on r.0 r.1

  pub turns_on : (turn : Turn) (old now : Option (List ℕ)) → Tells turn c es Stopped old now → Turns turn c b stream told t w old now
  turns_on Rests old now tells = absurd tells
  turns_on RunsOut old now tells = absurd tells
  turns_on GoesOn old now tells = record { more = es; heard = (heard_on tells.0).0; wrote = tells.1 }
  turns_on WriteFails old now tells = (es, (heard_on tells.0).0, tells.1)
  turns_on (Halts cause) old now tells =
      let f = halts (ends_at t.node.running refl tells.0) in
      let same : Some f.0 ≡ Some cause = sym f.1 ∙ tells.1 in
      let is : f.0 ≡ cause = cc in
      (es, subst (λ (g : HaltCause). HaltsFor g c b stream (told ++ es) w) is f.2, f.3, tells.2)

  pub lessens_on : (turn : Turn) (old now : Option (List ℕ)) → Tells turn c es Stopped old now → Lessens turn s t
  lessens_on Rests old now tells = absurd tells
  lessens_on RunsOut old now tells = tt
  lessens_on GoesOn old now tells = ((heard_on tells.0).1, λ none. let e : ◌≡◌ {A = List Sent} (hears.message ∷ hears.others) [] = sym hears.oldest ∙ none in absurd (cc))
  lessens_on WriteFails old now tells = tt
  lessens_on (Halts cause) old now tells = tt

pub rests_on : (c : ℕ) (b : Beginning) (stream : List ℕ) (told : List Effect) (s t : SingleState) (v w : DiskView) (old : Option (List ℕ)) → Heard c b stream told s v → s.left ≡ [] → t ≡ s → w ≡ v
    → Turns Rests c b stream told t w old old
rests_on c b stream told s t v w old h none same still =
    (subst (λ (u : SingleState). Heard c b stream told u w) (sym same) (subst (λ (d : DiskView). Heard c b stream told s d) (sym still) h), ap (λ (u : SingleState). u.left) same ∙ none, refl)

pub runs_out : (c : ℕ) (b : Beginning) (stream : List ℕ) (told : List Effect) (s t : SingleState) (v w : DiskView) (error : AllocError) (old : Option (List ℕ)) → Heard c b stream told s v → BreaksOff s v error w
    → Turns RunsOut c b stream told t w old old
runs_out c b stream told s t v w error old h breaks = (inl (s, v, h, inr (error, breaks)), refl)
