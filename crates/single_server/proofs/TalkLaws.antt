-- What the node hears of a connection at the door, and of itself.
use Rattle.std.proofs.Common.{◌≡◌, ◌≢◌, ◌⊎◌, inl, inr, ℕ, Bool, true, List, [], ◌∷◌, ◌++◌, Option, Some, None, Result, Ok, Err, is_some, refl, sym, ap, ◌∙◌, subst, append_assoc}
use Rattle.std.specs.Prelude.{IfOk, is_none, ⊤}
use Rattle.std.specs.declared.alloc.AllocError.{AllocError}
use Rattle.std.proofs.lemmas.List.{append-nil}
use Rattle.edge_io.specs.Visits.{Visits}
use Rattle.disk_core.specs.Views.{DiskView}
use Rattle.gum_messages.specs.Messages.{Sent}
use Rattle.cluster_rules.specs.declared.effect.Effect.{Effect}
use Rattle.cluster_rules.specs.declared.effect.HaltCause.{HaltCause}
use Rattle.cluster_rules.specs.declared.effect.HaltCause.TheVariants as halt
use Rattle.client_connections.specs.Clients.{client_at}
use Rattle.cluster_node.specs.Events.{HearsBytes}
use Rattle.cluster_node.specs.States.{RunningNode, client_in}
use Rattle.single_items.specs.Events.{told_to}
use Rattle.single_items.proofs.Telling.{told_both}
use Rattle.single_node.specs.Singles.{BreaksOff, HearsOldest, Sends, SingleState}
use Rattle.single_server.specs.declared.ended.Ended.{Ended}
use Rattle.single_server.specs.declared.ended.Ended.TheVariants.{NoMemory, ReadFault, WriteFault}
use Rattle.single_server.specs.declared.talking.Step.{Step}
use Rattle.single_server.specs.declared.talking.Step.TheVariants as step
use Rattle.single_server.specs.Endings.{ended_by}
use Rattle.single_server.specs.Hearing.{Beginning, CutOff, HaltsFor, HasRunOut, Heard}
use Rattle.single_server.specs.Talking.{DeliversAt, HearsAt, IsClosedFor, IsCutAt, IsHeardAt, Says, StepsOn, StepsTo, TellsAt}
use Rattle.single_server.specs.Visits as visits
use Rattle.single_server.proofs.ClosingLaws.{message_closes, piece_comes_to}
use Rattle.single_server.proofs.DoorLaws.{says_both, says_none}
use Rattle.single_server.proofs.Heards.{before, ends_at, halts, heard_on, receives, runs_on}
use Rattle.single_server.proofs.QueueLaws.{message_queues_own}
use Rattle.single_server.proofs.Written.{halts_cut}

abbrev Doors : Type 0
Doors = Option Visits

-- ---- a message

module _ (c : ℕ) (b : Beginning) (stream : List ℕ) (told : List Effect) (s t : SingleState) (v w : DiskView) (es : List Effect) (h : Heard c b stream told s v) (hears : HearsOldest s v es t w) where
  steps_to : (turn : Step) (whole now : Bool) (old new : Doors) → TellsAt turn c es (is_none t.node.running) whole now old new → StepsTo turn c b stream told t w whole now old new
  steps_to step.Rests whole now old new tells = absurd tells
  steps_to step.RunsOut whole now old new tells = absurd tells
  steps_to step.GoesOn whole now old new tells = record { more = es; heard = (heard_on c b stream told s t v w es h hears tells.0).0; says = tells.1 }
  steps_to (step.Halts cause) whole now old new tells =
      let f = halts c b stream told s t v w es h hears (ends_at c b stream told s t v w es h hears t.node.running refl tells.0) in
      let same : Some f.0 ≡ Some cause = sym f.1 ∙ tells.1 in
      let is : f.0 ≡ cause = cc in
      (es, subst (λ (g : HaltCause). HaltsFor g c b stream (told ++ es) w) is f.2, f.3, tells.2, tells.3)

  closes_for : (y : RunningNode) → t.node.running ≡ Some y → IsClosedFor c stream s.node → IsClosedFor c stream t.node
  closes_for y is closed gone =
      let u = before c b stream told s t v w es h hears in
      message_closes c b.first stream (told_to c told) u.added v w hears.message hears.others h.now y es u.stands (receives c b stream told s t v w es h hears (Some y) is)
      (λ none. closed (ap (λ (r : Option RunningNode). elim r [ None ↦ None | Some x ↦ client_at c x.clients ]) h.runs ∙ none))
      (sym (ap (λ (r : Option RunningNode). elim r [ None ↦ None | Some x ↦ client_at c x.clients ]) is) ∙ gone)

  steps_on : (turn : Step) (whole now : Bool) (old new : Doors) → TellsAt turn c es (is_none t.node.running) whole now old new → StepsOn turn c stream s t
  steps_on step.Rests whole now old new tells = absurd tells
  steps_on step.RunsOut whole now old new tells = tt
  steps_on step.GoesOn whole now old new tells =
      let r = runs_on c b stream told s t v w es h hears t.node.running refl tells.0 in (
        (heard_on c b stream told s t v w es h hears tells.0).1,
        λ none. let e : ◌≡◌ {A = List Sent} (hears.message ∷ hears.others) [] = sym hears.oldest ∙ none in absurd (cc),
        closes_for r.0 r.1,
        message_queues_own c v w hears.message s.node t.node es hears.receives,
      )
  steps_on (step.Halts cause) whole now old new tells = tt

  pub steps_both : (turn : Step) (whole now : Bool) (old new : Doors) → TellsAt turn c es (is_none t.node.running) whole now old new → StepsTo turn c b stream told t w whole now old new × StepsOn turn c stream s t
  steps_both turn whole now old new tells = (steps_to turn whole now old new tells, steps_on turn whole now old new tells)

pub rests_at : (c : ℕ) (b : Beginning) (stream : List ℕ) (told : List Effect) (s t : SingleState) (v w : DiskView) (whole : Bool) (old : Doors) → Heard c b stream told s v → s.left ≡ [] → t ≡ s → w ≡ v
    → StepsTo step.Rests c b stream told t w whole whole old old × StepsOn step.Rests c stream s t
rests_at c b stream told s t v w whole old h none same still = (
  (subst (λ (u : SingleState). Heard c b stream told u w) (sym same) (subst (λ (d : DiskView). Heard c b stream told s d) (sym still) h), ap (λ (u : SingleState). u.left) same ∙ none, refl, refl),
  same,
)

pub runs_out_at : (c : ℕ) (b : Beginning) (stream : List ℕ) (told : List Effect) (s t : SingleState) (v w : DiskView) (error : AllocError) (whole : Bool) (old : Doors) → Heard c b stream told s v → BreaksOff s v error w
    → StepsTo step.RunsOut c b stream told t w whole whole old old × StepsOn step.RunsOut c stream s t
runs_out_at c b stream told s t v w error whole old h breaks = ((inl (s, v, h, inr (error, breaks)), refl, refl), tt)

-- ---- one thing behind the other

module _ (c : ℕ) (b : Beginning) (stream : List ℕ) (told : List Effect) where
  says_then : (one other : List Effect) (whole between now : Bool) (old mid new : Doors) → Says (told_to c one) whole between old mid → Says (told_to c other) between now mid new → Says (told_to c (one ++ other)) whole now old new
  says_then one other whole between now old mid new first second =
      subst (λ (l : List ℕ). Says l whole now old new) (sym (told_both c one other)) (says_both (told_to c one) (told_to c other) whole between now old mid new first second)

  pub heard_now : (t : SingleState) (w : DiskView) (whole now : Bool) (old new : Doors) → Heard c b stream told t w → now ≡ whole → new ≡ old → IsHeardAt c b stream told t w whole now old new
  heard_now t w whole now old new h same still = record { more = []; heard = subst (λ (l : List Effect). Heard c b stream l t w) (sym (append-nil told)) h; says = says_none [] whole now old new refl same still }

  pub heard_more : (es : List Effect) (t : SingleState) (w : DiskView) (whole between now : Bool) (old mid new : Doors) → Says (told_to c es) whole between old mid → IsHeardAt c b stream (told ++ es) t w between now mid new
      → IsHeardAt c b stream told t w whole now old new
  heard_more es t w whole between now old mid new says g = record {
    more = es ++ g.more;
    heard = subst (λ (l : List Effect). Heard c b stream l t w) (append_assoc told es g.more) g.heard;
    says = says_then es g.more whole between now old mid new says g.says;
  }

  pub cut_more : (ended : Ended) (es : List Effect) (w : DiskView) (whole between now : Bool) (old mid new : Doors) → Says (told_to c es) whole between old mid → IsCutAt ended c b stream (told ++ es) w between now mid new
      → IsCutAt ended c b stream told w whole now old new
  cut_more ended es w whole between now old mid new says g = record {
    more = es ++ g.more;
    cut = subst (λ (l : List Effect). CutOff ended c b stream l w) (append_assoc told es g.more) g.cut;
    says = says_then es g.more whole between now old mid new says g.says;
  }

  pub cut_halts : (cause : HaltCause) (es : List Effect) (w : DiskView) (whole now : Bool) (old new : Doors) → HaltsFor cause c b stream (told ++ es) w → told_to c es ≡ [] → now ≡ whole → new ≡ old
      → IsCutAt (ended_by cause) c b stream told w whole now old new
  cut_halts cause es w whole now old new h silent same still = record { more = es; cut = halts_cut c b stream told cause es w h; says = says_none (told_to c es) whole now old new silent same still }

  pub cut_out : (w : DiskView) (whole now : Bool) (old new : Doors) → HasRunOut c b stream told w → now ≡ whole → new ≡ old → IsCutAt NoMemory c b stream told w whole now old new
  cut_out w whole now old new out same still = record { more = []; cut = subst (λ (l : List Effect). HasRunOut c b stream l w) (sym (append-nil told)) out; says = says_none [] whole now old new refl same still }

-- ---- a piece

module _ (c : ℕ) (piece : List ℕ) (s t : SingleState) (v : DiskView) (es : List Effect) (quiet : s.left ≡ []) (connected : is_some (client_in c s.node) ≡ true) (heard : HearsBytes c piece s.node.running t.node.running es) (sends : Sends s es t)
    (b : Beginning) (stream : List ℕ) (told : List Effect) (h : Heard c b stream told s v) where
  pub hears_at : (result : Result ⊤ Ended) (u : SingleState) (w : DiskView) (whole between now : Bool) (old mid new : Doors) → Says (told_to c es) whole between old mid
      → ((b : Beginning) (stream : List ℕ) (told : List Effect) → Heard c b stream told t v → DeliversAt result c b stream told t u w between now mid new) → IfOk result (λ _. t.left ≡ [] → u ≡ t)
      → HearsAt result c b stream piece told u w whole now old new
  hears_at result u w whole between now old mid new says delivers still = by_case result delivers still (piece_comes_to c b stream piece told s t v es h quiet heard sends connected)
    where
      by_case : (r : Result ⊤ Ended) → ((b : Beginning) (stream : List ℕ) (told : List Effect) → Heard c b stream told t v → DeliversAt r c b stream told t u w between now mid new) → IfOk r (λ _. t.left ≡ [] → u ≡ t)
          → (Heard c b (stream ++ piece) (told ++ es) t v × IsClosedFor c (stream ++ piece) t.node)
          ⊎ (Heard c b stream (told ++ es) t v × (client_in c t.node ≡ None) × (t.left ≡ []) × visits.IsRefused stream piece)
          → HearsAt r c b stream piece told u w whole now old new
      by_case (Ok done) delivers still (inl (g, closed)) =
          let d = delivers b (stream ++ piece) (told ++ es) g in
          (inl (heard_more c b (stream ++ piece) told es u w whole between now old mid new says d.0, d.2 closed), d.1)
      by_case (Ok done) delivers still (inr (g, gone, none, refused)) =
          let d = delivers b stream (told ++ es) g in
          (inr (heard_more c b stream told es u w whole between now old mid new says d.0, ap (λ (x : SingleState). client_in c x.node) (still none) ∙ gone, refused), d.1)
      by_case (Err ended) delivers still (inl (g, closed)) = inl (cut_more c b (stream ++ piece) told ended es w whole between now old mid new says (delivers b (stream ++ piece) (told ++ es) g))
      by_case (Err ended) delivers still (inr (g, gone, none, refused)) = inr (cut_more c b stream told ended es w whole between now old mid new says (delivers b stream (told ++ es) g))

pub out_at_piece : (c : ℕ) (piece : List ℕ) (s t : SingleState) (v : DiskView) (b : Beginning) (stream : List ℕ) (told : List Effect) (whole : Bool) (old : Doors) → Heard c b stream told s v
    → HearsAt (Err NoMemory) c b stream piece told t v whole whole old old
out_at_piece c piece s t v b stream told whole old h = inr (cut_out c b stream told v whole whole old old (inl (s, v, h, inl refl)) refl refl)

-- A node that halts is no failed read and no failed write.
pub no_edge : (cause : HaltCause) → (ended_by cause ≢ ReadFault) × (ended_by cause ≢ WriteFault)
no_edge halt.Disk = (λ e. absurd (cc), λ e. absurd (cc))
no_edge (halt.Fenced held) = (λ e. absurd (cc), λ e. absurd (cc))
no_edge (halt.Image place) = (λ e. absurd (cc), λ e. absurd (cc))

pub ok_then : (r : Result ⊤ Ended) (one other : Type 0) → (one → other) → IfOk r (λ _. one) → IfOk r (λ _. other)
ok_then (Ok done) one other so h = so h
ok_then (Err ended) one other so h = tt
