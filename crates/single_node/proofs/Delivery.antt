-- The messages are heard in turn.
use Rattle.std.proofs.Common.{◌≡◌, ◌⊎◌, inl, inr, ℕ, List, [], ◌∷◌, ◌++◌, Option, Some, None, refl, sym, ap, ◌∙◌, subst, append_assoc}
use Rattle.std.proofs.lemmas.List.{append-nil}
use Rattle.std.specs.Prelude.{option_to_list}
use Rattle.disk_core.specs.Views.{DiskView}
use Rattle.update_records.specs.Entry.{Entry}
use Rattle.cluster_rules.specs.declared.effect.Effect.{Effect}
use Rattle.cluster_rules.specs.Worlds.{sent}
use Rattle.cluster_member.specs.States.{MemberState}
use Rattle.client_connections.specs.Clients.{Clients}
use Rattle.cluster_node.specs.States.{RunningNode}
use Rattle.single_items.specs.Alone.{AloneRun}
use Rattle.single_items.specs.Events.{told_to}
use Rattle.single_items.specs.Promises.{IsRefused}
use Rattle.single_items.specs.Standing.{StandsAt}
use Rattle.single_items.proofs.Telling.{told_both}
use Rattle.single_node.specs.Delivering.{DeliveryGoesOn, DeliveryStops, LogsAll, PieceBegins, UnderWay}
use Rattle.single_node.specs.Recording.{LogsJoin}
use Rattle.single_node.specs.Standing.{AddsOne, IsStill, LogsOne, alone_node}
use Rattle.single_node.proofs.Halting.{halt_leads}
use Rattle.single_node.proofs.Hearing.{message_leads}
use Rattle.single_node.proofs.Pieces.{bytes_lead}
use Rattle.single_node.proofs.Applied.{still_as_stands, still_both, still_self}

-- ---- the records in turn

pub logs_still : (added : List Entry) (x y z : MemberState) (v w u : DiskView) → LogsAll added x v y w → u ≡ w → IsStill y z → LogsAll added x v z u
logs_still [] x y z v w u (there, same) on kept = (on ∙ there, still_both x y z same kept)
logs_still (e ∷ added) x y z v w u (m, n, d, had, adds, more) on kept = (m, n, d, had, adds, logs_still added n y z d w u more on kept)

logs_more : (added : List Entry) (e : Entry) (x y z : MemberState) (v w u : DiskView) → LogsAll added x v y w → LogsOne (Some e) y w z u → LogsAll (added ++ e ∷ []) x v z u
logs_more [] e x y z v w u (there, same) adds = (y, z, u, same, subst (λ (d : DiskView). LogsOne (Some e) y d z u) there adds, (refl, still_self z))
logs_more (f ∷ added) e x y z v w u (m, n, d, had, first, more) adds = (m, n, d, had, first, logs_more added e n y z d w u more adds)

logs_on : (added : List Entry) (logged : Option Entry) (x y z : MemberState) (v w u : DiskView) → LogsAll added x v y w → LogsOne logged y w z u → LogsAll (added ++ option_to_list logged) x v z u
logs_on added None x y z v w u all one = subst (λ (l : List Entry). LogsAll l x v z u) (sym (append-nil added)) (logs_still added x y z v w u all one.0 one.1)
logs_on added (Some e) x y z v w u all one = logs_more added e x y z v w u all one

logs_from : (added : List Entry) (x y z : MemberState) (v w u : DiskView) → LogsAll added y w z u → w ≡ v → IsStill x y → LogsAll added x v z u
logs_from [] x y z v w u (there, same) on kept = (there ∙ on, still_both x y z kept same)
logs_from (e ∷ added) x y z v w u (m, n, d, had, adds, more) on kept = (m, n, d, still_both x y m kept had, subst (λ (k : DiskView). AddsOne e m k n d) on adds, more)

-- First these and then those.
pub logs_both : LogsJoin
logs_both [] others x y z v w u (there, same) more = logs_from others x y z v w u more there same
logs_both (e ∷ added) others x y z v w u (m, n, d, had, adds, first) more = (m, n, d, had, adds, logs_both added others n y z d w u first more)

pub told_on : (c : ℕ) (output : List ℕ) (told es : List Effect) → (output ++ told_to c told) ++ told_to c es ≡ output ++ told_to c (told ++ es)
told_on c output told es = append_assoc output (told_to c told) (told_to c es) ∙ ap (λ (l : List ℕ). output ++ l) (sym (told_both c told es))

-- ---- the messages

pub delivery_goes_on : DeliveryGoesOn
delivery_goes_on c first stream output records x v p left y w told z u es h receives =
    let g = message_leads c first stream p left y w z u es (output ++ told_to c told) (records ++ h.added) h.stands receives in (
      record {
        added = h.added ++ option_to_list g.logged;
        logs = logs_on h.added g.logged x y.member z.member v w u h.logs g.logs;
        stands = subst (λ (l : List ℕ). StandsAt c first stream (alone_node z (left ++ sent es)) l (records ++ (h.added ++ option_to_list g.logged))) (told_on c output told es)
            (subst (λ (l : List Entry). StandsAt c first stream (alone_node z (left ++ sent es)) ((output ++ told_to c told) ++ told_to c es) l) (append_assoc records h.added (option_to_list g.logged)) g.stands);
      },
      g.less,
    )

pub delivery_stops : DeliveryStops
delivery_stops c first stream output records x v p left y w told u es h receives = record {
  message = p;
  before = y;
  disk = w;
  said = told;
  last = es;
  added = h.added;
  logs = h.logs;
  halted = halt_leads c first stream p left y w u es (output ++ told_to c told) (records ++ h.added) h.stands receives;
  whole = refl;
}

-- ---- a piece

tells_nothing : (c : ℕ) (piece : List ℕ) (s : Clients) (es : List Effect) → IsRefused c piece s es → told_to c es ≡ []
tells_nothing c piece s es (inl (gone, none)) = ap (told_to c) none
tells_nothing c piece s es (inr (k, cause, here, because, says)) = ap (told_to c) says

begins : (c : ℕ) (first : AloneRun) (stream output : List ℕ) (records : List Entry) (x : MemberState) (y : RunningNode) (v : DiskView) (es : List Effect) → IsStill x y.member
    → StandsAt c first stream (alone_node y (sent es)) (output ++ told_to c es) records → UnderWay c first stream output records x v (sent es) y v es
begins c first stream output records x y v es kept h = record {
  added = [];
  logs = (refl, kept);
  stands = subst (λ (l : List Entry). StandsAt c first stream (alone_node y (sent es)) (output ++ told_to c es) l) (sym (append-nil records)) h;
}

pub piece_begins : PieceBegins
piece_begins c first stream piece output records x y v es h heard = by_case (bytes_lead c first stream piece x y es output records h heard)
  where
    by_case : StandsAt c first (stream ++ piece) (alone_node y (sent es)) (output ++ told_to c es) records ⊎ (StandsAt c first stream (alone_node y (sent es)) output records × IsRefused c piece x.clients es)
        → UnderWay c first (stream ++ piece) output records x.member v (sent es) y v es ⊎ (UnderWay c first stream output records x.member v (sent es) y v es × IsRefused c piece x.clients es)
    by_case (inl stands) =
        let kept = still_as_stands c first stream (stream ++ piece) x y [] (sent es) output (output ++ told_to c es) records heard.submits.log h stands in
        inl (begins c first (stream ++ piece) output records x.member y v es kept stands)
    by_case (inr (stands, refused)) =
        let same : output ≡ output ++ told_to c es = sym (ap (λ (l : List ℕ). output ++ l) (tells_nothing c piece x.clients es refused) ∙ append-nil output) in
        let kept = still_as_stands c first stream stream x y [] (sent es) output output records heard.submits.log h stands in
        inr (begins c first stream output records x.member y v es kept (subst (λ (l : List ℕ). StandsAt c first stream (alone_node y (sent es)) l records) same stands), refused)
