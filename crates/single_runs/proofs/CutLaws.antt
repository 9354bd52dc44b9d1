-- A run that is cut off at a connection leaves the first of its records.
use Rattle.std.proofs.Common.{◌≡◌, ◌⊎◌, inl, inr, ℕ, IsTrue, List, [], ◌∷◌, ◌++◌, Option, Some, None, Err, refl, sym, ap, ◌∙◌, subst, append_assoc}
use Rattle.std.proofs.lemmas.List.{append-nil}
use Rattle.std.specs.Prelude.{option_to_list}
use Rattle.std.specs.List.{AllByRecursion}
use Rattle.std.specs.declared.alloc.AllocError.{AllocError}
use Rattle.disk_core.specs.Views.{DiskView}
use Rattle.gum_messages.specs.Messages.{Sent}
use Rattle.rpc_calls.specs.declared.intake_fault.IntakeFault.{IntakeFault}
use Rattle.rpc_calls.specs.declared.item.Item.{Item}
use Rattle.rpc_calls.specs.declared.side.Side.TheVariants.{Server}
use Rattle.rpc_calls.specs.Streams.{Items}
use Rattle.update_records.specs.Entry.{Entry}
use Rattle.cluster_rules.specs.declared.effect.Effect.{Effect}
use Rattle.cluster_rules.specs.declared.effect.HaltCause.{HaltCause}
use Rattle.cluster_rules.specs.declared.effect.HaltCause.TheVariants as halt
use Rattle.single_rules.specs.Logging.{to_log}
use Rattle.cluster_member.specs.States.{MemberState}
use Rattle.cluster_node.specs.Events.{NodeReceives}
use Rattle.cluster_node.specs.States.{RunningNode}
use Rattle.single_items.specs.Alone.{AloneRun, alone}
use Rattle.single_items.specs.Events.{told_to}
use Rattle.single_items.specs.Promises.{BeginsWith}
use Rattle.single_items.specs.Standing.{StandsAt}
use Rattle.single_items.proofs.Fronts.{tells_first}
use Rattle.single_node.specs.Delivering.{LogsAll, StoppedAt}
use Rattle.single_node.specs.Recording.{HasId, IsNamed, IsNext}
use Rattle.single_node.specs.Singles.{BreaksOff, SingleState}
use Rattle.single_node.specs.Standing.{IsStill, alone_node}
use Rattle.single_node.proofs.Applied.{next_is_alones}
use Rattle.single_node.proofs.Delivery.{logs_both}
use Rattle.single_log.specs.Images.{IsCut, IsDone, IsKept}
use Rattle.single_log.specs.Running.{in_doubt_at}
use Rattle.single_log.proofs.Leaving.{doubt_is_alones, run_is_cut, run_is_done}
use Rattle.single_server.specs.declared.ended.Ended.{Ended}
use Rattle.single_server.specs.declared.ended.Ended.TheVariants.{BadLog, DiskFault, Done, Fenced, NoMemory, ReadFault, WriteFault}
use Rattle.single_server.specs.Begins.{BeginsOn}
use Rattle.single_server.specs.Hearing.{Beginning, CutOff, HaltsFor, Heard}
use Rattle.single_runs.specs.Images.{FirstRecords, LeavesFirst, contents_at, found_at}
use Rattle.single_runs.proofs.Counting.{both_named}
use Rattle.single_runs.proofs.DoneLaws.{ids_at}
use Rattle.single_runs.proofs.Keeps.{keeps_opened, logs_from}

module _ (stamp : ℕ) (v : DiskView) (first : AloneRun) (x : MemberState) (u : DiskView) (begins : BeginsOn stamp v first x u) (before : List Entry) (c : ℕ) (b : Beginning)
    (logs : LogsAll before x u b.member b.disk) (ids : AllByRecursion HasId before) (named : IsNamed b.first.single) (none : b.first.records ≡ []) (silent : b.first.output ≡ []) (told : IsTrue v.tells) where
  abbrev Leaves : List ℕ → List Effect → DiskView → Type 0
  Leaves stream es w = (more : FirstRecords c b.first stream (told_to c es)) × IsCut (found_at begins) (contents_at begins) (before ++ more.records) more.doubtful v w

  module _ (added : List Entry) (y : MemberState) (m : DiskView) (further : LogsAll added b.member b.disk y m) where
    logs_here : LogsAll (before ++ added) begins.node.member u y m
    logs_here = logs_from stamp v first x u begins (before ++ added) y m (logs_both before added x b.member y u b.disk m logs further)

  -- Between two events each image holds these records.
  whole : (es : List Entry) (w : DiskView) → IsDone (found_at begins) (contents_at begins) es v w → IsCut (found_at begins) (contents_at begins) es None v w
  whole es w done = record {
    kept = subst (λ (l : List Entry). IsKept (found_at begins) (contents_at begins) l v w) (sym (append-nil es)) done.kept;
    images = done.images;
  }

  heard_leaves : (stream : List ℕ) (es : List Effect) (s : SingleState) (w : DiskView) → Heard c b stream es s w → Leaves stream es w
  heard_leaves stream es s w h =
      let way = h.under_way in
      let named_added = ids_at c b.first stream (alone_node h.now s.left) (told_to c es) way.added way.stands named none in (
        record {
          records = way.added;
          doubtful = None;
          first_of = λ given fault items.
              subst (λ (l : List Entry). BeginsWith (alone c b.first given).records l) (sym (append-nil way.added))
              (tells_first c b.first stream (alone_node h.now s.left) (told_to c es) way.added way.stands given fault items).logged;
          answered = h.answered;
        },
        whole (before ++ way.added) w
            (run_is_done (found_at begins) (contents_at begins) (before ++ way.added) v begins.node u h.now.member w (keeps_opened stamp v first x u begins told)
            (both_named before way.added ids named_added) (logs_here way.added h.now.member w way.logs)),
      )

  -- At a message the record that it has the node log may be in doubt.
  module _ (stream output : List ℕ) (added : List Entry) (p : Sent) (left : List Sent) (y : RunningNode) (m : DiskView) (further : LogsAll added b.member b.disk y.member m)
      (stands : StandsAt c b.first stream (alone_node y (p ∷ left)) output added) where
    next : IsNext c b.first stream output added (to_log y.member.rules p)
    next = next_is_alones c b.first stream (alone_node y (p ∷ left)) output added p left stands refl

  -- ---- the run is cut off

  halted_leaves : (cause : HaltCause) (stream : List ℕ) (es : List Effect) (w : DiskView) → HaltsFor cause c b stream es w → Leaves stream es w
  halted_leaves cause stream es w (at, is, answered) =
      let h = at.halted in
      let y = at.before in
      let n = next stream (told_to c at.said) at.added at.message h.left y at.disk at.logs h.stood in (
        record {
          records = at.added;
          doubtful = in_doubt_at (to_log y.member.rules at.message) h.added;
          first_of = λ given fault items. (doubt_is_alones c b.first stream (told_to c at.said) at.added (to_log y.member.rules at.message) h.added n given fault items).logged;
          answered = answered;
        },
        run_is_cut (found_at begins) (contents_at begins) (before ++ at.added) v begins.node u y.member at.disk at.message h.added w (keeps_opened stamp v first x u begins told)
            (both_named before at.added ids (ids_at c b.first stream (alone_node y (at.message ∷ h.left)) (told_to c at.said) at.added h.stood named none))
            (logs_here at.added y.member at.disk at.logs) (λ e logged. n.named named e logged) h.logs,
      )

  broken_leaves : (stream : List ℕ) (es : List Effect) (s : SingleState) (m w : DiskView) (error : AllocError) → Heard c b stream es s m → BreaksOff s m error w → Leaves stream es w
  broken_leaves stream es s m w error h off =
      let way = h.under_way in
      let y = h.now in
      let stands : StandsAt c b.first stream (alone_node y (off.message ∷ off.others)) (told_to c es) way.added =
      subst (λ (l : List Sent). StandsAt c b.first stream (alone_node y l) (told_to c es) way.added) off.oldest way.stands in
      let receives : NodeReceives {E = AllocError} m (Some y) off.message (Err error) None w =
      subst (λ (r : Option RunningNode). NodeReceives {E = AllocError} m r off.message (Err error) None w) h.runs off.receives in
      let n = next stream (told_to c es) way.added off.message off.others y m way.logs stands in (
        record {
          records = way.added;
          doubtful = in_doubt_at (to_log y.member.rules off.message) receives.event.added;
          first_of = λ given fault items. (doubt_is_alones c b.first stream (told_to c es) way.added (to_log y.member.rules off.message) receives.event.added n given fault items).logged;
          answered = h.answered;
        },
        run_is_cut (found_at begins) (contents_at begins) (before ++ way.added) v begins.node u y.member m off.message receives.event.added w (keeps_opened stamp v first x u begins told)
            (both_named before way.added ids (ids_at c b.first stream (alone_node y (off.message ∷ off.others)) (told_to c es) way.added stands named none))
            (logs_here way.added y.member m way.logs) (λ e logged. n.named named e logged) receives.event.logs,
      )

  -- As the connection was to begin no record was logged.
  nothing_leaves : (stream : List ℕ) (es : List Effect) (w : DiskView) → stream ≡ [] → es ≡ [] → w ≡ b.disk → Leaves stream es w
  nothing_leaves stream es w unheard untold still =
      let same : IsStill b.member b.member = record { log = refl; replica = refl; last = refl } in (
        record {
          records = [];
          doubtful = None;
          first_of = λ given fault items. ((alone c b.first given).records, refl);
          answered = λ given fault items. record { front = []; among = (given, refl); told = ap (told_to c) untold ∙ sym silent; logged = ([], sym none ∙ sym (append-nil b.first.records)) };
        },
        whole (before ++ []) w
            (run_is_done (found_at begins) (contents_at begins) (before ++ []) v begins.node u b.member w (keeps_opened stamp v first x u begins told)
            (both_named before [] ids tt) (logs_here [] b.member w (still, same))),
      )

  cut_leaves : (ended : Ended) (stream : List ℕ) (es : List Effect) (w : DiskView) → CutOff ended c b stream es w → Leaves stream es w
  cut_leaves Done stream es w off = absurd off
  cut_leaves ReadFault stream es w (s, h) = heard_leaves stream es s w h
  cut_leaves WriteFault stream es w (s, h) = heard_leaves stream es s w h
  cut_leaves DiskFault stream es w off = halted_leaves halt.Disk stream es w off
  cut_leaves (Fenced held) stream es w off = halted_leaves (halt.Fenced held) stream es w off
  cut_leaves (BadLog place) stream es w off = halted_leaves (halt.Image place) stream es w off
  cut_leaves NoMemory stream es w (inl (s, m, h, inl still)) = heard_leaves stream es s w (subst (λ (d : DiskView). Heard c b stream es s d) (sym still) h)
  cut_leaves NoMemory stream es w (inl (s, m, h, inr (error, off))) = broken_leaves stream es s m w error h off
  cut_leaves NoMemory stream es w (inr (unheard, untold, still)) = nothing_leaves stream es w unheard untold still

pub leaves_first : (stamp : ℕ) (v : DiskView) (first : AloneRun) (x : MemberState) (u : DiskView) (begins : BeginsOn stamp v first x u) (before : List Entry) (c : ℕ) (b : Beginning)
    → LogsAll before x u b.member b.disk → AllByRecursion HasId before → IsNamed b.first.single → b.first.records ≡ [] → b.first.output ≡ []
    → (ended : Ended) (stream : List ℕ) (es : List Effect) (w : DiskView) → CutOff ended c b stream es w → LeavesFirst begins before c b.first stream (told_to c es) w
leaves_first stamp v first x u begins before c b logs ids named none silent ended stream es w off =
    λ told. cut_leaves stamp v first x u begins before c b logs ids named none silent told ended stream es w off
