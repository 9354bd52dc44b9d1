-- What a run leaves.
use Rattle.std.proofs.Common.{◌≡◌, ◌⊎◌, inl, inr, List, [], ◌∷◌, ◌++◌, Option, Some, None, Result, Ok, Err, refl, sym, ap, ◌∙◌, subst, append_assoc}
use Rattle.std.proofs.lemmas.List.{append-nil}
use Rattle.std.specs.Prelude.{option_to_list}
use Rattle.std.specs.List.{AllByRecursion}
use Rattle.update_records.specs.Entry.{Entry}
use Rattle.disk_core.specs.Images.{EachImage}
use Rattle.disk_core.specs.Views.{DiskView, Passes}
use Rattle.quorum_log.specs.declared.fault.AppendFault.TheVariants as append
use Rattle.quorum_log.specs.declared.found.Found.{Found}
use Rattle.quorum_log.specs.Logs.{LogValue}
use Rattle.quorum_log.proofs.Moments.{passes_trans, passes_weaken}
use Rattle.log_contents.specs.declared.contents.LogContents.{LogContents}
use Rattle.log_order.proofs.Crashes.{passes_now}
use Rattle.record_log.specs.declared.fault.AddFault.{AddFault}
use Rattle.record_log.specs.declared.fault.AddFault.TheVariants as add
use Rattle.single_rules.specs.Logging.{to_log}
use Rattle.cluster_member.specs.States.{MemberState}
use Rattle.cluster_node.specs.States.{RunningNode}
use Rattle.single_items.specs.Alone.{alone}
use Rattle.single_items.specs.Promises.{BeginsWith, TellsFirst}
use Rattle.single_node.specs.Delivering.{LogsAll}
use Rattle.single_node.specs.Recording.{HasId}
use Rattle.single_log.specs.Images.{HoldsFront, IsCut, IsKept, MayHoldOne}
use Rattle.single_log.specs.Leaving.{DoubtIsAlones, RunIsCut, RunIsDone}
use Rattle.single_log.specs.Opening.{KeepsOpened}
use Rattle.single_log.specs.Running.{KeepsAll, in_doubt_at}
use Rattle.single_log.proofs.Adding.{holds_now}
use Rattle.single_log.proofs.Fronts.{front_longer, front_one}
use Rattle.single_log.proofs.Running.{message_keeps, records_keep}

module _ (found : Found) (contents : LogContents) where
  -- Moments that hold fronts of a longer list.
  longer : (q more : List Entry) (v u w : DiskView) → IsKept found contents q v u → Passes (HoldsFront found contents (q ++ more)) u w → IsKept found contents (q ++ more) v w
  longer q more v u w k further = record {
    was = k.was;
    opened = k.opened;
    opening = k.opening;
    since = passes_trans (HoldsFront found contents (q ++ more)) k.opened u w
        (passes_weaken (HoldsFront found contents q) (HoldsFront found contents (q ++ more)) k.opened u (λ m h. front_longer found contents q more m h) k.since) further;
  }

  cut_off : (q : List Entry) (doubtful : Option Entry) (v u w : DiskView) → IsKept found contents q v u → Passes (EachImage (MayHoldOne found contents q doubtful)) u w → IsCut found contents q doubtful v w
  cut_off q doubtful v u w k moments = record {
    kept = longer q (option_to_list doubtful) v u w k
        (passes_weaken (EachImage (MayHoldOne found contents q doubtful)) (HoldsFront found contents (q ++ option_to_list doubtful)) u w (λ m is. front_one found contents q doubtful m is) moments);
    images = passes_now (EachImage (MayHoldOne found contents q doubtful)) u w moments;
  }

  module _ (es : List Entry) (v : DiskView) (y : RunningNode) (w : DiskView) (z : MemberState) (u : DiskView) (opens : KeepsOpened found contents v y w) (ids : AllByRecursion HasId es) (logs : LogsAll es y.member w z u) where
    all : KeepsAll found contents [] es w z u
    all = records_keep found contents [] es y.member w z u opens.keeps ids logs

    kept : IsKept found contents es v u
    kept = longer [] es v w u opens.kept all.moments

pub run_is_done : RunIsDone
run_is_done found contents es v y w z u opens ids logs =
    let k = all found contents es v y w z u opens ids logs in
    record { kept = kept found contents es v y w z u opens ids logs; images = holds_now found contents es k.keeps.log u k.keeps.keeps }

pub run_is_cut : RunIsCut
run_is_cut found contents es v y w z u p added end opens ids logs id calls =
    let k = all found contents es v y w z u opens ids logs in
    cut_off found contents es (in_doubt_at (to_log z.rules p) added) v u end (kept found contents es v y w z u opens ids logs)
    (message_keeps found contents es z u p added end k.keeps id calls)

-- ---- the record in doubt

shorter : (whole records : List Entry) (e : Entry) → BeginsWith whole (records ++ e ∷ []) → BeginsWith whole (records ++ [])
shorter whole records e (more, is) = (e ∷ more, is ∙ append_assoc records (e ∷ []) more ∙ ap (λ (l : List Entry). l ++ e ∷ more) (sym (append-nil records)))

pub doubt_is_alones : DoubtIsAlones
doubt_is_alones c first stream output records None added next = next.first_of
doubt_is_alones c first stream output records (Some e) added next = by_doubt (in_doubt_at (Some e) added) (doubtful_is added)
  where
    doubtful_is : (added : Option (Result LogValue AddFault)) → (in_doubt_at (Some e) added ≡ Some e) ⊎ (in_doubt_at (Some e) added ≡ None)
    doubtful_is None = inr refl
    doubtful_is (Some (Ok log)) = inl refl
    doubtful_is (Some (Err (add.Append append.Failed))) = inl refl
    doubtful_is (Some (Err (add.Append (append.Fenced held)))) = inr refl
    doubtful_is (Some (Err (add.Checkpoint fault))) = inr refl
    doubtful_is (Some (Err add.Memory)) = inr refl

    by_doubt : (doubtful : Option Entry) → (doubtful ≡ Some e) ⊎ (doubtful ≡ None) → TellsFirst c first stream output (records ++ option_to_list doubtful)
    by_doubt doubtful (inl is) = subst (λ (d : Option Entry). TellsFirst c first stream output (records ++ option_to_list d)) (sym is) next.first_of
    by_doubt doubtful (inr is) = subst (λ (d : Option Entry). TellsFirst c first stream output (records ++ option_to_list d)) (sym is)
        (λ all fault items. (let f = next.first_of all fault items in record { told = f.told; logged = shorter (alone c first all).records records e f.logged }))
