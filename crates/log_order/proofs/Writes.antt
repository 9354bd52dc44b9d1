-- A record is added to the log, or the log begins anew.
use Rattle.std.proofs.Common.{◌≡◌, ℕ, inl, inr, List, [], ◌∷◌, ◌++◌, Some, None, refl, sym, ◌∙◌, subst}
use Rattle.update_records.specs.Entry.{Entry, record_text}
use Rattle.registry_defs.specs.Keys.{root_alone}
use Rattle.registry_defs.specs.Spelling.{registry_text}
use Rattle.disk_core.specs.Views.{DiskView}
use Rattle.quorum_log.specs.declared.found.Found.{Found}
use Rattle.quorum_log.specs.Changes.{with_record, HoldsEither, IsInChange}
use Rattle.quorum_log.specs.Formats.{empty_log}
use Rattle.quorum_log.specs.Logs.{LogValue}
use Rattle.quorum_log.proofs.Moments.{passes_trans, passes_weaken, settled_images}
use Rattle.cluster_rules.specs.Worlds.{Log, append, leave}
use Rattle.log_order.specs.Orders.{IsOrderOf}
use Rattle.log_order.specs.OrderLaws.{IsNext}
use Rattle.log_order.specs.AppendLaws.{AddMoments, AppendMoments, AppendRefines, DoubtWeakens}
use Rattle.log_order.specs.CheckpointLaws.{CheckpointMoments, CheckpointRefines, FormatRefines, begun_anew}
use Rattle.log_order.specs.Refinement.{MayHold, MomentOf, Owns}
use Rattle.log_order.proofs.Owners.{owned}
use Rattle.log_order.proofs.Steps.{order_begun, order_empty, order_push}

-- ---- an append

pushed : (l : Log) (v : DiskView) (log : LogValue) (e : Entry) (o : Owns l v log) → log.version ≡ 2 → IsNext l.order e → IsOrderOf l.cap (l.order ++ e ∷ []) (with_record o.found (record_text e))
pushed l v log e o version next = order_push l.cap l.order o.found e o.is (sym o.stands.version ∙ version) next

either_order : (l : Log) (e : Entry) (view : ℕ) (x y : Found) → IsOrderOf l.cap l.order x → IsOrderOf l.cap (l.order ++ e ∷ []) y → (image : List ℕ) → HoldsEither x y image → MayHold (leave (Some e) view l) image
either_order l e view x y is more image holds = elim holds [
  | inl old ↦ inl (record { found = x; holds = old; is = is })
  | inr new ↦ inr (e, refl, record { found = y; holds = new; is = more })
]

pub append_moments : AppendMoments
append_moments l v w log e view refines o version next passes =
    let y = with_record o.found (record_text e) in
    let more = pushed l v log e o version next in
    passes_weaken (IsInChange v.current.held o.found y) (MomentOf (leave (Some e) view l)) v w
    (λ m is. (is.0 ∙ refines.now.0, λ c image. either_order l e view o.found y o.is more c (is.1 c image))) passes

pub append_refines : AppendRefines
append_refines l v w log new e view refines o version next stands claim held =
    owned (append (Some e) view l) w new (with_record o.found (record_text e)) o.sure stands (pushed l v log e o version next) (claim ∙ o.claim) (held ∙ refines.now.0)

no_doubt : (l : Log) (e : Entry) → l.doubtful ≡ None → l.doubtful ≡ Some e → ⊥
no_doubt l e none some = cc

pub doubt_weakens : DoubtWeakens
doubt_weakens l m e view sure is = (
  is.0,
  λ c image. elim (is.1 c image) [
    | inl old ↦ inl old
    | inr new ↦ absurd (no_doubt l new.0 sure new.1)
  ],
)

pub add_moments : AddMoments
add_moments l v u w e view sure before behind =
    passes_trans (MomentOf (leave (Some e) view l)) v u w (passes_weaken (MomentOf l) (MomentOf (leave (Some e) view l)) v u (λ m is. doubt_weakens l m e view sure is) before) behind

-- ---- a checkpoint

same_order : (l : Log) (x y : Found) → IsOrderOf l.cap l.order x → IsOrderOf l.cap l.order y → (image : List ℕ) → HoldsEither x y image → MayHold l image
same_order l x y is same image holds = elim holds [
  | inl old ↦ inl (record { found = x; holds = old; is = is })
  | inr new ↦ inl (record { found = y; holds = new; is = same })
]

pub checkpoint_moments : CheckpointMoments
checkpoint_moments l v w log refines o all passes =
    let y = begun_anew l o.found in
    let same : IsOrderOf l.cap l.order y = order_begun l.cap l.order o.found all o.is in
    passes_weaken (IsInChange v.current.held o.found y) (MomentOf l) v w
    (λ m is. (is.0 ∙ refines.now.0, λ c image. same_order l o.found y o.is same c (is.1 c image))) passes

pub checkpoint_refines : CheckpointRefines
checkpoint_refines l v w log new refines o all stands claim held =
    owned l w new (begun_anew l o.found) o.sure stands (order_begun l.cap l.order o.found all o.is) (claim ∙ o.claim) (held ∙ refines.now.0)

-- ---- the first log

pub format_refines : FormatRefines
format_refines l v range empty held tells is =
    let x = empty_log l.cap (registry_text root_alone) in
    let order : IsOrderOf l.cap l.order x = subst (λ (es : List Entry). IsOrderOf l.cap es x) (sym empty) (order_empty l.cap range) in
    let here : MayHold l v.current.seen = inl (record { found = x; holds = is.holds; is = order }) in
    record { tells = tells; now = (sym held, settled_images (MayHold l) v.current is.settled here) }
