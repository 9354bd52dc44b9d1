-- A blank disk, on which the log is made before it is opened.
use Rattle.std.proofs.Common.{◌≡◌, ℕ, ◌+◌, IsTrue, List, [], length, Ok, inl, inr, get_or, sym, ap, ◌∙◌, subst}
use Rattle.disk_core.specs.Images.{EachImage}
use Rattle.disk_core.specs.Views.{DiskView, Passes}
use Rattle.registry_defs.specs.Contents.{IsCap}
use Rattle.registry_defs.specs.Keys.{root_alone}
use Rattle.registry_defs.specs.Spelling.{registry_text}
use Rattle.registry_defs.proofs.Held.{entries_are, root_registry}
use Rattle.quorum_log.specs.declared.found.Found.{Found}
use Rattle.quorum_log.specs.Formats.{IsFormatted, IsInFormat, IsReopened}
use Rattle.quorum_log.specs.Image.{Holds}
use Rattle.quorum_log.specs.Opening.{IsInOpen}
use Rattle.quorum_log.proofs.Moments.{images_weaken, only_image, passes_here, passes_trans, passes_weaken}
use Rattle.quorum_log.proofs.OneLog.{one_log}
use Rattle.quorum_log.proofs.Unchanged.{opening_keeps}
use Rattle.log_contents.specs.declared.contents.LogContents.{LogContents}
use Rattle.log_contents.specs.Contents.{IsContents}
use Rattle.log_contents.proofs.Exact.{gives_contents}
use Rattle.cluster_rules.specs.declared.effect.Effect.{Effect}
use Rattle.registry_machine.specs.Machine.{ReplicatedRegistry, empty_registry, replicated}
use Rattle.log_order.specs.Orders.{contents_of, last_behind}
use Rattle.log_order.proofs.Steps.{order_empty}
use Rattle.cluster_node.specs.States.{RunningNode}
use Rattle.single_node.specs.Opening.{OpenedAlone}
use Rattle.single_log.specs.Contents.{first_contents, first_log, registry_found}
use Rattle.single_log.specs.Images.{HoldsFront, HoldsFurther, IsBefore}
use Rattle.single_log.specs.Opening.{BlankOpens, FindsFirst, FirstIsFound, FormatLeaves, IsBlankOrFirst, WasBlank, contents_by, found_by}
use Rattle.single_log.proofs.Opens.{kept_here, member_keeps}
use Rattle.single_log.proofs.Steps.{further_none}

first_is : (cap : ℕ) → IsCap cap → IsContents (first_log cap) (first_contents cap)
first_is cap range = (order_empty cap range).decodes

first_holds : (cap : ℕ) → IsCap cap → (image : List ℕ) → Holds image (first_log cap) → HoldsFurther (first_log cap) (first_contents cap) [] image
first_holds cap range image holds = record { log = first_log cap; holds = holds; is = further_none (first_log cap) (first_contents cap) (first_is cap range) }

-- A read still gives a blank image.
still_blank : (token : ℕ) (v u : DiskView) → IsTrue v.tells → WasBlank token v u → get_or u.current.seen 0 0 ≡ 0
still_blank token v u told was = ap (λ (c : List ℕ). get_or c 0 0) (opening_keeps token v u _ was.calls told) ∙ was.blank.blank told

pub format_leaves : FormatLeaves
format_leaves token cap v u w range told was passes = images_weaken (IsInFormat u.current cap (registry_text root_alone)) (IsBlankOrFirst cap) u w by_case passes
  where
    not_reopened : (image : List ℕ) → IsReopened u.current image → ⊥
    not_reopened image re = re.committed (ap (λ (c : List ℕ). get_or c 0 0) (only_image u.current re.old (was.blank.settled told) re.was) ∙ still_blank token v u told was)

    by_case : (image : List ℕ) → IsInFormat u.current cap (registry_text root_alone) image → IsBlankOrFirst cap image
    by_case image (inl blank) = inl blank
    by_case image (inr (inl holds)) = inr (first_holds cap range image holds)
    by_case image (inr (inr re)) = absurd (not_reopened image re)

-- ---- what is then found

module _ (cap node inc stamp number : ℕ) (v : DiskView) (y : RunningNode) (w : DiskView) (es : List Effect) (formatted : IsFormatted cap (registry_text root_alone) v) (told : IsTrue v.tells)
    (h : OpenedAlone node inc stamp number v y w es) (range : IsCap cap) where
  found_first : found_by h ≡ first_log cap
  found_first =
      let holds : Holds v.current.seen (found_by h) = subst (λ (c : List ℕ). Holds c (found_by h)) (h.claims.seen told) (h.opened.stands told).holds in
      one_log v.current.seen (found_by h) (first_log cap) holds formatted.holds

  own_first : found_by h ≡ first_log (found_by h).cap
  own_first = found_first ∙ ap first_log (sym (ap (λ (x : Found). x.cap) found_first))

  contents_first : contents_by h ≡ first_contents cap
  contents_first = gives_contents (first_log cap) (Ok (contents_by h)) (first_contents cap) (subst (λ (x : Found). IsContents x (contents_by h)) found_first h.opened.recovered.holds) tt (first_is cap range)

  empty_keys : ◌≡◌ {A = ReplicatedRegistry} (replicated (contents_of (empty_registry cap))) (empty_registry cap)
  empty_keys = let keys = entries_are root_alone root_registry in λ i. record { cap = cap; keys = keys i }

  finds_first : FindsFirst cap (found_by h) h.recovered
  finds_first = record {
    found_is = found_first;
    count = h.opened.recovered.count ∙ ap (λ (x : Found). x.base + length x.records) found_first;
    cap_is = h.opened.recovered.cap ∙ ap (λ (x : Found). x.cap) found_first;
    last = h.opened.recovered.last ∙ ap (λ (k : LogContents). last_behind k.last k.records) contents_first;
    registry = h.opened.recovered.registry ∙ ap registry_found contents_first ∙ empty_keys;
  }

  as_before : (first : DiskView) (image : List ℕ) → get_or first.current.seen 0 0 ≡ 0 → IsBlankOrFirst cap image → IsBefore first.current (found_by h) (contents_by h) image
  as_before first image zero (inl blank) = inr (inl (zero, blank))
  as_before first image zero (inr holds) =
      inr (inr (subst (λ (k : LogContents). HoldsFurther (found_by h) k [] image) (sym contents_first) (subst (λ (x : Found). HoldsFurther x (first_contents cap) [] image) (sym found_first) holds)))

pub first_is_found : FirstIsFound
first_is_found cap node inc stamp number v y w es formatted told h range = finds_first cap node inc stamp number v y w es formatted told h range

-- ---- from the blank disk on

pub blank_opens : BlankOpens
blank_opens token cap node inc stamp number v u m y w es range told told_u told_m was passes formatted h =
    let Q : List ℕ → Type 0 = IsBefore v.current (found_by h) (contents_by h) in
    let zero : get_or v.current.seen 0 0 ≡ 0 = was.blank.blank told in
    let before : (image : List ℕ) → IsBlankOrFirst cap image → Q image = λ image is. as_before cap node inc stamp number m y w es formatted told_m h range v image zero is in
    let first : Passes (EachImage Q) v u = passes_weaken (IsInOpen v.current token) (EachImage Q) v u (λ i is c image. inl (is.1 c image)) was.moments in
    let second : Passes (EachImage Q) u m = images_weaken (IsBlankOrFirst cap) Q u m before (format_leaves token cap v u m range told was passes) in
    let third : Passes (EachImage Q) m w = passes_weaken (IsInOpen m.current number) (EachImage Q) m w
    (λ i is c image. before c (inr (first_holds cap range c (subst (λ (s : List ℕ). Holds s (first_log cap)) (sym (only_image m.current c formatted.settled (is.1 c image))) formatted.holds))))
    (h.claims.moments told_m) in
    record {
      keeps = member_keeps node inc stamp number m y w es h told_m;
      kept = record {
        was = record { decodes = h.opened.recovered.holds; held = inr (zero, own_first cap node inc stamp number m y w es formatted told_m h range) };
        opened = w;
        opening = passes_trans (EachImage Q) v u w first (passes_trans (EachImage Q) u m w second third);
        since = passes_here (HoldsFront (found_by h) (contents_by h) []) w (kept_here node inc stamp number m y w es h told_m);
      };
    }
