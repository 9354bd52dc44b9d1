-- The log is opened, or made and then opened: what that leaves, and who names the records then.
use Rattle.std.proofs.Common.{◌≡◌, ℕ, ◌+◌, ◌≤◌, Bool, IsTrue, List, [], ◌∷◌, length, get_or, Result, Ok, inl, inr, refl, sym, ap, ◌∙◌, subst, arith}
use Rattle.disk_core.specs.Images.{EachImage, IsImage, Moment}
use Rattle.disk_core.specs.Views.{DiskView, Passes}
use Rattle.quorum_log.specs.declared.found.Found.{Found}
use Rattle.quorum_log.specs.Image.{Holds as HoldsLog}
use Rattle.quorum_log.specs.Layout.{most_records}
use Rattle.quorum_log.specs.Opening.{IsInOpen}
use Rattle.quorum_log.proofs.Moments.{images_weaken, passes_trans, passes_weaken}
use Rattle.quorum_log.proofs.Unchanged.{opening_keeps}
use Rattle.update_records.specs.Entry.{Entry}
use Rattle.log_contents.specs.declared.contents.LogContents.{LogContents}
use Rattle.log_order.proofs.Crashes.{passes_now}
use Rattle.cluster_rules.specs.declared.effect.Effect.{Effect}
use Rattle.cluster_rules.specs.declared.effect.Effect.TheVariants.{Opened}
use Rattle.cluster_member.specs.States.{MemberState}
use Rattle.single_items.specs.Alone.{AloneRun}
use Rattle.single_items.specs.Promises.{IsUnconnected}
use Rattle.single_node.specs.Delivering.{LogsAll}
use Rattle.single_node.specs.Opening.{OpenedAlone}
use Rattle.single_node.specs.Recording.{IsNamed}
use Rattle.single_node.specs.Standing.{alone_node}
use Rattle.single_log.specs.Contents.{first_log}
use Rattle.single_log.specs.Images.{HoldsFurther, IsBefore, WasFound}
use Rattle.single_log.specs.Opening.{KeepsOpened, WasBlank}
use Rattle.single_log.proofs.Blank.{blank_opens}
use Rattle.single_log.proofs.Opens.{alone_opens}
use Rattle.single_server.specs.Begins.{BeginsOn, HasFound, Holds, WasBlank as WasBlankBefore, new_cap, new_state}
use Rattle.single_runs.specs.Images.{contents_at, found_at}

pub told_then : (v w : DiskView) → w.tells ≡ v.tells → IsTrue v.tells → IsTrue w.tells
told_then v w is told = subst (λ (b : Bool). IsTrue b) (sym is) told

module _ (stamp : ℕ) (v : DiskView) (first : AloneRun) (x : MemberState) (w : DiskView) (b : BeginsOn stamp v first x w) where
  abbrev F : Found
  F = found_at b

  abbrev C : LogContents
  C = contents_at b

  abbrev effects : List Effect
  effects = Opened 1 ∷ []

  abbrev opens : OpenedAlone 1 (b.count + 1) stamp 1 b.ready b.node w effects
  opens = record {
    log = b.log;
    recovered = b.recovered;
    opened = b.opened;
    claims = b.claims;
    has = sym (ap (λ (m : MemberState). m.log) b.kept) ∙ b.has;
    unconnected = subst (λ (r : AloneRun). IsUnconnected (alone_node b.node []) r.single r.client.handles r.taken) b.is b.unconnected;
    effects = refl;
  }

  -- ---- over a log that the disk held

  module _ (told : IsTrue v.tells) (at_ready : KeepsOpened F C b.ready b.node w) (found : Found) (has : HasFound v found b.ready) where
    abbrev Q : List ℕ → Type 0
    Q = IsBefore v.current F C

    seen : b.ready.current.seen ≡ v.current.seen
    seen = opening_keeps 1 v b.ready (Ok found) has.calls told

    zero_seen : get_or b.ready.current.seen 0 0 ≡ 0 → get_or v.current.seen 0 0 ≡ 0
    zero_seen zero = sym (ap (λ (c : List ℕ). get_or c 0 0) seen) ∙ zero

    was_before : WasFound F C b.ready → WasFound F C v
    was_before was = record {
      decodes = was.decodes;
      held = elim was.held [
        | inl holds ↦ inl (subst (λ (c : List ℕ). HoldsLog c F) seen holds)
        | inr blank ↦ inr (zero_seen blank.0, blank.1)
      ];
    }

    images_ready : EachImage (IsImage v.current) b.ready.current
    images_ready = (passes_now (IsInOpen v.current 1) v b.ready (has.any_moment told)).1

    before_then : (image : List ℕ) → IsBefore b.ready.current F C image → Q image
    before_then image (inl is) = inl (images_ready image is)
    before_then image (inr (inl blank)) = inr (inl (zero_seen blank.0, blank.1))
    before_then image (inr (inr holds)) = inr (inr holds)

    over_found : KeepsOpened F C v b.node w
    over_found =
        let kept = at_ready.kept in
        let first_part : Passes (EachImage Q) v b.ready = passes_weaken (IsInOpen v.current 1) (EachImage Q) v b.ready (λ m is c image. inl (is.1 c image)) (has.any_moment told) in
        let then : Passes (EachImage Q) b.ready kept.opened = images_weaken (IsBefore b.ready.current F C) Q b.ready kept.opened before_then kept.opening in
        record {
          keeps = at_ready.keeps;
          kept = record { was = was_before kept.was; opened = kept.opened; opening = passes_trans (EachImage Q) v b.ready kept.opened first_part then; since = kept.since };
        }

  -- ---- over one that was made

  over_made : IsTrue v.tells → WasBlankBefore v b.ready → KeepsOpened F C v b.node w
  unfolding new_state
  over_made told blank =
      let told_between = told_then v blank.between blank.same_disk.tells told in
      let was : WasBlank 1 v blank.between = record { blank = blank.blank; calls = blank.looked; moments = blank.any_moment told } in
      blank_opens 1 new_cap 1 (b.count + 1) stamp 1 v blank.between b.ready b.node w effects (omega arith, omega arith) told told_between (told_then v b.ready b.same_before.tells told) was
      (blank.made.any_moment told_between) (blank.made.formatted told_between) opens

  pub keeps_opened : IsTrue v.tells → KeepsOpened F C v b.node w
  keeps_opened told = elim b.holds [
    | inl found ↦ over_found told (alone_opens 1 (b.count + 1) stamp 1 b.ready b.node w effects opens (told_then v b.ready b.same_before.tells told)) found.0 found.1
    | inr blank ↦ over_made told blank.0
  ]

  -- ---- the node and its records

  few : b.count ≤ most_records
  few = elim b.holds [
    | inl found ↦ (let most = found.1.limits.count in let is = found.2 in omega (arith, most, is))
    | inr blank ↦ (let is = blank.1 in omega (arith, is))
  ]

  pub named : IsNamed first.single
  named = subst (λ (r : AloneRun). IsNamed r.single) (sym b.is) (record { node = omega arith; last_node = omega arith; inc = omega arith; last_inc = (let most = few in omega (arith, most)) })

  pub none_made : first.records ≡ []
  none_made = ap (λ (r : AloneRun). r.records) b.is

  pub none_told : first.output ≡ []
  none_told = ap (λ (r : AloneRun). r.output) b.is

  pub logs_from : (es : List Entry) (y : MemberState) (u : DiskView) → LogsAll es x w y u → LogsAll es b.node.member w y u
  logs_from es y u logs = subst (λ (m : MemberState). LogsAll es m w y u) b.kept logs
