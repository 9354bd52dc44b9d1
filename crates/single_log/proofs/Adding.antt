-- A record is added, with a checkpoint before it where one is due.
use Rattle.std.proofs.Common.{◌≡◌, ℕ, ◌+◌, ◌==◌, ◌||◌, not, inl, inr, Bool, true, false, List, [], ◌∷◌, ◌++◌, length, nat_lt, Some, Result, Ok, Err, refl, sym, ap, ◌∙◌, subst, arith}
use Rattle.std.proofs.lemmas.Bool.Decides.{nat_tests}
use Rattle.update_records.specs.Entry.{Entry, record_text}
use Rattle.disk_core.specs.Images.{EachImage}
use Rattle.disk_core.specs.Views.{DiskView, Passes}
use Rattle.quorum_log.specs.declared.found.Found.{Found}
use Rattle.quorum_log.specs.declared.fault.AppendFault.{AppendFault}
use Rattle.quorum_log.specs.declared.fault.AppendFault.TheVariants as append
use Rattle.quorum_log.specs.Faults.{AnsweredBy, disk_answer}
use Rattle.quorum_log.specs.Changes.{HoldsEither, IsInChange, with_checkpoint, with_record}
use Rattle.quorum_log.specs.Layout.{half_at, half_size}
use Rattle.quorum_log.specs.Logs.{LogValue, begun}
use Rattle.quorum_log.proofs.Moments.{images_weaken, passes_here, passes_trans, passes_weaken, settled_images}
use Rattle.log_contents.specs.declared.contents.LogContents.{LogContents}
use Rattle.record_log.specs.declared.fault.AddFault.{AddFault}
use Rattle.record_log.specs.declared.fault.AddFault.TheVariants as add
use Rattle.record_log.specs.Adding.{Adds, AddsBehind, Appends, AppendsTo, Checkpoints, CheckpointsTo, is_due}
use Rattle.single_log.specs.Adding.{AddingKeeps, CheckpointKeeps, IsNextBehind, KeepsAdding, KeepsCheckpoint}
use Rattle.single_log.specs.Contents.{IsFurther, count_found}
use Rattle.single_log.specs.Images.{HoldsFurther, MayHoldOne}
use Rattle.single_log.specs.Keeping.{KeepsLog, last_text_behind, state_behind}
use Rattle.single_log.proofs.Behind.{next_more}
use Rattle.single_log.proofs.Steps.{further_begun, further_push}

-- ---- the log as it stands

pub holds_now : (found : Found) (contents : LogContents) (q : List Entry) (log : LogValue) (v : DiskView) → KeepsLog found contents q log v → EachImage (HoldsFurther found contents q) v.current
holds_now found contents q log v keeps =
    settled_images (HoldsFurther found contents q) v.current keeps.stands.settled (record { log = keeps.now; holds = keeps.stands.holds; is = keeps.is })

-- ---- an append

module _ (found : Found) (contents : LogContents) (q : List Entry) (e : Entry) (log : LogValue) (v : DiskView) (keeps : KeepsLog found contents q log v) (next : IsNextBehind found q e) (version : log.version ≡ 2) where
  pushed : IsFurther found contents (q ++ e ∷ []) (with_record keeps.now (record_text e))
  pushed = further_push found contents q keeps.now e keeps.is (sym keeps.stands.version ∙ version) next.valid next.place_is

  either_one : (image : List ℕ) → HoldsEither keeps.now (with_record keeps.now (record_text e)) image → MayHoldOne found contents q (Some e) image
  either_one image (inl old) = inl (record { log = keeps.now; holds = old; is = keeps.is })
  either_one image (inr new) = inr (record { log = with_record keeps.now (record_text e); holds = new; is = pushed })

  append_moments : (r : Result LogValue AppendFault) (w : DiskView) → Appends log (record_text e) v r w → Passes (EachImage (MayHoldOne found contents q (Some e))) v w
  append_moments r w a =
      passes_weaken (IsInChange v.current.held keeps.now (with_record keeps.now (record_text e))) (EachImage (MayHoldOne found contents q (Some e))) v w
      (λ m is c image. either_one c (is.1 c image)) (a.any_moment keeps.now keeps.stands)

  append_keeps : (new : LogValue) (w : DiskView) → Appends log (record_text e) v (Ok new) w → KeepsLog found contents (q ++ e ∷ []) new w
  append_keeps new w a = record {
    found_is = keeps.found_is;
    next = next_more (count_found found) q e keeps.next next.valid next.place_is;
    now = with_record keeps.now (record_text e);
    stands = a.stands keeps.now keeps.stands;
    is = pushed;
    claimed = a.held ∙ keeps.claimed ∙ sym (ap (λ (l : LogValue). l.claim) a.value);
  }

  -- no greater token is held
  not_fenced : (held : ℕ) (w : DiskView) → AnsweredBy log.claim v (disk_answer {A = LogValue} (Err (append.Fenced held))) w → ⊥
  not_fenced held w answer = let above = answer.0 in let own = keeps.claimed in omega (arith, above, own)

  appends_keep : (r : Result LogValue AddFault) (w : DiskView) → AppendsTo log (record_text e) v r w → KeepsAdding found contents q e v r w
  appends_keep (Ok new) w a = record { moments = append_moments (Ok new) w a; keeps = append_keeps new w a; held = a.held }
  appends_keep (Err (add.Append append.Failed)) w a = record { moments = append_moments (Err append.Failed) w a; keeps = tt; held = a.held }
  appends_keep (Err (add.Append (append.Fenced held))) w a = absurd (not_fenced held w a.answer)
  appends_keep (Err (add.Checkpoint fault)) w a = absurd a
  appends_keep (Err add.Memory) w a = absurd a

-- ---- a checkpoint

module _ (found : Found) (contents : LogContents) (q : List Entry) (log : LogValue) (v : DiskView) (keeps : KeepsLog found contents q log v) where
  begun_is : IsFurther found contents q (with_checkpoint keeps.now (state_behind contents q) (last_text_behind contents q))
  begun_is = further_begun found contents q keeps.now keeps.found_is keeps.next keeps.is

  same_either : (image : List ℕ) → HoldsEither keeps.now (with_checkpoint keeps.now (state_behind contents q) (last_text_behind contents q)) image → HoldsFurther found contents q image
  same_either image (inl old) = record { log = keeps.now; holds = old; is = keeps.is }
  same_either image (inr new) = record { log = with_checkpoint keeps.now (state_behind contents q) (last_text_behind contents q); holds = new; is = begun_is }

  pub checkpoint_moments : (r : Result LogValue AppendFault) (w : DiskView) → Checkpoints log (state_behind contents q) (last_text_behind contents q) v r w → Passes (EachImage (HoldsFurther found contents q)) v w
  checkpoint_moments r w a =
      passes_weaken (IsInChange v.current.held keeps.now (with_checkpoint keeps.now (state_behind contents q) (last_text_behind contents q))) (EachImage (HoldsFurther found contents q)) v w
      (λ m is c image. same_either c (is.1 c image)) (a.any_moment keeps.now keeps.stands)

  pub begun_keeps : (new : LogValue) (w : DiskView) → Checkpoints log (state_behind contents q) (last_text_behind contents q) v (Ok new) w → KeepsLog found contents q new w
  begun_keeps new w a = record {
    found_is = keeps.found_is;
    next = keeps.next;
    now = with_checkpoint keeps.now (state_behind contents q) (last_text_behind contents q);
    stands = a.stands keeps.now keeps.stands;
    is = begun_is;
    claimed = a.held ∙ keeps.claimed ∙ sym (ap (λ (l : LogValue). l.claim) a.value);
  }

  checkpoint_by : (r : Result LogValue AddFault) (w : DiskView) → CheckpointsTo log (state_behind contents q) (last_text_behind contents q) v r w → KeepsCheckpoint found contents q v r w
  checkpoint_by (Ok new) w a = record { moments = checkpoint_moments (Ok new) w a; keeps = begun_keeps new w a }
  checkpoint_by (Err (add.Checkpoint fault)) w a = record { moments = checkpoint_moments (Err fault) w a; keeps = tt }
  checkpoint_by (Err (add.Append fault)) w a = absurd a
  checkpoint_by (Err add.Memory) w same = record {
    moments = subst (λ (u : DiskView). Passes (EachImage (HoldsFurther found contents q)) v u) (sym same)
        (passes_here (EachImage (HoldsFurther found contents q)) v (holds_now found contents q log v keeps));
    keeps = tt;
  }

pub checkpoint_keeps : CheckpointKeeps
checkpoint_keeps found contents q log v r w keeps calls = checkpoint_by found contents q log v keeps r w calls

-- ---- both

module _ (found : Found) (contents : LogContents) (q : List Entry) (e : Entry) (log : LogValue) (v : DiskView) (keeps : KeepsLog found contents q log v) (next : IsNextBehind found q e) where
  abbrev State : List ℕ
  State = state_behind contents q

  abbrev Last : List ℕ
  Last = last_text_behind contents q

  -- the record isn't written yet
  without : (u : DiskView) → Passes (EachImage (HoldsFurther found contents q)) v u → Passes (EachImage (MayHoldOne found contents q (Some e))) v u
  without u passes = images_weaken (HoldsFurther found contents q) (MayHoldOne found contents q (Some e)) v u (λ c holds. inl holds) passes

  add_behind : (r : Result LogValue AddFault) (w : DiskView) → AddsBehind log State Last (record_text e) v r w → KeepsAdding found contents q e v r w
  add_behind r w (u, first, second) =
      let there = begun_keeps found contents q log v keeps (begun log (length State) (length Last)) u first in
      let before = without u (checkpoint_moments found contents q log v keeps (Ok (begun log (length State) (length Last))) u first) in
      by_answer r second (appends_keep found contents q e (begun log (length State) (length Last)) u there next refl r w second) before first.held
    where
      by_answer : (r : Result LogValue AddFault) → AppendsTo (begun log (length State) (length Last)) (record_text e) u r w → KeepsAdding found contents q e u r w
          → Passes (EachImage (MayHoldOne found contents q (Some e))) v u → u.current.held ≡ v.current.held → KeepsAdding found contents q e v r w
      by_answer (Ok new) a k before held = record {
        moments = passes_trans (EachImage (MayHoldOne found contents q (Some e))) v u w before k.moments;
        keeps = k.keeps;
        held = k.held ∙ held;
      }
      by_answer (Err (add.Append append.Failed)) a k before held = record {
        moments = passes_trans (EachImage (MayHoldOne found contents q (Some e))) v u w before k.moments;
        keeps = tt;
        held = k.held ∙ held;
      }
      by_answer (Err (add.Append (append.Fenced now))) a k before held =
          (let there = begun_keeps found contents q log v keeps (begun log (length State) (length Last)) u first in
          absurd (not_fenced found contents q e (begun log (length State) (length Last)) u there next refl now w a.answer))
      by_answer (Err (add.Checkpoint fault)) a k before held = absurd a
      by_answer (Err add.Memory) a k before held = absurd a

  nothing_made : (w : DiskView) → w ≡ v → Passes (EachImage (HoldsFurther found contents q)) v w
  nothing_made w same =
      subst (λ (u : DiskView). Passes (EachImage (HoldsFurther found contents q)) v u) (sym same)
      (passes_here (EachImage (HoldsFurther found contents q)) v (holds_now found contents q log v keeps))

  still_held : (w : DiskView) → w ≡ v → w.current.held ≡ v.current.held
  still_held w same = ap (λ (u : DiskView). u.current.held) same

  is_second : (version : ℕ) (full : Bool) → (not (version == 2) || full) ≡ false → version ≡ 2
  is_second version full e = grind (arith, nat_tests)

  add_if : (due : Bool) (r : Result LogValue AddFault) (w : DiskView) → (due ≡ false → log.version ≡ 2) → Adds due log State Last (record_text e) v r w → KeepsAdding found contents q e v r w
  add_if true (Ok new) w version a = add_behind (Ok new) w a
  add_if true (Err (add.Checkpoint fault)) w version a = record { moments = checkpoint_moments found contents q log v keeps (Err fault) w a; keeps = tt; held = a.held }
  add_if true (Err (add.Append fault)) w version a = add_behind (Err (add.Append fault)) w a
  add_if true (Err add.Memory) w version a = record { moments = nothing_made w a; keeps = tt; held = still_held w a }
  add_if false (Ok new) w version a = appends_keep found contents q e log v keeps next (version refl) (Ok new) w a
  add_if false (Err (add.Checkpoint fault)) w version a = absurd a
  add_if false (Err (add.Append fault)) w version a = appends_keep found contents q e log v keeps next (version refl) (Err (add.Append fault)) w a
  add_if false (Err add.Memory) w version a = record { moments = nothing_made w a; keeps = tt; held = still_held w a }

pub adding_keeps : AddingKeeps
adding_keeps found contents q e log v r w keeps next adds =
    add_if found contents q e log v keeps next (is_due log (length (record_text e))) r w
    (λ none. is_second found contents q e log v keeps next log.version (not (nat_lt (log.tail + 5 + length (record_text e)) (half_at log.cap log.half + half_size log.cap))) none) adds
