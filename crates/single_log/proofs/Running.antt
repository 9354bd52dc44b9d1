-- A node that is alone adds records to its log.
use Rattle.std.proofs.Common.{◌≡◌, ℕ, ◌+◌, Bool, true, false, List, [], ◌∷◌, ◌++◌, length, Option, Some, None, Result, Ok, Err, refl, sym, ap, ◌∙◌, subst, arith, append_assoc, length-append}
use Rattle.std.proofs.lemmas.List.{append-nil}
use Rattle.std.specs.List.{AllByRecursion}
use Rattle.update_records.specs.Entry.{Entry, IsRecord, record_text}
use Rattle.disk_core.specs.Images.{EachImage}
use Rattle.disk_core.specs.Views.{DiskView, Passes}
use Rattle.quorum_log.specs.declared.found.Found.{Found}
use Rattle.quorum_log.specs.Logs.{LogValue}
use Rattle.quorum_log.proofs.Moments.{passes_here, passes_trans, passes_weaken}
use Rattle.log_contents.specs.declared.contents.LogContents.{LogContents}
use Rattle.cluster_rules.specs.Machines.{replay}
use Rattle.cluster_rules.specs.Nodes.{Replica, done_of}
use Rattle.cluster_rules.specs.Updates.{replica_after}
use Rattle.registry_machine.specs.Machine.{ReplicatedRegistry, registry_machine}
use Rattle.log_order.specs.Orders.{last_text}
use Rattle.record_log.specs.declared.fault.AddFault.{AddFault}
use Rattle.record_log.specs.declared.fault.AddFault.TheVariants as add
use Rattle.record_log.specs.Adding.{Adds, IsSound, is_due}
use Rattle.single_rules.specs.Logging.{to_log}
use Rattle.cluster_member.specs.Logging.{Logs, last_bytes, replica_bytes, state_bytes}
use Rattle.cluster_member.specs.States.{MemberState}
use Rattle.single_node.specs.Delivering.{LogsAll}
use Rattle.single_node.specs.Recording.{HasId}
use Rattle.single_node.specs.Standing.{AddsOne, IsStill}
use Rattle.single_node.proofs.Going.{next_place}
use Rattle.single_node.proofs.Applied.{last_more, replay_more}
use Rattle.single_log.specs.Adding.{IsNextBehind, in_doubt}
use Rattle.single_log.specs.Contents.{count_found, last_found, registry_found}
use Rattle.single_log.specs.Images.{HoldsFront, HoldsFurther, MayHoldOne}
use Rattle.single_log.specs.Keeping.{KeepsLog, last_text_behind, state_behind}
use Rattle.single_log.specs.Running.{KeepsAll, KeepsMember, MessageKeeps, RecordsKeep, in_doubt_at}
use Rattle.single_log.proofs.Adding.{adding_keeps, holds_now}
use Rattle.single_log.proofs.Fronts.{front_all, front_longer, front_one}

abbrev replica_of : ReplicatedRegistry → ℕ → Option (Replica registry_machine)
replica_of registry done = Some (record { registry = registry; done = done })

module _ (found : Found) (contents : LogContents) where
  still_keeps : (q : List Entry) (x y : MemberState) (v w : DiskView) → IsStill x y → w ≡ v → KeepsMember found contents q x v → KeepsMember found contents q y w
  still_keeps q x y v w still same k = record {
    log = k.log;
    has = still.log ∙ k.has;
    keeps = subst (λ (u : DiskView). KeepsLog found contents q k.log u) (sym same) k.keeps;
    replica = still.replica ∙ k.replica;
    last = still.last ∙ k.last;
  }

  -- ---- one record

  module _ (q : List Entry) (x : MemberState) (v : DiskView) (k : KeepsMember found contents q x v) where
    state_is : state_bytes x ≡ state_behind contents q
    state_is = ap replica_bytes k.replica

    last_is : last_bytes x ≡ last_text_behind contents q
    last_is = ap last_text k.last

    done_is : done_of x.rules ≡ count_found found + length q
    done_is = ap (λ (r : Option (Replica registry_machine)). elim r [ None ↦ 0 | Some s ↦ s.done ]) k.replica

    -- What the calls wrote is the registry and the last record behind these records.
    adds_these : (e : Entry) (old : LogValue) (r : Result LogValue AddFault) (w : DiskView) → x.log ≡ Some old
        → Adds (is_due old (length (record_text e))) old (state_bytes x) (last_bytes x) (record_text e) v r w
        → Adds (is_due k.log (length (record_text e))) k.log (state_behind contents q) (last_text_behind contents q) (record_text e) v r w
    adds_these e old r w had adds =
        let same : old ≡ k.log = the_same old k.log (sym had ∙ k.has) in
        subst (λ (t : List ℕ). Adds (is_due k.log (length (record_text e))) k.log (state_behind contents q) t (record_text e) v r w) last_is
        (subst (λ (s : List ℕ). Adds (is_due k.log (length (record_text e))) k.log s (last_bytes x) (record_text e) v r w) state_is
        (subst (λ (l : LogValue). Adds (is_due l (length (record_text e))) l (state_bytes x) (last_bytes x) (record_text e) v r w) same adds))
      where
        the_same : (a b : LogValue) → Some a ≡ Some b → a ≡ b
        the_same a b is = cc

    next_here : (e : Entry) → IsRecord e → e.place ≡ done_of x.rules + 1 → IsNextBehind found q e
    next_here e valid place = record { valid = valid; place_is = place ∙ ap (λ (n : ℕ). n + 1) done_is }

    pub add_one : (e : Entry) (n : MemberState) (u : DiskView) → HasId e → AddsOne e x v n u
        → Passes (HoldsFront found contents (q ++ e ∷ [])) v u × KeepsMember found contents (q ++ e ∷ []) n u × (u.current.held ≡ v.current.held)
    add_one e n u id a =
        let k2 = adding_keeps found contents q e k.log v (Ok a.new) u k.keeps (next_here e (a.sound id) a.place_is) (adds_these e a.old (Ok a.new) u a.had a.adds) in
        let count : count_found found + length q + 1 ≡ count_found found + length (q ++ e ∷ []) = omega (arith, length-append q (e ∷ [])) in (
          passes_weaken (EachImage (MayHoldOne found contents q (Some e))) (HoldsFront found contents (q ++ e ∷ [])) v u (λ m is. front_one found contents q (Some e) m is) k2.moments,
          record {
            log = a.new;
            has = a.has;
            keeps = k2.keeps;
            replica = a.replica ∙ ap (replica_after e) k.replica
                ∙ ap (λ (g : ReplicatedRegistry). replica_of g (count_found found + length q + 1)) (sym (replay_more q e (registry_found contents)))
                ∙ ap (replica_of (replay registry_machine (q ++ e ∷ []) (registry_found contents))) count;
            last = a.last ∙ sym (last_more (last_found contents) q e);
          },
          k2.held,
        )

    -- ---- a message

    none_made : (w : DiskView) → w ≡ v → Passes (EachImage (HoldsFurther found contents q)) v w
    none_made w same =
        subst (λ (u : DiskView). Passes (EachImage (HoldsFurther found contents q)) v u) (sym same) (passes_here (EachImage (HoldsFurther found contents q)) v (holds_now found contents q k.log v k.keeps))

    message_adds : (e : Entry) (r : Result LogValue AddFault) (w : DiskView) → HasId e → e.place ≡ done_of x.rules + 1 → IsSound e r
        → Adds (is_due k.log (length (record_text e))) k.log (state_behind contents q) (last_text_behind contents q) (record_text e) v r w → Passes (EachImage (MayHoldOne found contents q (in_doubt e r))) v w
    message_adds e (Ok new) w id place sound a = (adding_keeps found contents q e k.log v (Ok new) w k.keeps (next_here e (sound id) place) a).moments
    message_adds e (Err (add.Append fault)) w id place sound a = (adding_keeps found contents q e k.log v (Err (add.Append fault)) w k.keeps (next_here e (sound id) place) a).moments
    message_adds e (Err (add.Checkpoint fault)) w id place sound a = (adding_keeps found contents q e k.log v (Err (add.Checkpoint fault)) w k.keeps (next_here e (sound id) place) a).moments
    message_adds e (Err add.Memory) w id place sound a = none_made w (out_of_memory (is_due k.log (length (record_text e))) a)
      where
        out_of_memory : (due : Bool) → Adds due k.log (state_behind contents q) (last_text_behind contents q) (record_text e) v (Err add.Memory) w → w ≡ v
        out_of_memory true is = is
        out_of_memory false is = is

    message_by : (entry : Option Entry) (answer : Option (Result LogValue AddFault)) (w : DiskView) → ((e : Entry) → entry ≡ Some e → HasId e) → ((e : Entry) → entry ≡ Some e → e.place ≡ done_of x.rules + 1)
        → Logs entry x v answer w → Passes (EachImage (MayHoldOne found contents q (in_doubt_at entry answer))) v w
    message_by None None w ids places logs = none_made w logs
    message_by None (Some r) w ids places logs = absurd logs
    message_by (Some e) None w ids places logs = absurd logs
    message_by (Some e) (Some r) w ids places (old, had, adds, sound) = message_adds e r w (ids e refl) (places e refl) sound (adds_these e old r w had adds)

  -- ---- all of them

  all_keep : (q es : List Entry) (x : MemberState) (v : DiskView) (y : MemberState) (w : DiskView) → KeepsMember found contents q x v → AllByRecursion HasId es → LogsAll es x v y w → KeepsAll found contents q es v y w
  all_keep q [] x v y w k ids (same, still) =
      let now = still_keeps q x y v w still same k in
      let here : Passes (HoldsFront found contents q) v w =
      passes_weaken (EachImage (HoldsFurther found contents q)) (HoldsFront found contents q) v w (λ m is. front_all found contents q m is) (none_made q x v k w same) in
      record {
        moments = subst (λ (l : List Entry). Passes (HoldsFront found contents l) v w) (sym (append-nil q)) here;
        keeps = subst (λ (l : List Entry). KeepsMember found contents l y w) (sym (append-nil q)) now;
        held = ap (λ (u : DiskView). u.current.held) same;
      }
  all_keep q (e ∷ es) x v y w k ids (m, n, u, still, adds, more) =
      let one = add_one q m v (still_keeps q x m v v still refl k) e n u ids.0 adds in
      let rest = all_keep (q ++ e ∷ []) es n u y w one.1 ids.1 more in
      let both : (q ++ e ∷ []) ++ es ≡ q ++ e ∷ es = append_assoc q (e ∷ []) es in
      let first : Passes (HoldsFront found contents ((q ++ e ∷ []) ++ es)) v u =
      passes_weaken (HoldsFront found contents (q ++ e ∷ [])) (HoldsFront found contents ((q ++ e ∷ []) ++ es)) v u (λ i h. front_longer found contents (q ++ e ∷ []) es i h) one.0 in
      record {
        moments = subst (λ (l : List Entry). Passes (HoldsFront found contents l) v w) both (passes_trans (HoldsFront found contents ((q ++ e ∷ []) ++ es)) v u w first rest.moments);
        keeps = subst (λ (l : List Entry). KeepsMember found contents l y w) both rest.keeps;
        held = rest.held ∙ one.2;
      }

pub records_keep : RecordsKeep
records_keep found contents q es x v y w k ids logs = all_keep found contents q es x v y w k ids logs

pub message_keeps : MessageKeeps
message_keeps found contents q x v p answer w k ids logs = message_by found contents q x v k (to_log x.rules p) answer w ids (λ e is. next_place x.rules p e is) logs
