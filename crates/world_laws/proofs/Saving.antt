-- A node is told to write a checkpoint.
use Rattle.std.proofs.Common.{◌≡◌, ℕ, ◌<◌, Bool, true, false, ◌&&◌, List, [], Option, Some, None, nat_lt, if◌then◌else◌, Result, Ok, Err, OnOk, refl, sym, ap, ◌∙◌, subst, arith}
use Rattle.update_records.specs.Entry.{Entry}
use Rattle.gum_core.specs.Updating as updating
use Rattle.view_reconcile.specs.Joining as joining
use Rattle.disk_core.specs.Crashes.{Crashed}
use Rattle.disk_core.specs.Views.{DiskView}
use Rattle.quorum_log.specs.Logs.{LogValue}
use Rattle.cluster_rules.specs.declared.effect.HaltCause.TheVariants as halt
use Rattle.cluster_rules.specs.Nodes.{NodeState, Out, halts, nothing, number_of}
use Rattle.cluster_rules.specs.Receiving.{checkpoint}
use Rattle.cluster_rules.specs.Worlds.{Checkpoint, Die, World, absorb, acked, happens, sent, stopped}
use Rattle.cluster_laws.proofs.Applying.{and_true, lt_false, lt_true}
use Rattle.cluster_laws.proofs.Asking.{core_locks}
use Rattle.cluster_laws.proofs.Inv.{NodeOk}
use Rattle.cluster_laws.proofs.Lockers.{StaysAt, checkpoint_stays}
use Rattle.registry_machine.specs.Machine.{registry_machine}
use Rattle.log_order.specs.OrderLaws.{state_text}
use Rattle.log_order.specs.Refinement.{Owns}
use Rattle.log_order.proofs.Crashes.{crashed_refines}
use Rattle.record_log.specs.declared.fault.AddFault.{AddFault}
use Rattle.record_log.specs.declared.fault.AddFault.TheVariants as add
use Rattle.record_log.specs.Adding.{CheckpointsTo}
use Rattle.cluster_member.specs.declared.stop.Stop.{Stop}
use Rattle.cluster_member.specs.declared.stop.Stop.TheVariants as stop
use Rattle.cluster_member.specs.Events.{Comes, WritesCheckpoint}
use Rattle.cluster_member.specs.Logging.{LogsState, is_good, is_written, last_bytes, log_after, log_left, state_bytes}
use Rattle.cluster_member.specs.States.{MemberState}
use Rattle.member_rules.specs.declared.told.Told.{Told}
use Rattle.world_laws.proofs.Births.{Born, silent_born}
use Rattle.world_laws.proofs.Coming.{Sufficed, comes_left, halted, kept_ok, left, left_keeps, own_left, own_none, tells, went_on}
use Rattle.world_laws.proofs.Crashing.{dies}
use Rattle.world_laws.proofs.Quiet.{at_is, node_at, others_apart, quiet_ties, same_now}
use Rattle.world_laws.proofs.Receiving.{Logger, logger, owner_now}
use Rattle.world_laws.proofs.Records.{Bounded, Good}
use Rattle.world_laws.proofs.Refusing.{checkpoints_refused, stands_here, stands_now}
use Rattle.world_laws.proofs.Tied.{Abstracts, Bare, IsLogOfView, Leaves, OthersOwn, absorb_ties, left_at, moved, none_own, rules_in, same_logs, stop_ties}
use Rattle.world_laws.proofs.Writing.{Saved, saves}

-- it is told to an open locker whose log it is
checkpoint_owned : (x : NodeState registry_machine) (held : ℕ) (good : Bool) → (x.core.is_open && updating.locks x.core) ≡ true → nat_lt (number_of x) held ≡ false → checkpoint x held good ≡ (if good then nothing x else halts halt.Disk)
checkpoint_owned x held good opened high =
    ap (λ (c : Bool). if c then (if nat_lt (number_of x) held then halts (halt.Fenced held) else (if good then nothing x else halts halt.Disk)) else nothing x) opened
    ∙ ap (λ (c : Bool). if c then halts (halt.Fenced held) else (if good then nothing x else halts halt.Disk)) high

checkpoint_fenced : (x : NodeState registry_machine) (held : ℕ) (good : Bool) → (x.core.is_open && updating.locks x.core) ≡ true → nat_lt (number_of x) held ≡ true → checkpoint x held good ≡ halts (halt.Fenced held)
checkpoint_fenced x held good opened low =
    ap (λ (c : Bool). if c then (if nat_lt (number_of x) held then halts (halt.Fenced held) else (if good then nothing x else halts halt.Disk)) else nothing x) opened
    ∙ ap (λ (c : Bool). if c then halts (halt.Fenced held) else (if good then nothing x else halts halt.Disk)) low

module _ (cap : ℕ) (b : Bare) (w : World registry_machine) (n : ℕ) (m : MemberState) (a : Abstracts cap b w) (g : Good w) (bd : Bounded w.chain) (there : b.members n ≡ Some m) where
  node_is : w.nodes n ≡ Some m.rules
  node_is = node_at cap b w n m a there

  pub record Came (came : Result Told Stop) (y : MemberState) (d : DiskView) : Type 0 where
    pub good : Bool
    pub ties : Abstracts cap (moved b n (left came y) (tells came) b.order d) (happens w (Checkpoint n good))

  came_to : (came : Result Told Stop) (y : MemberState) (d : DiskView) (good : Bool) → Abstracts cap (moved b n (left came y) (tells came) b.order d) (absorb n (checkpoint m.rules w.log.held good) w) → Came came y d
  came_to came y d good ties = record {
    good = good;
    ties = subst (λ (u : World registry_machine). Abstracts cap (moved b n (left came y) (tells came) b.order d) u) (sym (at_is w n m.rules (λ x. absorb n (checkpoint x w.log.held good) w) node_is)) ties;
  }

  -- no checkpoint is written
  silent : (came : Result Told Stop) (y : MemberState) (d : DiskView) → d ≡ b.disk → Comes (checkpoint m.rules w.log.held true) came y.rules → OnOk came (y.log ≡ m.log) → Sufficed came → Came came y d
  silent came y d same comes kept s =
      let out : Out registry_machine = checkpoint m.rules w.log.held true in
      let c = comes_left out came y s comes in
      let stays : StaysAt m.rules (rules_in (left came y)) = subst (λ (o : Option (NodeState registry_machine)). StaysAt m.rules o) c.0 (checkpoint_stays m.rules w.log.held true) in
      came_to came y d true (quiet_ties cap b w w n (left came y) out (tells came) d a (same_logs w.log w) refl (same_now b.disk d same) (left_keeps b n m y came there stays kept) c.0 (ap sent c.1) (ap acked c.1))

  module _ (old : LogValue) (had : m.log ≡ Some old) (opened : (m.rules.core.is_open && updating.locks m.rules.core) ≡ true) where
    is_logger : Logger w n m.rules
    is_logger =
        let h : NodeOk w n m.rules = g.holds.invariant.nodes n m.rules node_is in
        let o = and_true m.rules.core.is_open (updating.locks m.rules.core) opened in
        logger w n m.rules g node_is (sym h.local.core_open ∙ o.0) (sym (core_locks w n m.rules h) ∙ o.1)

    log_is : IsLogOfView m old
    log_is = a.logs n m old there had

    token : nat_lt (number_of m.rules) w.log.held ≡ true → old.claim < b.disk.current.held
    token low = let n = lt_true (number_of m.rules) w.log.held low in omega (arith, n, log_is.claim, a.refines.now.0)

    fenced : (came : Result Told Stop) (y : MemberState) (d : DiskView) (written : Result LogValue AddFault) → nat_lt (number_of m.rules) w.log.held ≡ true
        → CheckpointsTo old (state_bytes m) (last_bytes m) b.disk written d → Comes (checkpoint m.rules w.log.held (is_written written)) came y.rules → Sufficed came → Came came y d
    fenced came y d written low is comes s =
        let out : Out registry_machine = checkpoint m.rules w.log.held (is_written written) in
        let halts_ : out ≡ halts (halt.Fenced w.log.held) = checkpoint_fenced m.rules w.log.held (is_written written) opened low in
        let c = comes_left out came y s comes in
        let none : left came y ≡ None = halted came y (sym (ap (λ (o : Out registry_machine). o.node) halts_) ∙ c.0) in
        let rf = checkpoints_refused old (state_bytes m) (last_bytes m) b.disk d written a.refines.tells (token low) is in
        came_to came y d (is_written written)
        (quiet_ties cap b w w n (left came y) out (tells came) d a (same_logs w.log w) refl (stands_now b.disk d rf.stands rf.tells) (λ z f. absurd (cc (none, f))) c.0 (ap sent c.1) (ap acked c.1))

    module _ (high : nat_lt (number_of m.rules) w.log.held ≡ false) where
      held_is : number_of m.rules ≡ w.log.held
      held_is = let n = lt_false (number_of m.rules) w.log.held high in omega (arith, n, is_logger.least)

      apart_at : (d : DiskView) → OthersOwn b n w.log d
      apart_at d = others_apart cap b w n m.rules w.log d a g.holds.invariant node_is is_logger.locks log_is.numbered held_is

      saved_is : (d : DiskView) (written : Result LogValue AddFault) → CheckpointsTo old (state_bytes m) (last_bytes m) b.disk written d → Saved w.log old b.disk d written
      saved_is d written is =
          let now = owner_now w n m g bd node_is is_logger held_is in
          saves w.log old b.disk d written a.refines (a.owns n m old there had held_is) now.records
          (subst (λ (last : List ℕ). CheckpointsTo old (state_text w.log.cap w.log.order) last b.disk written d) now.last
          (subst (λ (state : List ℕ). CheckpointsTo old state (last_bytes m) b.disk written d) now.state is))

      goes : (came : Result Told Stop) (y : MemberState) (d : DiskView) (good : Bool) → Comes (checkpoint m.rules w.log.held good) came y.rules → Sufficed came → Leaves b w n (left came y) w.log d → Came came y d
      goes came y d good comes s leaves =
          let out : Out registry_machine = checkpoint m.rules w.log.held good in
          let c = comes_left out came y s comes in
          let ties = absorb_ties cap b w w n (left came y) out (tells came) w.log d a (same_logs w.log w) refl leaves c.0 (ap sent c.1) (ap acked c.1) in
          came_to came y d good (subst (λ (order : List Entry). Abstracts cap (moved b n (left came y) (tells came) order d) (absorb n out w)) a.order ties)

      owned : (came : Result Told Stop) (y : MemberState) (d : DiskView) (written : Result LogValue AddFault) → Saved w.log old b.disk d written → Comes (checkpoint m.rules w.log.held (is_written written)) came y.rules
          → (written ≡ Err add.Memory → came ≡ Err stop.Memory) → OnOk came (y.log ≡ log_after written) → Sufficed came → Came came y d
      owned came y d (Ok new) is comes memory kept s =
          let out : Out registry_machine = checkpoint m.rules w.log.held true in
          let is_out : out ≡ nothing m.rules = checkpoint_owned m.rules w.log.held true opened high in
          let c = comes_left out came y s comes in
          let went = went_on came y m.rules (sym (ap (λ (o : Out registry_machine). o.node) is_out) ∙ c.0) in
          goes came y d true comes s (record {
            cap_is = refl;
            refines = is.refines;
            own = own_left came y w.log d (λ told log ok has.
                let q : new ≡ log = cc (has, kept_ok came told (y.log ≡ Some new) ok kept) in
                let number : number_of y.rules ≡ number_of m.rules = ap (λ (x : NodeState registry_machine). number_of x) went.rules in
                subst (λ (t : LogValue). IsLogOfView y t × (number_of y.rules ≡ w.log.held → Owns w.log d t)) q (
                  record { claim = is.comes.1 ∙ log_is.claim ∙ sym number; locks = ap (λ (x : NodeState registry_machine). joining.locks x.join) went.rules ∙ is_logger.locks; numbered = λ z. log_is.numbered (sym number ∙ z) },
                  λ held. is.comes.0,
                ));
            others = apart_at d;
          })
      owned came y d (Err fault) is comes memory kept s =
          let out : Out registry_machine = checkpoint m.rules w.log.held false in
          let is_out : out ≡ halts halt.Disk = checkpoint_owned m.rules w.log.held false opened high in
          let c = comes_left out came y s comes in
          let none : left came y ≡ None = halted came y (sym (ap (λ (o : Out registry_machine). o.node) is_out) ∙ c.0) in
          goes came y d false comes s (record { cap_is = refl; refines = is.refines; own = own_none (left came y) w.log d none; others = apart_at d })

    logs_one : (came : Result Told Stop) (y : MemberState) (d : DiskView) (written : Result LogValue AddFault) → CheckpointsTo old (state_bytes m) (last_bytes m) b.disk written d
        → Comes (checkpoint m.rules w.log.held (is_written written)) came y.rules → (written ≡ Err add.Memory → came ≡ Err stop.Memory) → OnOk came (y.log ≡ log_after written) → Sufficed came → Came came y d
    logs_one came y d written is comes memory kept s = by (nat_lt (number_of m.rules) w.log.held) refl
      where
        by : (c : Bool) → nat_lt (number_of m.rules) w.log.held ≡ c → Came came y d
        by true low = fenced came y d written low is comes s
        by false high = owned high came y d written (saved_is high d written is) comes memory kept s

    dies_one : (d x : DiskView) (written : Result LogValue AddFault) (calls : ℕ) (bytes : List ℕ) → CheckpointsTo old (state_bytes m) (last_bytes m) b.disk written d → b.disk.past ≡ [] → Crashed d calls bytes x
        → Abstracts cap (left_at b n None b.order x) (happens w (Die n))
    dies_one d x written calls bytes is past crashed = by (nat_lt (number_of m.rules) w.log.held) refl
      where
        by : (c : Bool) → nat_lt (number_of m.rules) w.log.held ≡ c → Abstracts cap (left_at b n None b.order x) (stopped n w)
        by true low =
            let rf = checkpoints_refused old (state_bytes m) (last_bytes m) b.disk d written a.refines.tells (token low) is in
            dies cap b w n d x calls bytes a rf.stands rf.tells past crashed
        by false high =
            let s = saved_is high d written is in
            subst (λ (order : List Entry). Abstracts cap (left_at b n None order x) (stopped n w)) a.order
            (stop_ties cap b w n w.log x a (record {
              cap_is = refl;
              refines = crashed_refines w.log b.disk d x calls bytes s.refines.tells past s.moments crashed;
              own = none_own w.log x;
              others = apart_at high x;
            }))

  -- no head is acknowledged
  checks_none : (x : NodeState registry_machine) (held : ℕ) (good : Bool) → (checkpoint x held good).outcome ≡ None
  checks_none x held good = by (x.core.is_open && updating.locks x.core) (nat_lt (number_of x) held) good
    where
      by : (opened low good : Bool) → (if opened then (if low then halts (halt.Fenced held) else (if good then nothing x else halts halt.Disk)) else nothing x).outcome ≡ None
      by true true good = refl
      by true false true = refl
      by true false false = refl
      by false low good = refl

  pub saves_born : (came : Result Told Stop) (y : MemberState) (d : DiskView) → WritesCheckpoint b.disk m came y d → Born came
  saves_born came y d r = silent_born (checkpoint m.rules b.disk.current.held (is_good r.written)) came y.rules (checks_none m.rules b.disk.current.held (is_good r.written)) r.comes

  pub saves_to : (came : Result Told Stop) (y : MemberState) (d : DiskView) → WritesCheckpoint b.disk m came y d → Sufficed came → Came came y d
  saves_to came y d r s =
      by (m.rules.core.is_open && updating.locks m.rules.core) r.written refl r.logs (subst (λ (held : ℕ). Comes (checkpoint m.rules held (is_good r.written)) came y.rules) a.refines.now.0 r.comes) r.memory r.kept
    where
      by : (c : Bool) (written : Option (Result LogValue AddFault)) → (m.rules.core.is_open && updating.locks m.rules.core) ≡ c → LogsState c m b.disk written d → Comes (checkpoint m.rules w.log.held (is_good written)) came y.rules
          → (written ≡ Some (Err add.Memory) → came ≡ Err stop.Memory) → OnOk came (y.log ≡ log_left m.log written) → Came came y d
      by false None is logs comes memory kept = silent came y d logs comes kept s
      by true (Some written) is logs comes memory kept = logs_one logs.0 logs.1 is came y d written logs.2 comes (λ q. memory (ap (λ (t : Result LogValue AddFault). Some t) q)) kept s
      by false (Some written) is logs comes memory kept = absurd logs
      by true None is logs comes memory kept = absurd logs

  pub save_dies : (came : Result Told Stop) (y : MemberState) (d x : DiskView) (calls : ℕ) (bytes : List ℕ) → WritesCheckpoint b.disk m came y d → b.disk.past ≡ [] → Crashed d calls bytes x
      → Abstracts cap (left_at b n None b.order x) (happens w (Die n))
  save_dies came y d x calls bytes r past crashed = by (m.rules.core.is_open && updating.locks m.rules.core) r.written refl r.logs
    where
      by : (c : Bool) (written : Option (Result LogValue AddFault)) → (m.rules.core.is_open && updating.locks m.rules.core) ≡ c → LogsState c m b.disk written d → Abstracts cap (left_at b n None b.order x) (happens w (Die n))
      by false None is logs = dies cap b w n d x calls bytes a (stands_here b.disk d logs) (ap (λ (u : DiskView). u.tells) logs) past crashed
      by true (Some written) is logs = dies_one logs.0 logs.1 is d x written calls bytes logs.2 past crashed
      by false (Some written) is logs = absurd logs
      by true None is logs = absurd logs
