-- What the log's answers make of an event.
use Rattle.std.proofs.Common.{◌≡◌, ℕ, ◌<◌, ◌≤◌, Bool, true, false, not, ◌&&◌, List, length, Option, Some, None, Result, Ok, Err, cond, nat_lt, refl, sym, ap, ◌∙◌, subst, arith}
use Rattle.disk_core.specs.Views.{DiskView}
use Rattle.gum_messages.specs.declared.body.Body.TheVariants.{Granted}
use Rattle.update_records.specs.Entry.{Entry, record_text}
use Rattle.update_records.specs.declared.update.Update.{Update}
use Rattle.gum_core.specs.declared.decision.Decision.{Decision}
use Rattle.gum_core.specs.declared.decision.Decision.TheVariants as decision
use Rattle.gum_core.specs.Updating.{asked}
use Rattle.gum_core.specs.Updating as updating
use Rattle.quorum_log.specs.declared.fault.AppendFault.{AppendFault}
use Rattle.quorum_log.specs.declared.fault.AppendFault.TheVariants as append
use Rattle.quorum_log.specs.Logs.{LogValue, begun}
use Rattle.quorum_log.specs.Faults.{AnsweredBy, disk_answer}
use Rattle.cluster_rules.specs.declared.effect.HaltCause.{HaltCause}
use Rattle.cluster_rules.specs.declared.effect.HaltCause.TheVariants as halt
use Rattle.cluster_rules.specs.Receiving.{checkpoint}
use Rattle.cluster_rules.specs.Nodes.{NodeState, Out, done_of, halts, nothing, number_of, tells}
use Rattle.cluster_rules.specs.Updates.{Answer, Written, InDoubt, Unwritten, Logged, answers, entry_for, grants, has_logged, on_ask, unlogged, writes}
use Rattle.single_rules.specs.Logging.{entry_of, no_entry}
use Rattle.registry_machine.specs.Machine.{registry_machine}
use Rattle.record_log.specs.declared.fault.AddFault.{AddFault}
use Rattle.record_log.specs.declared.fault.AddFault.TheVariants as add
use Rattle.record_log.specs.Adding.{Adds, Appends, Checkpoints, CheckpointsTo, IsSound, is_due}
use Rattle.member_rules.specs.declared.told.Told.{Told}
use Rattle.member_rules.specs.Steps.{GoesOn}
use Rattle.cluster_member.specs.declared.stop.Stop.{Stop}
use Rattle.cluster_member.specs.declared.stop.Stop.TheVariants as stop
use Rattle.cluster_member.specs.Events.{Asks, Comes, Saves, Writes, WritesCheckpoint, checkpointed}
use Rattle.cluster_member.specs.Logging.{Logs, LogsState, answer_of, cause_of, is_written, last_bytes, state_bytes, stop_of}
use Rattle.cluster_member.specs.States.{MemberState, OwnsLog}
use Rattle.cluster_member.proofs.Owning.{some_log}

abbrev stopped : Stop → Result Told Stop
stopped s = Err s

-- ---- what the log's answer says of the fencing tokens

abbrev FaultSays : ℕ → ℕ → AppendFault → Type 0
FaultSays claim held append.Failed = held ≤ claim
FaultSays claim held (append.Fenced now) = (claim < held) × (now ≡ held)

abbrev Says : ℕ → ℕ → Result LogValue AddFault → Type 0
Says claim held (Ok log) = held ≤ claim
Says claim held (Err (add.Checkpoint fault)) = FaultSays claim held fault
Says claim held (Err (add.Append fault)) = FaultSays claim held fault
Says claim held (Err add.Memory) = Unit {0}

answer_says : (claim : ℕ) (v w : DiskView) (fault : AppendFault) → AnsweredBy claim v (disk_answer {A = LogValue} (Err fault)) w → FaultSays claim v.current.held fault
answer_says claim v w append.Failed a = a.0
answer_says claim v w (append.Fenced now) a = a

moved : (claim old held : ℕ) (fault : AppendFault) → held ≡ old → FaultSays claim held fault → FaultSays claim old fault
moved claim old held fault is f = subst (λ (n : ℕ). FaultSays claim n fault) is f

module _ (log : LogValue) (state last bytes : List ℕ) (v w : DiskView) where
  pub adds_says : (due : Bool) (r : Result LogValue AddFault) → Adds due log state last bytes v r w → Says log.claim v.current.held r
  adds_says true (Ok new) a = subst (λ (n : ℕ). n ≤ log.claim) a.1.held a.2.answer
  adds_says true (Err (add.Checkpoint fault)) a = answer_says log.claim v w fault a.answer
  adds_says true (Err (add.Append fault)) a = moved log.claim v.current.held a.0.current.held fault a.1.held (answer_says log.claim a.0 w fault a.2.answer)
  adds_says true (Err add.Memory) a = tt
  adds_says false (Ok new) a = a.answer
  adds_says false (Err (add.Checkpoint fault)) a = absurd a
  adds_says false (Err (add.Append fault)) a = answer_says log.claim v w fault a.answer
  adds_says false (Err add.Memory) a = tt

  pub saves_says : (r : Result LogValue AddFault) → CheckpointsTo log state last v r w → Says log.claim v.current.held r
  saves_says (Ok new) a = a.answer
  saves_says (Err (add.Checkpoint fault)) a = answer_says log.claim v w fault a.answer
  saves_says (Err (add.Append fault)) a = absurd a
  saves_says (Err add.Memory) a = tt

-- ---- a record is added

not_fenced : (number held : ℕ) → held ≤ number → nat_lt number held ≡ false
not_fenced number held e = grind arith

is_fenced : (number held : ℕ) → number < held → nat_lt number held ≡ true
is_fenced number held e = grind arith

open_writes : (x : NodeState registry_machine) (e : Entry) (held : ℕ) → held ≤ number_of x → (writes x e held Written).out ≡ tells (has_logged x e) e.id.node (Granted e)
open_writes x e held below = rw (not_fenced (number_of x) held below) refl

fenced_writes : (x : NodeState registry_machine) (e : Entry) (held : ℕ) (answer : Answer) → number_of x < held → writes x e held answer ≡ unlogged (halts (halt.Fenced held))
fenced_writes x e held answer above = rw (is_fenced (number_of x) held above) refl

failed_writes : (x : NodeState registry_machine) (e : Entry) (held : ℕ) (fault : AddFault) → held ≤ number_of x → (writes x e held (answer_of (Err fault))).out ≡ halts halt.Disk
failed_writes x e held (add.Checkpoint fault) below = rw (not_fenced (number_of x) held below) refl
failed_writes x e held (add.Append fault) below = rw (not_fenced (number_of x) held below) refl
failed_writes x e held add.Memory below = rw (not_fenced (number_of x) held below) refl

halted_out : (o : Out registry_machine) (cause : HaltCause) (y : NodeState registry_machine) → o ≡ halts cause → Comes o (Err (stop.Halted cause)) y
halted_out o cause y is = subst (λ (p : Out registry_machine). Comes p (Err (stop.Halted cause)) y) (sym is) (refl, refl)

append_halts : (x y : NodeState registry_machine) (e : Entry) (held : ℕ) (fault : AddFault) (below : AppendFault)
    → FaultSays (number_of x) held below → Comes (writes x e held (answer_of (Err fault))).out (Err (stop.Halted (cause_of below))) y
append_halts x y e held fault append.Failed says = halted_out (writes x e held (answer_of (Err fault))).out halt.Disk y (failed_writes x e held fault says)
append_halts x y e held fault (append.Fenced now) says =
    halted_out (writes x e held (answer_of (Err fault))).out (halt.Fenced now) y
    (ap (λ (l : Logged registry_machine). l.out) (fenced_writes x e held (answer_of (Err fault)) says.0) ∙ ap (λ n. halts (halt.Fenced n)) (sym says.1))

fault_halts : (x y : NodeState registry_machine) (e : Entry) (held : ℕ) (fault : AddFault)
    → Says (number_of x) held (Err fault) → Comes (writes x e held (answer_of (Err fault))).out (Err (stop_of fault)) y
fault_halts x y e held (add.Checkpoint below) says = append_halts x y e held (add.Checkpoint below) below says
fault_halts x y e held (add.Append below) says = append_halts x y e held (add.Append below) below says
fault_halts x y e held add.Memory says = tt

at_claim : (claim number held : ℕ) (r : Result LogValue AddFault) → claim ≡ number → Says claim held r → Says number held r
at_claim claim number held r is says = subst (λ (n : ℕ). Says n held r) is says

no_fault : (log : LogValue) (fault : AddFault) (r : Result LogValue AddFault) → r ≡ Ok log → r ≡ Err fault → ⊥
no_fault log fault r is out = cc

pub written : (v : DiskView) (x y : MemberState) (e : Entry) (old log : LogValue) (told : Told) (w : DiskView)
    → x.log ≡ Some old → old.claim ≡ number_of x.rules
    → Adds (is_due old (length (record_text e))) old (state_bytes x) (last_bytes x) (record_text e) v (Ok log) w → IsSound e (Ok log)
    → GoesOn (tells (has_logged x.rules e) e.id.node (Granted e)) y.rules told → y.log ≡ Some log
    → Writes v x e (Ok told) y w
written v x y e old log told w had claim adds sound goes kept =
    let says = at_claim old.claim (number_of x.rules) v.current.held (Ok log) claim
    (adds_says old (state_bytes x) (last_bytes x) (record_text e) v w (is_due old (length (record_text e))) (Ok log) adds) in
    record {
      old = old;
      added = Ok log;
      had = had;
      adds = adds;
      sound = sound;
      comes = subst (λ (o : Out registry_machine). GoesOn o y.rules told) (sym (open_writes x.rules e v.current.held says)) goes;
      memory = λ out. absurd (cc);
      kept = kept;
    }

-- Behind it memory ran out.
pub written_lacks : (v : DiskView) (x y : MemberState) (e : Entry) (old log : LogValue) (s : Stop) (w : DiskView)
    → x.log ≡ Some old → Adds (is_due old (length (record_text e))) old (state_bytes x) (last_bytes x) (record_text e) v (Ok log) w → IsSound e (Ok log) → s ≡ stop.Memory
    → Writes v x e (Err s) y w
written_lacks v x y e old log s w had adds sound is =
    subst (λ (q : Stop). Writes v x e (Err q) y w) (sym is) (record { old = old; added = Ok log; had = had; adds = adds; sound = sound; comes = tt; memory = λ out. absurd (cc); kept = tt })

lacks : (fault : AddFault) (r : Result LogValue AddFault) → r ≡ Err fault → r ≡ Err add.Memory → stop_of fault ≡ stop.Memory
lacks (add.Checkpoint below) r is out = cc
lacks (add.Append below) r is out = cc
lacks add.Memory r is out = refl

pub halted : (v : DiskView) (x y : MemberState) (e : Entry) (old : LogValue) (fault : AddFault) (s : Stop) (w : DiskView)
    → x.log ≡ Some old → old.claim ≡ number_of x.rules
    → Adds (is_due old (length (record_text e))) old (state_bytes x) (last_bytes x) (record_text e) v (Err fault) w → IsSound e (Err fault)
    → s ≡ stop_of fault
    → Writes v x e (Err s) y w
halted v x y e old fault s w had claim adds sound is =
    let none : Result LogValue AddFault = Err fault in
    let says = at_claim old.claim (number_of x.rules) v.current.held none claim
    (adds_says old (state_bytes x) (last_bytes x) (record_text e) v w (is_due old (length (record_text e))) none adds) in
    subst (λ (q : Stop). Writes v x e (Err q) y w) (sym is) (record {
      old = old;
      added = none;
      had = had;
      adds = adds;
      sound = sound;
      comes = fault_halts x.rules y.rules e v.current.held fault says;
      memory = λ out. ap stopped (lacks fault none refl out);
      kept = tt;
    })

-- ---- an Ask

module _ (v : DiskView) (x : MemberState) (from req : ℕ) (update : Update) (d : Decision) (is : asked x.rules.core from req (done_of x.rules) ≡ d) where
  log_of_ask : entry_of x.rules update (asked x.rules.core from req (done_of x.rules)) ≡ entry_of x.rules update d
  log_of_ask = ap (λ q. entry_of x.rules update q) is

  out_of_ask : (held : ℕ) (answer : Answer) → on_ask x.rules from req update held answer ≡ answers x.rules update held answer d
  out_of_ask held answer = ap (λ q. answers x.rules update held answer q) is

  pub ask_else : (o : Out registry_machine) (told : Told)
      → entry_of x.rules update d ≡ no_entry → answers x.rules update v.current.held Written d ≡ unlogged o → GoesOn o x.rules told → Asks v x from req update (Ok told) x v
  ask_else o told none out goes = record {
    added = None;
    logs = subst (λ (e : Option Entry). Logs e x v None v) (sym (log_of_ask ∙ none)) refl;
    comes = subst (λ (l : Logged registry_machine). GoesOn l.out x.rules told) (sym (out_of_ask v.current.held Written ∙ out)) goes;
    memory = λ out. absurd (cc);
    kept = refl;
  }

  pub ask_lacks : (s : Stop) → entry_of x.rules update d ≡ no_entry → s ≡ stop.Memory → Asks v x from req update (Err s) x v
  ask_lacks s none lack = subst (λ (q : Stop). Asks v x from req update (Err q) x v) (sym lack) (record {
    added = None;
    logs = subst (λ (e : Option Entry). Logs e x v None v) (sym (log_of_ask ∙ none)) refl;
    comes = tt;
    memory = λ out. refl;
    kept = tt;
  })

module _ (v : DiskView) (x : MemberState) (from req a b : ℕ) (update : Update) (is : asked x.rules.core from req (done_of x.rules) ≡ decision.Write a b) where
  pub ask_writes : (r : Result Told Stop) (y : MemberState) (w : DiskView) (e : Entry) → e ≡ entry_for x.rules a b update → Writes v x e r y w → Asks v x from req update r y w
  ask_writes r y w e entry h =
      let written : Writes v x (entry_for x.rules a b update) r y w = subst (λ (k : Entry). Writes v x k r y w) entry h in
      record {
        added = Some written.added;
        logs = subst (λ (k : Option Entry). Logs k x v (Some written.added) w) (sym (log_of_ask v x from req update (decision.Write a b) is)) (written.old, written.had, written.adds, written.sound);
        comes = subst (λ (l : Logged registry_machine). Comes l.out r y.rules) (sym (out_of_ask v x from req update (decision.Write a b) is v.current.held (answer_of written.added))) written.comes;
        memory = λ out. written.memory (cc);
        kept = written.kept;
      }

  -- The record's memory wasn't there.
  lacks_with : (s : Stop) (old : LogValue) → x.log ≡ Some old → s ≡ stop.Memory → Asks v x from req update (Err s) x v
  lacks_with s old had lack = subst (λ (q : Stop). Asks v x from req update (Err q) x v) (sym lack) (record {
    added = Some (Err add.Memory);
    logs = subst (λ (k : Option Entry). Logs k x v (Some (Err add.Memory)) v) (sym (log_of_ask v x from req update (decision.Write a b) is)) (old, had, refl, tt);
    comes = tt;
    memory = λ out. refl;
    kept = tt;
  })

  pub ask_write_lacks : (s : Stop) → OwnsLog (number_of x.rules) x.rules.replica x.rules.last x.log → s ≡ stop.Memory → Asks v x from req update (Err s) x v
  ask_write_lacks s owns lack =
      let log = some_log (number_of x.rules) x.rules.replica x.rules.last x.log owns in
      lacks_with s log.0 log.1 lack

-- ---- a checkpoint

open_saves : (x : NodeState registry_machine) (held : ℕ) → held ≤ number_of x → checkpointed x held true ≡ nothing x
open_saves x held below = rw (not_fenced (number_of x) held below) refl

failed_saves : (x : NodeState registry_machine) (held : ℕ) → held ≤ number_of x → checkpointed x held false ≡ halts halt.Disk
failed_saves x held below = rw (not_fenced (number_of x) held below) refl

fenced_saves : (x : NodeState registry_machine) (held : ℕ) (good : Bool) → number_of x < held → checkpointed x held good ≡ halts (halt.Fenced held)
fenced_saves x held good above = rw (is_fenced (number_of x) held above) refl

save_halts : (x y : NodeState registry_machine) (held : ℕ) (below : AppendFault)
    → FaultSays (number_of x) held below → Comes (checkpointed x held false) (Err (stop.Halted (cause_of below))) y
save_halts x y held append.Failed says = halted_out (checkpointed x held false) halt.Disk y (failed_saves x held says)
save_halts x y held (append.Fenced now) says =
    halted_out (checkpointed x held false) (halt.Fenced now) y (fenced_saves x held false says.0 ∙ ap (λ n. halts (halt.Fenced n)) (sym says.1))

save_fault_halts : (x y : NodeState registry_machine) (held : ℕ) (fault : AddFault)
    → Says (number_of x) held (Err fault) → Comes (checkpointed x held (is_written (Err fault))) (Err (stop_of fault)) y
save_fault_halts x y held (add.Checkpoint below) says = save_halts x y held below says
save_fault_halts x y held (add.Append below) says = save_halts x y held below says
save_fault_halts x y held add.Memory says = tt

module _ (v : DiskView) (x y : MemberState) (old : LogValue) (w : DiskView) (had : x.log ≡ Some old) where
  pub saved : (log : LogValue) (told : Told) → old.claim ≡ number_of x.rules → CheckpointsTo old (state_bytes x) (last_bytes x) v (Ok log) w
      → GoesOn (nothing x.rules) y.rules told → y.log ≡ Some log → Saves v x (Ok told) y w
  saved log told claim saves goes kept =
      let says = at_claim old.claim (number_of x.rules) v.current.held (Ok log) claim (saves_says old (state_bytes x) (last_bytes x) (state_bytes x) v w (Ok log) saves) in
      record {
        old = old;
        written = Ok log;
        had = had;
        saves = saves;
        comes = subst (λ (o : Out registry_machine). GoesOn o y.rules told) (sym (open_saves x.rules v.current.held says)) goes;
        memory = λ out. absurd (cc);
        kept = kept;
      }

  pub saved_lacks : (log : LogValue) (s : Stop) → CheckpointsTo old (state_bytes x) (last_bytes x) v (Ok log) w → s ≡ stop.Memory → Saves v x (Err s) y w
  saved_lacks log s saves is =
      subst (λ (q : Stop). Saves v x (Err q) y w) (sym is) (record { old = old; written = Ok log; had = had; saves = saves; comes = tt; memory = λ out. absurd (cc); kept = tt })

  pub not_saved : (fault : AddFault) (s : Stop) → old.claim ≡ number_of x.rules → CheckpointsTo old (state_bytes x) (last_bytes x) v (Err fault) w → s ≡ stop_of fault → Saves v x (Err s) y w
  not_saved fault s claim saves is =
      let none : Result LogValue AddFault = Err fault in
      let says = at_claim old.claim (number_of x.rules) v.current.held none claim (saves_says old (state_bytes x) (last_bytes x) (state_bytes x) v w none saves) in
      subst (λ (q : Stop). Saves v x (Err q) y w) (sym is) (record {
        old = old;
        written = none;
        had = had;
        saves = saves;
        comes = save_fault_halts x.rules y.rules v.current.held fault says;
        memory = λ out. ap stopped (lacks fault none refl out);
        kept = tt;
      })

-- At an open locker, or elsewhere.
open_checkpoint : (x : NodeState registry_machine) (held : ℕ) (good : Bool) → x.core.is_open ≡ true → updating.locks x.core ≡ true → checkpoint x held good ≡ checkpointed x held good
open_checkpoint x held good opened here = rw (opened, here) refl

opened_both : (a b : Bool) → a ≡ true → b ≡ true → (a && b) ≡ true
opened_both a b e f = rw (e, f) refl

pub saves_here : (v : DiskView) (x y : MemberState) (r : Result Told Stop) (w : DiskView)
    → x.rules.core.is_open ≡ true → updating.locks x.rules.core ≡ true → Saves v x r y w → WritesCheckpoint v x r y w
saves_here v x y r w opened here h = record {
  written = Some h.written;
  logs = subst (λ (b : Bool). LogsState b x v (Some h.written) w) (sym (opened_both x.rules.core.is_open (updating.locks x.rules.core) opened here)) (h.old, h.had, h.saves);
  comes = subst (λ (o : Out registry_machine). Comes o r y.rules) (sym (open_checkpoint x.rules v.current.held (is_written h.written) opened here)) h.comes;
  memory = λ out. h.memory (cc);
  kept = h.kept;
}

no_checkpoint : (x : NodeState registry_machine) (held : ℕ) (good : Bool) → (x.core.is_open && updating.locks x.core) ≡ false → checkpoint x held good ≡ nothing x
no_checkpoint x held good other = rw other refl

pub saves_nothing : (v : DiskView) (x : MemberState) (told : Told)
    → (x.rules.core.is_open && updating.locks x.rules.core) ≡ false → GoesOn (nothing x.rules) x.rules told → WritesCheckpoint v x (Ok told) x v
saves_nothing v x told other goes = record {
  written = None;
  logs = subst (λ (b : Bool). LogsState b x v None v) (sym other) refl;
  comes = subst (λ (o : Out registry_machine). GoesOn o x.rules told) (sym (no_checkpoint x.rules v.current.held true other)) goes;
  memory = λ out. absurd (cc);
  kept = refl;
}

pub saves_nothing_lacks : (v : DiskView) (x : MemberState) (s : Stop) → (x.rules.core.is_open && updating.locks x.rules.core) ≡ false → s ≡ stop.Memory → WritesCheckpoint v x (Err s) x v
saves_nothing_lacks v x s other is = subst (λ (q : Stop). WritesCheckpoint v x (Err q) x v) (sym is) (record {
  written = None;
  logs = subst (λ (b : Bool). LogsState b x v None v) (sym other) refl;
  comes = tt;
  memory = λ out. refl;
  kept = tt;
})
