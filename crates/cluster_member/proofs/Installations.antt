-- A view is taken or not, by its locker or another member.
use Rattle.std.proofs.Common.{◌≡◌, ℕ, ◌+◌, ◌<◌, ◌≤◌, ◌^◌, Bool, true, false, IsTrue, MatchBool, None, Some, OnOk, Result, Ok, Err, refl, sym, ap, ◌∙◌, subst, arith}
use Rattle.disk_core.specs.Views.{DiskView, Passes}
use Rattle.quorum_log.specs.declared.found.Found.{Found}
use Rattle.quorum_log.specs.declared.fault.OpenFault.{OpenFault}
use Rattle.quorum_log.specs.Logs.{LogValue}
use Rattle.quorum_log.specs.Opening.{IsInOpen, OpenCalls}
use Rattle.record_log.specs.declared.recovered.Recovered.{Recovered}
use Rattle.record_log.specs.declared.fault.RecordFault.{RecordFault}
use Rattle.record_log.specs.declared.fault.RecordFault.TheVariants as records
use Rattle.record_log.specs.Opening.{ComesOf, HasOpened, OpensTo}
use Rattle.gum_messages.specs.declared.view.View.{View}
use Rattle.gum_messages.specs.Members.{is_locker}
use Rattle.cluster_rules.specs.Joins.{entered, recovers_from, takes_view}
use Rattle.cluster_rules.specs.Nodes.{NodeState, nothing}
use Rattle.registry_machine.specs.Machine.{registry_machine, replicated}
use Rattle.cluster_member.specs.declared.stop.Stop.{Stop}
use Rattle.cluster_member.specs.declared.stop.Stop.TheVariants as stop
use Rattle.member_rules.specs.declared.told.Told.{Told}
use Rattle.member_rules.specs.Steps.{GoesOn}
use Rattle.cluster_member.specs.States.{IsLogAt, MemberState}
use Rattle.cluster_member.specs.Logging.{stop_for}
use Rattle.cluster_member.specs.Events.{Comes, Enters, Goes, Installs, Recovers, log_opened, recovered_as}

when_true : (A B : Type 0) (b : Bool) → b ≡ true → A → MatchBool b A B
when_true A B b e a = subst (λ (c : Bool). MatchBool c A B) (sym e) a

when_false : (A B : Type 0) (b : Bool) → b ≡ false → B → MatchBool b A B
when_false A B b e a = subst (λ (c : Bool). MatchBool c A B) (sym e) a

pub not_taken : (v : DiskView) (x : MemberState) (view : View) (told : Told)
    → takes_view x.rules view ≡ false → GoesOn (nothing x.rules) x.rules told → Installs v x view (Ok told) x v
not_taken v x view told e g = when_false _ _ (takes_view x.rules view) e (record { disk = refl; comes = g; kept = refl })

pub not_taken_lacks : (v : DiskView) (x : MemberState) (view : View) (s : Stop) → takes_view x.rules view ≡ false → s ≡ stop.Memory → Installs v x view (Err s) x v
not_taken_lacks v x view s e is =
    subst (λ (q : Stop). Installs v x view (Err q) x v) (sym is) (when_false _ _ (takes_view x.rules view) e (record { disk = refl; comes = tt; kept = tt }))

pub taken_there : (v : DiskView) (x : MemberState) (view : View) (r : Result Told Stop) (y : MemberState)
    → takes_view x.rules view ≡ true → is_locker view.members x.rules.join.node ≡ false
    → Goes (nothing (entered view x.rules)) None r y → Installs v x view r y v
taken_there v x view r y e other goes =
    when_true _ _ (takes_view x.rules view) e (when_false _ _ (is_locker view.members x.rules.join.node) other (record { disk = refl; comes = goes.comes; kept = goes.kept }))

pub taken_here : (v : DiskView) (x : MemberState) (view : View) (r : Result Told Stop) (y : MemberState) (w : DiskView)
    → takes_view x.rules view ≡ true → is_locker view.members x.rules.join.node ≡ true
    → Recovers v x view r y w → Installs v x view r y w
taken_here v x view r y w e here recovers =
    when_true _ _ (takes_view x.rules view) e (when_true _ _ (is_locker view.members x.rules.join.node) here recovers)

-- ---- the locker recovers the log

small_count : (n : ℕ) → n ≤ 9_223_372_036_854_775_807 → n < 2 ^ 63
small_count n e = omega arith

pub log_at : (claim : ℕ) (v : DiskView) (log : LogValue) (r : Recovered) (w : DiskView) → HasOpened claim v log r w → IsLogAt claim r.count r.cap r.last log
log_at claim v log r w is =
    let few : r.count ≤ 9_223_372_036_854_775_807 = subst (λ n. n ≤ 9_223_372_036_854_775_807) (sym is.recovered.count) is.limits.count in
    let caps : (4096 ≤ r.cap) × (r.cap ≤ 16777216) = subst (λ n. (4096 ≤ n) × (n ≤ 16777216)) (sym is.recovered.cap) is.limits.cap_range in
    record {
      claim = ap (λ (l : LogValue). l.claim) is.value;
      same_cap = ap (λ (l : LogValue). l.cap) is.value ∙ sym is.recovered.cap;
      counted = ap (λ (l : LogValue). l.base + l.records) is.value ∙ sym is.recovered.count;
      no_last = is.recovered.no_last;
      offered = record { counted = small_count r.count few; least_cap = caps.0; most_cap = caps.1 };
    }

pub recovers_well : (v : DiskView) (x : MemberState) (view : View) (log : LogValue) (r : Recovered) (result : Result Told Stop) (y : MemberState) (w : DiskView)
    → OpensTo view.number v (Ok (log, r)) w
    → ((answer : Result Found OpenFault) × OpenCalls view.number v answer w × ComesOf answer (Ok (log, r)))
    → (IsTrue v.tells → Passes (IsInOpen v.current view.number) v w)
    → Comes (recovers_from (entered view x.rules) (record { count = r.count; cap = r.cap; last = r.last }) (replicated r.registry)) result y.rules
    → OnOk result (y.log ≡ Some log)
    → Recovers v x view result y w
recovers_well v x view log r result y w opens calls moments comes kept = record {
  opened = Ok (log, r);
  opens = opens;
  answer = calls.0;
  calls = calls.1;
  comes_of = calls.2;
  any_moment = moments;
  comes = comes;
  memory = λ out. absurd (cc);
  kept = kept;
}

abbrev stopped : Stop → Result Told Stop
stopped s = Err s

halted_as : (x : NodeState registry_machine) (fault : RecordFault) (y : NodeState registry_machine) → Comes (recovered_as x (Err fault)) (Err (stop_for fault)) y
halted_as x records.Failed y = (refl, refl)
halted_as x (records.Fenced held) y = (refl, refl)
halted_as x (records.Image place) y = (refl, refl)
halted_as x records.Memory y = tt

lacked_as : (fault : RecordFault) (r : Result (LogValue × Recovered) RecordFault) → r ≡ Err fault → r ≡ Err records.Memory → stop_for fault ≡ stop.Memory
lacked_as records.Failed r is out = cc
lacked_as (records.Fenced held) r is out = cc
lacked_as (records.Image place) r is out = cc
lacked_as records.Memory r is out = refl

pub recovers_not : (v : DiskView) (x : MemberState) (view : View) (fault : RecordFault) (s : Stop) (y : MemberState) (w : DiskView)
    → OpensTo view.number v (Err fault) w
    → ((answer : Result Found OpenFault) × OpenCalls view.number v answer w × ComesOf answer (Err fault))
    → (IsTrue v.tells → Passes (IsInOpen v.current view.number) v w)
    → s ≡ stop_for fault
    → Recovers v x view (Err s) y w
recovers_not v x view fault s y w opens calls moments is =
    let none : Result (LogValue × Recovered) RecordFault = Err fault in
    subst (λ (q : Stop). Recovers v x view (Err q) y w) (sym is) (record {
      opened = none;
      opens = opens;
      answer = calls.0;
      calls = calls.1;
      comes_of = calls.2;
      any_moment = moments;
      comes = halted_as (entered view x.rules) fault y.rules;
      memory = λ out. ap stopped (lacked_as fault none refl out);
      kept = tt;
    })
