-- A node that goes on behind a message has logged the record that the message had it log.
use Rattle.std.proofs.Common.{◌≡◌, ℕ, ◌+◌, Bool, true, false, Option, Some, None, Ok, Err, Result, nat_lt, if◌then◌else◌, refl, sym, ap, ◌∙◌}
use Rattle.update_records.specs.Entry.{Entry}
use Rattle.update_records.specs.declared.update.Update.{Update}
use Rattle.disk_core.specs.Views.{DiskView}
use Rattle.gum_messages.specs.declared.body.Body.{Body}
use Rattle.gum_messages.specs.declared.body.Body.TheVariants.{Ask, Granted, Apply, Applied, Release, Offer, Need, Piece, Ready, OpenView}
use Rattle.gum_messages.specs.Messages.{Sent}
use Rattle.gum_core.specs.declared.decision.Decision.{Decision}
use Rattle.gum_core.specs.declared.decision.Decision.TheVariants as decision
use Rattle.gum_core.specs.Updating as updating
use Rattle.quorum_log.specs.Logs.{LogValue}
use Rattle.record_log.specs.declared.fault.AddFault.{AddFault}
use Rattle.record_log.specs.declared.fault.AddFault.TheVariants as add
use Rattle.cluster_rules.specs.declared.effect.HaltCause.TheVariants as halt
use Rattle.cluster_rules.specs.Nodes.{NodeState, done_of, halts, nothing, number_of, tells}
use Rattle.cluster_rules.specs.Updates.{Answer, InDoubt, Logged, Unwritten, Written, answers, entry_for, has_logged, replica_after, unlogged}
use Rattle.cluster_rules.specs.Receiving.{counts, hears, receive}
use Rattle.registry_machine.specs.Machine.{registry_machine}
use Rattle.single_rules.specs.Logging.{body_to_log, entry_of, no_entry, to_log}
use Rattle.cluster_member.specs.Logging.{Logs, answer_of, answer_to, log_left}
use Rattle.cluster_member.specs.States.{MemberState}
use Rattle.single_node.specs.Standing.{LogsOne}

abbrev pub State : Type 0
State = NodeState registry_machine

pub record WentOn (d : Logged registry_machine) (entry : Option Entry) (answer : Answer) : Type 0 where
  pub appended : d.appended ≡ entry
  pub written : (e : Entry) → entry ≡ Some e → answer ≡ Written

no_record : (d : Logged registry_machine) (answer : Answer) → d.appended ≡ None → WentOn d no_entry answer
no_record d answer none = record { appended = none; written = λ e is. let no : ◌≡◌ {A = Option Entry} None (Some e) = is in absurd (cc) }

abbrev pub writes_if : Bool → State → Entry → ℕ → Answer → Logged registry_machine
writes_if fenced x e held answer =
    if fenced then unlogged (halts (halt.Fenced held))
    else elim answer [
      | Written ↦ record { out = tells (has_logged x e) e.id.node (Granted e); appended = Some e; doubtful = None }
      | InDoubt ↦ record { out = halts halt.Disk; appended = None; doubtful = Some e }
      | Unwritten ↦ unlogged (halts halt.Disk)
    ]

writes_on : (fenced : Bool) (x y : State) (e : Entry) (held : ℕ) (answer : Answer) → (writes_if fenced x e held answer).out.node ≡ Some y → WentOn (writes_if fenced x e held answer) (Some e) answer
writes_on true x y e held answer node = let no : ◌≡◌ {A = Option State} None (Some y) = node in absurd (cc)
writes_on false x y e held Written node = record { appended = refl; written = λ f is. refl }
writes_on false x y e held InDoubt node = let no : ◌≡◌ {A = Option State} None (Some y) = node in absurd (cc)
writes_on false x y e held Unwritten node = let no : ◌≡◌ {A = Option State} None (Some y) = node in absurd (cc)

answers_on : (x y : State) (u : Update) (held : ℕ) (answer : Answer) (d : Decision) → (answers x u held answer d).out.node ≡ Some y → WentOn (answers x u held answer d) (entry_of x u d) answer
answers_on x y u held answer decision.Nothing node = no_record (answers x u held answer decision.Nothing) answer refl
answers_on x y u held answer (decision.Ask req) node = no_record (answers x u held answer (decision.Ask req)) answer refl
answers_on x y u held answer (decision.Write from req) node = writes_on (nat_lt (number_of x) held) x y (entry_for x from req u) held answer node
answers_on x y u held answer (decision.Grant to req place) node = no_record (answers x u held answer (decision.Grant to req place)) answer refl
answers_on x y u held answer (decision.Spread to place) node = no_record (answers x u held answer (decision.Spread to place)) answer refl
answers_on x y u held answer (decision.Finish req place next) node = no_record (answers x u held answer (decision.Finish req place next)) answer refl
answers_on x y u held answer decision.Free node = no_record (answers x u held answer decision.Free) answer refl
answers_on x y u held answer (decision.ReleaseAgain req) node = no_record (answers x u held answer (decision.ReleaseAgain req)) answer refl
answers_on x y u held answer decision.Take node = no_record (answers x u held answer decision.Take) answer refl
answers_on x y u held answer decision.Again node = no_record (answers x u held answer decision.Again) answer refl

hears_on : (x y : State) (from : ℕ) (body : Body) (held : ℕ) (answer : Answer) → (hears x from body held answer).out.node ≡ Some y → WentOn (hears x from body held answer) (body_to_log x from body) answer
hears_on x y from (Ask req u) held answer node = answers_on x y u held answer (updating.asked x.core from req (done_of x)) node
hears_on x y from (Granted e) held answer node = no_record (hears x from (Granted e) held answer) answer refl
hears_on x y from (Apply e) held answer node = no_record (hears x from (Apply e) held answer) answer refl
hears_on x y from (Applied place) held answer node = no_record (hears x from (Applied place) held answer) answer refl
hears_on x y from (Release req) held answer node = no_record (hears x from (Release req) held answer) answer refl
hears_on x y from (Offer count cap last) held answer node = no_record (hears x from (Offer count cap last) held answer) answer refl
hears_on x y from (Need offset) held answer node = no_record (hears x from (Need offset) held answer) answer refl
hears_on x y from (Piece total offset bytes) held answer node = no_record (hears x from (Piece total offset bytes) held answer) answer refl
hears_on x y from Ready held answer node = no_record (hears x from Ready held answer) answer refl
hears_on x y from OpenView held answer node = no_record (hears x from OpenView held answer) answer refl

counted_on : (counted : Bool) (x y : State) (p : Sent) (held : ℕ) (answer : Answer)
    → (let d : Logged registry_machine = if counted then hears x p.from p.body held answer else unlogged (nothing x) in d.out.node) ≡ Some y
    → WentOn (if counted then hears x p.from p.body held answer else unlogged (nothing x)) (if counted then body_to_log x p.from p.body else no_entry) answer
counted_on true x y p held answer node = hears_on x y p.from p.body held answer node
counted_on false x y p held answer node = no_record (unlogged (nothing x)) answer refl

pub receives_on : (x y : State) (p : Sent) (held : ℕ) (answer : Answer) → (receive x p held answer).out.node ≡ Some y → WentOn (receive x p held answer) (to_log x p) answer
receives_on x y p held answer node = counted_on (counts x p) x y p held answer node

-- ---- the place of the record

asks_place : (x : State) (u : Update) (d : Decision) (e : Entry) → entry_of x u d ≡ Some e → e.place ≡ done_of x + 1
asks_place x u decision.Nothing e is = absurd (cc)
asks_place x u (decision.Ask req) e is = absurd (cc)
asks_place x u (decision.Write from req) e is = let same : entry_for x from req u ≡ e = cc in ap (λ (d : Entry). d.place) (sym same)
asks_place x u (decision.Grant to req place) e is = absurd (cc)
asks_place x u (decision.Spread to place) e is = absurd (cc)
asks_place x u (decision.Finish req place next) e is = absurd (cc)
asks_place x u decision.Free e is = absurd (cc)
asks_place x u (decision.ReleaseAgain req) e is = absurd (cc)
asks_place x u decision.Take e is = absurd (cc)
asks_place x u decision.Again e is = absurd (cc)

hears_place : (x : State) (from : ℕ) (body : Body) (e : Entry) → body_to_log x from body ≡ Some e → e.place ≡ done_of x + 1
hears_place x from (Ask req u) e is = asks_place x u (updating.asked x.core from req (done_of x)) e is
hears_place x from (Granted d) e is = absurd (cc)
hears_place x from (Apply d) e is = absurd (cc)
hears_place x from (Applied place) e is = absurd (cc)
hears_place x from (Release req) e is = absurd (cc)
hears_place x from (Offer count cap last) e is = absurd (cc)
hears_place x from (Need offset) e is = absurd (cc)
hears_place x from (Piece total offset bytes) e is = absurd (cc)
hears_place x from Ready e is = absurd (cc)
hears_place x from OpenView e is = absurd (cc)

counted_place : (counted : Bool) (x : State) (p : Sent) (e : Entry) → (if counted then body_to_log x p.from p.body else no_entry) ≡ Some e → e.place ≡ done_of x + 1
counted_place true x p e is = hears_place x p.from p.body e is
counted_place false x p e is = absurd (cc)

-- It is the next one.
pub next_place : (x : State) (p : Sent) (e : Entry) → to_log x p ≡ Some e → e.place ≡ done_of x + 1
next_place x p e is = counted_place (counts x p) x p e is

-- ---- the log

failed_not : (fault : AddFault) → answer_of (Err fault) ≡ Written → ⊥
failed_not (add.Checkpoint fault) is = absurd (cc)
failed_not (add.Append fault) is = absurd (cc)
failed_not add.Memory is = absurd (cc)

-- What became of the registry and of the last record: nothing, or the record was applied, at the next place.
abbrev pub Changes : Option Entry → State → State → Type 0
Changes None x y = (y.replica ≡ x.replica) × (y.last ≡ x.last)
Changes (Some e) x y = (e.place ≡ done_of x + 1) × (y.replica ≡ replica_after e x.replica) × (y.last ≡ Some e)

-- The node `n` has the log of the member `m`, which the event left.
pub logs_one : (entry : Option Entry) (added : Option (Result LogValue AddFault)) (x m n : MemberState) (v w : DiskView) → Logs entry x v added w → m.log ≡ log_left x.log added → n.log ≡ m.log
    → ((e : Entry) → entry ≡ Some e → answer_to added ≡ Written) → Changes entry x.rules n.rules → LogsOne entry x v n w
logs_one None None x m n v w logs kept stays written changes = (logs, record { log = stays ∙ kept; replica = changes.0; last = changes.1 })
logs_one None (Some added) x m n v w logs kept stays written changes = absurd logs
logs_one (Some e) None x m n v w logs kept stays written changes = absurd logs
logs_one (Some e) (Some (Ok new)) x m n v w (old, had, adds, sound) kept stays written changes = record {
  old = old;
  new = new;
  had = had;
  has = stays ∙ kept;
  adds = adds;
  place_is = changes.0;
  sound = sound;
  replica = changes.1;
  last = changes.2;
}
logs_one (Some e) (Some (Err fault)) x m n v w logs kept stays written changes = absurd (failed_not fault (written e refl))
