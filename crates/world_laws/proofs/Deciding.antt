-- A message has a node log a record, or nothing.
use Rattle.std.proofs.Common.{◌≡◌, ◌⊎◌, inl, inr, ℕ, Bool, true, false, Option, Some, None, if◌then◌else◌, refl}
use Rattle.update_records.specs.Entry.{Entry}
use Rattle.update_records.specs.declared.update.Update.{Update}
use Rattle.gum_messages.specs.declared.body.Body.{Body}
use Rattle.gum_messages.specs.declared.body.Body.TheVariants.{Ask, Granted, Apply, Applied, Release, Offer, Need, Piece, Ready, OpenView}
use Rattle.gum_messages.specs.Messages.{Sent}
use Rattle.gum_core.specs.declared.decision.Decision.{Decision}
use Rattle.gum_core.specs.declared.decision.Decision.TheVariants as decision
use Rattle.gum_core.specs.Updating as updating
use Rattle.gum_core.proofs.Cases.{asked_cases}
use Rattle.cluster_rules.specs.Machines.{Machine}
use Rattle.cluster_rules.specs.Nodes.{NodeState, done_of, nothing}
use Rattle.cluster_rules.specs.Updates.{Answer, Logged, answers, entry_for, unlogged, writes}
use Rattle.cluster_rules.specs.Receiving.{counts, hears, receive}
use Rattle.single_rules.specs.Logging.{body_to_log, entry_of, no_entry, to_log}

module _ {M : Machine} where
  pub record LogsNone (entry : Option Entry) (d : Logged M) : Type 0 where
    pub entry_is : entry ≡ None
    pub appended : d.appended ≡ None
    pub doubtful : d.doubtful ≡ None

  abbrev pub LogsOne : NodeState M → ℕ → Answer → Option Entry → Logged M → Type 0
  LogsOne x held answer entry d = (e : Entry) × (entry ≡ Some e) × (d ≡ writes x e held answer)

  abbrev pub Decides : NodeState M → ℕ → Answer → Option Entry → Logged M → Type 0
  Decides x held answer entry d = LogsNone entry d ⊎ LogsOne x held answer entry d

  none_logged : (x : NodeState M) (held : ℕ) (answer : Answer) (d : Logged M) → d.appended ≡ None → d.doubtful ≡ None → Decides x held answer None d
  none_logged x held answer d a b = inl (record { entry_is = refl; appended = a; doubtful = b })

  answers_decide : (x : NodeState M) (u : Update) (held : ℕ) (answer : Answer) (d : Decision) → Decides x held answer (entry_of x u d) (answers x u held answer d)
  answers_decide x u held answer decision.Nothing = none_logged x held answer _ refl refl
  answers_decide x u held answer (decision.Ask req) = none_logged x held answer _ refl refl
  answers_decide x u held answer (decision.Write from req) = inr (entry_for x from req u, refl, refl)
  answers_decide x u held answer (decision.Grant to req place) = none_logged x held answer _ refl refl
  answers_decide x u held answer (decision.Spread to place) = none_logged x held answer _ refl refl
  answers_decide x u held answer (decision.Finish req place next) = none_logged x held answer _ refl refl
  answers_decide x u held answer decision.Free = none_logged x held answer _ refl refl
  answers_decide x u held answer (decision.ReleaseAgain req) = none_logged x held answer _ refl refl
  answers_decide x u held answer decision.Take = none_logged x held answer _ refl refl
  answers_decide x u held answer decision.Again = none_logged x held answer _ refl refl

  hears_decide : (x : NodeState M) (from : ℕ) (b : Body) (held : ℕ) (answer : Answer) → Decides x held answer (body_to_log x from b) (hears x from b held answer)
  hears_decide x from (Ask req u) held answer = answers_decide x u held answer (updating.asked x.core from req (done_of x))
  hears_decide x from (Granted e) held answer = none_logged x held answer _ refl refl
  hears_decide x from (Apply e) held answer = none_logged x held answer _ refl refl
  hears_decide x from (Applied place) held answer = none_logged x held answer _ refl refl
  hears_decide x from (Release req) held answer = none_logged x held answer _ refl refl
  hears_decide x from (Offer count size last) held answer = none_logged x held answer _ refl refl
  hears_decide x from (Need offset) held answer = none_logged x held answer _ refl refl
  hears_decide x from (Piece total offset bytes) held answer = none_logged x held answer _ refl refl
  hears_decide x from Ready held answer = none_logged x held answer _ refl refl
  hears_decide x from OpenView held answer = none_logged x held answer _ refl refl

  counted_decides : (c : Bool) (x : NodeState M) (p : Sent) (held : ℕ) (answer : Answer)
      → Decides x held answer (if c then body_to_log x p.from p.body else no_entry) (if c then hears x p.from p.body held answer else unlogged (nothing x))
  counted_decides true x p held answer = hears_decide x p.from p.body held answer
  counted_decides false x p held answer = none_logged x held answer _ refl refl

  pub receive_decides : (x : NodeState M) (p : Sent) (held : ℕ) (answer : Answer) → Decides x held answer (to_log x p) (receive x p held answer)
  receive_decides x p held answer = counted_decides (counts x p) x p held answer

  -- ---- a node that logs is an open locker

  abbrev IsOpenLocker : NodeState M → Option Entry → Type 0
  IsOpenLocker x entry = (e : Entry) → entry ≡ Some e → (x.core.is_open ≡ true) × (updating.locks x.core ≡ true)

  body_open : (x : NodeState M) (from : ℕ) (b : Body) → IsOpenLocker x (body_to_log x from b)
  body_open x from (Ask req u) = asked_cases (λ (d : Decision). IsOpenLocker x (entry_of x u d)) x.core from req (done_of x)
      (λ e q. absurd (cc)) (λ opened locked free more room e q. (opened, locked)) (λ opened locked l held node is e q. (opened, locked))
  body_open x from (Granted r) = λ e q. absurd (cc)
  body_open x from (Apply r) = λ e q. absurd (cc)
  body_open x from (Applied place) = λ e q. absurd (cc)
  body_open x from (Release req) = λ e q. absurd (cc)
  body_open x from (Offer count size last) = λ e q. absurd (cc)
  body_open x from (Need offset) = λ e q. absurd (cc)
  body_open x from (Piece total offset bytes) = λ e q. absurd (cc)
  body_open x from Ready = λ e q. absurd (cc)
  body_open x from OpenView = λ e q. absurd (cc)

  counted_open : (c : Bool) (x : NodeState M) (p : Sent) → IsOpenLocker x (if c then body_to_log x p.from p.body else no_entry)
  counted_open true x p = body_open x p.from p.body
  counted_open false x p = λ e q. absurd (cc)

  pub logs_open : (x : NodeState M) (p : Sent) (e : Entry) → to_log x p ≡ Some e → (x.core.is_open ≡ true) × (updating.locks x.core ≡ true)
  logs_open x p e q = counted_open (counts x p) x p e q
