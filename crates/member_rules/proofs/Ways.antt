-- What a node keeps stands behind each part of a rule.
use Rattle.std.proofs.Common.{◌≡◌, ℕ, ◌+◌, Bool, true, false, ◌&&◌, IsTrue, List, [], Option, Some, None, cond, nat_eq, refl, sym, ap, ◌∙◌, subst, arith}
use Rattle.std.specs.Prelude.{IsSome, unwrap_or}
use Rattle.update_records.specs.Entry.{Entry}
use Rattle.update_records.specs.declared.update.Update.{Update}
use Rattle.registry_defs.specs.Spelling.{registry_text}
use Rattle.gum_messages.specs.declared.member.Member.{Member}
use Rattle.gum_messages.specs.declared.view.View.{View}
use Rattle.gum_messages.specs.Members.{is_locker}
use Rattle.gum_core.specs.declared.decision.Decision.{Decision}
use Rattle.gum_core.specs.Updating.{CoreState}
use Rattle.gum_core.specs.Updating as updating
use Rattle.view_reconcile.specs.declared.stage.Stage.{Stage}
use Rattle.view_reconcile.specs.declared.stage.Stage.TheVariants as stage
use Rattle.view_reconcile.specs.declared.step.Step.{Step}
use Rattle.view_reconcile.specs.declared.step.Step.TheVariants as step
use Rattle.view_reconcile.specs.Joining.{ReconcileState, is_open, is_ready, locks, pulled_bytes, readied}
use Rattle.view_reconcile.specs.Joining as joining
use Rattle.cluster_rules.specs.declared.offering.Offering.{Offering}
use Rattle.gum_core.proofs.Cases.{asked_cases}
use Rattle.cluster_rules.specs.Nodes.{NodeState, Replica}
use Rattle.cluster_rules.specs.Updates.{replica_after}
use Rattle.registry_machine.specs.Machine.{registry_machine}
use Rattle.member_rules.specs.Opening.{HasHeard, IsOpened}
use Rattle.member_rules.specs.Pulling.{pulled_at}
use Rattle.member_rules.specs.States.{Agree, AreKept, IsEncoding, IsOf, IsStanding, IsWhole, PulledState, offer_in}
use Rattle.member_rules.specs.Steps.{LogsAt}
use Rattle.member_rules.proofs.Agreeing.{applied_agrees, granted_agrees, logged_agrees, released_agrees, submitted_agrees}
use Rattle.member_rules.proofs.Entered.{agrees_entered, of_entered, stands_entered}
use Rattle.member_rules.proofs.Opened.{has_begun, has_heard, is_opened}
use Rattle.member_rules.proofs.Stages.{agrees_at, agrees_marked, agrees_open, not_ready_not_open, of_at, of_marked, of_stage, open_at, ready_at, ready_taking, stands_free, stands_marked, stands_open, stands_past, stands_pulling, stands_ready, stands_taken, stands_taking, taking_not_open}

pulls_then_waits : (node inc : ℕ) (v : View) (ready : List Bool) (t : Stage) → IsSome (pulled_bytes (record { node = node; inc = inc; view = v; stage = t; ready = ready })) → ready_at t ≡ false
pulls_then_waits node inc v ready stage.Waiting e = refl
pulls_then_waits node inc v ready (stage.Pulling got) e = refl
pulls_then_waits node inc v ready stage.Taking e = refl
pulls_then_waits node inc v ready stage.Ready e = absurd (cc)
pulls_then_waits node inc v ready stage.Open e = absurd (cc)

pulling_waits : (s : ReconcileState) → IsSome (pulled_bytes s) → is_ready s ≡ false
pulling_waits s e = pulls_then_waits s.node s.inc s.view s.ready s.stage e

taking_waits : (s : ReconcileState) → s.stage ≡ stage.Taking → is_ready s ≡ false
taking_waits s e = ap ready_at e

some_after : (e : Entry) (r : Option (Replica registry_machine)) → IsSome r → IsSome (replica_after e r)
some_after e None h = cc
some_after e (Some r) h = refl

abbrev NotOpen : Step → Type 0
NotOpen s = elim s [ step.Open ↦ ⊥ | _ ↦ Unit {0} ]

-- ---- before the first view

stands_fresh : (node inc : ℕ) → IsStanding (joining.fresh node inc) None None
stands_fresh node inc = record { ready = λ e. absurd (cc); keeps = λ e. absurd (cc); pulls = λ e. absurd (cc); follows = λ e. absurd (cc) }

pub fresh_whole : (node inc : ℕ) (c : CoreState) (s : ReconcileState) → c ≡ updating.fresh node → s ≡ joining.fresh node inc → IsWhole node inc c s None None None
unfolding AreKept
fresh_whole node inc c s core join =
    subst (λ (k : CoreState). IsWhole node inc k s None None None) (sym core)
    (subst (λ (t : ReconcileState). IsWhole node inc (updating.fresh node) t None None None) (sym join)
    (record { parts = ((refl, refl), record { node = refl; members = refl; opened = refl }, stands_fresh node inc, tt) }))

module _ {n i : ℕ} {c : CoreState} {s : ReconcileState} {r : Option (Replica registry_machine)} {o : Option Offering} {bytes : Option (List ℕ)} where
  -- ---- what is known of the parts

  pub node_is : IsWhole n i c s r o bytes → n ≡ s.node
  unfolding AreKept
  node_is w = w.parts.0.0

  pub inc_is : IsWhole n i c s r o bytes → i ≡ s.inc
  unfolding AreKept
  inc_is w = w.parts.0.1

  pub open_is : IsWhole n i c s r o bytes → c.is_open ≡ is_open s
  unfolding AreKept
  open_is w = w.parts.1.opened

  pub members_are : IsWhole n i c s r o bytes → c.members ≡ s.view.members
  unfolding AreKept
  members_are w = w.parts.1.members

  pub locks_alike : IsWhole n i c s r o bytes → updating.locks c ≡ locks s
  unfolding AreKept
  locks_alike w =
      let node : is_locker c.members c.node ≡ is_locker c.members s.node = ap (λ k. is_locker c.members k) w.parts.1.node in
      let members : is_locker c.members s.node ≡ is_locker s.view.members s.node = ap (λ ms. is_locker ms s.node) w.parts.1.members in
      node ∙ members

  pub locker_has : IsWhole n i c s r o bytes → IsTrue (locks s) → IsSome r
  unfolding AreKept
  locker_has w here = w.parts.2.keeps here

  pub ready_has : IsWhole n i c s r o bytes → IsTrue (is_ready s) → IsSome r
  unfolding AreKept
  ready_has w ready = w.parts.2.ready ready

  pub gathering_offered : IsWhole n i c s r o bytes → IsSome (pulled_bytes s) → IsSome o
  unfolding AreKept
  gathering_offered w some = w.parts.2.pulls some

  pub gathering_follows : IsWhole n i c s r o bytes → IsSome (pulled_bytes s) → locks s ≡ false
  unfolding AreKept
  gathering_follows w some = w.parts.2.follows some

  -- ---- Global Update

  pub asked_here : (d : Decision) (from req done : ℕ) → IsWhole n i c s r o bytes → d ≡ updating.asked c from req done → LogsAt s d
  asked_here d from req done w is =
      subst (λ (q : Decision). LogsAt s q) (sym is)
      (asked_cases (λ q. LogsAt s q) c from req done
      tt
      (λ opened here free new room. (sym (open_is w) ∙ opened, sym (locks_alike w) ∙ here))
      (λ opened here l held node request. tt))

  beside_whole : (d : CoreState) → IsWhole n i c s r o bytes → Agree d s → IsWhole n i d s r o bytes
  unfolding AreKept
  beside_whole d w a = record { parts = (w.parts.0, a, w.parts.2, w.parts.3) }

  agrees : IsWhole n i c s r o bytes → Agree c s
  unfolding AreKept
  agrees w = w.parts.1

  pub granted_whole : (d : CoreState) (q : Decision) (req place : ℕ) → IsWhole n i c s r o bytes → (d, q) ≡ updating.granted c req place → IsWhole n i d s r o bytes
  granted_whole d q req place w is = beside_whole d w (granted_agrees c d s q req place (agrees w) is)

  pub applied_whole : (d : CoreState) (q : Decision) (from place : ℕ) → IsWhole n i c s r o bytes → (d, q) ≡ updating.applied c from place → IsWhole n i d s r o bytes
  applied_whole d q from place w is = beside_whole d w (applied_agrees c d s q from place (agrees w) is)

  pub released_whole : (d : CoreState) (q : Decision) (from req : ℕ) → IsWhole n i c s r o bytes → (d, q) ≡ updating.released c from req → IsWhole n i d s r o bytes
  released_whole d q from req w is = beside_whole d w (released_agrees c d s q from req (agrees w) is)

  pub logged_whole : (d : CoreState) (q : Decision) (from req place : ℕ) → IsWhole n i c s r o bytes → (d, q) ≡ updating.logged c from req place → IsWhole n i d s r o bytes
  logged_whole d q from req place w is = beside_whole d w (logged_agrees c d s q from req place (agrees w) is)

  pub submitted_whole : (d : CoreState) (k : ℕ) (q : Decision) (update : Update) → IsWhole n i c s r o bytes → (d, (k, q)) ≡ updating.submitted c update → IsWhole n i d s r o bytes
  submitted_whole d k q update w is = beside_whole d w (submitted_agrees c d s k q update (agrees w) is)

  pub applied_here_whole : (e : Entry) (next : Option (Replica registry_machine)) → IsWhole n i c s r o bytes → next ≡ replica_after e r → IsWhole n i c s next o None
  unfolding AreKept
  applied_here_whole e next w is =
      record { parts = (w.parts.0, w.parts.1, subst (λ (x : Option (Replica registry_machine)). IsStanding s x o) (sym is) (stands_free s r (replica_after e r) o w.parts.2 (some_after e r)), tt) }

  -- ---- the view opens

  marked_whole : (t : ReconcileState) → IsWhole n i c s r o bytes → t ≡ record s { ready = t.ready } → IsWhole n i c t r o bytes
  unfolding AreKept
  marked_whole t w is = record { parts = (of_marked n i s t w.parts.0 is, agrees_marked c s t w.parts.1 is, stands_marked r o s t w.parts.2 is, w.parts.3) }

  opened_whole : (d : CoreState) (t : ReconcileState) → IsWhole n i c s r o bytes → IsOpened c d → is_ready s ≡ true → t ≡ record s { stage = stage.Open; ready = t.ready } → IsWhole n i d t r o None
  unfolding AreKept
  opened_whole d t w opens ready is =
      record { parts = (of_stage n i s t stage.Open w.parts.0 is, agrees_open c d s t w.parts.1 opens is, stands_open r o s t w.parts.2 is ready, tt) }

  same_whole : (t : ReconcileState) → IsWhole n i c s r o bytes → t ≡ s → IsWhole n i c t r o bytes
  same_whole t w is = subst (λ (x : ReconcileState). IsWhole n i c x r o bytes) (sym is) w

  by_step : (t : ReconcileState) (q : Step) → IsWhole n i c s r o bytes → HasHeard s t q → NotOpen q → IsWhole n i c t r o bytes
  by_step t step.Nothing w h other = marked_whole t w h
  by_step t step.Ready w h other = absurd h
  by_step t step.ApplyLast w h other = absurd h
  by_step t (step.Pull offset) w h other = absurd h
  by_step t step.Whole w h other = absurd h
  by_step t step.Open w h other = absurd other
  by_step t (step.OpenAgain to) w h other = same_whole t w h
  by_step t (step.OfferTo count) w h other = absurd h

  pub ready_marks_whole : (t : ReconcileState) (q : Step) (from : ℕ) → IsWhole n i c s r o bytes → (t, q) ≡ readied s from → NotOpen q → IsWhole n i c t r o bytes
  ready_marks_whole t q from w is other = by_step t q w (has_heard s t from q is) other

  pub ready_opens_whole : (d : CoreState) (t : ReconcileState) (from : ℕ) (settled : Option ℕ) (q : Decision)
      → IsWhole n i c s r o bytes → (t, step.Open) ≡ readied s from → (d, q) ≡ updating.opened c settled → IsWhole n i d t r o None
  ready_opens_whole d t from settled q w heard opens =
      let h = has_heard s t from step.Open heard in
      opened_whole d t w (is_opened c d settled q opens) h.0 h.1

  pub open_view_whole : (d : CoreState) (t : ReconcileState) (settled : Option ℕ) (q : Decision)
      → IsWhole n i c s r o bytes → (t, true) ≡ joining.opened s → (d, q) ≡ updating.opened c settled → IsWhole n i d t r o None
  open_view_whole d t settled q w begun opens =
      let h = has_begun s t true begun in
      opened_whole d t w (is_opened c d settled q opens) h.0 h.1

  pub not_opened_whole : (t : ReconcileState) → IsWhole n i c s r o bytes → (t, false) ≡ joining.opened s → IsWhole n i c t r o bytes
  not_opened_whole t w is = same_whole t w (has_begun s t false is)

  -- ---- a member follows an Offer

  pub followed_whole : (t : ReconcileState) → IsWhole n i c s r o bytes → is_ready s ≡ false → locks s ≡ false → IsSome r → t ≡ record s { stage = stage.Ready } → IsWhole n i c t r o bytes
  unfolding AreKept
  followed_whole t w waits other some is =
      record { parts = (of_at n i s t stage.Ready w.parts.0 is, agrees_at c s t stage.Ready w.parts.1 is (not_ready_not_open s waits) refl, stands_ready r o s t is other some, w.parts.3) }

  pub taking_whole : (t : ReconcileState) → IsWhole n i c s r o bytes → is_ready s ≡ false → t ≡ record s { stage = stage.Taking } → IsWhole n i c t r o bytes
  unfolding AreKept
  taking_whole t w waits is =
      record { parts = (of_at n i s t stage.Taking w.parts.0 is, agrees_at c s t stage.Taking w.parts.1 is (not_ready_not_open s waits) refl, stands_taking r o s t is w.parts.2.keeps, w.parts.3) }

  pub pulling_whole : (t : ReconcileState) (k : ℕ) (next : Option Offering)
      → IsWhole n i c s r o bytes → is_ready s ≡ false → locks s ≡ false → IsSome next → t ≡ record s { stage = stage.Pulling k } → IsWhole n i c t r next bytes
  unfolding AreKept
  pulling_whole t k next w waits other some is =
      record { parts = (of_at n i s t (stage.Pulling k) w.parts.0 is, agrees_at c s t (stage.Pulling k) w.parts.1 is (not_ready_not_open s waits) refl, stands_pulling r next s t k is other some, w.parts.3) }

  -- ---- a piece comes

  pub gathered_whole : (t : ReconcileState) (k : ℕ) → IsWhole n i c s r o bytes → IsSome (pulled_bytes s) → t ≡ record s { stage = stage.Pulling k } → IsWhole n i c t r o bytes
  gathered_whole t k w some is = pulling_whole t k o w (pulling_waits s some) (gathering_follows w some) (gathering_offered w some) is

  pub state_whole : (t : ReconcileState) → IsWhole n i c s r o bytes → IsSome (pulled_bytes s) → t ≡ record s { stage = stage.Taking } → IsWhole n i c t r o bytes
  state_whole t w some is = taking_whole t w (pulling_waits s some) is

  -- ---- what was offered is taken

  pub past_whole : IsWhole n i c s r o bytes → pulled_bytes s ≡ None → IsWhole n i c s r None bytes
  unfolding AreKept
  past_whole w past = record { parts = (w.parts.0, w.parts.1, stands_past s r o None w.parts.2 past, w.parts.3) }

  pub offer_taken_whole : (next : Option Offering) → IsWhole n i c s r o bytes → s.stage ≡ stage.Taking → IsWhole n i c s r next bytes
  unfolding AreKept
  offer_taken_whole next w taking = record { parts = (w.parts.0, w.parts.1, stands_taken s r r o next w.parts.2 taking (λ some. some), w.parts.3) }

  pub stood_whole : (t : ReconcileState) → IsWhole n i c s r o bytes → s.stage ≡ stage.Taking → locks s ≡ false → IsSome r → t ≡ record s { stage = stage.Ready } → IsWhole n i c t r o bytes
  stood_whole t w taking other some is = followed_whole t w (taking_waits s taking) other some is

  pub stood_with_whole : (t : ReconcileState) (q : Replica registry_machine)
      → IsWhole n i c s r o bytes → s.stage ≡ stage.Taking → locks s ≡ false → t ≡ record s { stage = stage.Ready } → IsWhole n i c t (Some q) o None
  unfolding AreKept
  stood_with_whole t q w taking other is =
      record { parts = (of_at n i s t stage.Ready w.parts.0 is, agrees_at c s t stage.Ready w.parts.1 is (taking_not_open s taking) refl, stands_ready (Some q) o s t is other refl, tt) }

  pub again_whole : (t : ReconcileState) (p : Offering) → IsWhole n i c s r o bytes → s.stage ≡ stage.Taking → locks s ≡ false → t ≡ record s { stage = stage.Pulling 0 } → IsWhole n i c t r (Some p) bytes
  again_whole t p w taking other is = pulling_whole t 0 (Some p) w (taking_waits s taking) other refl is

  -- ---- the locker's pieces

  pub unencoded_whole : IsWhole n i c s r o bytes → IsWhole n i c s r o None
  unfolding AreKept
  unencoded_whole w = record { parts = (w.parts.0, w.parts.1, w.parts.2, tt) }

  pub encoded_whole : (text : List ℕ) (q : Replica registry_machine) → IsWhole n i c s r o bytes → r ≡ Some q → text ≡ registry_text q.registry.keys → IsWhole n i c s r o (Some text)
  unfolding AreKept
  encoded_whole text q w is same =
      record { parts = (w.parts.0, w.parts.1, w.parts.2, subst (λ (x : Option (Replica registry_machine)). IsEncoding (Some text) x) (sym is) same) }

  pub encoded_is : (text : List ℕ) (q : Replica registry_machine) → IsWhole n i c s r o bytes → bytes ≡ Some text → r ≡ Some q → text ≡ registry_text q.registry.keys
  unfolding AreKept
  encoded_is text q w has is =
      subst (λ (x : Option (Replica registry_machine)). IsEncoding (Some text) x) is (subst (λ (b : Option (List ℕ)). IsEncoding b r) has w.parts.3)

  -- ---- a view is taken

  pub entered_whole : (d : CoreState) (t : ReconcileState) (v : View) → IsWhole n i c s r o bytes → d ≡ updating.entered c v
      → t ≡ record s { view = v; stage = stage.Waiting; ready = t.ready } → is_locker v.members s.node ≡ false → IsWhole n i d t r None None
  unfolding AreKept
  entered_whole d t v w entered is other =
      record { parts = (of_entered n i s t v w.parts.0 is, agrees_entered c d s t v w.parts.1 entered is, stands_entered s t v r None is other, tt) }

  pub set_out_whole : (d : CoreState) (j t : ReconcileState) (v : View) → IsWhole n i c s r o bytes → d ≡ updating.entered c v
      → j ≡ record s { view = v; stage = stage.Waiting; ready = j.ready } → t ≡ record j { stage = stage.Taking } → IsSome r → IsWhole n i d t r None None
  unfolding AreKept
  set_out_whole d j t v w entered begins is some =
      let a : Agree d j = agrees_entered c d s j v w.parts.1 entered begins in
      let waits : is_open j ≡ false = ap (λ (x : ReconcileState). is_open x) begins in
      record { parts = (of_at n i j t stage.Taking (of_entered n i s j v w.parts.0 begins) is, agrees_at d j t stage.Taking a is waits refl, stands_taking r None j t is (λ here. some), tt) }

  pub with_registry_whole : (q : Replica registry_machine) → IsWhole n i c s r o bytes → IsWhole n i c s (Some q) o None
  unfolding AreKept
  with_registry_whole q w = record { parts = (w.parts.0, w.parts.1, stands_free s r (Some q) o w.parts.2 (λ some. refl), tt) }

  -- ---- the locker is ready

  pub stood_up_whole : (t : ReconcileState) → IsWhole n i c s r o bytes → s.stage ≡ stage.Taking → IsSome r → t ≡ record s { stage = stage.Ready } → IsWhole n i c t r None bytes
  unfolding AreKept
  stood_up_whole t w taking some is =
      record {
        parts = (
          of_at n i s t stage.Ready w.parts.0 is,
          agrees_at c s t stage.Ready w.parts.1 is (taking_not_open s taking) refl,
          subst (λ (x : ReconcileState). IsStanding x r None) (sym is) (record { ready = λ e. some; keeps = λ l. some; pulls = λ e. absurd (cc); follows = λ e. absurd (cc) }),
          w.parts.3,
        );
      }

  pub stood_open_whole : (d : CoreState) (t : ReconcileState) → IsWhole n i c s r o bytes → IsOpened c d → IsSome r → t ≡ record s { stage = stage.Open } → IsWhole n i d t r None bytes
  unfolding AreKept
  stood_open_whole d t w opens some is =
      record {
        parts = (
          of_at n i s t stage.Open w.parts.0 is,
          subst (λ (x : ReconcileState). Agree d x) (sym is) (record { node = opens.node ∙ w.parts.1.node; members = opens.members ∙ w.parts.1.members; opened = opens.opened }),
          subst (λ (x : ReconcileState). IsStanding x r None) (sym is) (record { ready = λ e. some; keeps = λ l. some; pulls = λ e. absurd (cc); follows = λ e. absurd (cc) }),
          w.parts.3,
        );
      }

-- What was offered counts at the beginning, and what a member pulls already goes on.
some_kept : (p : Option PulledState) (f : Offering) (got : Option ℕ) (offset : ℕ) → offset ≡ unwrap_or got 0 → (IsSome got → IsSome (offer_in p)) → IsSome (offer_in (pulled_at p offset f))
some_kept p f None offset is pulls = subst (λ (n : ℕ). IsSome (offer_in (pulled_at p n f))) (sym is) refl
some_kept p f (Some k) offset is pulls = by (nat_eq offset 0)
  where
    by : (b : Bool) → IsSome (offer_in (cond b (Some (record { offer = f; bytes = [] })) p))
    by true = refl
    by false = pulls refl

pub kept_whole : {n i : ℕ} {c : CoreState} {s : ReconcileState} {r : Option (Replica registry_machine)} {bytes : Option (List ℕ)} (p : Option PulledState) (f : Offering) (t : ReconcileState) (offset : ℕ)
    → IsWhole n i c s r (offer_in p) bytes → is_ready s ≡ false → locks s ≡ false → offset ≡ unwrap_or (pulled_bytes s) 0 → t ≡ record s { stage = stage.Pulling offset } → IsWhole n i c t r (offer_in (pulled_at p offset f)) bytes
unfolding AreKept
kept_whole {n} {i} {c} {s} {r} {bytes} p f t offset w waits other is_got is =
    record { parts = (of_at n i s t (stage.Pulling offset) w.parts.0 is, agrees_at c s t (stage.Pulling offset) w.parts.1 is (not_ready_not_open s waits) refl, stands_pulling r (offer_in (pulled_at p offset f)) s t offset is other (some_kept p f (pulled_bytes s) offset is_got w.parts.2.pulls), w.parts.3) }
