-- Why a node that is alone halts: its log didn't take the record, or is claimed by a later view.
use Rattle.std.proofs.Common.{◌≡◌, ◌≢◌, ℕ, ◌+◌, ◌<◌, ◌≤◌, Bool, false, true, nat_lt, List, [], ◌∷◌, ◌++◌, Option, Some, None, refl, sym, ap, ◌∙◌, subst, arith}
use Rattle.update_records.specs.Entry.{Entry}
use Rattle.update_records.specs.declared.update.Update.{Update}
use Rattle.gum_core.specs.Updating.{last_place}
use Rattle.gum_messages.specs.Messages.{Sent}
use Rattle.rpc_calls.specs.Intakes.{Kept}
use Rattle.cluster_rules.specs.declared.effect.Effect.{Effect}
use Rattle.cluster_rules.specs.declared.effect.Effect.TheVariants.{Acked, Halted, Send}
use Rattle.cluster_rules.specs.declared.effect.HaltCause.{HaltCause}
use Rattle.cluster_rules.specs.declared.effect.HaltCause.TheVariants as halt
use Rattle.cluster_rules.specs.Nodes.{NodeState, acknowledges, becomes, halts, nothing}
use Rattle.cluster_rules.specs.Receiving.{receive}
use Rattle.cluster_rules.specs.Updates.{Answer, InDoubt, Logged, Unwritten, Written, unlogged}
use Rattle.client_connections.specs.declared.origin.Origin.{Origin}
use Rattle.registry_machine.specs.Machine.{registry_machine}
use Rattle.single_rules.proofs.Events.{finishes_one, grants_one}
use Rattle.single_rules.proofs.Refused.{grants_none, halts_fenced, halts_in_doubt, halts_unwritten}
use Rattle.single_rules.specs.Rounds.{after_all}
use Rattle.single_rules.specs.Single.{Single, ask, asking, at_rest, grant, granting, made, outcome_of, release, releasing, updated}
use Rattle.single_items.specs.Alone.{AloneRun}
use Rattle.single_items.specs.Promises.{HaltsBecause, IsReason}
use Rattle.single_items.specs.Standing.{Asked, Calm, FitsWay, Granting, GrownFrom, NodeAlone, StandsAt, Stuck, Way, left_on, node_on, queued_on}
use Rattle.single_items.proofs.Hearing.{frees_asked, frees_calm, on_first, sound_now}

module _ (first : AloneRun) (held : ℕ) (answer : Answer) where
  abbrev Why : AloneRun → Logged registry_machine → Type 0
  Why r d = d.out.node ≡ None → (cause : HaltCause) → d.out.effects ≡ Halted cause ∷ [] → IsReason cause r.single.view held answer

  abbrev WhyAt : Way → AloneRun → Sent → Type 0
  WhyAt way r p = Why r (receive (node_on way r.single) p held answer)

  by_event : (way : Way) (r : AloneRun) (p : Sent) (d : Logged registry_machine) → receive (node_on way r.single) p held answer ≡ d → Why r d → WhyAt way r p
  by_event way r p d e h = subst (λ (g : Logged registry_machine). Why r g) (sym e) h

  goes_on : (r : AloneRun) (d : Logged registry_machine) (y : NodeState registry_machine) → d.out.node ≡ Some y → Why r d
  goes_on r d y node stops cause says = let e : ◌≡◌ {A = Option (NodeState registry_machine)} (Some y) None = sym node ∙ stops in absurd (cc)

  for_cause : (r : AloneRun) (one cause : HaltCause) → ◌≡◌ {A = List Effect} (Halted one ∷ []) (Halted cause ∷ []) → IsReason one r.single.view held answer → IsReason cause r.single.view held answer
  for_cause r one cause e h = let same : one ≡ cause = cc in subst (λ (k : HaltCause). IsReason k r.single.view held answer) same h

  module _ (origin : Origin) (u : Update) (r : AloneRun) (grown : GrownFrom first 1 r) where
    abbrev Way0 : Way
    Way0 = Asked None origin u

    own : (b : Answer) → answer ≡ b → r.single.done < last_place → held ≤ r.single.view → WhyAt Way0 r (ask r.single u)
    own Written e room mine =
        by_event Way0 r (ask r.single u) (record { out = becomes (granting r.single u) (Send (grant r.single u) ∷ []); appended = Some (made r.single u); doubtful = None })
        (ap (receive (asking r.single u) (ask r.single u) held) e ∙ grants_one r.single u held (sound_now first r 1 grown) room mine)
        (goes_on r (record { out = becomes (granting r.single u) (Send (grant r.single u) ∷ []); appended = Some (made r.single u); doubtful = None }) (granting r.single u) refl)
    own InDoubt e room mine =
        by_event Way0 r (ask r.single u) (record { out = halts halt.Disk; appended = None; doubtful = Some (made r.single u) })
        (ap (receive (asking r.single u) (ask r.single u) held) e ∙ halts_in_doubt r.single u held (sound_now first r 1 grown) room mine)
        (λ stops cause says. for_cause r halt.Disk cause says (λ written. let no : InDoubt ≡ Written = sym e ∙ written in absurd (cc)))
    own Unwritten e room mine =
        by_event Way0 r (ask r.single u) (unlogged (halts halt.Disk))
        (ap (receive (asking r.single u) (ask r.single u) held) e ∙ halts_unwritten r.single u held (sound_now first r 1 grown) room mine)
        (λ stops cause says. for_cause r halt.Disk cause says (λ written. let no : Unwritten ≡ Written = sym e ∙ written in absurd (cc)))

    by_view : (b : Bool) → nat_lt r.single.view held ≡ b → r.single.done < last_place → WhyAt Way0 r (ask r.single u)
    by_view true e room =
        let later : r.single.view < held = grind (arith, e) in
        by_event Way0 r (ask r.single u) (unlogged (halts (halt.Fenced held))) (halts_fenced r.single u held answer (sound_now first r 1 grown) room later)
        (λ stops cause says. for_cause r (halt.Fenced held) cause says (later, refl))
    by_view false e room = own answer refl room (grind (arith, e))

    by_place : (b : Bool) → nat_lt r.single.done last_place ≡ b → WhyAt Way0 r (ask r.single u)
    by_place true e = by_view (nat_lt r.single.view held) refl (grind (arith, e))
    by_place false e =
        by_event Way0 r (ask r.single u) (unlogged (nothing (asking r.single u))) (grants_none r.single u held answer (sound_now first r 1 grown) (grind (arith, e)))
        (goes_on r (unlogged (nothing (asking r.single u))) (asking r.single u) refl)

  why_on : (c : ℕ) (way : Way) (r : AloneRun) (intake : Option Kept) (p : Sent) (left : List Sent) → FitsWay c way r intake → GrownFrom first (queued_on way) r → left_on way r.single ≡ p ∷ left → WhyAt way r p
  why_on c (Calm None) r intake p left fits grown e = absurd (cc)
  why_on c (Calm (Some l)) r intake p left fits grown e =
      on_first (λ q rest. WhyAt (Calm (Some l)) r q) (release l.before) p [] left e
      (by_event (Calm (Some l)) r (release l.before) (unlogged (nothing (at_rest r.single))) (frees_calm l r.single held answer fits.0) (goes_on r (unlogged (nothing (at_rest r.single))) (at_rest r.single) refl))
  why_on c (Asked (Some l) origin u) r intake p left fits grown e =
      on_first (λ q rest. WhyAt (Asked (Some l) origin u) r q) (release l.before) p (ask r.single u ∷ []) left e
      (by_event (Asked (Some l) origin u) r (release l.before) (unlogged (nothing (asking r.single u))) (frees_asked l r.single u held answer fits.0) (goes_on r (unlogged (nothing (asking r.single u))) (asking r.single u) refl))
  why_on c (Asked None origin u) r intake p left fits grown e =
      on_first (λ q rest. WhyAt (Asked None origin u) r q) (ask r.single u) p [] left e (by_place origin u r grown (nat_lt r.single.done last_place) refl)
  why_on c (Granting origin u) r intake p left fits grown e =
      on_first (λ q rest. WhyAt (Granting origin u) r q) (grant r.single u) p [] left e
      (by_event (Granting origin u) r (grant r.single u) (unlogged (acknowledges (releasing r.single u) (Some (outcome_of r.single u)) (Acked r.single.view (r.single.done + 1) ∷ Send (release r.single) ∷ [])))
      (finishes_one r.single u held answer (sound_now first r 1 grown)) (goes_on r (unlogged (acknowledges (releasing r.single u) (Some (outcome_of r.single u)) (Acked r.single.view (r.single.done + 1) ∷ Send (release r.single) ∷ []))) (releasing r.single u) refl))
  why_on c (Stuck head others origins) r intake p left fits grown e = absurd (cc)

-- ---- its view stays

view_of_all : (a : Single registry_machine) (us : List Update) → (after_all a us).view ≡ a.view
view_of_all a [] = refl
view_of_all a (u ∷ us) = view_of_all (updated a u) us

pub halts_because : (c : ℕ) (first : AloneRun) (stream : List ℕ) (z : NodeAlone) (output : List ℕ) (records : List Entry) → StandsAt c first stream z output records → HaltsBecause first z
halts_because c first stream z output records h p left held answer cause at stops says =
    let w : Way = h.phase.way in
    let r : AloneRun = h.phase.run in
    let first_left : left_on w r.single ≡ p ∷ left = sym (ap (λ (s : NodeAlone). s.left) h.is) ∙ at in
    let here = subst (λ (s : NodeAlone). (receive s.node p held answer).out.node ≡ None) h.is stops in
    let told = subst (λ (s : NodeAlone). (receive s.node p held answer).out.effects ≡ Halted cause ∷ []) h.is says in
    let why = why_on first held answer c w r h.phase.intake p left h.fits h.grown first_left here cause told in
    let same : r.single.view ≡ first.single.view = ap (λ (a : Single registry_machine). a.view) h.grown.single ∙ view_of_all first.single h.grown.updates in
    subst (λ (n : ℕ). IsReason cause n held answer) same why
