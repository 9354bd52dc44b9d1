-- Where the log doesn't take a record, the node halts, and what it told is Alone's; and the order that the log holds goes on.
use Rattle.std.proofs.Common.{◌≡◌, ℕ, ◌+◌, ◌<◌, ◌≤◌, Bool, false, true, nat_lt, List, [], ◌∷◌, ◌++◌, Option, Some, None, refl, sym, ap, ◌∙◌, subst, append_assoc, arith}
use Rattle.std.proofs.lemmas.List.{append-nil}
use Rattle.std.specs.Option.{option_to_list}
use Rattle.update_records.specs.Entry.{Entry}
use Rattle.update_records.specs.declared.update.Update.{Update}
use Rattle.gum_core.specs.Updating.{last_place}
use Rattle.gum_messages.specs.Messages.{Sent}
use Rattle.rpc_calls.specs.Intakes.{Kept}
use Rattle.cluster_rules.specs.declared.effect.Effect.TheVariants.{Acked, Send}
use Rattle.cluster_rules.specs.declared.effect.HaltCause.TheVariants as halt
use Rattle.cluster_rules.specs.Nodes.{NodeState, acknowledges, becomes, halts, nothing}
use Rattle.cluster_rules.specs.Receiving.{receive}
use Rattle.cluster_rules.specs.Updates.{Answer, InDoubt, Logged, Unwritten, Written, unlogged}
use Rattle.client_connections.specs.declared.origin.Origin.{Origin}
use Rattle.registry_machine.specs.Machine.{registry_machine}
use Rattle.single_rules.proofs.Events.{finishes_one, grants_one}
use Rattle.single_rules.proofs.Orders.{keeps_order}
use Rattle.single_rules.proofs.Refused.{grants_none, halts_fenced, halts_in_doubt, halts_unwritten}
use Rattle.single_rules.specs.Promises.{OnOrder}
use Rattle.single_rules.specs.Rounds.{all_made}
use Rattle.single_rules.specs.Single.{Single, ask, asking, at_rest, grant, granting, made, outcome_of, release, releasing, updated}
use Rattle.single_items.specs.Alone.{AloneRun, alone}
use Rattle.single_items.specs.Promises.{BeginsWith, HaltsAlone, IsOnOrder, OrderGoesOn}
use Rattle.single_items.specs.Standing.{Asked, Calm, FitsWay, Granting, GrownFrom, NodeAlone, StandsAt, Stuck, Way, left_on, logged_on, node_on, promised_on, queued_on}
use Rattle.single_items.proofs.Fronts.{all_beyond, among, begins_more, made_first, promised_beyond}
use Rattle.single_items.proofs.Hearing.{frees_asked, frees_calm, on_first, sound_now}

-- Where it halts, so is what the records and one in doubt are.
abbrev Halts : Way → AloneRun → Logged registry_machine → Type 0
Halts way r d = d.out.node ≡ None → BeginsWith (promised_on way r).records (logged_on way r ++ option_to_list d.doubtful)

goes_on : (way : Way) (r : AloneRun) (d : Logged registry_machine) (y : NodeState registry_machine) → d.out.node ≡ Some y → Halts way r d
goes_on way r d y node stops = let e : ◌≡◌ {A = Option (NodeState registry_machine)} (Some y) None = sym node ∙ stops in absurd (cc)

no_doubt : (origin : Origin) (u : Update) (r : AloneRun) → BeginsWith (promised_on (Asked None origin u) r).records (r.records ++ [])
no_doubt origin u r = subst (λ (l : List Entry). BeginsWith (promised_on (Asked None origin u) r).records l) (sym (append-nil r.records)) (promised_beyond (Asked None origin u) r).records

module _ (first : AloneRun) (held : ℕ) (answer : Answer) where
  abbrev HaltsBy : Way → AloneRun → Sent → Type 0
  HaltsBy way r p = Halts way r (receive (node_on way r.single) p held answer)

  by_event : (way : Way) (r : AloneRun) (p : Sent) (d : Logged registry_machine) → receive (node_on way r.single) p held answer ≡ d → Halts way r d → HaltsBy way r p
  by_event way r p d e h = subst (λ (g : Logged registry_machine). Halts way r g) (sym e) h

  module _ (origin : Origin) (u : Update) (r : AloneRun) (grown : GrownFrom first 1 r) where
    abbrev Way0 : Way
    Way0 = Asked None origin u

    own : (b : Answer) → answer ≡ b → r.single.done < last_place → held ≤ r.single.view → HaltsBy Way0 r (ask r.single u)
    own Written e room mine =
        by_event Way0 r (ask r.single u) (record { out = becomes (granting r.single u) (Send (grant r.single u) ∷ []); appended = Some (made r.single u); doubtful = None })
        (ap (receive (asking r.single u) (ask r.single u) held) e ∙ grants_one r.single u held (sound_now first r 1 grown) room mine)
        (goes_on Way0 r (record { out = becomes (granting r.single u) (Send (grant r.single u) ∷ []); appended = Some (made r.single u); doubtful = None }) (granting r.single u) refl)
    own InDoubt e room mine =
        by_event Way0 r (ask r.single u) (record { out = halts halt.Disk; appended = None; doubtful = Some (made r.single u) })
        (ap (receive (asking r.single u) (ask r.single u) held) e ∙ halts_in_doubt r.single u held (sound_now first r 1 grown) room mine)
        (λ stops. made_first origin u r room)
    own Unwritten e room mine =
        by_event Way0 r (ask r.single u) (unlogged (halts halt.Disk))
        (ap (receive (asking r.single u) (ask r.single u) held) e ∙ halts_unwritten r.single u held (sound_now first r 1 grown) room mine)
        (λ stops. no_doubt origin u r)

    by_view : (b : Bool) → nat_lt r.single.view held ≡ b → r.single.done < last_place → HaltsBy Way0 r (ask r.single u)
    by_view true e room =
        by_event Way0 r (ask r.single u) (unlogged (halts (halt.Fenced held))) (halts_fenced r.single u held answer (sound_now first r 1 grown) room (grind (arith, e)))
        (λ stops. no_doubt origin u r)
    by_view false e room = own answer refl room (grind (arith, e))

    by_place : (b : Bool) → nat_lt r.single.done last_place ≡ b → HaltsBy Way0 r (ask r.single u)
    by_place true e = by_view (nat_lt r.single.view held) refl (grind (arith, e))
    by_place false e =
        by_event Way0 r (ask r.single u) (unlogged (nothing (asking r.single u))) (grants_none r.single u held answer (sound_now first r 1 grown) (grind (arith, e)))
        (goes_on Way0 r (unlogged (nothing (asking r.single u))) (asking r.single u) refl)

  halts_on : (c : ℕ) (way : Way) (r : AloneRun) (intake : Option Kept) (p : Sent) (left : List Sent) → FitsWay c way r intake → GrownFrom first (queued_on way) r → left_on way r.single ≡ p ∷ left → HaltsBy way r p
  halts_on c (Calm None) r intake p left fits grown e = absurd (cc)
  halts_on c (Calm (Some l)) r intake p left fits grown e =
      on_first (λ q rest. HaltsBy (Calm (Some l)) r q) (release l.before) p [] left e
      (by_event (Calm (Some l)) r (release l.before) (unlogged (nothing (at_rest r.single))) (frees_calm l r.single held answer fits.0) (goes_on (Calm (Some l)) r (unlogged (nothing (at_rest r.single))) (at_rest r.single) refl))
  halts_on c (Asked (Some l) origin u) r intake p left fits grown e =
      on_first (λ q rest. HaltsBy (Asked (Some l) origin u) r q) (release l.before) p (ask r.single u ∷ []) left e
      (by_event (Asked (Some l) origin u) r (release l.before) (unlogged (nothing (asking r.single u))) (frees_asked l r.single u held answer fits.0) (goes_on (Asked (Some l) origin u) r (unlogged (nothing (asking r.single u))) (asking r.single u) refl))
  halts_on c (Asked None origin u) r intake p left fits grown e =
      on_first (λ q rest. HaltsBy (Asked None origin u) r q) (ask r.single u) p [] left e (by_place origin u r grown (nat_lt r.single.done last_place) refl)
  halts_on c (Granting origin u) r intake p left fits grown e =
      on_first (λ q rest. HaltsBy (Granting origin u) r q) (grant r.single u) p [] left e
      (by_event (Granting origin u) r (grant r.single u) (unlogged (acknowledges (releasing r.single u) (Some (outcome_of r.single u)) (Acked r.single.view (r.single.done + 1) ∷ Send (release r.single) ∷ [])))
      (finishes_one r.single u held answer (sound_now first r 1 grown)) (goes_on (Granting origin u) r (unlogged (acknowledges (releasing r.single u) (Some (outcome_of r.single u)) (Acked r.single.view (r.single.done + 1) ∷ Send (release r.single) ∷ []))) (releasing r.single u) refl))
  halts_on c (Stuck head others origins) r intake p left fits grown e = absurd (cc)

pub halts_alone : (c : ℕ) (first : AloneRun) (stream : List ℕ) (z : NodeAlone) (output : List ℕ) (records : List Entry) → StandsAt c first stream z output records → HaltsAlone c first stream z output records
halts_alone c first stream z output records h p left held answer at stops all fault items =
    let w : Way = h.phase.way in
    let r : AloneRun = h.phase.run in
    let x : AloneRun = alone c first all in
    let first_left : left_on w r.single ≡ p ∷ left = sym (ap (λ (s : NodeAlone). s.left) h.is) ∙ at in
    let here = subst (λ (s : NodeAlone). (receive s.node p held answer).out.node ≡ None) h.is stops in
    let doubt : option_to_list (receive (node_on w r.single) p held answer).doubtful ≡ option_to_list (receive z.node p held answer).doubtful = ap (λ (s : NodeAlone). option_to_list (receive s.node p held answer).doubtful) (sym h.is) in
    let b = all_beyond c first h.given all w r h.promised (among stream h.given all fault items w r h.phase.intake h.heard) in
    let f = halts_on first held answer c w r h.phase.intake p left h.fits h.grown first_left here in
    let same : logged_on w r ++ option_to_list (receive (node_on w r.single) p held answer).doubtful ≡ records ++ option_to_list (receive z.node p held answer).doubtful =
    ap (λ (l : List Entry). l ++ option_to_list (receive (node_on w r.single) p held answer).doubtful) (sym h.logged) ∙ ap (λ (l : List Entry). records ++ l) doubt in
    record {
      told = subst (λ (l : List ℕ). BeginsWith x.output l) (sym h.told) (begins_more x.output (promised_on w r).output r.output b.output (promised_beyond w r).output);
      logged = subst (λ (l : List Entry). BeginsWith x.records l) same (begins_more x.records (promised_on w r).records (logged_on w r ++ option_to_list (receive (node_on w r.single) p held answer).doubtful) b.records f);
    }

-- ---- the order

on_order : (cap : ℕ) (order : List Entry) (a : Single registry_machine) (x : NodeState registry_machine) → OnOrder cap order a → x.replica ≡ Some (record { registry = a.registry; done = a.done }) → IsOnOrder cap order x
on_order cap order a x on is = record { done = a.done; length = on.length; replica = is ∙ ap (λ g. Some (record { registry = g; done = a.done })) on.registry }

behind_all : (first : AloneRun) (queued : ℕ) (r : AloneRun) → GrownFrom first queued r → (cap : ℕ) (order : List Entry) → first.records ≡ [] → OnOrder cap order first.single → OnOrder cap (order ++ r.records) r.single
behind_all first queued r g cap order none on =
    let whole : r.records ≡ all_made first.single g.updates = g.records ∙ ap (λ (l : List Entry). l ++ all_made first.single g.updates) none in
    subst (λ (l : List Entry). OnOrder cap (order ++ l) r.single) (sym whole)
    (subst (λ (a : Single registry_machine). OnOrder cap (order ++ all_made first.single g.updates) a) (sym g.single) (keeps_order cap order first.single g.updates on))

behind_one : (r : AloneRun) (u : Update) (cap : ℕ) (order : List Entry) → OnOrder cap (order ++ r.records) r.single → OnOrder cap (order ++ (r.records ++ made r.single u ∷ [])) (updated r.single u)
behind_one r u cap order on = subst (λ (l : List Entry). OnOrder cap l (updated r.single u)) (append_assoc order r.records (made r.single u ∷ [])) (keeps_order cap (order ++ r.records) r.single (u ∷ []) on)

on_way : (way : Way) (r : AloneRun) (cap : ℕ) (order : List Entry) → OnOrder cap (order ++ r.records) r.single → IsOnOrder cap (order ++ logged_on way r) (node_on way r.single)
on_way (Calm lately) r cap order on = on_order cap (order ++ r.records) r.single (node_on (Calm lately) r.single) on refl
on_way (Asked lately origin u) r cap order on = on_order cap (order ++ r.records) r.single (node_on (Asked lately origin u) r.single) on refl
on_way (Granting origin u) r cap order on = on_order cap (order ++ (r.records ++ made r.single u ∷ [])) (updated r.single u) (node_on (Granting origin u) r.single) (behind_one r u cap order on) refl
on_way (Stuck head others origins) r cap order on = on_order cap (order ++ r.records) r.single (node_on (Stuck head others origins) r.single) on refl

pub order_goes_on : (c : ℕ) (first : AloneRun) (stream : List ℕ) (z : NodeAlone) (output : List ℕ) (records : List Entry) → StandsAt c first stream z output records → OrderGoesOn first z records
order_goes_on c first stream z output records h cap order none on =
    let w : Way = h.phase.way in
    let r : AloneRun = h.phase.run in
    let g : IsOnOrder cap (order ++ logged_on w r) (node_on w r.single) = on_way w r cap order (behind_all first (queued_on w) r h.grown cap order none on) in
    subst (λ (s : NodeAlone). IsOnOrder cap (order ++ records) s.node) (sym h.is) (subst (λ (l : List Entry). IsOnOrder cap (order ++ l) (node_on w r.single)) (sym h.logged) g)
