-- A recovery leaves a node in its view.
use Rattle.std.proofs.Common.{◌≡◌, ◌≢◌, ℕ, true, false, List, length, Option, Some, None, if◌then◌else◌, unwrap_or, refl, sym, subst}
use Rattle.gum_messages.proofs.Branches.{option_cases}
use Rattle.update_records.specs.Entry.{Entry}
use Rattle.gum_core.specs.Updating.{CoreState}
use Rattle.gum_core.specs.declared.decision.Decision.{Decision}
use Rattle.gum_core.specs.Updating as updating
use Rattle.gum_core.proofs.Cases.{opened_cases}
use Rattle.view_reconcile.specs.declared.stage.Stage.{Stage}
use Rattle.view_reconcile.specs.declared.stage.Stage.TheVariants as stage
use Rattle.view_reconcile.specs.declared.step.Step.{Step}
use Rattle.view_reconcile.specs.declared.step.Step.TheVariants as step
use Rattle.view_reconcile.specs.Joining.{ReconcileState}
use Rattle.view_reconcile.specs.Joining as joining
use Rattle.view_reconcile.proofs.Cases.{becomes_ready_cases, offered_cases}
use Rattle.cluster_rules.specs.Machines.{Machine, registry_at}
use Rattle.cluster_rules.specs.declared.offering.Offering.{Offering}
use Rattle.cluster_rules.specs.Nodes.{NodeState, Out, nothing, place_of}
use Rattle.cluster_rules.specs.Updates.{applied, begins, opens, without_head}
use Rattle.cluster_rules.specs.Joins.{done_within, goes_on, hears_itself, joined, last_of, recovers, with_replica}
use Rattle.cluster_laws.proofs.Applying.{locker_not}
use Rattle.cluster_laws.proofs.Offering.{place_is}

module _ {M : Machine} where
  abbrev pub InView : NodeState M → Option (NodeState M) → Type 0
  InView x o = (y : NodeState M) → o ≡ Some y → (y.join.view ≡ x.join.view) × (y.join.node ≡ x.join.node)

  view_as : (x y : NodeState M) → y.join.view ≡ x.join.view → y.join.node ≡ x.join.node → InView x (Some y)
  view_as x y v n z e = let q : y ≡ z = cc in subst (λ (t : NodeState M). (t.join.view ≡ x.join.view) × (t.join.node ≡ x.join.node)) q (v, n)

  opens_in : (x y : NodeState M) → y.join.view ≡ x.join.view → y.join.node ≡ x.join.node → InView x (opens y).node
  opens_in x y v n = opened_cases (λ (t : CoreState × Decision). InView x (begins y t).node) y.core y.settled
      (λ e. view_as x (record y { core = record y.core { is_open = true } }) v n)
      (λ some none. view_as x (record y { core = record y.core { is_open = true } }) v n)
      (λ some k set_. view_as x (without_head y (updating.finished (record y.core { is_open = true }) k).0) v n)

  goes_in : (x z : NodeState M) (o : Offering) (t : Stage) → InView x (goes_on (joined z o.count o.last (joining.becomes_ready (record x.join { stage = t })).0) o (joining.becomes_ready (record x.join { stage = t })).1).node
  goes_in x z o t = becomes_ready_cases (λ (r : ReconcileState × Step). InView x (goes_on (joined z o.count o.last r.0) o r.1).node) (record x.join { stage = t })
      (λ a. opens_in x (joined z o.count o.last (record x.join { stage = stage.Open })) refl refl)
      (λ a. view_as x (joined z o.count o.last (record x.join { stage = stage.Ready })) refl refl)

  pub recovers_in : (x : NodeState M) (size : ℕ) (order : List Entry) → x.join.view.number ≢ 0 → joining.is_ready x.join ≡ false → InView x (recovers x size order).node
  recovers_in x size order nz nr =
      let o : Offering = record { count = length order; cap = size; last = last_of order } in
      let registry : M.Registry = registry_at M size order (length order) in
      let P : ReconcileState × Step → Type 0 = λ r. InView x (hears_itself x o registry r).node in
      offered_cases P x.join o.count (place_of o.last) (done_within x size)
      (λ z. absurd (nz z))
      (λ z rd. absurd (locker_not (joining.is_ready x.join) rd nr))
      (λ z r all. becomes_ready_cases P x.join
      (λ a. opens_in x (joined x o.count o.last (record x.join { stage = stage.Open })) refl refl)
      (λ a. view_as x (joined x o.count o.last (record x.join { stage = stage.Ready })) refl refl))
      (λ z r k a b c.
      let e = place_is o.last o.count c in
      let taking : ReconcileState = record x.join { stage = stage.Taking } in
      let R : Option Entry → Type 0 = λ l. let t : Out M = elim l [ None ↦ nothing x | Some d ↦ goes_on (joined (applied d x) o.count o.last (joining.taken taking true).0) o (joining.taken taking true).1 ] in InView x t.node in
      subst R (sym e.1) (goes_in x (applied e.0 x) o stage.Taking))
      (λ z r. goes_in x (with_replica x registry o.count) o (if joining.locks x.join then stage.Taking else stage.Pulling (unwrap_or (joining.pulled_bytes x.join) 0)))

  -- ---- it goes on

  abbrev pub Goes : Option (NodeState M) → Type 0
  Goes o = (y : NodeState M) × (o ≡ Some y)

  opens_goes : (y : NodeState M) → Goes (opens y).node
  opens_goes y = opened_cases (λ (t : CoreState × Decision). Goes (begins y t).node) y.core y.settled
      (λ e. (record y { core = record y.core { is_open = true } }, refl))
      (λ some none. (record y { core = record y.core { is_open = true } }, refl))
      (λ some k set_. (without_head y (updating.finished (record y.core { is_open = true }) k).0, refl))

  goes_goes : (z : NodeState M) (o : Offering) (s : Step) → Goes (goes_on z o s).node
  goes_goes z o step.Nothing = (z, refl)
  goes_goes z o step.Ready = (z, refl)
  goes_goes z o step.ApplyLast = (z, refl)
  goes_goes z o (step.Pull offset) = (z, refl)
  goes_goes z o step.Whole = (z, refl)
  goes_goes z o step.Open = opens_goes z
  goes_goes z o (step.OpenAgain to) = (z, refl)
  goes_goes z o (step.OfferTo count) = (z, refl)

  hears_goes : (x : NodeState M) (o : Offering) (registry : M.Registry) (t : ReconcileState) (s : Step) → Goes (hears_itself x o registry (t, s)).node
  hears_goes x o registry t step.Nothing = goes_goes (joined x o.count o.last t) o step.Nothing
  hears_goes x o registry t step.Ready = goes_goes (joined x o.count o.last t) o step.Ready
  hears_goes x o registry t step.ApplyLast =
      let next : Out M → Type 0 = λ a. Goes a.node in
      option_cases next o.last (nothing x) (λ e. goes_on (joined (applied e x) o.count o.last (joining.taken t true).0) o (joining.taken t true).1)
      (λ none. (x, refl))
      (λ e some. goes_goes (joined (applied e x) o.count o.last (joining.taken t true).0) o (joining.taken t true).1)
  hears_goes x o registry t (step.Pull offset) = goes_goes (joined (with_replica x registry o.count) o.count o.last (joining.taken t true).0) o (joining.taken t true).1
  hears_goes x o registry t step.Whole = goes_goes (joined x o.count o.last t) o step.Whole
  hears_goes x o registry t step.Open = goes_goes (joined x o.count o.last t) o step.Open
  hears_goes x o registry t (step.OpenAgain to) = goes_goes (joined x o.count o.last t) o (step.OpenAgain to)
  hears_goes x o registry t (step.OfferTo count) = goes_goes (joined x o.count o.last t) o (step.OfferTo count)

  pub recovers_goes : (x : NodeState M) (size : ℕ) (order : List Entry) → Goes (recovers x size order).node
  recovers_goes x size order =
      let o : Offering = record { count = length order; cap = size; last = last_of order } in
      let r = joining.offered x.join o.count (place_of o.last) (done_within x size) in
      hears_goes x o (registry_at M size order (length order)) r.0 r.1
