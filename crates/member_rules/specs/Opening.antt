-- How the view opens at a member.
use Rattle.std.specs.Prelude.{◌≡◌, true}
use Rattle.gum_core.specs.Updating.{CoreState}
use Rattle.view_reconcile.specs.declared.stage.Stage.TheVariants as stage
use Rattle.view_reconcile.specs.declared.step.Step.{Step}
use Rattle.view_reconcile.specs.declared.step.Step.TheVariants as step
use Rattle.view_reconcile.specs.Joining.{ReconcileState, is_ready}

-- A Ready came: at an open locker, at one that opens, or elsewhere.
abbrev pub HasHeard : ReconcileState → ReconcileState → Step → Type 0
HasHeard s t (step.OpenAgain to) = t ≡ s
HasHeard s t step.Open = (is_ready s ≡ true) × (t ≡ record s { stage = stage.Open; ready = t.ready })
HasHeard s t step.Nothing = t ≡ record s { ready = t.ready }
HasHeard s t other = ⊥

-- Global Update is open at the same node, in the same view.
pub record IsOpened (c d : CoreState) : Type 0 where
  pub node : d.node ≡ c.node
  pub members : d.members ≡ c.members
  pub opened : d.is_open ≡ true
