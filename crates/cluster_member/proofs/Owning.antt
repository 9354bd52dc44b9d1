-- A locker that is open has the log of its view.
use Rattle.std.proofs.Common.{◌≡◌, ℕ, ◌+◌, ◌<◌, Bool, true, false, ◌&&◌, IsTrue, Option, Some, None, refl, sym, ap, subst, ◌∙◌}
use Rattle.update_records.specs.Entry.{Entry}
use Rattle.quorum_log.specs.Logs.{LogValue}
use Rattle.view_reconcile.specs.declared.stage.Stage.{Stage}
use Rattle.view_reconcile.specs.declared.stage.Stage.TheVariants as stage
use Rattle.view_reconcile.specs.Joining.{ReconcileState, is_open, is_ready, locks}
use Rattle.cluster_rules.specs.Nodes.{NodeState, Replica, number_of}
use Rattle.registry_machine.specs.Machine.{registry_machine}
use Rattle.cluster_member.specs.States.{HasLog, IsLogOf, OwnsLog}

stage_ready : (t : Stage) → (elim t [ stage.Open ↦ true | _ ↦ false ]) ≡ true → (elim t [ stage.Ready ↦ true | stage.Open ↦ true | _ ↦ false ]) ≡ true
stage_ready stage.Waiting e = cc
stage_ready (stage.Pulling got) e = cc
stage_ready stage.Taking e = cc
stage_ready stage.Ready e = cc
stage_ready stage.Open e = refl

open_is_ready : (s : ReconcileState) → is_open s ≡ true → is_ready s ≡ true
open_is_ready s e = stage_ready s.stage e

to_true : (b : Bool) → b ≡ true → IsTrue b
to_true b e = subst (λ (c : Bool). IsTrue c) (sym e) refl

pub open_owns : (x : NodeState registry_machine) (log : Option LogValue) → HasLog x log → is_open x.join ≡ true → locks x.join ≡ true → OwnsLog (number_of x) x.replica x.last log
open_owns x log has opened here = has.owns (to_true (is_ready x.join) (open_is_ready x.join opened)) (to_true (locks x.join) here)

-- ---- its parts

pub no_log : (view : ℕ) (r : Option (Replica registry_machine)) (last : Option Entry) (log : Option LogValue) → OwnsLog view r last log → log ≡ None → ⊥
no_log view None last log owns none = owns
no_log view (Some q) last None owns none = owns
no_log view (Some q) last (Some g) owns none = cc

pub some_log : (view : ℕ) (r : Option (Replica registry_machine)) (last : Option Entry) (log : Option LogValue) → OwnsLog view r last log → (old : LogValue) × (log ≡ Some old)
some_log view None last log owns = absurd owns
some_log view (Some q) last None owns = absurd owns
some_log view (Some q) last (Some g) owns = (g, refl)

pub no_replica : (view : ℕ) (r : Option (Replica registry_machine)) (last : Option Entry) (log : Option LogValue) → OwnsLog view r last log → r ≡ None → ⊥
no_replica view None last log owns none = owns
no_replica view (Some q) last log owns none = cc

pub is_log : (view : ℕ) (r : Option (Replica registry_machine)) (last : Option Entry) (log : Option LogValue) (q : Replica registry_machine) (g : LogValue)
    → OwnsLog view r last log → r ≡ Some q → log ≡ Some g → IsLogOf view q last g
is_log view r last log q g owns some logged =
    subst (λ (l : Option LogValue). OwnsLog view (Some q) last l) logged (subst (λ (s : Option (Replica registry_machine)). OwnsLog view s last log) some owns)
