-- In a safe world each node's registry is the fold of the order, and each answer one of the fold's outcomes.
use Rattle.std.proofs.Common.{ℕ, ◌-◌, List, Some, sym, ap, subst, ◌∙◌}
use Rattle.registry_defs.specs.Contents.{IsCap}
use Rattle.cluster_rules.specs.Promises.{Answered, Safe}
use Rattle.cluster_rules.specs.Worlds.{Event, World, opening, run}
use Rattle.cluster_laws.proofs.Replies.{all_answered}
use Rattle.cluster_laws.proofs.Theorem.{run_holds, safe}
use Rattle.registry_machine.specs.Laws.{IsWithin}
use Rattle.registry_machine.specs.Machine.{ReplicatedRegistry, registry_machine}
use Rattle.registry_machine.proofs.Folds.{outcome_is_of_fold, replay_is_fold}
use Rattle.registry_machine.proofs.Instance.{is_machine}
use Rattle.registry_machine.proofs.Orders.{order_keeps}
use Rattle.registry_laws.specs.Folds.{IsFold}

folds : (w : World registry_machine) → IsCap w.log.cap → Safe w → Answered w → IsFold w
folds w is h answers = record {
  fold = λ n x r at held. h.registry n x r at held ∙ replay_is_fold w.log.cap w.log.order r.done h.places;
  within = λ n x r at held. subst (λ (r : ReplicatedRegistry). IsWithin w.log.cap r.keys) (sym (h.registry n x r at held)) (order_keeps w.log.cap w.log.order r.done is h.fits);
  told = λ a p at some.
      let answer = answers.stands a p at some in
      (answer.0, answer.1, answer.3 ∙ ap Some (outcome_is_of_fold w.log.cap w.log.order (p.place - 1) answer.0 h.places));
}

pub all_fold : (cap : ℕ) (events : List Event) → IsCap cap → IsFold (run events (opening registry_machine cap))
all_fold cap events is =
    let w = run events (opening registry_machine cap) in
    let held = run_holds registry_machine is_machine cap events is in
    folds w held.fitting.log.is_cap (safe registry_machine w held.invariant held.fitting) (all_answered registry_machine is_machine cap events is)
