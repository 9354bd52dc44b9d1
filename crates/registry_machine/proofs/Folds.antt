-- Records that stand at their places make what the fold that counts the places makes.
use Rattle.std.proofs.Common.{◌≡◌, ℕ, zero, suc, ◌+◌, List, [], ◌∷◌, take, Some, refl, ap, ◌∙◌, arith}
use Rattle.std.specs.Prelude.{slice_get}
use Rattle.update_records.specs.Entry.{Entry}
use Rattle.registry_defs.specs.Applying.{update_applied, records_applied}
use Rattle.registry_defs.specs.Keys.{Keys, root_alone}
use Rattle.cluster_rules.specs.Machines.{replay}
use Rattle.registry_machine.specs.Machine.{ReplicatedRegistry, record_applied, registry_machine}
use Rattle.registry_machine.specs.Laws.{OutcomeIsOfFold, ReplayIsFold}

abbrev made : ℕ → Keys → ReplicatedRegistry
made cap keys = record { cap = cap; keys = keys }

fold_from : (cap place : ℕ) (order : List Entry) (count : ℕ) (keys : Keys) → ((n : ℕ) (e : Entry) → slice_get order n ≡ Some e → e.place ≡ place + n)
    → replay registry_machine (take count order) (made cap keys) ≡ made cap (records_applied cap place (take count order) keys)
unfolding records_applied record_applied
fold_from cap place order zero keys stand = refl
fold_from cap place [] (suc count) keys stand = refl
fold_from cap place (e ∷ es) (suc count) keys stand =
    let here : e.place ≡ place = (let is = stand 0 e refl in omega (arith, is)) in
    ap (λ p. replay registry_machine (take count es) (made cap (update_applied cap p e.stamp e.update keys).keys)) here
    ∙ fold_from cap (place + 1) es count (update_applied cap place e.stamp e.update keys).keys (λ n d got. let is = stand (suc n) d got in omega (arith, is))

pub replay_is_fold : ReplayIsFold
replay_is_fold cap order count places = fold_from cap 1 order count root_alone (λ n e got. let is = places (suc n) e got in omega (arith, is))

pub outcome_is_of_fold : OutcomeIsOfFold
unfolding record_applied
outcome_is_of_fold cap order count e places = ap (λ (r : ReplicatedRegistry). (record_applied e r).1) (replay_is_fold cap order count places)
