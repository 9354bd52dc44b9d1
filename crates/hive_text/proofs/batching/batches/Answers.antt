use Rattle.std.proofs.Common.{◌≡◌, List, [], ap, subst, ◌∙◌}
use Rattle.std.specs.Prelude.{IfOk, Ok, Err}
use Rattle.std.specs.List.{flat_map}
use Rattle.registry_defs.specs.Contents.{keys_in}
use Rattle.update_records.specs.declared.update.Update.{Update}
use Rattle.hive_text.specs.Batches.{batches_of, changes_in}
use Rattle.hive_text.specs.Changes.{changes_of}
use Rattle.hive_text.proofs.ChangeLists.{have_paths}
use Rattle.hive_text.proofs.CutLaws.{all_taken, cut_whole}
use Rattle.hive_text.proofs.batching.batches.Goals as goal

pub take_key-requires-clause-paths : goal.take_key-requires-clause-paths
take_key-requires-clause-paths c = rw c.root-2.ensures (have_paths c.root.result.now (keys_in c.args.registry.now) c.root.ensures.keys c.root.ensures.limits c.root.ensures.rising)

pub returns-clause-cut : goal.returns-clause-cut
returns-clause-cut c =
    let keys = keys_in c.args.registry.now in
    let taken = rw (c.root-2.ensures, c.root.ensures.keys) at c.in_ok-take_key.ensures in
    subst (λ (l : List Update). IfOk c.finish.result (λ updates. updates.items ≡ l))
    (all_taken c.new-batcher.result (changes_of keys) c.take_key-2.new.batcher c.new-batcher.ensures.done c.new-batcher.ensures.taken taken)
    c.finish.ensures.all

pub returns-clause-whole : goal.returns-clause-whole
returns-clause-whole c =
    let changes = changes_of (keys_in c.args.registry.now) in
    elim c.finish.result as (λ r. IfOk r (λ updates. updates.items ≡ batches_of (keys_in c.args.registry.now)) → IfOk r (λ updates. flat_map changes_in updates.items ≡ changes)) [
      | Ok updates ↦ λ is. ap (flat_map changes_in) is ∙ cut_whole [] changes
      | Err fault ↦ λ is. tt
    ] (returns-clause-cut c)
