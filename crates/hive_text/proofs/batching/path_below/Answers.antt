use Rattle.std.proofs.Common.{ap, ◌∙◌, ◌++◌, List, ℕ, refl}
use Rattle.hive_text.proofs.KeyLines.{no_zero}
use Rattle.hive_text.proofs.ChangeLists.{not_too_long, one_part, only_memory}
use Rattle.hive_text.proofs.batching.path_below.Goals as goal

pub parse-requires : goal.parse-requires
parse-requires c = no_zero c.args.part.now c.requires.part.units

pub out_of_memory-requires : goal.out_of_memory-requires
out_of_memory-requires c = only_memory c.in-Err.fault _ (c.in-Err.ensures.only _ (one_part c.args.part.now c.requires.part) refl)

pub returns-in-Ok-join : goal.returns-in-Ok-join
returns-in-Ok-join c =
    c.in-Ok-join.ensures.found.0 ∙ ap (λ (p : List (List ℕ)). c.args.path.now ++ p) (c.in-Ok.ensures.only _ (one_part c.args.part.now c.requires.part) refl)

pub out_of_memory-requires-in-Err-join : goal.out_of_memory-requires-in-Err-join
out_of_memory-requires-in-Err-join c =
    let named = c.in-Ok.ensures.only _ (one_part c.args.part.now c.requires.part) refl in
    not_too_long c.args.path.now c.args.part.now c.in-Ok.subkey c.in-Err-join.fault named c.requires.short c.in-Err-join.ensures.fault
