use Rattle.std.proofs.Common.{◌≡◌, ◌<◌, ◌-◌, sym, ◌∙◌, length, take, drop, [], arith}
use Rattle.std.proofs.lemmas.Bool.Decides.{nat_tests}
use Rattle.std.proofs.lemmas.List.{take_rest, drop_all}
use Rattle.clus_names.proofs.Pieces.{parts_at, parts_uncut}
use Rattle.clus_names.proofs.splitting.split_first_part.Goals as goal

pub returns-in-Some-clause-parts : goal.returns-in-Some-clause-parts
returns-in-Some-clause-parts c = rw take_rest (parts_at c.args.text.now c.in-Some.at (sym c.in-Some.ensures.first))

pub returns-in-None-clause-parts : goal.returns-in-None-clause-parts
returns-in-None-clause-parts c =
    let text = c.args.text.now in
    let nothing : take (length text - length text) (drop (length text) text) ≡ [] = take_rest text (length text) ∙ drop_all (length text) text (omega arith) in
    let some : 0 < length text = grind (arith, nat_tests) in
    rw nothing (parts_uncut text (sym c.in-None.ensures.first) some)
