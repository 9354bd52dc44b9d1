use Rattle.std.proofs.Common.{◌<◌, length, arith}
use Rattle.std.proofs.lemmas.Bool.Decides.{nat_tests}
use Rattle.clus_names.proofs.Texts.{count_again}
use Rattle.clus_names.proofs.path.Path.parts.Goals as goal

pub returns : goal.returns
returns c =
    let some : 0 < length c.as_slice-text.result.now = grind (arith, nat_tests) in
    let h = rw c.as_slice-text.ensures.value at some in
    rw (← c.self.view_is, c.count_separators.ensures.count, c.as_slice-text.ensures.value) (count_again c.self.inside.text.items c.self.invariant h)
