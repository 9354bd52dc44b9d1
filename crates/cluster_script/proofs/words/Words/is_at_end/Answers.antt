use Rattle.std.proofs.Common.{◌≡◌, [], subst}
use Rattle.std.specs.Prelude.{◌↔◌, IsTrue}
use Rattle.cluster_script.specs.Words.{Words}
use Rattle.cluster_script.proofs.Cuts.{at_end}
use Rattle.cluster_script.proofs.words.Words.is_at_end.Goals as goal

pub returns : goal.returns
returns c =
    let P : Words → Type 0 = λ words. IsTrue c.is_none.result ↔ (words.left ≡ []) in
    subst P c.self.view_is (at_end c.self.inside.rest c.is_none.result c.is_none.ensures)
