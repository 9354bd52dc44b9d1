use Rattle.std.proofs.Common.{refl}
use Rattle.std.proofs.Math.Seq.{take-add}
use Rattle.std.proofs.lemmas.List.{drop-drop}
use Rattle.edge_io.proofs.script_visit.ScriptVisit.read.Goals as goal

pub returns-clause-taken : goal.returns-clause-taken
returns-clause-taken c =
    let place = c.self.inside.place in
    let count = c.min-count.result in
    let input = c.self.inside.input.items in
    rw (← c.self.view_is, take-add place count input, drop-drop count place input) refl
