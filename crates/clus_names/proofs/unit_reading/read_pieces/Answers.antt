use Rattle.std.proofs.Common.{List, ℕ, subst}
use Rattle.std.proofs.lemmas.List.{take_rest}
use Rattle.clus_names.specs.UnitFaults.{IsPieceAt}
use Rattle.clus_names.proofs.UnitLaws.{reads_on}
use Rattle.clus_names.proofs.unit_reading.read_pieces.Goals as goal

pub pieces-preserved : goal.pieces-preserved
pieces-preserved c =
    let text = c.args.text.now in
    let unit = c.in-Ok.piece.unit in
    let size = c.in-Ok.piece.size in
    let piece = subst (λ (t : List ℕ). IsPieceAt t unit size) (take_rest text c.pieces.place) c.in-Ok.ensures.found in
    rw c.in_ok-push-in-Ok.ensures.items (reads_on text c.pieces.place c.pieces.units.items unit size c.pieces.invariant piece)
