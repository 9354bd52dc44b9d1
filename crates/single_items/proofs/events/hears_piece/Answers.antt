use Rattle.single_items.proofs.Pieces.{hears_piece}
use Rattle.single_items.proofs.events.hears_piece.Goals as goal

pub returns : goal.returns
returns c = hears_piece
