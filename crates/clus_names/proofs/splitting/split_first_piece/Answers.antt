use Rattle.std.proofs.Common.{sym}
use Rattle.std.proofs.lemmas.List.{take_rest}
use Rattle.clus_names.proofs.Pieces.{pieces_at, pieces_uncut}
use Rattle.clus_names.proofs.splitting.split_first_piece.Goals as goal

pub returns-in-Some-clause-pieces : goal.returns-in-Some-clause-pieces
returns-in-Some-clause-pieces c = rw take_rest (pieces_at c.args.text.now c.in-Some.at (sym c.in-Some.ensures.first))

pub returns-in-None-clause-pieces : goal.returns-in-None-clause-pieces
returns-in-None-clause-pieces c = pieces_uncut c.args.text.now (sym c.in-None.ensures.first)
