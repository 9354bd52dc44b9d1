use Rattle.std.proofs.Common.{take, arith, ℕ}
use Rattle.std.proofs.lemmas.List.{length-take}
use Rattle.edge_io.proofs.Pieces.{too_long, not_kept}
use Rattle.edge_io.proofs.reading.read_whole.Goals as goal

pub returns-then-most-len-clause-told : goal.returns-then-most-len-clause-told
returns-then-most-len-clause-told g c =
    too_long _ _ _ c.pieces.bytes.items (take c.in-Ok.count c.read.new.into) c.args.most c.pieces.invariant.read c.in-Ok.ensures.bytes.0
    (grind (arith, length-take {A = ℕ}, c.in-Ok.ensures.bound.0, c.in-Ok.ensures.bound.1))

pub returns-then-is_err-clause-told : goal.returns-then-is_err-clause-told
returns-then-is_err-clause-told g c =
    not_kept _ _ _ c.pieces.bytes.items (take c.in-Ok.count c.read.new.into) c.args.most c.pieces.invariant.read c.in-Ok.ensures.bytes.0
    (grind (arith, length-take {A = ℕ}, c.in-Ok.ensures.bound.0, c.in-Ok.ensures.bound.1))
