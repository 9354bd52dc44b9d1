use Rattle.std.proofs.Common.{◌-◌, ◌≤◌, ◌<◌, arith, drop, length, length-drop, refl}
use Rattle.std.proofs.Math.Nat.{div-mul-le_self}
use Rattle.std.proofs.lemmas.List.{take_rest}
use Rattle.rpc_calls.specs.Cutting.{cut_by, piece_of, room_of}
use Rattle.rpc_calls.proofs.CuttingLaws.{last_piece, next_piece}
use Rattle.rpc_calls.proofs.SentLaws.{all_spell}
use Rattle.rpc_calls.proofs.cutting.cut.Goals as goal

pub pieces-preserved : goal.pieces-preserved
pieces-preserved c =
    let stub = c.args.stub.now in
    let place = c.pieces.place in
    let most = c.args.max_xmit - 24 in
    let piece = piece_of c.args.sent in
    let left = length-drop place stub in
    let rest = take_rest stub place in
    let long : most < length (drop place stub) = omega (arith, left, c.pieces-test.true) in
    let room : 0 < room_of most = omega (arith, c.requires.least) in
    let all = cut_by piece most 1 stub in
    let step =
    next_piece piece most c.pieces.first place stub c.pieces.pdus.items all c.in_ok-fragment.field-0 _ _ c.in_ok-fragment.ensures (rw rest refl) (rw rest refl) room c.pieces.invariant.cut long in
    record {
      within = omega (arith, div-mul-le_self most 8, c.pieces-test.true);
      flag = omega arith;
      cut = rw c.in_ok-push.ensures.items step;
    }

pub returns-clause-cut : goal.returns-clause-cut
returns-clause-cut c =
    let stub = c.args.stub.now in
    let place = c.pieces.place in
    let most = c.args.max_xmit - 24 in
    let piece = piece_of c.args.sent in
    let left = length-drop place stub in
    let rest = take_rest stub place in
    let short : length (drop place stub) ≤ most = omega (arith, left, c.pieces-test.false) in
    let room : 0 < room_of most = omega (arith, c.requires.least) in
    let all = cut_by piece most 1 stub in
    rw c.in_ok-push-2.ensures.items
    (last_piece piece most c.pieces.first place stub c.pieces.pdus.items all c.in_ok-fragment-2.field-0 _ _ c.in_ok-fragment-2.ensures (rw rest refl) rest room c.pieces.invariant.cut short)

pub returns-clause-spells : goal.returns-clause-spells
returns-clause-spells c =
    let most = c.args.max_xmit - 24 in
    let room : 0 < room_of most = omega (arith, c.requires.least) in
    rw (returns-clause-cut c) (all_spell c.args.sent most c.args.stub.now (omega (arith, c.requires.greatest)) room)
