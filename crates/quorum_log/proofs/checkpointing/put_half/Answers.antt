use Rattle.std.proofs.Common.{◌≡◌, ◌+◌, length, arith, refl}
use Rattle.wire_fields.specs.Numbers.{num}
use Rattle.quorum_log.proofs.Checkpoints.{half_put}
use Rattle.quorum_log.proofs.checkpointing.put_half.Goals as goal

pub returns-clause-text : goal.returns-clause-text
unfolding num
returns-clause-text c =
    let g = c.to_le_bytes.result in
    let b = c.to_le_bytes-2.result in
    let s = c.to_le_bytes-3.result in
    let l = c.to_le_bytes-4.result in
    let text = half_put c.args.buffer.now.items c.add-done.new.buffer.items c.add-done-2.new.buffer.items c.add-done-3.new.buffer.items c.add-done-4.new.buffer.items c.add-done-5.new.buffer.items c.add-done-6.new.buffer.items c.add.new.buffer.items
    g b s l c.args.state.now c.args.last.now
    c.add-done.result c.add-done-2.result c.add-done-3.result c.add-done-4.result c.add-done-5.result c.add-done-6.result c.add.result
    c.add-done.ensures.count c.add-done.ensures.text c.add-done-2.ensures.count c.add-done-2.ensures.text c.add-done-3.ensures.count c.add-done-3.ensures.text c.add-done-4.ensures.count c.add-done-4.ensures.text
    c.add-done-5.ensures.count c.add-done-5.ensures.text c.add-done-6.ensures.count c.add-done-6.ensures.text c.add.ensures.count c.add.ensures.text in
    let sizes : length g + length b + length s + length l ≡ 24 = rw (c.to_le_bytes.ensures, c.to_le_bytes-2.ensures, c.to_le_bytes-3.ensures, c.to_le_bytes-4.ensures) refl in
    let long : 25 + length c.args.state.now + length c.args.last.now ≡ c.add.result = omega (arith, c.add.ensures.count, c.add-done-6.ensures.count, c.add-done-5.ensures.count, c.add-done-4.ensures.count, c.add-done-3.ensures.count, c.add-done-2.ensures.count, c.add-done.ensures.count, sizes) in
    let there = rw (← long, c.to_le_bytes.ensures, c.to_le_bytes-2.ensures, c.to_le_bytes-3.ensures, c.to_le_bytes-4.ensures) at text in
    there
