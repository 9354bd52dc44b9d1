use Rattle.std.proofs.Common.{arith}
use Rattle.quorum_log.proofs.Formatted.{made_at_once}
use Rattle.quorum_log.proofs.formatting.write_body.Goals as goal

pub returns : goal.returns
returns g c =
    let front = c.put_front.ensures.text in
    made_at_once c.args.claim c.args.cap c.args.first.now c.put_front.new.text c.put-done.new.text c.put-done-2.new.text c.put-done.result c.put-done-2.result _ _ _ (omega (arith, c.if-first.false))
    front c.put-done.ensures.count c.put-done.ensures.text c.put-done-2.ensures.count c.put-done-2.ensures.text c.write.ensures
