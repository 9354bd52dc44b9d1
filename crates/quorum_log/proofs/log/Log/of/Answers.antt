use Rattle.std.proofs.Common.{length, arith, ap}
use Rattle.quorum_log.specs.Image.{list_at}
use Rattle.quorum_log.proofs.Kept.{behind-le}
use Rattle.quorum_log.proofs.Halves.{which_half}
use Rattle.quorum_log.proofs.log.Log.of.Goals as goal

pub invariant_of-result : goal.invariant_of-result
invariant_of-result c =
    let x = c.args.found.now in
    record {
      cap_range = c.requires.cap;
      half = which_half x.half c.requires.half;
      tail_least = omega (arith, c.tail.ensures, behind-le (list_at x) x.records);
      tail_most = omega (arith, c.tail.ensures, c.requires.tail);
      count = omega (arith, c.requires.count, ap (λ xs. length xs) c.as_slice.ensures);
      room = omega (arith, c.in_ok-buffer.ensures.len);
    }
