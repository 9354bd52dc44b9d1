use Rattle.std.proofs.Common.{length, arith}
use Rattle.std.proofs.lemmas.List.{drop_all, length-take}
use Rattle.disk_core.specs.declared.span.Span.{Span}
use Rattle.disk_core.specs.Crashes.{filled}
use Rattle.disk_core.proofs.Fills.{ranges-next, fill-turn}
use Rattle.disk_core.proofs.snapshot.fill.Goals as goal

pub put-requires : goal.put-requires
put-requires c =
    let none : Span = record { at = 0; len = 0 } in
    let ranges = ranges-next c.args.pending.now c.loop-span.span-index none (length c.loop-span.image.items) c.loop-span-test.true c.loop-span.invariant.within in
    rw c.split_at.ensures.front (omega (arith, ranges.0, c.min-count.ensures, length-take c.min-count.result c.loop-span.rest.now))

pub loop-span-preserved : goal.loop-span-preserved
loop-span-preserved c =
    let i = c.loop-span.invariant in
    let none : Span = record { at = 0; len = 0 } in
    let next = fill-turn c.args.pending.now c.loop-span.span-index none c.loop-span.rest.now _ _ c.loop-span.image.items c.put.new.image.items _ c.min-count.result
    c.loop-span-test.true c.min-count.ensures c.split_at.ensures.front c.split_at.ensures.back c.put.ensures i.filled_so_far i.within in
    record { filled_so_far = next.0; within = next.1 }

pub returns : goal.returns
unfolding filled
returns c = rw (drop_all c.loop-span.span-index c.args.pending.now c.loop-span-test.false) at c.loop-span.invariant.filled_so_far
