use Rattle.std.proofs.Common.{arith}
use Rattle.quorum_log.proofs.Scans.{found_half}
use Rattle.quorum_log.proofs.checking.read_half.Goals as goal

pub returns : goal.returns
returns c =
    rw c.new.ensures (found_half c.args.image.now c.args.cap c.args.half c.half_at-start.result c.in_ok-state_size.state_size c.in_ok-state_size.last_size
    c.read_u64-field.result c.read_u64.result c.base_in-base.result c.version_in.result c.in_ok-state.state c.in_ok-last.last c.in_ok-records.records.items
    c.half_at-start.ensures c.in_ok-state_size.ensures c.requires.valid c.in_ok-state.ensures c.in_ok-last.ensures (rw c.half_size.ensures at c.in_ok-records.ensures)
    c.read_u64-field.ensures c.version_in.ensures c.base_in-base.ensures.base c.read_u64.ensures (omega (arith, c.if-len-base.false, c.base_in-base.ensures.most, c.len.ensures)))
