use Rattle.std.proofs.Common.{arith}
use Rattle.quorum_log.specs.Changes.{with_checkpoint}
use Rattle.log_rows.proofs.log_disk.checkpoint_of.Goals as goal

pub returns : goal.returns
returns c =
    let kept = c.requires in
    record {
      held = with_checkpoint kept.held c.args.state.now c.args.last.now;
      stands = c.in_ok-checkpoint.ensures.begun kept.held kept.stands;
      cap_is = kept.cap_is;
      number_is = omega (arith, kept.number_is);
    }
