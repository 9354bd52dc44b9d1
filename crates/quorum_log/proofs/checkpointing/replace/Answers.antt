use Rattle.std.proofs.Common.{arith}
use Rattle.std.proofs.lemmas.Result.{err_from_is_err_and}
use Rattle.quorum_log.specs.Changes.{closing}
use Rattle.quorum_log.proofs.Checkpointed.{made_append, made_refused, made_size}
use Rattle.quorum_log.proofs.checkpointing.replace.Goals as goal

pub returns-in_err-close : goal.returns-in_err-close
returns-in_err-close g c =
    let p = err_from_is_err_and c.from_residual.result c.from_residual.ensures.1 in
    rw (p.1, p.2) (made_refused (closing c.args.is_valid c.args.claim c.args.at) _ _ _ _ c.in_err-close.ensures)

pub write_then_commit-requires-clause-body : goal.write_then_commit-requires-clause-body
write_then_commit-requires-clause-body g c =
    rw (made_size (closing c.args.is_valid c.args.claim c.args.at) (g.D.Disk.view c.args.disk.now) (g.D.Disk.view c.close.new.disk) _ c.in_ok-close.ensures) c.requires.room

pub write_then_commit-requires-clause-commit : goal.write_then_commit-requires-clause-commit
write_then_commit-requires-clause-commit g c =
    rw (made_size (closing c.args.is_valid c.args.claim c.args.at) (g.D.Disk.view c.args.disk.now) (g.D.Disk.view c.close.new.disk) _ c.in_ok-close.ensures) (omega (arith, c.requires.room))

pub returns : goal.returns
returns g c =
    made_append (closing c.args.is_valid c.args.claim c.args.at) _ (g.D.Disk.view c.args.disk.now) (g.D.Disk.view c.close.new.disk) (g.D.Disk.view c.write_then_commit.new.disk) _ _ c.in_ok-close.ensures c.write_then_commit.ensures
