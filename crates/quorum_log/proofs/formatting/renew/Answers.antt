use Rattle.std.proofs.Common.{arith}
use Rattle.std.proofs.lemmas.Result.{err_from_is_err_and}
use Rattle.quorum_log.specs.Changes.{closing}
use Rattle.quorum_log.specs.Formats.{body_calls}
use Rattle.quorum_log.proofs.Checkpointed.{made_append, made_refused, made_size}
use Rattle.quorum_log.proofs.formatting.renew.Goals as goal

pub returns-in_err-close : goal.returns-in_err-close
returns-in_err-close g c =
    let p = err_from_is_err_and c.from_residual.result c.from_residual.ensures.1 in
    rw (p.1, p.2) (made_refused (closing c.args.is_open c.args.claim 0) _ _ _ _ c.in_err-close.ensures)

pub write_body-requires-clause-disk_size : goal.write_body-requires-clause-disk_size
write_body-requires-clause-disk_size g c =
    rw (made_size (closing c.args.is_open c.args.claim 0) (g.D.Disk.view c.args.disk.now) (g.D.Disk.view c.close.new.disk) _ c.in_ok-close.ensures) c.requires.disk_size

pub returns-in_err-write_body : goal.returns-in_err-write_body
returns-in_err-write_body g c =
    let p = err_from_is_err_and c.from_residual-in_err-write_body.result c.from_residual-in_err-write_body.ensures.1 in
    rw (p.1, p.2) (made_append (closing c.args.is_open c.args.claim 0) _ (g.D.Disk.view c.args.disk.now) (g.D.Disk.view c.close.new.disk) (g.D.Disk.view c.write_body.new.disk) _ _ c.in_ok-close.ensures
    (made_refused (body_calls c.args.claim c.args.cap c.args.first.now) _ _ _ _ c.in_err-write_body.ensures))

pub write_then_commit-requires-clause-body : goal.write_then_commit-requires-clause-body
write_then_commit-requires-clause-body g c =
    let one = made_size (closing c.args.is_open c.args.claim 0) (g.D.Disk.view c.args.disk.now) (g.D.Disk.view c.close.new.disk) _ c.in_ok-close.ensures in
    let two = made_size (body_calls c.args.claim c.args.cap c.args.first.now) (g.D.Disk.view c.close.new.disk) (g.D.Disk.view c.write_body.new.disk) _ c.in_ok-write_body.ensures in
    omega (arith, one, two, c.requires.disk_size, c.half_at.ensures)

pub write_then_commit-requires-clause-commit : goal.write_then_commit-requires-clause-commit
write_then_commit-requires-clause-commit g c =
    let one = made_size (closing c.args.is_open c.args.claim 0) (g.D.Disk.view c.args.disk.now) (g.D.Disk.view c.close.new.disk) _ c.in_ok-close.ensures in
    let two = made_size (body_calls c.args.claim c.args.cap c.args.first.now) (g.D.Disk.view c.close.new.disk) (g.D.Disk.view c.write_body.new.disk) _ c.in_ok-write_body.ensures in
    omega (arith, one, two, c.requires.disk_size)

pub returns : goal.returns
returns g c =
    let last = rw c.half_at.ensures at c.write_then_commit.ensures in
    made_append (closing c.args.is_open c.args.claim 0) _ (g.D.Disk.view c.args.disk.now) (g.D.Disk.view c.close.new.disk) (g.D.Disk.view c.write_then_commit.new.disk) _ _ c.in_ok-close.ensures
    (made_append (body_calls c.args.claim c.args.cap c.args.first.now) _ (g.D.Disk.view c.close.new.disk) (g.D.Disk.view c.write_body.new.disk) (g.D.Disk.view c.write_then_commit.new.disk) _ _ c.in_ok-write_body.ensures last)
