use Rattle.std.proofs.Common.{rules, inl, inr, arith}
use Rattle.std.proofs.lemmas.Result.{err_from_is_err_and}
use Rattle.quorum_log.proofs.Opened.{taken_ok}
use Rattle.quorum_log.proofs.formatting.make_log.Goals as goal

pub read_byte-requires : goal.read_byte-requires
read_byte-requires g c =
    let taken = taken_ok c.args.claim (g.D.Disk.view c.args.disk.now) (g.D.Disk.view c.take_over.new.disk) c.in_ok-take_over.field-0 c.in_ok-take_over.ensures in
    omega (arith, taken.same.size, c.requires.disk_size)

pub returns-in_err-byte : goal.returns-in_err-byte
returns-in_err-byte g c =
    let p = err_from_is_err_and c.from_residual-in_err-byte.result c.from_residual-in_err-byte.ensures.1 in
    inl (g.D.Disk.view c.take_over.new.disk, c.in_ok-take_over.ensures, inr (c.in_err-byte.field-0.0, c.in_err-byte.ensures, rw (p.1, p.2) (search rules)))

pub renew-requires-clause-disk_size : goal.renew-requires-clause-disk_size
renew-requires-clause-disk_size g c =
    let taken = taken_ok c.args.claim (g.D.Disk.view c.args.disk.now) (g.D.Disk.view c.take_over.new.disk) c.in_ok-take_over.field-0 c.in_ok-take_over.ensures in
    omega (arith, taken.same.size, c.in_ok-byte.ensures.same.size, c.requires.disk_size)
