use Rattle.std.proofs.Common.{inl, inr, refl}
use Rattle.quorum_log.proofs.Unchanged.{memory_behind_claim}
use Rattle.single_server.proofs.OpenLaws.{counts_made}
use Rattle.single_server.proofs.opening.count_records.Goals as goal

pub returns-in-Ok-clause-counts : goal.returns-in-Ok-clause-counts
returns-in-Ok-clause-counts g c =
    let e = c.in-Ok.ensures in
    rw c.as_slice.ensures (inl (
      c.in-Ok.found,
      record { read = e.read; limits = e.limits; held = e.claimed.1; stands = λ told. (c.in-Ok.field-0-0, e.found told); calls = e.calls; any_moment = e.any_moment },
      refl,
    ))

pub returns-in-Err-Blank-clause-counts : goal.returns-in-Err-Blank-clause-counts
returns-in-Err-Blank-clause-counts g c =
    let e = c.in-Err-Blank.ensures in
    counts_made (g.D.Disk.view c.args.disk.now) (g.D.Disk.view c.open.new.disk) (g.D.Disk.view c.make_log.new.disk) c.make_log.result (rw c.in-Err-Blank.field-0-is at e.fault)
    (rw c.in-Err-Blank.field-0-is at e.calls) e.any_moment e.same c.make_log.ensures.made

pub returns-in-Err-BadImage-clause-counts : goal.returns-in-Err-BadImage-clause-counts
returns-in-Err-BadImage-clause-counts g c =
    let f = rw c.in-Err-BadImage.field-0-is at c.in-Err-BadImage.ensures.fault in
    (f.0, inl (f.1, rw c.in-Err-BadImage.field-0-is at c.in-Err-BadImage.ensures.calls))

pub returns-clause-counts : goal.returns-clause-counts
returns-clause-counts g c = memory_behind_claim 1 (g.D.Disk.view c.args.disk.now) (g.D.Disk.view c.open.new.disk) (rw c.in-Err-Memory.field-0-is at c.in-Err-Memory.ensures.calls)
