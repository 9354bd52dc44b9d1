use Rattle.std.proofs.Common.{arith}
use Rattle.quorum_log.proofs.Formatted.{formatted, format_answer, format_same}
use Rattle.quorum_log.proofs.formatting.format.Goals as goal

pub returns-clause-any_moment : goal.returns-clause-any_moment
returns-clause-any_moment g c = λ told.
    let r = c.requires in
    let whole = g.met.D.Disk.whole c.args.disk.now told in
    (formatted c.args.claim c.args.cap c.args.first.now _ _ _ r.cap.0 r.cap.1 r.first (omega (arith, whole, r.disk_size)) told c.make_log.ensures).0

pub returns-clause-formatted : goal.returns-clause-formatted
returns-clause-formatted g c = λ told.
    let r = c.requires in
    let whole = g.met.D.Disk.whole c.args.disk.now told in
    (formatted c.args.claim c.args.cap c.args.first.now _ _ _ r.cap.0 r.cap.1 r.first (omega (arith, whole, r.disk_size)) told c.make_log.ensures).1

pub returns-clause-claimed : goal.returns-clause-claimed
returns-clause-claimed g c = (format_answer c.args.claim c.args.cap c.args.first.now _ _ _ c.make_log.ensures).1

pub returns-clause-answer : goal.returns-clause-answer
returns-clause-answer g c = (format_answer c.args.claim c.args.cap c.args.first.now _ _ _ c.make_log.ensures).0

pub returns-clause-same : goal.returns-clause-same
returns-clause-same g c = format_same c.args.claim c.args.cap c.args.first.now _ _ _ c.make_log.ensures
