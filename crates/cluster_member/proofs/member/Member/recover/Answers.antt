use Rattle.std.proofs.Common.{ℕ, Err, subst}
use Rattle.record_log.specs.Opening.{OpensTo}
use Rattle.cluster_member.proofs.Installations.{recovers_not, recovers_well}
use Rattle.cluster_member.proofs.member.Member.recover.Goals as goal

pub returns-in-Ok-clause-recovers : goal.returns-in-Ok-clause-recovers
returns-in-Ok-clause-recovers g c =
    let e = c.in-Ok.ensures in
    recovers_well (g.D.Disk.view c.args.disk.now) c.args.self.now c.args.view.now c.in-Ok.log c.in-Ok.recovered c.stand_up.result c.stand_up.new.self (g.D.Disk.view c.recover.new.disk)
    (rw (← c.number.ensures.number) e.opens) (rw (← c.number.ensures.number) e.calls) (rw (← c.number.ensures.number) e.any_moment) c.stand_up.ensures.comes c.stand_up.ensures.kept

pub returns-in-Err-clause-recovers : goal.returns-in-Err-clause-recovers
returns-in-Err-clause-recovers g c =
    let e = c.in-Err.ensures in
    let opens = subst (λ (n : ℕ). OpensTo n (g.D.Disk.view c.args.disk.now) (Err c.in-Err.fault) (g.D.Disk.view c.recover.new.disk)) c.number.ensures.number e.opens in
    recovers_not (g.D.Disk.view c.args.disk.now) c.args.self.now c.args.view.now c.in-Err.fault c.into.result c.args.self.now (g.D.Disk.view c.recover.new.disk)
    opens (rw (← c.number.ensures.number) e.calls) (rw (← c.number.ensures.number) e.any_moment) c.into.ensures
