use Rattle.std.proofs.Common.{rules}
use Rattle.cluster_member.proofs.Writings.{written}
use Rattle.cluster_member.proofs.member.Member.write.Goals as goal

pub returns-in-Ok-logged-clause-writes : goal.returns-in-Ok-logged-clause-writes
returns-in-Ok-logged-clause-writes g c =
    written (g.D.Disk.view c.args.disk.now) c.args.self.now _ c.args.entry.now c.in-Some.log c.in-Ok.log c.in-Ok-logged.told (g.D.Disk.view c.add.new.disk)
    (search rules) (search rules) (search rules) (search rules) (search rules) (search rules)
