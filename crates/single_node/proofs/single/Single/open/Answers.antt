use Rattle.std.proofs.Common.{◌≡◌, ap, ◌∙◌, []}
use Rattle.cluster_node.specs.States.{NodeValue, clocked, started}
use Rattle.single_node.proofs.Starting.{opens_ok, opens_refused, opens_with_room}
use Rattle.single_node.proofs.single.Single.open.Goals as goal

pub returns-in-Ok-clause-opens : goal.returns-in-Ok-clause-opens
returns-in-Ok-clause-opens g c =
    rw c.new.ensures.items (opens_ok c.args.inc c.args.stamp (g.D.Disk.view c.args.disk.now) (g.D.Disk.view c.install.new.disk) c.clock.new.self c.install.new.node c.requires.incarnation
    (c.clock.ensures ∙ ap (clocked c.args.stamp) c.start-node.ensures) c.in-Ok.ensures.installs c.in-Ok.ensures.same)

pub returns-in-Ok-clause-room : goal.returns-in-Ok-clause-room
returns-in-Ok-clause-room g c =
    opens_with_room c.args.inc c.args.stamp (g.D.Disk.view c.args.disk.now) (g.D.Disk.view c.install.new.disk) c.clock.new.self c.install.new.node c.requires.incarnation
    (c.clock.ensures ∙ ap (clocked c.args.stamp) c.start-node.ensures) c.in-Ok.ensures.installs c.in-Ok.ensures.same_disk

pub returns-in-Err-clause-opens : goal.returns-in-Err-clause-opens
returns-in-Err-clause-opens g c =
    opens_refused c.args.inc c.args.stamp (g.D.Disk.view c.args.disk.now) (g.D.Disk.view c.install.new.disk) c.clock.new.self c.install.new.node c.in-Err.fault c.requires.incarnation
    (c.clock.ensures ∙ ap (clocked c.args.stamp) c.start-node.ensures) c.in-Err.ensures.installs
