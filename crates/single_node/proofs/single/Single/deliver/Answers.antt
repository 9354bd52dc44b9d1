use Rattle.std.proofs.Common.{subst}
use Rattle.single_node.specs.Singles.{Delivers, SingleState}
use Rattle.single_node.proofs.Starting.{breaks_off_at}
use Rattle.single_node.proofs.single.Single.deliver.Goals as goal

pub returns-in_err-effects-clause-delivers : goal.returns-in_err-effects-clause-delivers
returns-in_err-effects-clause-delivers g c =
    let s : SingleState = record { node = c.self.inside.node; left = c.self.inside.left.items } in
    let t : SingleState = record { node = c.receive.new.self; left = c.self.inside.left.items } in
    subst (λ (x : SingleState). Delivers x (g.D.Disk.view c.args.disk.now) c.from_residual.result t (g.D.Disk.view c.receive.new.disk)) c.self.view_is
    (breaks_off_at s t (g.D.Disk.view c.args.disk.now) (g.D.Disk.view c.receive.new.disk) c.in-Some.message.now c.receive.result c.receive.new.self.running c.from_residual.result
    (rw c.deref.ensures.value at c.in-Some.ensures.value) c.receive.ensures.receives c.from_residual.ensures.0)

pub returns-in_err-keep_sent-clause-delivers : goal.returns-in_err-keep_sent-clause-delivers
returns-in_err-keep_sent-clause-delivers g c =
    let s : SingleState = record { node = c.self.inside.node; left = c.self.inside.left.items } in
    let t : SingleState = record { node = c.receive.new.self; left = c.keep_sent.new.left.items } in
    subst (λ (x : SingleState). Delivers x (g.D.Disk.view c.args.disk.now) c.from_residual-in_err-keep_sent.result t (g.D.Disk.view c.receive.new.disk)) c.self.view_is
    (breaks_off_at s t (g.D.Disk.view c.args.disk.now) (g.D.Disk.view c.receive.new.disk) c.in-Some.message.now c.receive.result c.receive.new.self.running c.from_residual-in_err-keep_sent.result
    (rw c.deref.ensures.value at c.in-Some.ensures.value) c.receive.ensures.receives c.from_residual-in_err-keep_sent.ensures.0)
