use Rattle.std.proofs.Common.{ap, subst, sym, ◌∙◌}
use Rattle.std.specs.Prelude.{IsSome}
use Rattle.view_reconcile.specs.declared.stage.Stage.TheVariants as stage
use Rattle.cluster_rules.specs.Nodes.{NodeState}
use Rattle.registry_machine.specs.Machine.{registry_machine}
use Rattle.member_rules.proofs.Enters.{sets_out_at}
use Rattle.member_rules.proofs.Ways.{set_out_whole}
use Rattle.member_rules.proofs.rules.Rules.set_out.Goals as goal

pub invariant_of-self-2 : goal.invariant_of-self-2
invariant_of-self-2 c =
    let x = c.args.self.now in
    let v = c.args.view.now in
    let way = c.in_ok-way.way in
    let out = sets_out_at x way c.offer.new.self c.offer.result v c.requires.takes c.requires.here c.in_ok-way.ensures.begins c.offer.ensures in
    set_out_whole c.enter.new.self way c.offer.new.self v c.self.invariant c.in_ok-enter.ensures.entered
    (c.in_ok-way.ensures.begins ∙ ap (λ (z : NodeState registry_machine). record (z.join) { view = v; stage = stage.Waiting; ready = way.ready }) (sym c.self.view_is))
    out
    (subst (λ (z : NodeState registry_machine). IsSome z.replica) (sym c.self.view_is) c.requires.some)
