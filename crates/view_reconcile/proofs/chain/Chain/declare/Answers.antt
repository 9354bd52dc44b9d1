use Rattle.std.proofs.Common.{◌≡◌, List, None, Some, subst}
use Rattle.gum_messages.specs.declared.view.View.{View}
use Rattle.gum_messages.specs.Views.{Ascend}
use Rattle.view_reconcile.specs.Chains.{IsChain, fault_of}
use Rattle.view_reconcile.proofs.Chaining.{no_chain, stays_chain}
use Rattle.view_reconcile.proofs.chain.Chain.declare.Goals as goal

pub returns-in-Some-clause-no_chain : goal.returns-in-Some-clause-no_chain
returns-in-Some-clause-no_chain c =
    let up = subst (λ (v : View). Ascend 0 v.members) c.view.view_is c.view.invariant.ascending in
    let at : fault_of c.args.self.now c.args.view ≡ Some c.in-Some.fault = cc c.in-Some.ensures in
    λ other. no_chain c.args.self.now c.args.view c.in-Some.fault up at

pub invariant_of-self-2 : goal.invariant_of-self-2
invariant_of-self-2 c =
    let old : IsChain c.args.self.now = subst (λ (chain : List View). IsChain chain) c.self.view_is c.self.invariant in
    let none : fault_of c.args.self.now c.args.view ≡ None = cc c.in_default.ensures in
    rw (c.in_ok-push.ensures.items, c.self.view_is) (stays_chain c.args.self.now c.args.view old none)

pub returns-clause-chain : goal.returns-clause-chain
returns-clause-chain c =
    let old : IsChain c.args.self.now = subst (λ (chain : List View). IsChain chain) c.self.view_is c.self.invariant in
    let none : fault_of c.args.self.now c.args.view ≡ None = cc c.in_default.ensures in
    stays_chain c.args.self.now c.args.view old none
