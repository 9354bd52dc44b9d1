use Rattle.std.proofs.Common.{sym, ◌∙◌}
use Rattle.rpc_assoc.proofs.AcceptedLaws.{accepts_bound}
use Rattle.rpc_assoc.proofs.assoc.Assoc.call.Goals as goal

pub returns-then-has_accepted-clause-grouped : goal.returns-then-has_accepted-clause-grouped
returns-then-has_accepted-clause-grouped c =
    let accepted = sym c.has_accepted.ensures.accepted ∙ c.if-has_accepted.true in
    accepts_bound c.args.self.now.terms c.args.self.now.accepted c.args.call.context c.has_accepted.ensures.bound accepted
