use Rattle.std.proofs.Common.{List, ℕ, ap, length, sym, ◌∙◌}
use Rattle.cluster_rules.specs.Nodes.{NodeState}
use Rattle.cluster_rules.specs.Joins.{on_piece}
use Rattle.registry_machine.specs.Machine.{registry_machine}
use Rattle.member_rules.proofs.Follows.{fed_whole, goes_as, piece_pulls_at, unfed_whole}
use Rattle.member_rules.proofs.rules.Rules.piece.Goals as goal

pub invariant_of-self-in_err-feed-in-Pull : goal.invariant_of-self-in_err-feed-in-Pull
invariant_of-self-in_err-feed-in-Pull c =
    unfed_whole c.piece.new.self c.in_ok-next.field-0 c.self.inside.pulled c.feed.new.pulled c.args.total c.args.offset (length c.as_slice.result.now)
    c.self.invariant c.in_ok-next.ensures.pulled c.in_err-feed-in-Pull.ensures.unchanged

pub invariant_of-self-in-Pull : goal.invariant_of-self-in-Pull
invariant_of-self-in-Pull c =
    fed_whole c.piece.new.self c.in_ok-next.field-0 c.self.inside.pulled c.feed.new.pulled c.args.total c.args.offset (length c.as_slice.result.now) c.args.bytes.now
    c.self.invariant c.in_ok-next.ensures.pulled c.in_ok-feed-in-Pull.ensures.fed

pub invariant_of-self-in_err-feed-in-Whole : goal.invariant_of-self-in_err-feed-in-Whole
invariant_of-self-in_err-feed-in-Whole c =
    unfed_whole c.piece.new.self c.in_ok-next.field-0 c.self.inside.pulled c.feed-in-Whole.new.pulled c.args.total c.args.offset (length c.as_slice.result.now)
    c.self.invariant c.in_ok-next.ensures.pulled c.in_err-feed-in-Whole.ensures.unchanged

pub invariant_of-self-in-Whole : goal.invariant_of-self-in-Whole
invariant_of-self-in-Whole c =
    fed_whole c.piece.new.self c.in_ok-next.field-0 c.self.inside.pulled c.feed-in-Whole.new.pulled c.args.total c.args.offset (length c.as_slice.result.now) c.args.bytes.now
    c.self.invariant c.in_ok-next.ensures.pulled c.in_ok-feed-in-Whole.ensures.fed

pub returns-in_ok-feed-in-Pull-clause-gathers : goal.returns-in_ok-feed-in-Pull-clause-gathers
returns-in_ok-feed-in-Pull-clause-gathers c =
    let inside = c.self.inside in
    let same = ap (λ (b : List ℕ). length b) c.as_slice.ensures in
    goes_as _ _ _ _ (
    ap (λ (z : NodeState registry_machine). on_piece z c.args.total c.args.offset c.args.bytes.now) (sym c.self.view_is)
    ∙ piece_pulls_at inside.stamp inside.core inside.join c.piece.new.self inside.replica inside.last inside.pulled c.feed.new.pulled inside.spreads inside.settled inside.outcome
    c.args.total c.args.offset (length c.as_slice.result.now) c.args.bytes.now c.self.invariant c.in_ok-next.field-0 c.in_ok-next.ensures.pulled same c.in_ok-feed-in-Pull.ensures.fed c.in-Pull.next c.in-Pull.is
    ) c.ask_piece.ensures
