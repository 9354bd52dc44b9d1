use Rattle.std.proofs.Common.{List, ◌∙◌, subst}
use Rattle.std.specs.Prelude.{All}
use Rattle.gum_messages.specs.declared.member.Member.{Member}
use Rattle.cluster_replay.specs.Types.{HasLowInc}
use Rattle.cluster_replay.proofs.Typed.{low_incs}
use Rattle.cluster_replay.proofs.reading.read_view.Goals as goal

pub returns-clause-incs : goal.returns-clause-incs
returns-clause-incs c =
    low_incs c.args.view.now.members (subst (λ (ms : List Member). All HasLowInc ms) (c.as_slice.ensures ∙ c.members.ensures.members) c.read_members.ensures)
