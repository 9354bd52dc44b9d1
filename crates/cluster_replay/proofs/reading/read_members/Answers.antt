use Rattle.std.proofs.lemmas.List.Elements.{All-more}
use Rattle.cluster_replay.specs.Types.{HasLowInc}
use Rattle.cluster_replay.proofs.Typed.{all_each}
use Rattle.cluster_replay.proofs.reading.read_members.Goals as goal

pub members-preserved : goal.members-preserved
members-preserved c = All-more HasLowInc c.args.members.now c.members.member-index _ c.members-test.true c.members.invariant c.read_member.ensures

pub returns : goal.returns
returns c = all_each HasLowInc c.args.members.now c.members.member-index c.members-test.false c.members.invariant
