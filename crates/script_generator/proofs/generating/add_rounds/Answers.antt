use Rattle.std.proofs.Common.{◌≡◌, ℕ, ◌+◌, ◌≤◌, ◌++◌, arith, subst}
use Rattle.script_generator.specs.Clusters.{IsWithin, first_cluster}
use Rattle.script_generator.specs.Rounds.{round, rounds}
use Rattle.script_generator.proofs.ClusterLaws.{round_within}
use Rattle.script_generator.proofs.RoundLaws.{rounds_done, rounds_more}
use Rattle.script_generator.proofs.generating.add_rounds.Goals as goal

pub turn-requires : goal.turn-requires
turn-requires c = record { room = (c.rounds.index + 3, c.rounds.invariant.within, omega (arith, c.rounds-test.true, c.ranges.count.fits)) }

pub rounds-preserved : goal.rounds-preserved
rounds-preserved c =
    let index = c.rounds.index in
    let one = round (index + 1) c.rounds.cluster c.rounds.draws.x in
    let all = c.args.script.now.items ++ rounds c.args.count 1 first_cluster c.args.number in
    let same : index + 3 + 1 ≡ index + 1 + 3 = omega arith in
    let within = subst (λ (most : ℕ). IsWithin most one.cluster) same (round_within (index + 1) (index + 3) c.rounds.draws.x c.rounds.cluster c.rounds.invariant.within) in
    let text = rounds_more c.rounds.script.items all c.args.count index c.rounds.draws.x c.rounds.cluster c.rounds-test.true c.rounds.invariant.text in
    let lines = rw c.from.ensures at c.in_ok-lines.ensures.lines in
    let cluster = rw c.from.ensures at c.in_ok-lines.ensures.cluster in
    let draws = rw c.from.ensures at c.in_ok-lines.ensures.draws in
    rw (c.in_ok-extend_from_slice.ensures.items, c.as_bytes.ensures.value, lines, cluster, draws) record { text = text; within = within }

pub returns : goal.returns
returns c =
    let done : c.args.count ≤ c.rounds.index = omega (arith, c.rounds-test.false) in
    rounds_done c.rounds.script.items (c.args.script.now.items ++ rounds c.args.count 1 first_cluster c.args.number) c.args.count c.rounds.index c.rounds.draws.x c.rounds.cluster done c.rounds.invariant.text
