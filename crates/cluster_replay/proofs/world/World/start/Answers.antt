use Rattle.std.proofs.Common.{◌≡◌, ◌+◌, ◌-◌, ◌<◌, ◌≤◌, ap, arith}
use Rattle.cluster_worlds.specs.Worlds.{starts_of}
use Rattle.cluster_replay.specs.Playing.{Played}
use Rattle.cluster_replay.proofs.Beginning.{sound_start}
use Rattle.cluster_replay.proofs.world.World.start.Goals as goal

pub invariant_of-self : goal.invariant_of-self
invariant_of-self g c =
    let steps : c.self.inside.steps ≡ c.args.self.now.world.steps = ap (λ (p : Played). p.world.steps) c.self.view_is in
    let few : c.starts_of-inc.result + 1 ≤ c.self.inside.steps = let count : c.starts_of-inc.result ≡ starts_of c.args.node c.args.self.now.world = c.starts_of-inc.ensures in
    let fewer : starts_of c.args.node c.args.self.now.world < c.args.self.now.world.steps = c.requires.fewer in omega arith in
    let at : c.args.node ≡ (c.args.node - 1) + 1 = omega (arith, c.requires.node.first) in
    sound_start _ c.args.node (c.args.node - 1) _ (c.starts_of-inc.result + 1) c.start.result c.self.invariant at c.start.ensures few
