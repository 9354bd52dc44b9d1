use Rattle.std.proofs.Common.{◌≡◌, ℕ, List, ap, refl, ◌∙◌}
use Rattle.cluster_node.specs.Events.{Connects}
use Rattle.cluster_worlds.specs.Happening.{with_conn}
use Rattle.cluster_replay.specs.Playing.{Played, world_of}
use Rattle.cluster_replay.proofs.Acting.{acts_at, ok_by}
use Rattle.cluster_replay.proofs.Connecting.{runs_at, sound_conn, sound_connected, unused_at}
use Rattle.cluster_replay.proofs.world.World.connect.Goals as goal

pub invariant_of-self-in_default : goal.invariant_of-self-in_default
invariant_of-self-in_default g c = sound_conn _ _ c.args.conn c.args.node c.in_ok-insert.ensures.updates.0 c.self.invariant

pub connect_in-requires-clause-runs : goal.connect_in-requires-clause-runs
connect_in-requires-clause-runs g c = runs_at _ _ _ _ _ (ap (λ (p : Played). p.world) c.self.view_is) c.in-Some.ensures c.index_mut-slot.ensures.value

pub connect_in-requires-clause-unused : goal.connect_in-requires-clause-unused
connect_in-requires-clause-unused g c =
    unused_at _ _ _ c.args.conn _ _ (ap (λ (p : Played). p.world) c.self.view_is) c.self.invariant c.in-Some.ensures c.index_mut-slot.ensures.value c.requires.unused

pub invariant_of-self-2 : goal.invariant_of-self-2
invariant_of-self-2 g c =
    sound_connected _ _ _ c.args.conn c.args.node _ _ _ _ _ (ap (λ (p : Played). p.world) c.self.view_is) c.self.invariant c.in_ok-insert.ensures.updates.0 c.in-Some.ensures c.index_mut-slot.ensures.value
    (c.connect_in.ensures.keeps _)

pub returns-clause-acts : goal.returns-clause-acts
returns-clause-acts g c =
    let there = ap (λ (conns : List (ℕ × ℕ)). world_of c.self.inside.nodes.items c.self.inside.starts.items c.self.inside.chain c.self.inside.journal conns c.self.inside.steps (g.D.Disk.view c.self.inside.disk))
    c.in_ok-insert.ensures.entries ∙ ap (λ (p : Played). with_conn c.args.conn c.args.node p.world) c.self.view_is in
    ok_by c.connect_in.result _ _ c.connect_in.ensures.acts
    (λ told acts. acts_at (λ w n es m d. Connects c.args.conn n.running m.running es) (λ w n es m d. Connects c.args.conn n.running m.running es × (d ≡ w.disk)) _ _ _ _ _ _ _ _ told.items
    there (sound_conn _ _ c.args.conn c.args.node c.in_ok-insert.ensures.updates.0 c.self.invariant) c.in-Some.ensures c.index_mut-slot.ensures.value
    (λ n es m r. (r, refl)) (acts _))
