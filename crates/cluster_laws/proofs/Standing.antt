-- No reachable world is stuck: where it lost all that is under way it is sound, and a view that stood in it stands.
use Rattle.std.proofs.Common.{ℕ, List}
use Rattle.cluster_rules.specs.Machines.{Machine, IsMachine}
use Rattle.cluster_rules.specs.Worlds.{Event, World, opening, run}
use Rattle.cluster_rules.specs.Progress.{Served, Unstuck}
use Rattle.cluster_laws.proofs.Leading.{Stand}
use Rattle.cluster_laws.proofs.Losing.{leads_anew, lost, lost_sound, served_behind}
use Rattle.cluster_laws.proofs.Opens.{stand_served}
use Rattle.cluster_laws.proofs.Sound.{Sound, all_sound}

module _ {M : Machine} where
  sound_unstuck : IsMachine M → (w : World M) → Sound w → Unstuck w
  sound_unstuck law w h v s room =
      let stand : Stand (lost w) v = record {
        sound = lost_sound w h;
        shape = h.shapes v.number v s.declared;
        held = s.held;
        member = λ n lt. let m = s.member n lt in (m.0, record { node = m.1.node; inc = m.1.inc; view = m.1.view });
      } in
      leads_anew w (λ u. Served u v) (λ before u done. served_behind v before u done) (stand_served law v (lost w) stand (h.inv.chain.locker v.number v s.declared) room)

module _ (M : Machine) where
  pub all_unstuck : IsMachine M → (cap : ℕ) (es : List Event) → M.IsCap cap → Unstuck (run es (opening M cap))
  all_unstuck law cap es is_cap = sound_unstuck law (run es (opening M cap)) (all_sound M law cap es is_cap)
