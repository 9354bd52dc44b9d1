-- What every world of a run has: the invariants of the promises, and those that progress needs besides.
use Rattle.std.proofs.Common.{◌≡◌, ℕ, zero, suc, List, [], ◌∷◌, Some, slice_get}
use Rattle.gum_messages.specs.Places.{at_place}
use Rattle.cluster_rules.specs.Machines.{Machine, IsMachine}
use Rattle.cluster_rules.specs.Worlds.{Event, World, happens, opening, run}
use Rattle.cluster_laws.proofs.Inv.{Fitting, Invariant}
use Rattle.cluster_laws.proofs.Fitting.{happens_fits, opening_fits}
use Rattle.cluster_laws.proofs.Lockers.{Lockers}
use Rattle.cluster_laws.proofs.Theorem.{happens_keeps, lockers_keep, opening_ok}
use Rattle.cluster_laws.proofs.Cores.{Cores, cores_keep}
use Rattle.cluster_laws.proofs.Joined.{Joined, joined_keep}
use Rattle.cluster_laws.proofs.Shapes.{Shapes, shapes_keep}

module _ {M : Machine} where
  pub record Sound (w : World M) : Type 0 where
    pub inv : Invariant w
    pub fitting : Fitting w
    pub lockers : Lockers w
    pub cores : Cores w
    pub joins : Joined w
    pub shapes : Shapes w

  pub sound_keeps : IsMachine M → (w : World M) (e : Event) → Sound w → Sound (happens w e)
  sound_keeps law w e h =
      let inv : Invariant (happens w e) = happens_keeps law w e h.inv h.fitting h.lockers in
      record {
        inv = inv;
        fitting = happens_fits law w e h.inv h.fitting;
        lockers = lockers_keep w e h.lockers;
        cores = cores_keep w e h.inv h.cores;
        joins = joined_keep w e h.inv inv h.joins;
        shapes = shapes_keep w e h.shapes;
      }

  run_sound : IsMachine M → (es : List Event) (w : World M) → Sound w → Sound (run es w)
  run_sound law [] w h = h
  run_sound law (e ∷ es) w h = run_sound law es (happens w e) (sound_keeps law w e h)

module _ (M : Machine) where
  opening_sound : (cap : ℕ) → M.IsCap cap → Sound (opening M cap)
  opening_sound cap is_cap = record {
    inv = opening_ok M cap;
    fitting = opening_fits M cap is_cap;
    lockers = λ n x e. absurd (cc);
    cores = λ n x e. absurd (cc);
    joins = record {
      entries = λ n x e. absurd (cc);
      closed = λ n x e. absurd (cc);
      marked = λ n x m e. absurd (cc);
      opened = λ n x m e. absurd (cc);
      readies = λ k p v e. absurd (nothing k p e);
      opens = λ k p v e. absurd (nothing k p e);
    };
    shapes = λ k v e. absurd (none k e);
  }
    where
      nothing : {A : Type 0} (k : ℕ) (p : A) → slice_get [] k ≡ Some p → ⊥
      nothing k p e = cc

      none : {A : Type 0} {p : A} (k : ℕ) → at_place [] k ≡ Some p → ⊥
      none zero e = cc
      none (suc k) e = cc

  pub all_sound : IsMachine M → (cap : ℕ) (es : List Event) → M.IsCap cap → Sound (run es (opening M cap))
  all_sound law cap es is_cap = run_sound law es (opening M cap) (opening_sound cap is_cap)
