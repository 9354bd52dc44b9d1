use Rattle.std.proofs.Common.{◌≡◌, ◌+◌, drop}
use Rattle.registry_defs.specs.Applying.{changes_applied}
use Rattle.registry_defs.specs.Contents.{keys_in}
use Rattle.clus_registry.proofs.registry.Registry.apply_all.Given as goal

abbrev pub invariant-loop-change : goal.invariant-loop-change
invariant-loop-change l = record {
  number : l.number ≡ l.change-index;
  cap : l.changed.cap ≡ l.self.cap;
  rest : changes_applied l.self.cap l.place l.stamp (keys_in l.self) (l.number + 1) (drop l.change-index l.changes) (keys_in l.changed) ≡ changes_applied l.self.cap l.place l.stamp (keys_in l.self) 1 l.changes (keys_in l.self);
}
