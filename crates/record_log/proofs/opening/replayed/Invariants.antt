use Rattle.std.proofs.Common.{◌≡◌, drop}
use Rattle.cluster_rules.specs.Machines.{replay}
use Rattle.registry_machine.specs.Machine.{registry_machine, replicated}
use Rattle.record_log.proofs.opening.replayed.Given as goal

abbrev pub invariant-records : goal.invariant-records
invariant-records l = record {
  replayed : replay registry_machine (drop l.record-index l.records) (replicated l.registry) ≡ replay registry_machine l.records (replicated l.fn.registry);
  cap : l.registry.cap ≡ l.fn.registry.cap;
}
