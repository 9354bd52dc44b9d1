use Rattle.std.proofs.Common.{◌≡◌, ◌-◌, ◌<◌}
use Rattle.quorum_log.specs.Image.{Listed, commit_behind}
use Rattle.quorum_log.proofs.checking.read_records.Given as goal

abbrev pub invariant-records : goal.invariant-records
invariant-records l = record {
  listed : Listed l.image l.end l.start l.records.items;
  place : l.at ≡ commit_behind l.start l.records.items;
  room : l.at < l.end;
}

abbrev pub decreases-records : goal.decreases-records
decreases-records l = l.end - l.at
