use Rattle.std.proofs.Common.{◌≡◌, drop}
use Rattle.quorum_log.specs.Image.{commit_behind, tail_of}
use Rattle.quorum_log.proofs.found.Found.tail.Given as goal

abbrev pub invariant-records : goal.invariant-records
invariant-records l = commit_behind l.at (drop l.record-index l.records) ≡ tail_of l.self
