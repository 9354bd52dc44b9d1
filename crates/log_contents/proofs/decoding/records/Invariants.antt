use Rattle.std.proofs.Common.{◌≡◌, ◌+◌, length, take}
use Rattle.log_contents.specs.Contents.{AreRecords}
use Rattle.log_contents.proofs.decoding.records.Given as goal

abbrev pub invariant-records : goal.invariant-records
invariant-records l = record {
  good : AreRecords l.found.version (l.found.base + 1) (take l.stored-index l.stored-items) l.items.items;
  many : length l.items.items ≡ l.stored-index;
}
