use Rattle.std.proofs.Common.{◌≡◌, length, drop}
use Rattle.disk_core.specs.Crashes.{filled}
use Rattle.disk_core.specs.Notes.{AreWithin}
use Rattle.disk_core.proofs.snapshot.fill.Given as goal

abbrev pub invariant-loop-span : goal.invariant-loop-span
invariant-loop-span l = record {
  filled_so_far : filled (drop l.span-index l.pending) l.rest l.image.items ≡ filled l.pending l.bytes l.initial.image.items;
  within : AreWithin (length l.image.items) (drop l.span-index l.pending);
}
