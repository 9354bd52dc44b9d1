use Rattle.std.proofs.Common.{◌≡◌, ◌+◌, ◌≤◌, length, drop, ◌-◌}
use Rattle.disk_core.specs.Notes.{replay, AreNotesWithin}
use Rattle.disk_core.proofs.snapshot.Snapshot.replay.Given as goal

abbrev pub invariant-loop-note : goal.invariant-loop-note
invariant-loop-note l = record {
  replayed : replay l.store.items (drop l.note-index l.notes) l.self ≡ replay l.store.items l.notes l.initial.self;
  within : AreNotesWithin (length l.self.seen) (length l.store.items) (drop l.note-index l.notes);
  room : length l.self.pending + (length l.notes - l.note-index) ≤ 4096;
}
