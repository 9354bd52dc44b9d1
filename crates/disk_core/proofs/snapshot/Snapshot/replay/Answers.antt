use Rattle.std.proofs.Common.{arith}
use Rattle.std.proofs.lemmas.List.{drop_more, drop_all}
use Rattle.disk_core.specs.declared.note.Note.TheVariants.{Wrote}
use Rattle.disk_core.specs.Notes.{replay}
use Rattle.disk_core.proofs.Sounds.{replay-next}
use Rattle.disk_core.proofs.snapshot.Snapshot.replay.Goals as goal

pub apply-requires-clause-within : goal.apply-requires-clause-within
apply-requires-clause-within c =
    (rw (drop_more c.args.notes.now c.loop-note.note-index (Wrote 0 0 0 0) c.loop-note-test.true) at c.loop-note.invariant.within).0

pub apply-requires-clause-room : goal.apply-requires-clause-room
apply-requires-clause-room c = omega (arith, c.loop-note.invariant.room, c.loop-note-test.true)

pub loop-note-preserved : goal.loop-note-preserved
loop-note-preserved c =
    let i = c.loop-note.invariant in
    let next = replay-next c.args.store.now.items c.args.notes.now c.loop-note.note-index (Wrote 0 0 0 0) c.loop-note.self c.apply.new.self _ c.loop-note-test.true c.apply.ensures i.replayed i.within i.room in
    record { replayed = next.0; within = next.1; room = next.2 }

pub returns : goal.returns
unfolding replay
returns c = rw (drop_all c.loop-note.note-index c.args.notes.now c.loop-note-test.false) at c.loop-note.invariant.replayed
