use Rattle.std.proofs.Common.{◌-◌, ◌∙◌, arith}
use Rattle.disk_core.specs.Notes.{befores}
use Rattle.disk_core.proofs.Sounds.{sound-marked}
use Rattle.disk_core.proofs.Returning.{is_marked}
use Rattle.disk_core.proofs.mem_disk.MemDiskCrashDisk.mark.Goals as goal

pub invariant_of-self : goal.invariant_of-self
invariant_of-self c =
    let i = c.self.inside in
    let sound = c.self.invariant.0 in
    let same = (rw c.deref.ensures.value at c.replay.ensures) ∙ sound.replayed in
    rw (same, c.clear.ensures.items, c.clear-2.ensures.items) (
      sound-marked i.present (c.size.result - c.pending_bytes.result) sound.within (omega (arith, sound.pending, sound.calls)) (omega (arith, sound.bytes, c.size.ensures, c.pending_bytes.ensures)),
      record { notes_room = omega (arith, c.self.invariant.1.notes_room, c.clear.ensures.capacity); store_room = omega (arith, c.self.invariant.1.store_room, c.clear-2.ensures.capacity) },
    )

pub returns : goal.returns
unfolding befores
returns c =
    let i = c.self.inside in
    let same = (rw c.deref.ensures.value at c.replay.ensures) ∙ c.self.invariant.0.replayed in
    rw (c.clear.ensures.items, ← c.self.view_is)
    (is_marked i.marked i.present c.replay.new.self i.notes.items i.store.items i.bytes_left i.faults i.awaits c.size.result c.pending_bytes.result same c.size.ensures c.pending_bytes.ensures)
