use Rattle.std.proofs.Common.{◌+◌, ◌<◌, [], length, refl, sym, ap, arith}
use Rattle.std.proofs.lemmas.List.{append-nil}
use Rattle.disk_core.specs.Notes.{Memory}
use Rattle.disk_core.proofs.Replays.{after-size}
use Rattle.disk_core.proofs.Sounds.{sound-push, noted-plain, plain-within, plain-total}
use Rattle.disk_core.proofs.mem_disk.MemDisk.note.Goals as goal

pub invariant_of-self : goal.invariant_of-self
invariant_of-self c =
    let i = c.self.inside in
    let sound = c.self.invariant.0 in
    let left = ap (λ (m : Memory). m.calls_left) c.self.view_is in
    let room : length i.marked.pending + length i.notes.items < 4096 = omega (arith, c.requires.calls, left) in
    let within = plain-within (length i.present.seen) (length i.store.items) c.args.note c.requires.plain in
    let size = after-size (length i.store.items) i.store.items c.args.note i.present refl within in
    rw (c.push_note.ensures.items, c.apply.ensures) (
      sound-push i.marked i.present i.notes.items c.args.note i.store.items i.store.items [] i.bytes_left i.bytes_left sound (sym (append-nil i.store.items)) within room
          (omega arith) (omega (arith, plain-total i.store.items c.args.note i.present c.requires.plain, sound.bytes)),
      record { notes_room = omega (arith, c.self.invariant.1.notes_room, c.push_note.ensures.room_kept); store_room = omega (arith, c.self.invariant.1.store_room, size) },
    )

pub returns : goal.returns
returns c =
    let i = c.self.inside in
    rw (c.push_note.ensures.items, c.apply.ensures, ← c.self.view_is) (noted-plain i.marked i.present i.notes.items c.args.note i.store.items i.bytes_left i.faults i.awaits c.self.invariant.0 c.requires.plain)
