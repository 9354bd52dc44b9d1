use Rattle.std.proofs.Common.{◌+◌, ◌-◌, ◌<◌, ◌++◌, length, refl, ap, arith, length-append}
use Rattle.disk_core.specs.declared.note.Note.TheVariants.{Wrote}
use Rattle.disk_core.specs.Notes.{Memory, IsNoteWithin}
use Rattle.disk_core.proofs.Replays.{after-size}
use Rattle.disk_core.proofs.Sounds.{sound-push, noted-written, wrote-total}
use Rattle.disk_core.proofs.mem_disk.MemDisk.put.Goals as goal

pub invariant_of-self : goal.invariant_of-self
invariant_of-self c =
    let i = c.self.inside in
    let sound = c.self.invariant.0 in
    let left = ap (λ (m : Memory). m.calls_left) c.self.view_is in
    let bytes_left = ap (λ (m : Memory). m.bytes_left) c.self.view_is in
    let seen = ap (λ (m : Memory). length m.current.seen) c.self.view_is in
    let room : length i.marked.pending + length i.notes.items < 4096 = omega (arith, c.requires.calls, left) in
    let store = i.store.items ++ c.args.bytes.now in
    let n = Wrote c.args.at c.args.len c.append-from.result (length c.args.bytes.now) in
    let within : IsNoteWithin (length i.present.seen) (length store) n =
    (omega (arith, c.requires.within, seen), c.requires.part, omega (arith, c.append-from.ensures.from, length-append i.store.items c.args.bytes.now)) in
    let size = after-size (length store) store n i.present refl within in
    rw (c.push_note.ensures.items, c.apply.ensures, c.append-from.ensures.items) (
      sound-push i.marked i.present i.notes.items n i.store.items store c.args.bytes.now i.bytes_left (i.bytes_left - c.args.len) sound refl within room
          (omega (arith, c.requires.part, c.requires.room, bytes_left)) (omega (arith, wrote-total i.present.pending c.args.at c.args.len, sound.bytes, c.requires.room, bytes_left)),
      record { notes_room = omega (arith, c.self.invariant.1.notes_room, c.push_note.ensures.room_kept); store_room = omega (arith, c.self.invariant.1.store_room, c.append-from.ensures.room_kept, size) },
    )

pub returns : goal.returns
returns c =
    let i = c.self.inside in
    rw (c.push_note.ensures.items, c.apply.ensures, c.append-from.ensures.items, ← c.self.view_is)
    (noted-written i.marked i.present i.notes.items i.store.items c.args.bytes.now c.args.at c.args.len c.append-from.result i.bytes_left i.faults i.awaits c.self.invariant.0 c.append-from.ensures.from)
