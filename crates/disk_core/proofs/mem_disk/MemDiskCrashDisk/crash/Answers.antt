use Rattle.std.proofs.Common.{◌≡◌, length, min, ap, ◌∙◌, arith}
use Rattle.disk_core.specs.Notes.{befores}
use Rattle.disk_core.specs.Crashes.{after_crash}
use Rattle.disk_core.proofs.Fills.{filled-size}
use Rattle.disk_core.proofs.Replays.{within-take}
use Rattle.disk_core.proofs.Sounds.{sound-marked}
use Rattle.disk_core.proofs.Returning.{back-within, is_crashed}
use Rattle.disk_core.proofs.mem_disk.MemDiskCrashDisk.crash.Goals as goal

pub replay-requires-clause-within : goal.replay-requires-clause-within
replay-requires-clause-within c =
    let i = c.self.inside in
    let sound = c.self.invariant.0 in
    rw (c.deref.ensures.value, sound.size) (within-take (length i.present.seen) (length i.store.items) i.notes.items c.min-calls.result sound.notes_within)

pub settle-requires : goal.settle-requires
settle-requires c =
    let i = c.self.inside in
    (back-within i.marked i.present i.notes.items i.store.items i.bytes_left c.min-calls.result c.replay.new.self c.self.invariant.0 (rw c.deref.ensures.value at c.replay.ensures)).1

pub copy_from-requires-clause-size : goal.copy_from-requires-clause-size
copy_from-requires-clause-size c =
    let i = c.self.inside in
    let back = back-within i.marked i.present i.notes.items i.store.items i.bytes_left c.min-calls.result c.replay.new.self c.self.invariant.0 (rw c.deref.ensures.value at c.replay.ensures) in
    rw c.settle.ensures (filled-size c.replay.new.self.pending c.args.bytes.now c.replay.new.self.seen back.1 ∙ back.0)

pub invariant_of-self : goal.invariant_of-self
invariant_of-self c =
    let i = c.self.inside in
    let back = back-within i.marked i.present i.notes.items i.store.items i.bytes_left c.min-calls.result c.replay.new.self c.self.invariant.0 (rw c.deref.ensures.value at c.replay.ensures) in
    let filled_size = filled-size c.replay.new.self.pending c.args.bytes.now c.replay.new.self.seen back.1 ∙ back.0 in
    let size = c.size-self-inside.ensures ∙ ap (λ m. length m.seen) c.copy_from.ensures ∙ ap (λ m. length m.seen) c.settle.ensures in
    rw (c.copy_from.ensures, c.clear.ensures.items, c.clear-2.ensures.items, c.settle.ensures) (
      sound-marked (after_crash c.replay.new.self c.args.bytes.now) c.size-self-inside.result tt (omega arith) (omega (arith, size)),
      record { notes_room = omega (arith, c.self.invariant.1.notes_room, c.clear.ensures.capacity); store_room = omega (arith, c.self.invariant.1.store_room, c.clear-2.ensures.capacity, filled_size) },
    )

pub returns : goal.returns
unfolding befores
returns c =
    let i = c.self.inside in
    let count : c.min-calls.result ≡ min (length i.notes.items) c.args.moment = c.min-calls.ensures ∙ ap (λ n. min n c.args.moment) (omega (arith, c.len.ensures)) in
    rw (c.clear.ensures.items, c.copy_from.ensures, ← c.self.view_is)
    (is_crashed i.marked i.present c.replay.new.self c.settle.new.self i.notes.items i.store.items c.args.bytes.now i.bytes_left i.faults i.awaits c.min-calls.result c.args.moment c.size-self-inside.result
    c.self.invariant.0 count (rw c.deref.ensures.value at c.replay.ensures) c.settle.ensures (c.size-self-inside.ensures ∙ ap (λ m. length m.seen) c.copy_from.ensures))
