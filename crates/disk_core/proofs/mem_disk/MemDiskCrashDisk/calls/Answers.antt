use Rattle.std.proofs.Common.{length, arith, ap}
use Rattle.disk_core.specs.Notes.{Memory}
use Rattle.disk_core.proofs.Replays.{length-befores}
use Rattle.disk_core.proofs.mem_disk.MemDiskCrashDisk.calls.Goals as goal

pub returns : goal.returns
returns c = λ told.
    let past = ap (λ (m : Memory). length m.past) c.self.view_is in
    omega (arith, past, c.len.ensures, length-befores c.self.inside.store.items c.self.inside.notes.items c.self.inside.marked)
