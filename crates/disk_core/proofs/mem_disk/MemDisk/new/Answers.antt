use Rattle.std.proofs.Common.{ℕ, refl, arith}
use Rattle.std.proofs.lemmas.List.{length-replicate}
use Rattle.disk_core.specs.Notes.{befores}
use Rattle.disk_core.proofs.Sounds.{sound-new}
use Rattle.disk_core.proofs.mem_disk.MemDisk.new.Goals as goal

pub invariant_of-result : goal.invariant_of-result
invariant_of-result c =
    rw (c.in_ok-marked.ensures, c.in_ok-present.ensures, c.in_ok-notes.ensures.items, c.in_ok-store.ensures.items)
    (sound-new c.args.size _ refl, record { notes_room = omega (arith, c.in_ok-notes.ensures.capacity); store_room = omega (arith, c.in_ok-store.ensures.capacity, length-replicate {A = ℕ} c.args.size 0) })

pub returns : goal.returns
unfolding befores
returns c = rw (c.in_ok-marked.ensures, c.in_ok-present.ensures, c.in_ok-notes.ensures.items) refl
