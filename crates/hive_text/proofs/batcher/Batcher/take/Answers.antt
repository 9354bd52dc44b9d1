use Rattle.std.proofs.Common.{sym, ◌∙◌}
use Rattle.hive_text.proofs.CutLaws.{full_has_some, room_is, takes_next_if, takes_one_if}
use Rattle.hive_text.proofs.batcher.Batcher.take.Goals as goal

pub returns-then-has_room : goal.returns-then-has_room
returns-then-has_room c =
    let old = c.args.self.now in
    let fits = room_is old.taken.items c.args.change old.size c.args.size c.requires.sound.taken.counted c.requires.size ∙ sym c.has_room.ensures ∙ c.if-has_room.true in
    takes_one_if c.append.result old c.args.change c.append.new.self fits c.append.ensures.sound c.append.ensures.done c.append.ensures.taken

pub close-requires-clause-some : goal.close-requires-clause-some
close-requires-clause-some c =
    let old = c.args.self.now in
    full_has_some old.taken.items old.size c.args.size c.requires.sound.taken c.requires.small (sym c.has_room.ensures ∙ c.if-has_room.false)

pub returns : goal.returns
returns c =
    let old = c.args.self.now in
    let full = room_is old.taken.items c.args.change old.size c.args.size c.requires.sound.taken.counted c.requires.size ∙ sym c.has_room.ensures ∙ c.if-has_room.false in
    takes_next_if c.append-2.result old c.args.change c.close.new.self c.append-2.new.self full c.in_ok-close.ensures.done c.in_ok-close.ensures.taken c.append-2.ensures.sound c.append-2.ensures.done c.append-2.ensures.taken
