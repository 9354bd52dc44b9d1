use Rattle.hive_text.proofs.CutLaws.{done_more, none_taken}
use Rattle.hive_text.proofs.batcher.Batcher.close.Goals as goal

pub returns-clause-sound : goal.returns-clause-sound
returns-clause-sound c =
    let old = c.args.self.now in
    record {
      taken = rw (c.replace-taken.ensures.after, c.new.ensures.items) none_taken;
      done = rw (c.in_ok-push.ensures.items, c.new-2.ensures, c.replace-taken.ensures.value) (done_more old.done.items old.taken.items old.size c.requires.sound.done c.requires.sound.taken c.requires.some);
    }
