use Rattle.hive_text.proofs.CutLaws.{more_taken}
use Rattle.hive_text.proofs.batcher.Batcher.append.Goals as goal

pub returns-clause-sound : goal.returns-clause-sound
returns-clause-sound c =
    let old = c.args.self.now in
    record {
      taken = rw c.in_ok-push.ensures.items (more_taken old.taken.items c.args.change old.size c.args.size c.requires.sound.taken c.requires.valid c.requires.size c.requires.few c.requires.short);
      done = c.requires.sound.done;
    }
