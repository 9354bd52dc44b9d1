use Rattle.std.proofs.lemmas.List.Elements.{All-nil}
use Rattle.update_records.specs.Validity.{IsValid}
use Rattle.hive_text.proofs.CutLaws.{none_taken}
use Rattle.hive_text.proofs.batcher.Batcher.new.Goals as goal

pub returns-clause-sound : goal.returns-clause-sound
returns-clause-sound c = record { taken = rw c.new-2.ensures.items none_taken; done = rw c.new.ensures.items (All-nil IsValid) }
