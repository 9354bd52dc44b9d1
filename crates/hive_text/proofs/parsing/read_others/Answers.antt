use Rattle.hive_text.proofs.LineReads.{two_words}
use Rattle.hive_text.proofs.parsing.read_others.Goals as goal

pub returns-in-None : goal.returns-in-None
returns-in-None c = two_words c.args.verb.now c.args.first.now c.args.others.now c.requires.verb c.requires.first c.in-None.ensures
