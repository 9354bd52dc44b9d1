use Rattle.hive_text.proofs.LineReads.{one_word}
use Rattle.hive_text.proofs.parsing.read_words.Goals as goal

pub returns-in-None : goal.returns-in-None
returns-in-None c = one_word c.args.verb.now c.args.words.now c.requires c.in-None.ensures
