use Rattle.std.proofs.Common.{sym}
use Rattle.std.proofs.lemmas.List.{take_rest}
use Rattle.hive_text.proofs.Splits.{lacks_at, split_at}
use Rattle.hive_text.proofs.words.split_once.Goals as goal

pub returns-in-Some : goal.returns-in-Some
returns-in-Some c = rw take_rest (split_at c.args.byte c.args.text.now c.in-Some.place (sym c.in-Some.ensures.first))

pub returns-in-None : goal.returns-in-None
returns-in-None c = lacks_at c.args.byte c.args.text.now (sym c.in-None.ensures.first)
