use Rattle.std.proofs.Common.{List, ℕ, Option, sym, subst}
use Rattle.wire_fields.specs.Numbers.{IsBytes}
use Rattle.hive_text.specs.HiveText.{data_text}
use Rattle.hive_text.specs.LineWords.{IsShortData, Spells}
use Rattle.hive_text.proofs.LineReads.{short_read}
use Rattle.hive_text.proofs.parsing.read_short_data.Goals as goal

pub returns-in-Some : goal.returns-in-Some
returns-in-Some c =
    let read = subst (λ (o : Option (List ℕ)). Spells IsBytes data_text c.args.word.now o) c.in-Some.is c.in_ok-bytes.ensures in
    subst (λ (o : Option (List ℕ)). Spells IsShortData data_text c.args.word.now o) (sym c.if_short.ensures) (short_read c.args.word.now c.in-Some.bytes read.0 read.1)
