use Rattle.std.proofs.Common.{List, ℕ, Option, sym, subst}
use Rattle.clus_names.specs.Limits.{IsName}
use Rattle.clus_names.specs.UnitTexts.{unit_text}
use Rattle.hive_text.specs.LineWords.{Spells}
use Rattle.hive_text.proofs.LineReads.{name_read}
use Rattle.hive_text.proofs.words.read_name.Goals as goal

pub returns-in-Ok : goal.returns-in-Ok
returns-in-Ok c =
    subst (λ (o : Option (List ℕ)). Spells IsName unit_text c.args.word.now o) (sym c.short_name.ensures.short)
    (name_read c.args.word.now c.in-Ok.units.items c.short_name.ensures.units c.in-Ok.ensures.found)
