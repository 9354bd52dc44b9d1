use Rattle.std.proofs.Common.{refl}
use Rattle.hive_text.specs.HiveText.{hive_text}
use Rattle.hive_text.proofs.Faults.{no_text}
use Rattle.hive_text.proofs.laws.no_text_is_at_fault.Goals as goal

pub returns : goal.returns
returns c = λ cap place keys registry fits fault. no_text cap (hive_text keys) place keys registry fits refl fault
