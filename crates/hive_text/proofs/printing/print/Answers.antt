use Rattle.std.proofs.Common.{sym, subst}
use Rattle.registry_defs.specs.Contents.{keys_in}
use Rattle.registry_defs.specs.Keys.{Keys}
use Rattle.hive_text.specs.HiveText.{HaveNames}
use Rattle.hive_text.proofs.KeyLines.{have_names}
use Rattle.hive_text.proofs.printing.print.Goals as goal

pub print_key-requires : goal.print_key-requires
print_key-requires c = subst (λ (keys : Keys). HaveNames keys) (sym c.root.ensures.keys) (have_names (keys_in c.args.registry.now) c.root.ensures.limits)
