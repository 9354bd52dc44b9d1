use Rattle.registry_defs.proofs.Ranks.{subkeys_counted, values_counted}
use Rattle.registry_defs.proofs.laws.nth_has_so_many_smaller.Goals as goal

pub returns : goal.returns
returns c = record { subkeys = subkeys_counted; values = values_counted }
