use Rattle.std.proofs.Common.{sym, subst}
use Rattle.client_exchange.proofs.BindSpells.{bind_spells}
use Rattle.client_exchange.proofs.binding.bind_text.Goals as goal

pub encode-requires : goal.encode-requires
encode-requires c = rw c.in_ok-bind.ensures bind_spells
