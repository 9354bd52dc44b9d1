use Rattle.registry_machine.proofs.Orders.{order_keeps}
use Rattle.registry_machine.proofs.TextBytes.{encoding_is_bytes}
use Rattle.registry_machine.proofs.laws.order_keeps_the_limits.Goals as goal

pub returns-clause-limits : goal.returns-clause-limits
returns-clause-limits c = order_keeps

pub returns-clause-bytes : goal.returns-clause-bytes
returns-clause-bytes c = encoding_is_bytes
