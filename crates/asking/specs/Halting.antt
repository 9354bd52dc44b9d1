-- What a fault of a client comes to.
use Rattle.rpc_client.specs.declared.client_fault.ClientFault.{ClientFault}
use Rattle.rpc_client.specs.declared.client_fault.ClientFault.TheVariants.{BadReply, Memory}
use Rattle.asking.specs.declared.halt.Halt.{Halt}
use Rattle.asking.specs.declared.halt.Halt.TheVariants as halts

abbrev pub halt_of : ClientFault → Halt
halt_of (BadReply place) = halts.BadReply place
halt_of Memory = halts.NoMemory
