use Rattle.std.proofs.Common.{◌≡◌, take}
use Rattle.client_exchange.specs.Requests.{text_of}
use Rattle.client_exchange.proofs.requests.encode_all.Given as goal

abbrev pub invariant-loop-pdu : goal.invariant-loop-pdu
invariant-loop-pdu l = l.bytes.items ≡ text_of (take l.pdu-index l.pdus)
