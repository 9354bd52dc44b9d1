use Rattle.std.proofs.Common.{◌≡◌, take}
use Rattle.registry_server.specs.Answers.{text_of}
use Rattle.client_connections.proofs.replies.encode_all.Given as goal

abbrev pub invariant-loop-pdu : goal.invariant-loop-pdu
invariant-loop-pdu l = l.bytes.items ≡ text_of (take l.pdu-index l.pdus)
