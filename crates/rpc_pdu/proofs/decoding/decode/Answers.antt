use Rattle.std.proofs.Common.{arith}
use Rattle.rpc_pdu.proofs.PduLaws.{decode_counts, decode_fault, decode_found, decode_only}
use Rattle.rpc_pdu.proofs.decoding.decode.Goals as goal

pub returns-clause-found : goal.returns-clause-found
returns-clause-found c = decode_found c.args.bytes.now c.read.result (λ i. omega (arith, c.type_inv.bytes i)) c.read.ensures

pub returns-clause-only : goal.returns-clause-only
returns-clause-only c = λ pdu is. decode_only c.args.bytes.now c.read.result c.read.ensures pdu is

pub returns-clause-fault : goal.returns-clause-fault
returns-clause-fault c = decode_fault c.args.bytes.now c.read.result c.read.ensures

pub returns-clause-counts : goal.returns-clause-counts
returns-clause-counts c = decode_counts c.args.bytes.now c.read.result (returns-clause-found c)
