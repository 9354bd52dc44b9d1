use Rattle.std.proofs.Common.{None, refl, length, arith}
use Rattle.rpc_pdu.proofs.Answered.{request_spells}
use Rattle.rpc_assoc.specs.Answers.{head_of}
use Rattle.cluster_script.proofs.requests.request_bytes.Goals as goal

pub encode-requires : goal.encode-requires
encode-requires c =
    rw c.in_ok-request.ensures (request_spells (head_of c.args.call_id 0x03) (length c.args.stub.now) 0 c.args.opnum None c.args.stub.now (omega arith) refl refl (omega (arith, c.requires)))
