use Rattle.std.proofs.Common.{◌∙◌}
use Rattle.rpc_pdu.proofs.EncodingLaws.{framed_spells}
use Rattle.rpc_pdu.proofs.encoding.encode.Goals as goal

pub returns-clause-reads_back : goal.returns-clause-reads_back
returns-clause-reads_back c =
    framed_spells c.args.pdu.now c.frame.result c.pdu_type.result c.head.result c.deref.result.now c.pdu_type.ensures c.head.ensures
    (c.deref.ensures.value ∙ c.in_ok-body.ensures.text) c.requires c.in_ok-body.ensures.range c.frame.ensures.range c.frame.ensures.text
