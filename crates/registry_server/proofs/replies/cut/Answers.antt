use Rattle.std.proofs.Common.{◌≡◌, IfOk, List, ◌∙◌, subst}
use Rattle.rpc_pdu.specs.declared.pdu.Pdu.{Pdu}
use Rattle.registry_server.specs.Answers.{text_of}
use Rattle.registry_server.proofs.replies.cut.Goals as goal

pub returns : goal.returns
returns c =
    let cut = c.deref.ensures.value ∙ c.in_ok-pieces.ensures.cut in
    subst (λ (pdus : List Pdu). IfOk c.encode_all.result (λ bytes. bytes.items ≡ text_of pdus)) cut c.encode_all.ensures
