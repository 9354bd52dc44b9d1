-- The PDUs that answer a call.
use Rattle.std.specs.Prelude.{ℕ, ◌-◌, List, [], ◌∷◌}
use Rattle.wire_fields.specs.declared.endian.Endian.TheVariants.{Little}
use Rattle.clusapi_stubs.specs.Outputs.{encoding, results}
use Rattle.rpc_pdu.specs.declared.pdu.Pdu.{Pdu}
use Rattle.rpc_calls.specs.declared.call.Call.{Call}
use Rattle.rpc_calls.specs.Cutting.{reply_pieces}
use Rattle.rpc_assoc.specs.Answers.{fault_on}
use Rattle.registry_server.specs.declared.effect.Effect.{Effect}
use Rattle.registry_server.specs.declared.effect.Effect.TheVariants.{Fault, Results}

-- The replies to a call, of at most `max_xmit` bytes each; 24 of them are no stub.
abbrev pub replies_to : ℕ → Call → Effect → List Pdu
replies_to max_xmit call (Results out) = reply_pieces call.call_id call.context (max_xmit - 24) (encoding Little [] (results out))
replies_to max_xmit call (Fault status) = fault_on call.call_id call.context status ∷ []
