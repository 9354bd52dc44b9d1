-- One request and its answer, over the bytes of both.
use Rattle.std.specs.Prelude.{◌≡◌, ℕ, ◌<◌, ◌≤◌, ◌^◌, List, [], ◌∷◌, length, Some, Ok, IsTrue}
use Rattle.wire_fields.specs.declared.endian.Endian.TheVariants.{Little}
use Rattle.clusapi_stubs.specs.declared.input.In.{In}
use Rattle.clusapi_stubs.specs.declared.output.Out.{Out}
use Rattle.clusapi_stubs.specs.Inputs.{opnum_of, parameters, size_fits}
use Rattle.clusapi_stubs.specs.Outputs.{encoding, results}
use Rattle.clusapi_stubs.specs.Requests.{AllFit}
use Rattle.clusapi_stubs.specs.Results.{method_of}
use Rattle.rpc_calls.specs.declared.item.Item.{Item}
use Rattle.rpc_calls.specs.declared.side.Side.TheVariants as sides
use Rattle.rpc_calls.specs.Assembly.{most_stub}
use Rattle.rpc_assoc.specs.declared.terms.Terms.{Terms}
use Rattle.rpc_assoc.specs.State.{AreTerms}
use Rattle.registry_server.specs.declared.effect.Effect.{Effect}
use Rattle.registry_server.specs.declared.effect.Effect.TheVariants as effects
use Rattle.registry_server.specs.Answers.{answers}
use Rattle.registry_server.specs.Calls.{called_with}
use Rattle.registry_server.specs.Servers.{ServerState}
use Rattle.client_exchange.specs.declared.replies.Reply.TheVariants.{Results}
use Rattle.client_exchange.specs.Replies.{reply_in}
use Rattle.client_exchange.specs.Requests.{request_text}
use Rattle.client_exchange.specs.Stages.{greatest, least}
use Rattle.client_results.specs.Streams.{IsWhole}

-- A server whose connection is bound by these terms, on context 0.
pub record IsBoundBy (terms : Terms) (s : ServerState) : Type 0 where
  pub agreed : s.association.terms ≡ Some terms
  pub are_terms : AreTerms terms
  pub accepted : s.association.accepted ≡ 0 ∷ []

-- Parameters that have an encoding which a request has room for, and the same of results.
pub record CanBeAsked (input : In) : Type 0 where
  pub fit : AllFit (parameters input)
  pub size : IsTrue (size_fits input)
  pub short : length (encoding Little [] (parameters input)) ≤ most_stub

pub record CanBeTold (out : Out) : Type 0 where
  pub fit : AllFit (results out)
  pub short : length (encoding Little [] (results out)) ≤ most_stub

-- The bytes of the request are one call to the server. What it answers and where it then stands is what the method comes to with these
-- parameters, and the bytes of its answer say these results to the client.
pub record IsAnswered (max_xmit call_id : ℕ) (input : In) (s : ServerState) (out : Out) (t : ServerState) : Type 0 where
  pub request : Item
  pub stream : List ℕ
  pub reply : Item
  pub asks : IsWhole sides.Server (request_text max_xmit call_id input) (request ∷ [])
  pub answered : answers s (request ∷ []) ≡ (stream, t)
  pub reads : IsWhole sides.Client stream (reply ∷ [])
  pub says : reply_in (opnum_of input) call_id reply ≡ Some (Results out)

abbrev pub comes_to : Out → ServerState → Effect × ServerState
comes_to out t = (effects.Results out, t)

abbrev pub RequestsAreAnswered : Type 0
RequestsAreAnswered =
    (max_xmit call_id : ℕ) (input : In) (terms : Terms) (s t : ServerState) (out : Out) → least ≤ max_xmit → max_xmit ≤ greatest → call_id < 2 ^ 32
    → IsBoundBy terms s → CanBeAsked input → called_with s terms.group (Ok input) ≡ comes_to out t → t.association ≡ s.association → method_of out ≡ opnum_of input → CanBeTold out
    → IsAnswered max_xmit call_id input s out t
