-- A request is answered as its method says, over the bytes of both sides.
use Rattle.std.proofs.Common.{◌≡◌, ℕ, ◌-◌, ◌^◌, ◌<◌, Bool, true, false, if◌then◌else◌, List, [], ◌∷◌, ◌++◌, Some, Result, Ok, refl, sym, ap, ◌∙◌, subst, arith}
use Rattle.std.specs.Prelude.{Option, ◌==◌}
use Rattle.std.specs.List.{list_any}
use Rattle.std.specs.Option.{option_map}
use Rattle.std.proofs.lemmas.Bool.{eq-eqb}
use Rattle.std.proofs.lemmas.List.{append-nil}
use Rattle.wire_fields.specs.declared.endian.Endian.TheVariants.{Little}
use Rattle.clusapi_stubs.specs.declared.input.In.{In}
use Rattle.clusapi_stubs.specs.declared.input.In.TheVariants as requests
use Rattle.clusapi_stubs.specs.declared.output.Out.{Out}
use Rattle.clusapi_stubs.specs.Inputs.{opnum_of, parameters}
use Rattle.clusapi_stubs.specs.Outputs.{encoding, results}
use Rattle.clusapi_stubs.specs.Results.{method_of, output_in}
use Rattle.clusapi_stubs.specs.declared.fault.InFault.{InFault}
use Rattle.rpc_pdu.specs.declared.pdu.Pdu.{Pdu}
use Rattle.rpc_calls.specs.declared.call.Call.{Call}
use Rattle.rpc_calls.specs.declared.item.Item.TheVariants as items
use Rattle.rpc_calls.specs.declared.side.Side.TheVariants.{Client}
use Rattle.rpc_calls.specs.Cutting.{reply_pieces, requested}
use Rattle.rpc_calls.specs.Cutting as cutting
use Rattle.rpc_assoc.specs.declared.terms.Terms.{Terms}
use Rattle.rpc_assoc.specs.declared.assoc.AssocOut.{AssocOut}
use Rattle.rpc_assoc.specs.declared.assoc.AssocOut.TheVariants as assoc
use Rattle.rpc_assoc.specs.Answers.{fault_on}
use Rattle.rpc_assoc.specs.Association.{call_answer, reply_size, step_of}
use Rattle.rpc_assoc.specs.State.{State, group_of}
use Rattle.registry_server.specs.declared.effect.Effect.{Effect}
use Rattle.registry_server.specs.declared.effect.Effect.TheVariants as effects
use Rattle.registry_server.specs.Answers.{answer_to, answered, answers, call_answered, replied, stepped, taken, text_of}
use Rattle.registry_server.specs.Calls.{called, called_with}
use Rattle.registry_server.specs.Parameters.{or_status}
use Rattle.registry_server.specs.Replies.{replies_to}
use Rattle.registry_server.specs.Servers.{ServerState}
use Rattle.client_exchange.specs.declared.replies.Reply.TheVariants.{Results}
use Rattle.client_exchange.specs.Replies.{reply_in}
use Rattle.client_exchange.specs.Requests.{request_text}
use Rattle.client_results.specs.Requests.{CanBeAsked, CanBeTold, IsBoundBy, RequestsAreAnswered, comes_to}
use Rattle.client_results.specs.Streams.{IsWhole}
use Rattle.client_results.proofs.Readings.{input_read, output_read}
use Rattle.client_results.proofs.Whole.{reply_whole, request_whole}

small_opnum : (input : In) → opnum_of input < 256 ^ 2
small_opnum requests.OpenCluster = omega arith
small_opnum (requests.CloseCluster handle) = omega arith
small_opnum requests.GetClusterName = omega arith
small_opnum (requests.GetRootKey sam) = omega arith
small_opnum (requests.CreateKey handle subkey options sam security) = omega arith
small_opnum (requests.OpenKey handle subkey sam) = omega arith
small_opnum (requests.EnumKey handle index) = omega arith
small_opnum (requests.SetValue handle name kind bytes cb_data) = omega arith
small_opnum (requests.DeleteValue handle name) = omega arith
small_opnum (requests.QueryValue handle name cb_data) = omega arith
small_opnum (requests.DeleteKey handle subkey) = omega arith
small_opnum (requests.EnumValue handle index cb_data) = omega arith
small_opnum (requests.CloseKey handle) = omega arith
small_opnum (requests.QueryInfoKey handle) = omega arith

abbrev request_of : ℕ → In → Call
request_of call_id input = requested call_id 0 (opnum_of input) (encoding Little [] (parameters input))

abbrev reply_of : ℕ → Out → Call
reply_of call_id out = cutting.replied call_id 0 (encoding Little [] (results out))

abbrev replies_of : ℕ → Terms → Out → List Pdu
replies_of call_id terms out = reply_pieces call_id 0 (terms.max_xmit - 24) (encoding Little [] (results out))

abbrev stream_of : ℕ → Terms → Out → List ℕ
stream_of call_id terms out = text_of (replies_of call_id terms out)

abbrev sends : List Pdu → ServerState → List Pdu × ServerState
sends pdus s = (pdus, s)

abbrev all_sent : List ℕ → ServerState → List ℕ × ServerState
all_sent bytes s = (bytes, s)

abbrev Taken : Type 0
Taken = AssocOut × ServerState

abbrev hands : Call → ServerState → Taken
hands call s = (assoc.Call call, s)

abbrev taken_if : Bool → Call → ServerState → Taken
taken_if test call s = stepped s (if test then (assoc.Call call, s.association) else (assoc.Reply (fault_on call.call_id call.context 0x1C010003), s.association))

taken_by : (test : Bool) (call : Call) (s : ServerState) → test ≡ true → taken_if test call s ≡ hands call s
taken_by true call s e = refl
taken_by false call s e = absurd (cc e)

-- The server takes the call on its context.
takes : (call_id : ℕ) (input : In) (terms : Terms) (s : ServerState) → IsBoundBy terms s → taken s (items.Call (request_of call_id input)) ≡ hands (request_of call_id input) s
unfolding step_of call_answer
takes call_id input terms s bound =
    let test : list_any (λ id. id == 0) s.association.accepted ≡ true = ap (λ (ids : List ℕ). list_any (λ id. id == 0) ids) bound.accepted in
    taken_by (list_any (λ id. id == 0) s.association.accepted) (request_of call_id input) s test

-- It answers what the method comes to.
answered_so : (call_id : ℕ) (input : In) (terms : Terms) (s t : ServerState) (out : Out) → IsBoundBy terms s → CanBeAsked input → called_with s terms.group (Ok input) ≡ comes_to out t
    → t.association ≡ s.association → answer_to s (items.Call (request_of call_id input)) ≡ (replies_of call_id terms out, t)
unfolding answer_to
answered_so call_id input terms s t out bound can comes same =
    let call = request_of call_id input in
    let group : group_of s.association ≡ Some terms.group = ap (λ (o : Option Terms). option_map (λ (terms : Terms). terms.group) o) bound.agreed in
    let read : called s terms.group call ≡ comes_to out t =
    ap (λ (r : Result In InFault). called_with s terms.group (or_status r)) (input_read input can.fit can.size) ∙ comes in
    let agreed : t.association.terms ≡ Some terms = ap (λ (a : State). a.terms) same ∙ bound.agreed in
    ap (λ (k : Taken). answered k) (takes call_id input terms s bound)
    ∙ ap (λ (g : Option ℕ). call_answered s call g) group
    ∙ ap (λ (e : Effect × ServerState). replied call e) read
    ∙ ap (λ (o : Option Terms). sends (replies_to (reply_size o) call (effects.Results out)) t) agreed

all_answered : (call_id : ℕ) (input : In) (terms : Terms) (s t : ServerState) (out : Out) → answer_to s (items.Call (request_of call_id input)) ≡ (replies_of call_id terms out, t)
    → answers s (items.Call (request_of call_id input) ∷ []) ≡ (stream_of call_id terms out ++ [], t)
unfolding answers
all_answered call_id input terms s t out is = ap (λ (r : List Pdu × ServerState). all_sent (text_of r.0 ++ []) r.1) is

said_so : (call_id opnum : ℕ) (out : Out) → method_of out ≡ opnum → CanBeTold out → reply_in opnum call_id (items.Call (reply_of call_id out)) ≡ Some (Results out)
said_so call_id opnum out same can =
    let mine : (call_id == call_id) ≡ true = eq-eqb call_id call_id refl in
    let read : output_in opnum Little (encoding Little [] (results out)) ≡ Ok out =
    subst (λ (n : ℕ). output_in n Little (encoding Little [] (results out)) ≡ Ok out) same (output_read out can.fit) in
    rw (mine, read) refl

pub answered_over_bytes : RequestsAreAnswered
unfolding request_text
answered_over_bytes max_xmit call_id input terms s t out large small id_fits bound can comes same method told =
    let id_small : call_id < 256 ^ 4 = omega (arith, id_fits) in
    let sizes = bound.are_terms in
    let reads = reply_whole call_id 0 (terms.max_xmit - 24) (encoding Little [] (results out)) id_small (omega arith) (omega (arith, sizes.0)) (omega (arith, sizes.1)) told.short in
    record {
      request = items.Call (request_of call_id input);
      stream = stream_of call_id terms out ++ [];
      reply = items.Call (reply_of call_id out);
      asks = request_whole call_id 0 (opnum_of input) (max_xmit - 24) (encoding Little [] (parameters input)) id_small (omega arith) (small_opnum input) (omega (arith, large)) (omega (arith, small)) can.short;
      answered = all_answered call_id input terms s t out (answered_so call_id input terms s t out bound can comes same);
      reads = subst (λ (stream : List ℕ). IsWhole Client stream (items.Call (reply_of call_id out) ∷ [])) (sym (append-nil (stream_of call_id terms out))) reads;
      says = said_so call_id (opnum_of input) out method told;
    }
