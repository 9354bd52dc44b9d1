-- Bodies: what is read is spelled so, and what is spelled so is read.
use Rattle.std.proofs.Common.{◌≡◌, ℕ, ◌+◌, ◌^◌, ◌<◌, List, [], ◌++◌, length, Option, Some, refl, sym, ap, ◌∙◌, subst}
use Rattle.std.proofs.lemmas.List.{append-nil}
use Rattle.wire_fields.specs.declared.endian.Endian.{Endian}
use Rattle.wire_fields.specs.Numbers.{IsBytes, num}
use Rattle.wire_fields.specs.Reading.{Reading, times}
use Rattle.wire_fields.proofs.FieldLaws.{at, some_is, bytes_read, number_read}
use Rattle.wire_fields.proofs.ListLaws.{list_read}
use Rattle.rpc_pdu.specs.declared.bodies.BindAckBody.{BindAckBody}
use Rattle.rpc_pdu.specs.declared.bodies.BindBody.{BindBody}
use Rattle.rpc_pdu.specs.declared.head.Head.{Head}
use Rattle.rpc_pdu.specs.declared.pdu.Pdu.{Pdu}
use Rattle.rpc_pdu.specs.declared.pdu.Pdu.TheVariants.{Request, Response, Fault, BindNak}
use Rattle.rpc_pdu.specs.declared.pdu_type.PduType.{PduType}
use Rattle.rpc_pdu.specs.declared.pdu_type.PduType.TheVariants as types
use Rattle.rpc_pdu.specs.declared.proposal.Proposal.{Proposal}
use Rattle.rpc_pdu.specs.declared.verdict.Verdict.{Verdict}
use Rattle.rpc_pdu.specs.Grammar.{IsBindAckBody, IsBindBody, IsBody, IsObject, IsProposal, IsVerdict, IsVersion}
use Rattle.rpc_pdu.specs.PduTypes.{head_in, type_of}
use Rattle.rpc_pdu.specs.Reading.{bind_ack_at, bind_at, bind_nak_at, fault_at, object_at, padding_behind, proposal_at, request_at, response_at, verdict_at, version_at}
use Rattle.rpc_pdu.proofs.PartLaws.{alone_some, object_found, object_read, proposal_found, proposal_read, rest_is, verdict_found, verdict_read, version_found, version_read}
use Rattle.rpc_pdu.proofs.Steps.{bytes_then, joined, list_then, number_then, run_long, part_then, still_below}

-- The body is that of a PDU of this type and head.
pub record IsMade (kind : PduType) (head : Head) (body : List ℕ) (pdu : Pdu) : Type 0 where
  pub kind_is : type_of pdu ≡ kind
  pub head_is : head_in pdu ≡ head
  pub spelled : IsBody pdu body

-- ---- request

pub request_found : (head : Head) (s : Reading) (p : Pdu) → s.endian ≡ head.endian → IsBytes s.left → request_at head s ≡ Some p → IsMade types.Request head s.left p
unfolding request_at
request_found head s p order h e =
    let o = head.endian in
    number_then 4 o s _ p order h e (λ hint.
    number_then 2 o hint.rest _ p hint.order hint.took.bytes hint.goes_on (λ context.
    number_then 2 o context.rest _ p context.order context.took.bytes context.goes_on (λ opnum.
    part_then (object_at head.flags) (IsObject head.flags) (object_found head.flags) o opnum.rest _ p opnum.order opnum.took.bytes opnum.goes_on (λ object.
    let stub = object.rest.left in
    let made = Request head hint.value context.value opnum.value object.value stub in
    let done = rw (rest_is object.rest) at object.goes_on in
    let body : s.left ≡ num o 4 hint.value ++ (num o 2 context.value ++ (num o 2 opnum.value ++ (object.text ++ stub))) =
    joined hint _ _ hint.holds.0 (joined context _ _ context.holds.0 (joined opnum _ _ opnum.holds.0 (joined object _ _ refl refl))) in
    subst (IsMade types.Request head s.left) (some_is made p done) (record {
      kind_is = refl;
      head_is = refl;
      spelled = (object.text, object.holds, hint.holds.1, context.holds.1, opnum.holds.1, body);
    })))))

pub request_read : (head : Head) (hint context opnum : ℕ) (object : Option (List ℕ)) (stub body : List ℕ) → IsBody (Request head hint context opnum object stub) body
    → request_at head (at head.endian 0 body) ≡ Some (Request head hint context opnum object stub)
unfolding request_at
request_read head hint context opnum object stub body is =
    let o = head.endian in
    let id = is.0 in
    let one = number_read o 0 4 hint (num o 2 context ++ (num o 2 opnum ++ (id ++ stub))) is.2 in
    let two = number_read o 4 2 context (num o 2 opnum ++ (id ++ stub)) is.3 in
    let three = number_read o 6 2 opnum (id ++ stub) is.4 in
    let four = object_read head.flags o 8 object id stub is.1 in
    rw (is.5, one, two, three, four.1, rest_is (at o four.0 stub)) refl

-- ---- response

pub response_found : (head : Head) (s : Reading) (p : Pdu) → s.endian ≡ head.endian → IsBytes s.left → response_at head s ≡ Some p → IsMade types.Response head s.left p
unfolding response_at
response_found head s p order h e =
    let o = head.endian in
    number_then 4 o s _ p order h e (λ hint.
    number_then 2 o hint.rest _ p hint.order hint.took.bytes hint.goes_on (λ context.
    number_then 1 o context.rest _ p context.order context.took.bytes context.goes_on (λ cancels.
    bytes_then 1 o cancels.rest _ p cancels.order cancels.took.bytes cancels.goes_on (λ reserved.
    let stub = reserved.rest.left in
    let made = Response head hint.value context.value cancels.value stub in
    let done = rw (rest_is reserved.rest) at reserved.goes_on in
    let long : length reserved.text ≡ 1 = run_long _ o reserved.value reserved.text reserved.holds in
    let body : s.left ≡ num o 4 hint.value ++ (num o 2 context.value ++ (num o 1 cancels.value ++ (reserved.text ++ stub))) =
    joined hint _ _ hint.holds.0 (joined context _ _ context.holds.0 (joined cancels _ _ cancels.holds.0 (joined reserved _ _ refl refl))) in
    subst (IsMade types.Response head s.left) (some_is made p done) (record {
      kind_is = refl;
      head_is = refl;
      spelled = (reserved.text, long, hint.holds.1, context.holds.1, cancels.holds.1, body);
    })))))

pub response_read : (head : Head) (hint context cancels : ℕ) (stub body : List ℕ) → IsBody (Response head hint context cancels stub) body
    → response_at head (at head.endian 0 body) ≡ Some (Response head hint context cancels stub)
unfolding response_at
response_read head hint context cancels stub body is =
    let o = head.endian in
    let reserved = is.0 in
    let one = number_read o 0 4 hint (num o 2 context ++ (num o 1 cancels ++ (reserved ++ stub))) is.2 in
    let two = number_read o 4 2 context (num o 1 cancels ++ (reserved ++ stub)) is.3 in
    let three = number_read o 6 1 cancels (reserved ++ stub) is.4 in
    let four = bytes_read o 7 1 reserved stub is.1 in
    rw (is.5, one, two, three, four, rest_is (at o 8 stub)) refl

-- ---- fault

pub fault_found : (head : Head) (s : Reading) (p : Pdu) → s.endian ≡ head.endian → IsBytes s.left → fault_at head s ≡ Some p → IsMade types.Fault head s.left p
unfolding fault_at
fault_found head s p order h e =
    let o = head.endian in
    number_then 4 o s _ p order h e (λ hint.
    number_then 2 o hint.rest _ p hint.order hint.took.bytes hint.goes_on (λ context.
    number_then 1 o context.rest _ p context.order context.took.bytes context.goes_on (λ cancels.
    bytes_then 1 o cancels.rest _ p cancels.order cancels.took.bytes cancels.goes_on (λ reserved.
    number_then 4 o reserved.rest _ p reserved.order reserved.took.bytes reserved.goes_on (λ status.
    bytes_then 4 o status.rest _ p status.order status.took.bytes status.goes_on (λ second.
    let behind = second.rest.left in
    let made = Fault head hint.value context.value cancels.value status.value in
    let long : length reserved.text ≡ 1 = run_long _ o reserved.value reserved.text reserved.holds in
    let second-long : length second.text ≡ 4 = run_long _ o second.value second.text second.holds in
    let body : s.left ≡ num o 4 hint.value ++ (num o 2 context.value ++ (num o 1 cancels.value ++ (reserved.text ++ (num o 4 status.value ++ (second.text ++ behind))))) =
    joined hint _ _ hint.holds.0 (joined context _ _ context.holds.0 (joined cancels _ _ cancels.holds.0 (joined reserved _ _ refl
    (joined status _ _ status.holds.0 (joined second _ _ refl refl))))) in
    subst (IsMade types.Fault head s.left) (some_is made p second.goes_on) (record {
      kind_is = refl;
      head_is = refl;
      spelled = (reserved.text, second.text, behind, long, second-long, hint.holds.1, context.holds.1, cancels.holds.1, status.holds.1, body);
    })))))))

pub fault_read : (head : Head) (hint context cancels status : ℕ) (body : List ℕ) → IsBody (Fault head hint context cancels status) body
    → fault_at head (at head.endian 0 body) ≡ Some (Fault head hint context cancels status)
unfolding fault_at
fault_read head hint context cancels status body is =
    let o = head.endian in
    let reserved = is.0 in
    let second = is.1 in
    let behind = is.2 in
    let one = number_read o 0 4 hint (num o 2 context ++ (num o 1 cancels ++ (reserved ++ (num o 4 status ++ (second ++ behind))))) is.5 in
    let two = number_read o 4 2 context (num o 1 cancels ++ (reserved ++ (num o 4 status ++ (second ++ behind)))) is.6 in
    let three = number_read o 6 1 cancels (reserved ++ (num o 4 status ++ (second ++ behind))) is.7 in
    let four = bytes_read o 7 1 reserved (num o 4 status ++ (second ++ behind)) is.3 in
    let five = number_read o 8 4 status (second ++ behind) is.8 in
    let six = bytes_read o 12 4 second behind is.4 in
    rw (is.9, one, two, three, four, five, six) refl

-- ---- bind and alter_context

pub bind_found : (o : Endian) (s : Reading) (b : BindBody) → s.endian ≡ o → IsBytes s.left → bind_at s ≡ Some b → IsBindBody o b.max_xmit b.max_recv b.group b.proposals s.left
unfolding bind_at
bind_found o s b order h e =
    number_then 2 o s _ b order h e (λ xmit.
    number_then 2 o xmit.rest _ b xmit.order xmit.took.bytes xmit.goes_on (λ recv.
    number_then 4 o recv.rest _ b recv.order recv.took.bytes recv.goes_on (λ group.
    number_then 1 o group.rest _ b group.order group.took.bytes group.goes_on (λ count.
    bytes_then 3 o count.rest _ b count.order count.took.bytes count.goes_on (λ reserved.
    list_then proposal_at IsProposal proposal_found count.value o reserved.rest _ b reserved.order reserved.took.bytes reserved.goes_on (λ proposals.
    let made : BindBody = record { max_xmit = xmit.value; max_recv = recv.value; group = group.value; proposals = proposals.value } in
    let done = alone_some made b proposals.rest proposals.goes_on in
    let long : length reserved.text ≡ 3 = run_long _ o reserved.value reserved.text reserved.holds in
    let small : length proposals.value < 256 ^ 1 = still_below _ count.value _ proposals.holds.0 count.holds.1 in
    let last : reserved.rest.left ≡ proposals.text = proposals.took.parts ∙ ap (λ (t : List ℕ). proposals.text ++ t) done.0 ∙ append-nil proposals.text in
    let body : s.left ≡ num o 2 xmit.value ++ (num o 2 recv.value ++ (num o 4 group.value ++ (num o 1 (length proposals.value) ++ (reserved.text ++ proposals.text)))) =
    joined xmit _ _ xmit.holds.0 (joined recv _ _ recv.holds.0 (joined group _ _ group.holds.0
    (joined count _ _ (count.holds.0 ∙ ap (num o 1) (sym proposals.holds.0)) (joined reserved _ _ refl last)))) in
    let P : BindBody → Type 0 = λ b. IsBindBody o b.max_xmit b.max_recv b.group b.proposals s.left in
    subst P done.1 (reserved.text, proposals.text, long, proposals.holds.1, xmit.holds.1, recv.holds.1, group.holds.1, small, body)))))))

pub bind_read : (o : Endian) (xmit recv group : ℕ) (proposals : List Proposal) (body : List ℕ) → IsBindBody o xmit recv group proposals body
    → bind_at (at o 0 body) ≡ Some (record { max_xmit = xmit; max_recv = recv; group = group; proposals = proposals })
unfolding bind_at
bind_read o xmit recv group proposals body is =
    let reserved = is.0 in
    let contexts = is.1 in
    let count = length proposals in
    let one = number_read o 0 2 xmit (num o 2 recv ++ (num o 4 group ++ (num o 1 count ++ (reserved ++ contexts)))) is.4 in
    let two = number_read o 2 2 recv (num o 4 group ++ (num o 1 count ++ (reserved ++ contexts))) is.5 in
    let three = number_read o 4 4 group (num o 1 count ++ (reserved ++ contexts)) is.6 in
    let four = number_read o 8 1 count (reserved ++ contexts) is.7 in
    let five = bytes_read o 9 3 reserved contexts is.2 in
    let whole : times count proposal_at (at o 12 contexts) ≡ Some (proposals, at o (12 + length contexts) []) =
    subst (λ (t : List ℕ). times count proposal_at (at o 12 t) ≡ Some (proposals, at o (12 + length contexts) [])) (append-nil contexts) (list_read proposal_at IsProposal proposal_read o 12 proposals contexts [] is.3) in
    rw (is.8, one, two, three, four, five, whole) refl

-- ---- bind_ack and alter_context_resp

pub bind_ack_found : (o : Endian) (s : Reading) (b : BindAckBody) → s.endian ≡ o → IsBytes s.left → bind_ack_at s ≡ Some b → IsBindAckBody o b.max_xmit b.max_recv b.group b.address b.verdicts s.left
unfolding bind_ack_at
bind_ack_found o s b order h e =
    number_then 2 o s _ b order h e (λ xmit.
    number_then 2 o xmit.rest _ b xmit.order xmit.took.bytes xmit.goes_on (λ recv.
    number_then 4 o recv.rest _ b recv.order recv.took.bytes recv.goes_on (λ group.
    number_then 2 o group.rest _ b group.order group.took.bytes group.goes_on (λ size.
    bytes_then size.value o size.rest _ b size.order size.took.bytes size.goes_on (λ address.
    bytes_then (padding_behind size.value) o address.rest _ b address.order address.took.bytes address.goes_on (λ padding.
    number_then 1 o padding.rest _ b padding.order padding.took.bytes padding.goes_on (λ count.
    bytes_then 3 o count.rest _ b count.order count.took.bytes count.goes_on (λ reserved.
    list_then verdict_at IsVerdict verdict_found count.value o reserved.rest _ b reserved.order reserved.took.bytes reserved.goes_on (λ verdicts.
    let made : BindAckBody = record { max_xmit = xmit.value; max_recv = recv.value; group = group.value; address = address.value; verdicts = verdicts.value } in
    let done = alone_some made b verdicts.rest verdicts.goes_on in
    let padding-long : length padding.text ≡ padding_behind (length address.value) = run_long _ o padding.value padding.text padding.holds ∙ ap padding_behind (sym address.holds.1) in
    let long : length reserved.text ≡ 3 = run_long _ o reserved.value reserved.text reserved.holds in
    let address-small : length address.value < 256 ^ 2 = still_below _ size.value _ address.holds.1 size.holds.1 in
    let small : length verdicts.value < 256 ^ 1 = still_below _ count.value _ verdicts.holds.0 count.holds.1 in
    let last : reserved.rest.left ≡ verdicts.text = verdicts.took.parts ∙ ap (λ (t : List ℕ). verdicts.text ++ t) done.0 ∙ append-nil verdicts.text in
    let body : s.left ≡ num o 2 xmit.value ++ (num o 2 recv.value ++ (num o 4 group.value ++ (num o 2 (length address.value) ++ (address.value ++ (padding.text ++ (num o 1 (length verdicts.value) ++ (reserved.text ++ verdicts.text))))))) =
    joined xmit _ _ xmit.holds.0 (joined recv _ _ recv.holds.0 (joined group _ _ group.holds.0
    (joined size _ _ (size.holds.0 ∙ ap (num o 2) (sym address.holds.1)) (joined address _ _ address.holds.0 (joined padding _ _ refl
    (joined count _ _ (count.holds.0 ∙ ap (num o 1) (sym verdicts.holds.0)) (joined reserved _ _ refl last))))))) in
    let P : BindAckBody → Type 0 = λ b. IsBindAckBody o b.max_xmit b.max_recv b.group b.address b.verdicts s.left in
    subst P done.1 (padding.text, reserved.text, verdicts.text, padding-long, long, verdicts.holds.1, xmit.holds.1, recv.holds.1, group.holds.1, address-small, small, body))))))))))

pub bind_ack_read : (o : Endian) (xmit recv group : ℕ) (address : List ℕ) (verdicts : List Verdict) (body : List ℕ) → IsBindAckBody o xmit recv group address verdicts body
    → bind_ack_at (at o 0 body) ≡ Some (record { max_xmit = xmit; max_recv = recv; group = group; address = address; verdicts = verdicts })
unfolding bind_ack_at
bind_ack_read o xmit recv group address verdicts body is =
    let padding = is.0 in
    let reserved = is.1 in
    let outcomes = is.2 in
    let size = length address in
    let gap = padding_behind size in
    let count = length verdicts in
    let one = number_read o 0 2 xmit (num o 2 recv ++ (num o 4 group ++ (num o 2 size ++ (address ++ (padding ++ (num o 1 count ++ (reserved ++ outcomes))))))) is.6 in
    let two = number_read o 2 2 recv (num o 4 group ++ (num o 2 size ++ (address ++ (padding ++ (num o 1 count ++ (reserved ++ outcomes)))))) is.7 in
    let three = number_read o 4 4 group (num o 2 size ++ (address ++ (padding ++ (num o 1 count ++ (reserved ++ outcomes))))) is.8 in
    let four = number_read o 8 2 size (address ++ (padding ++ (num o 1 count ++ (reserved ++ outcomes)))) is.9 in
    let five = bytes_read o 10 size address (padding ++ (num o 1 count ++ (reserved ++ outcomes))) refl in
    let six = bytes_read o (10 + size) gap padding (num o 1 count ++ (reserved ++ outcomes)) is.3 in
    let seven = number_read o (10 + size + gap) 1 count (reserved ++ outcomes) is.10 in
    let eight = bytes_read o (10 + size + gap + 1) 3 reserved outcomes is.4 in
    let start = 10 + size + gap + 1 + 3 in
    let whole : times count verdict_at (at o start outcomes) ≡ Some (verdicts, at o (start + length outcomes) []) =
    subst (λ (t : List ℕ). times count verdict_at (at o start t) ≡ Some (verdicts, at o (start + length outcomes) [])) (append-nil outcomes) (list_read verdict_at IsVerdict verdict_read o start verdicts outcomes [] is.5) in
    rw (is.11, one, two, three, four, five, six, seven, eight, whole) refl

-- ---- bind_nak

pub bind_nak_found : (head : Head) (s : Reading) (p : Pdu) → s.endian ≡ head.endian → IsBytes s.left → bind_nak_at head s ≡ Some p → IsMade types.BindNak head s.left p
unfolding bind_nak_at
bind_nak_found head s p order h e =
    let o = head.endian in
    number_then 2 o s _ p order h e (λ reason.
    number_then 1 o reason.rest _ p reason.order reason.took.bytes reason.goes_on (λ count.
    list_then version_at IsVersion version_found count.value o count.rest _ p count.order count.took.bytes count.goes_on (λ versions.
    let behind = versions.rest.left in
    let made = BindNak head reason.value versions.value in
    let small : length versions.value < 256 ^ 1 = still_below _ count.value _ versions.holds.0 count.holds.1 in
    let body : s.left ≡ num o 2 reason.value ++ (num o 1 (length versions.value) ++ (versions.text ++ behind)) =
    joined reason _ _ reason.holds.0 (joined count _ _ (count.holds.0 ∙ ap (num o 1) (sym versions.holds.0)) (joined versions _ _ refl refl)) in
    subst (IsMade types.BindNak head s.left) (some_is made p versions.goes_on) (record {
      kind_is = refl;
      head_is = refl;
      spelled = (versions.text, behind, versions.holds.1, reason.holds.1, small, body);
    }))))

pub bind_nak_read : (head : Head) (reason : ℕ) (versions : List (ℕ × ℕ)) (body : List ℕ) → IsBody (BindNak head reason versions) body
    → bind_nak_at head (at head.endian 0 body) ≡ Some (BindNak head reason versions)
unfolding bind_nak_at
bind_nak_read head reason versions body is =
    let o = head.endian in
    let listed = is.0 in
    let behind = is.1 in
    let one = number_read o 0 2 reason (num o 1 (length versions) ++ (listed ++ behind)) is.3 in
    let two = number_read o 2 1 (length versions) (listed ++ behind) is.4 in
    let three = list_read version_at IsVersion version_read o 3 versions listed behind is.2 in
    rw (is.5, one, two, three) refl
