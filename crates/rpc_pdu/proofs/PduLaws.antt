-- Bytes are read as the PDU that they spell, and as nothing where they spell none.
use Rattle.std.proofs.Common.{◌≡◌, ℕ, ◌<◌, List, [], ◌∷◌, length, slice_index, drop, Option, Some, None, Result, Ok, Err, refl, sym, ◌∙◌, subst, inl, inr}
use Rattle.std.specs.Prelude.{IfOk, IfErr}
use Rattle.std.specs.List.{AllByRecursion}
use Rattle.wire_fields.specs.declared.endian.Endian.{Endian}
use Rattle.wire_fields.specs.Lists.{IsList}
use Rattle.wire_fields.specs.Numbers.{IsBytes}
use Rattle.wire_fields.specs.Reading.{Reading}
use Rattle.wire_fields.proofs.FieldLaws.{at, bind_some, some_is}
use Rattle.wire_fields.proofs.NumberLaws.{IsBytes-drop}
use Rattle.rpc_pdu.specs.declared.head.Head.{Head}
use Rattle.rpc_pdu.specs.declared.pdu.Pdu.{Pdu}
use Rattle.rpc_pdu.specs.declared.pdu.Pdu.TheVariants.{Request, Response, Fault, Bind, BindAck, BindNak, AlterContext, AlterContextResp, Shutdown, CoCancel, Orphaned}
use Rattle.rpc_pdu.specs.declared.pdu_fault.PduFault.{PduFault}
use Rattle.rpc_pdu.specs.declared.pdu_fault.PduFault.TheVariants as faults
use Rattle.rpc_pdu.specs.declared.pdu_type.PduType.{PduType}
use Rattle.rpc_pdu.specs.declared.pdu_type.PduType.TheVariants as types
use Rattle.rpc_pdu.specs.declared.proposal.Proposal.{Proposal}
use Rattle.rpc_pdu.specs.Encoding.{CountsFit}
use Rattle.rpc_pdu.specs.Grammar.{IsBody, IsPdu, IsProposal, MayFail, PduBad}
use Rattle.rpc_pdu.specs.Header.{IsHeader, head_at, header_fault}
use Rattle.rpc_pdu.specs.PduTypes.{head_in, type_of, type_with}
use Rattle.rpc_pdu.specs.Reading.{Decodes, behind_header, bind_ack_at, bind_at, body_at, body_of, or_short, pdu_at}
use Rattle.rpc_pdu.proofs.BodyLaws.{IsMade, bind_ack_found, bind_ack_read, bind_found, bind_nak_found, bind_nak_read, bind_read, fault_found, fault_read, request_found, request_read, response_found, response_read}
use Rattle.rpc_pdu.proofs.HeaderLaws.{head_read, header_found, header_passes, type_is_known}
use Rattle.rpc_pdu.proofs.PartLaws.{alone_some}

-- ---- bodies of each type

body_found : (kind : PduType) (head : Head) (s : Reading) (p : Pdu) → s.endian ≡ head.endian → IsBytes s.left → body_at kind head s ≡ Some p → IsMade kind head s.left p
unfolding body_at
body_found types.Request head s p order h e = request_found head s p order h e
body_found types.Response head s p order h e = response_found head s p order h e
body_found types.Fault head s p order h e = fault_found head s p order h e
body_found types.Bind head s p order h e =
    let b = bind_some (bind_at s) (λ b. Some (Bind head b.max_xmit b.max_recv b.group b.proposals)) p e in
    subst (IsMade types.Bind head s.left) (some_is _ p b.2) (record { kind_is = refl; head_is = refl; spelled = bind_found head.endian s b.0 order h b.1 })
body_found types.BindAck head s p order h e =
    let b = bind_some (bind_ack_at s) (λ b. Some (BindAck head b.max_xmit b.max_recv b.group b.address b.verdicts)) p e in
    subst (IsMade types.BindAck head s.left) (some_is _ p b.2) (record { kind_is = refl; head_is = refl; spelled = bind_ack_found head.endian s b.0 order h b.1 })
body_found types.BindNak head s p order h e = bind_nak_found head s p order h e
body_found types.AlterContext head s p order h e =
    let b = bind_some (bind_at s) (λ b. Some (AlterContext head b.max_xmit b.max_recv b.group b.proposals)) p e in
    subst (IsMade types.AlterContext head s.left) (some_is _ p b.2) (record { kind_is = refl; head_is = refl; spelled = bind_found head.endian s b.0 order h b.1 })
body_found types.AlterContextResp head s p order h e =
    let b = bind_some (bind_ack_at s) (λ b. Some (AlterContextResp head b.max_xmit b.max_recv b.group b.address b.verdicts)) p e in
    subst (IsMade types.AlterContextResp head s.left) (some_is _ p b.2) (record { kind_is = refl; head_is = refl; spelled = bind_ack_found head.endian s b.0 order h b.1 })
body_found types.Shutdown head s p order h e =
    let a = alone_some (Shutdown head) p s e in
    subst (IsMade types.Shutdown head s.left) a.1 (record { kind_is = refl; head_is = refl; spelled = a.0 })
body_found types.CoCancel head s p order h e =
    let a = alone_some (CoCancel head) p s e in
    subst (IsMade types.CoCancel head s.left) a.1 (record { kind_is = refl; head_is = refl; spelled = a.0 })
body_found types.Orphaned head s p order h e =
    let a = alone_some (Orphaned head) p s e in
    subst (IsMade types.Orphaned head s.left) a.1 (record { kind_is = refl; head_is = refl; spelled = a.0 })

body_read : (p : Pdu) (body : List ℕ) → IsBody p body → body_at (type_of p) (head_in p) (at (head_in p).endian 0 body) ≡ Some p
unfolding body_at
body_read (Request head hint context opnum object stub) body is = request_read head hint context opnum object stub body is
body_read (Response head hint context cancels stub) body is = response_read head hint context cancels stub body is
body_read (Fault head hint context cancels status) body is = fault_read head hint context cancels status body is
body_read (Bind head xmit recv group proposals) body is = rw (bind_read head.endian xmit recv group proposals body is) refl
body_read (BindAck head xmit recv group address verdicts) body is = rw (bind_ack_read head.endian xmit recv group address verdicts body is) refl
body_read (BindNak head reason versions) body is = bind_nak_read head reason versions body is
body_read (AlterContext head xmit recv group proposals) body is = rw (bind_read head.endian xmit recv group proposals body is) refl
body_read (AlterContextResp head xmit recv group address verdicts) body is = rw (bind_ack_read head.endian xmit recv group address verdicts body is) refl
body_read (Shutdown head) body is = rw is refl
body_read (CoCancel head) body is = rw is refl
body_read (Orphaned head) body is = rw is refl

-- ---- a whole PDU

-- What must have passed where a PDU was read.
record Passed (fault : Option PduFault) (kind : Option PduType) (head : Head) (s : Reading) (p : Pdu) : Type 0 where
  pub passed : fault ≡ None
  pub known : PduType
  pub known_is : kind ≡ Some known
  pub read : body_at known head s ≡ Some p

short_ok : (read : Option Pdu) (p : Pdu) → or_short read ≡ Ok p → read ≡ Some p
short_ok None p e = absurd cc
short_ok (Some q) p e = cc

behind_ok : (fault : Option PduFault) (kind : Option PduType) (head : Head) (s : Reading) (p : Pdu) → behind_header fault kind head s ≡ Ok p → Passed fault kind head s p
behind_ok (Some fault) kind head s p e = absurd cc
behind_ok None None head s p e = absurd cc
behind_ok None (Some kind) head s p e = record { passed = refl; known = kind; known_is = refl; read = short_ok (body_at kind head s) p e }

pub pdu_found : (bytes : List ℕ) (p : Pdu) → IsBytes bytes → pdu_at bytes ≡ Ok p → IsPdu bytes p
unfolding pdu_at
pdu_found bytes p h e =
    let head = head_at bytes in
    let b = behind_ok (header_fault bytes) (type_with (slice_index bytes 2)) head (body_of head bytes) p e in
    let made = body_found b.known head (body_of head bytes) p refl (IsBytes-drop 16 bytes h) b.read in
    let header = header_found bytes b.known b.passed b.known_is in
    record {
      header = subst (λ (k : PduType). IsHeader bytes k (head_in p)) (sym made.kind_is) (subst (IsHeader bytes b.known) (sym made.head_is) header);
      body = made.spelled;
    }

pub pdu_read : (bytes : List ℕ) (p : Pdu) → IsPdu bytes p → pdu_at bytes ≡ Ok p
unfolding pdu_at
pdu_read bytes p is =
    let kind = type_of p in
    let head = head_in p in
    let passed = header_passes bytes kind head is.header in
    let head-is = head_read bytes kind head is.header in
    let known = is.header.type_known in
    let body = body_read p (drop 16 bytes) is.body in
    rw (passed, known, head-is, body) refl

-- ---- counts

each_few : (e : Endian) (proposals : List Proposal) (text : List ℕ) → IsList (IsProposal e) proposals text → AllByRecursion (λ p. length p.transfers < 256) proposals
each_few e [] text listed = tt
each_few e (p ∷ proposals) text (front, rest, cut, (reserved, interface, transfers, a, b, c, d, few, f), others) = (few, each_few e proposals rest others)

-- Each list of a PDU that bytes spell was counted in them.
pub counts_fit : (bytes : List ℕ) (p : Pdu) → IsPdu bytes p → CountsFit p
counts_fit bytes (Bind head xmit recv group proposals) is =
    let (reserved, contexts, a, listed, b, c, d, few, f) = is.body in (few, each_few head.endian proposals contexts listed)
counts_fit bytes (AlterContext head xmit recv group proposals) is =
    let (reserved, contexts, a, listed, b, c, d, few, f) = is.body in (few, each_few head.endian proposals contexts listed)
counts_fit bytes (BindAck head xmit recv group address verdicts) is =
    let (padding, reserved, outcomes, a, b, c, d, e, f, short, few, g) = is.body in (short, few)
counts_fit bytes (AlterContextResp head xmit recv group address verdicts) is =
    let (padding, reserved, outcomes, a, b, c, d, e, f, short, few, g) = is.body in (short, few)
counts_fit bytes (BindNak head reason versions) is = let (listed, behind, a, b, few, c) = is.body in few
counts_fit bytes (Request head hint context opnum object stub) is = tt
counts_fit bytes (Response head hint context cancels stub) is = tt
counts_fit bytes (Fault head hint context cancels status) is = tt
counts_fit bytes (Shutdown head) is = tt
counts_fit bytes (CoCancel head) is = tt
counts_fit bytes (Orphaned head) is = tt

-- ---- faults

short_err : (read : Option Pdu) (fault : PduFault) → or_short read ≡ Err fault → fault ≡ faults.BadLength
short_err None fault e = cc
short_err (Some p) fault e = absurd cc

bad_behind : (bytes : List ℕ) (fault : PduFault) (failed : Option PduFault) (kind : Option PduType) (head : Head) (s : Reading) → header_fault bytes ≡ failed → type_with (slice_index bytes 2) ≡ kind
    → ((p : Pdu) → IsPdu bytes p → ⊥) → behind_header failed kind head s ≡ Err fault → PduBad bytes fault
bad_behind bytes fault (Some failed) kind head s failed-is kind-is none e = inl (failed-is ∙ cc)
bad_behind bytes fault None None head s failed-is kind-is none e = absurd (type_is_known bytes failed-is kind-is)
bad_behind bytes fault None (Some kind) head s failed-is kind-is none e = inr (failed-is, short_err (body_at kind head s) fault e, none)

abbrev spelled : Pdu → Result Pdu PduFault
spelled p = Ok p

pub pdu_bad : (bytes : List ℕ) (fault : PduFault) → pdu_at bytes ≡ Err fault → PduBad bytes fault
unfolding pdu_at
pdu_bad bytes fault e =
    let none : (p : Pdu) → IsPdu bytes p → ⊥ = λ p is. differs p (sym (pdu_read bytes p is) ∙ e) in
    bad_behind bytes fault (header_fault bytes) (type_with (slice_index bytes 2)) (head_at bytes) (body_of (head_at bytes) bytes) refl refl none e
  where
    differs : (p : Pdu) → spelled p ≡ Err fault → ⊥
    differs p same = cc

-- ---- what decode ensures

pub decode_found : (bytes : List ℕ) (r : Result Pdu PduFault) → IsBytes bytes → Decodes r (pdu_at bytes) → IfOk r (λ p. IsPdu bytes p)
decode_found bytes (Ok p) h e = pdu_found bytes p h e
decode_found bytes (Err fault) h e = tt

pub decode_counts : (bytes : List ℕ) (r : Result Pdu PduFault) → IfOk r (λ p. IsPdu bytes p) → IfOk r CountsFit
decode_counts bytes (Ok p) is = counts_fit bytes p is
decode_counts bytes (Err fault) is = tt

pub decode_only : (bytes : List ℕ) (r : Result Pdu PduFault) → Decodes r (pdu_at bytes) → (p : Pdu) → IsPdu bytes p → Decodes r (Ok p)
decode_only bytes r e p is = subst (Decodes r) (pdu_read bytes p is) e

pub decode_fault : (bytes : List ℕ) (r : Result Pdu PduFault) → Decodes r (pdu_at bytes) → IfErr r (λ fault. MayFail bytes fault)
decode_fault bytes (Ok p) e = tt
decode_fault bytes (Err faults.Memory) e = inl refl
decode_fault bytes (Err faults.BadVersion) e = inr (pdu_bad bytes faults.BadVersion e)
decode_fault bytes (Err faults.BadType) e = inr (pdu_bad bytes faults.BadType e)
decode_fault bytes (Err faults.BadRep) e = inr (pdu_bad bytes faults.BadRep e)
decode_fault bytes (Err faults.BadLength) e = inr (pdu_bad bytes faults.BadLength e)
decode_fault bytes (Err faults.HasAuth) e = inr (pdu_bad bytes faults.HasAuth e)
decode_fault bytes (Err faults.BadFlags) e = inr (pdu_bad bytes faults.BadFlags e)
