-- The canonical encoding of a PDU spells it, in little-endian order.
use Rattle.std.proofs.Common.{◌≡◌, ℕ, ◌+◌, ◌^◌, ◌<◌, ◌≤◌, List, [], ◌∷◌, ◌++◌, length, drop, replicate, Option, Some, None, Result, Ok, Err, refl, sym, ap, ◌∙◌, subst, append_assoc, arith, length-append}
use Rattle.std.specs.Prelude.{IfOk, IfSome, IsTrue, OnOk, is_some}
use Rattle.std.specs.Global.{Vec}
use Rattle.std.specs.declared.alloc.AllocError.{AllocError}
use Rattle.std.specs.List.{flat_map, AllByRecursion}
use Rattle.std.proofs.lemmas.List.{append-nil, drop_at, length-replicate}
use Rattle.std.proofs.lemmas.List.Concat.{flat_map-cons}
use Rattle.wire_fields.specs.declared.endian.Endian.TheVariants.{Little}
use Rattle.wire_fields.specs.Lists.{IsList}
use Rattle.wire_fields.specs.Numbers.{num}
use Rattle.wire_fields.proofs.FieldLaws.{field_at}
use Rattle.wire_fields.proofs.NumberLaws.{length-num}
use Rattle.rpc_pdu.specs.declared.head.Head.{Head}
use Rattle.rpc_pdu.specs.declared.pdu.Pdu.{Pdu}
use Rattle.rpc_pdu.specs.declared.pdu.Pdu.TheVariants.{Request, Response, Fault, Bind, BindAck, BindNak, AlterContext, AlterContextResp, Shutdown, CoCancel, Orphaned}
use Rattle.rpc_pdu.specs.declared.pdu_type.PduType.{PduType}
use Rattle.rpc_pdu.specs.declared.pdu_type.PduType.TheVariants as types
use Rattle.rpc_pdu.specs.declared.proposal.Proposal.{Proposal}
use Rattle.rpc_pdu.specs.declared.syntax.Syntax.{Syntax}
use Rattle.rpc_pdu.specs.declared.verdict.Verdict.{Verdict}
use Rattle.rpc_pdu.specs.Encoding.{BodyInRange, CanSpell, CountsFit, HeadInRange, InRange, ObjectFits, ProposalInRange, SyntaxInRange, VerdictInRange, VersionInRange, bind_ack_text, bind_nak_text, bind_text, body_text, fault_text, frame_text, in_little, little, object_text, proposal_text, request_text, response_text, spelling, syntax_text, verdict_text, version_text}
use Rattle.rpc_pdu.specs.Flags.{flags_fit, has_flag}
use Rattle.rpc_pdu.specs.Grammar.{IsBindAckBody, IsBindBody, IsBody, IsObject, IsPdu, IsProposal, IsSyntax, IsVerdict, IsVersion}
use Rattle.rpc_pdu.specs.Header.{IsHeader}
use Rattle.rpc_pdu.specs.PduTypes.{head_in, type_number, type_of, type_with}
use Rattle.rpc_pdu.specs.Reading.{padding_behind}

-- ---- appended texts, grouped to the right

pile3 : (a b c : List ℕ) → (a ++ b) ++ c ≡ a ++ (b ++ c)
pile3 a b c = simp append_assoc

pile4 : (a b c d : List ℕ) → ((a ++ b) ++ c) ++ d ≡ a ++ (b ++ (c ++ d))
pile4 a b c d = simp append_assoc

pile5 : (a b c d e : List ℕ) → (((a ++ b) ++ c) ++ d) ++ e ≡ a ++ (b ++ (c ++ (d ++ e)))
pile5 a b c d e = simp append_assoc

pile6 : (a b c d e f : List ℕ) → ((((a ++ b) ++ c) ++ d) ++ e) ++ f ≡ a ++ (b ++ (c ++ (d ++ (e ++ f))))
pile6 a b c d e f = simp append_assoc

pile9 : (a b c d e f g h i : List ℕ) → (((((((a ++ b) ++ c) ++ d) ++ e) ++ f) ++ g) ++ h) ++ i ≡ a ++ (b ++ (c ++ (d ++ (e ++ (f ++ (g ++ (h ++ i)))))))
pile9 a b c d e f g h i = simp append_assoc

-- ---- lists

list_spelled : {A : Type 0} (text : A → List ℕ) (is : A → List ℕ → Type 0) (Fits : A → Type 0) → ((x : A) → Fits x → is x (text x))
    → (xs : List A) → AllByRecursion Fits xs → IsList is xs (flat_map text xs)
list_spelled text is Fits one [] fits = refl
list_spelled text is Fits one (x ∷ xs) fits =
    (text x, flat_map text xs, flat_map-cons text x xs, one x fits.0, list_spelled text is Fits one xs fits.1)

all_both : {A : Type 0} (P Q : A → Type 0) (xs : List A) → AllByRecursion P xs → AllByRecursion Q xs → AllByRecursion (λ x. P x × Q x) xs
all_both P Q [] p q = tt
all_both P Q (x ∷ xs) p q = ((p.0, q.0), all_both P Q xs p.1 q.1)

-- ---- parts of bodies

syntax_spelled : (s : Syntax) → SyntaxInRange s → IsSyntax Little s (syntax_text s)
unfolding syntax_text
syntax_spelled s fits = (fits.0, fits.1, refl)

syntaxes_spelled : (ss : List Syntax) → AllByRecursion SyntaxInRange ss → IsList (IsSyntax Little) ss (flat_map syntax_text ss)
syntaxes_spelled ss fits = list_spelled syntax_text (IsSyntax Little) SyntaxInRange syntax_spelled ss fits

abbrev ProposalFits : Proposal → Type 0
ProposalFits p = ProposalInRange p × (length p.transfers < 256)

proposal_spelled : (p : Proposal) → ProposalFits p → IsProposal Little p (proposal_text p)
unfolding proposal_text
proposal_spelled p fits =
    let range = fits.0 in (
      0 ∷ [],
      syntax_text p.abstract_syntax,
      flat_map syntax_text p.transfers,
      refl,
      syntax_spelled p.abstract_syntax range.1,
      syntaxes_spelled p.transfers range.2,
      range.0,
      fits.1,
      pile5 (num Little 2 p.id) (num Little 1 (length p.transfers)) (0 ∷ []) (syntax_text p.abstract_syntax) (flat_map syntax_text p.transfers),
    )

verdict_spelled : (v : Verdict) → VerdictInRange v → IsVerdict Little v (verdict_text v)
unfolding verdict_text
verdict_spelled v fits =
    (syntax_text v.syntax, syntax_spelled v.syntax fits.2, fits.0, fits.1, pile3 (num Little 2 v.result) (num Little 2 v.reason) (syntax_text v.syntax))

version_spelled : (v : ℕ × ℕ) → VersionInRange v → IsVersion Little v (version_text v)
unfolding version_text
version_spelled v fits = (fits.0, fits.1, refl)

object_spelled : (flags : ℕ) (object : Option (List ℕ)) → has_flag flags 0x80 ≡ is_some object → IfSome object (λ id. length id ≡ 16) → IsObject flags Little object (object_text object)
object_spelled flags None stands long = (stands, refl)
object_spelled flags (Some id) stands long = (stands, long, refl)

-- ---- bodies

bind_spelled : (xmit recv group : ℕ) (proposals : List Proposal) → length proposals < 256 → AllByRecursion (λ p. length p.transfers < 256) proposals
    → xmit < 256 ^ 2 → recv < 256 ^ 2 → group < 256 ^ 4 → AllByRecursion ProposalInRange proposals → IsBindBody Little xmit recv group proposals (bind_text xmit recv group proposals)
unfolding bind_text
bind_spelled xmit recv group proposals count transfers xmit-small recv-small group-small range =
    let fits = all_both ProposalInRange (λ p. length p.transfers < 256) proposals range transfers in
    let listed = list_spelled proposal_text (IsProposal Little) ProposalFits proposal_spelled proposals fits in (
      0 ∷ 0 ∷ 0 ∷ [],
      flat_map proposal_text proposals,
      refl,
      listed,
      xmit-small,
      recv-small,
      group-small,
      count,
      pile6 (num Little 2 xmit) (num Little 2 recv) (num Little 4 group) (num Little 1 (length proposals)) (0 ∷ 0 ∷ 0 ∷ []) (flat_map proposal_text proposals),
    )

bind_ack_spelled : (xmit recv group : ℕ) (address : List ℕ) (verdicts : List Verdict) → length address < 65536 → length verdicts < 256
    → xmit < 256 ^ 2 → recv < 256 ^ 2 → group < 256 ^ 4 → AllByRecursion VerdictInRange verdicts → IsBindAckBody Little xmit recv group address verdicts (bind_ack_text xmit recv group address verdicts)
unfolding bind_ack_text
bind_ack_spelled xmit recv group address verdicts size count xmit-small recv-small group-small range =
    let zeros = replicate (padding_behind (length address)) 0 in
    let listed = list_spelled verdict_text (IsVerdict Little) VerdictInRange verdict_spelled verdicts range in (
      zeros,
      0 ∷ 0 ∷ 0 ∷ [],
      flat_map verdict_text verdicts,
      length-replicate (padding_behind (length address)) 0,
      refl,
      listed,
      xmit-small,
      recv-small,
      group-small,
      size,
      count,
      pile9 (num Little 2 xmit) (num Little 2 recv) (num Little 4 group) (num Little 2 (length address)) address zeros (num Little 1 (length verdicts)) (0 ∷ 0 ∷ 0 ∷ []) (flat_map verdict_text verdicts),
    )

body_spelled : (p : Pdu) → ObjectFits p → CountsFit p → BodyInRange p → IsBody (in_little p) (body_text p)
unfolding request_text response_text fault_text bind_nak_text
body_spelled (Request head hint context opnum object stub) stands counts range = (
  object_text object,
  object_spelled head.flags object stands range.3,
  range.0,
  range.1,
  range.2,
  pile5 (num Little 4 hint) (num Little 2 context) (num Little 2 opnum) (object_text object) stub,
)
body_spelled (Response head hint context cancels stub) stands counts range =
    (0 ∷ [], refl, range.0, range.1, range.2, pile5 (num Little 4 hint) (num Little 2 context) (num Little 1 cancels) (0 ∷ []) stub)
body_spelled (Fault head hint context cancels status) stands counts range =
    let zeros : List ℕ = 0 ∷ 0 ∷ 0 ∷ 0 ∷ [] in (
      0 ∷ [],
      zeros,
      [],
      refl,
      refl,
      range.0,
      range.1,
      range.2,
      range.3,
      pile6 (num Little 4 hint) (num Little 2 context) (num Little 1 cancels) (0 ∷ []) (num Little 4 status) zeros,
    )
body_spelled (Bind head xmit recv group proposals) stands counts range =
    bind_spelled xmit recv group proposals counts.0 counts.1 range.0 range.1 range.2 range.3
body_spelled (BindAck head xmit recv group address verdicts) stands counts range =
    bind_ack_spelled xmit recv group address verdicts counts.0 counts.1 range.0 range.1 range.2 range.3
body_spelled (BindNak head reason versions) stands counts range =
    let listed = list_spelled version_text (IsVersion Little) VersionInRange version_spelled versions range.1 in
    let text = flat_map version_text versions in (
      text,
      [],
      listed,
      range.0,
      counts,
      pile3 (num Little 2 reason) (num Little 1 (length versions)) text ∙ ap (λ (t : List ℕ). num Little 2 reason ++ (num Little 1 (length versions) ++ t)) (sym (append-nil text)),
    )
body_spelled (AlterContext head xmit recv group proposals) stands counts range =
    bind_spelled xmit recv group proposals counts.0 counts.1 range.0 range.1 range.2 range.3
body_spelled (AlterContextResp head xmit recv group address verdicts) stands counts range =
    bind_ack_spelled xmit recv group address verdicts counts.0 counts.1 range.0 range.1 range.2 range.3
body_spelled (Shutdown head) stands counts range = refl
body_spelled (CoCancel head) stands counts range = refl
body_spelled (Orphaned head) stands counts range = refl

-- ---- a whole PDU

abbrev start : PduType → Head → List ℕ
start kind head = 5 ∷ head.minor ∷ type_number kind ∷ head.flags ∷ 0x10 ∷ 0 ∷ 0 ∷ 0 ∷ []

frame_is : (kind : PduType) (head : Head) (body : List ℕ)
    → frame_text kind head body ≡ start kind head ++ (num Little 2 (16 + length body) ++ (num Little 2 0 ++ (num Little 4 head.call_id ++ body)))
unfolding frame_text
frame_is kind head body = pile5 (start kind head) (num Little 2 (16 + length body)) (num Little 2 0) (num Little 4 head.call_id) body

regroup : (a b c d : List ℕ) → a ++ (b ++ (c ++ d)) ≡ (a ++ b) ++ (c ++ d)
regroup a b c d = simp append_assoc

regroup_twice : (a b c d : List ℕ) → a ++ (b ++ (c ++ d)) ≡ ((a ++ b) ++ c) ++ d
regroup_twice a b c d = simp append_assoc

type_known : (kind : PduType) → type_with (type_number kind) ≡ Some kind
type_known types.Request = refl
type_known types.Response = refl
type_known types.Fault = refl
type_known types.Bind = refl
type_known types.BindAck = refl
type_known types.BindNak = refl
type_known types.AlterContext = refl
type_known types.AlterContextResp = refl
type_known types.Shutdown = refl
type_known types.CoCancel = refl
type_known types.Orphaned = refl

frame_header : (kind : PduType) (head : Head) (body : List ℕ) → head.minor ≤ 1 → IsTrue (flags_fit kind head.flags) → head.call_id < 256 ^ 4 → 16 + length body ≤ 65535
    → IsHeader (frame_text kind head body) kind (little head)
frame_header kind head body minor flags call size =
    let front = start kind head in
    let frag = num Little 2 (16 + length body) in
    let auth = num Little 2 0 in
    let id = num Little 4 head.call_id in
    let frag-long = length-num Little 2 (16 + length body) in
    let auth-long = length-num Little 2 0 in
    let id-long = length-num Little 4 head.call_id in
    let whole = front ++ (frag ++ (auth ++ (id ++ body))) in
    let long : length whole ≡ 16 + length body = omega (arith, length-append {A = ℕ}, frag-long, auth-long, id-long) in
    let auth-place : length (front ++ frag) ≡ 10 = omega (arith, length-append {A = ℕ}, frag-long) in
    let id-place : length ((front ++ frag) ++ auth) ≡ 12 = omega (arith, length-append frag auth, frag-long, auth-long) in
    let header : IsHeader whole kind (little head) = record {
      long = omega arith;
      version = refl;
      minor = refl;
      minor_known = minor;
      type_known = type_known kind;
      flags = refl;
      flags_fit = flags;
      order = refl;
      frag_length = field_at Little 2 8 (16 + length body) whole front (auth ++ (id ++ body)) refl refl (omega arith) ∙ sym long;
      auth_length = field_at Little 2 10 0 whole (front ++ frag) (id ++ body) (regroup front frag auth (id ++ body)) auth-place (omega arith);
      call_id = field_at Little 4 12 head.call_id whole ((front ++ frag) ++ auth) body (regroup_twice front frag auth (id ++ body)) id-place call;
    } in
    subst (λ (t : List ℕ). IsHeader t kind (little head)) (sym (frame_is kind head body)) header

frame_body : (kind : PduType) (head : Head) (body : List ℕ) → drop 16 (frame_text kind head body) ≡ body
frame_body kind head body =
    let front = start kind head in
    let frag = num Little 2 (16 + length body) in
    let auth = num Little 2 0 in
    let id = num Little 4 head.call_id in
    let long : length (((front ++ frag) ++ auth) ++ id) ≡ 16 =
    omega (arith, length-append (frag ++ auth) id, length-append frag auth, length-num Little 2 (16 + length body), length-num Little 2 0, length-num Little 4 head.call_id) in
    ap (drop 16) (frame_is kind head body ∙ sym (pile5 front frag auth id body)) ∙ drop_at (((front ++ frag) ++ auth) ++ id) body 16 long

type_in_little : (p : Pdu) → type_of (in_little p) ≡ type_of p
type_in_little (Request head hint context opnum object stub) = refl
type_in_little (Response head hint context cancels stub) = refl
type_in_little (Fault head hint context cancels status) = refl
type_in_little (Bind head xmit recv group proposals) = refl
type_in_little (BindAck head xmit recv group address verdicts) = refl
type_in_little (BindNak head reason versions) = refl
type_in_little (AlterContext head xmit recv group proposals) = refl
type_in_little (AlterContextResp head xmit recv group address verdicts) = refl
type_in_little (Shutdown head) = refl
type_in_little (CoCancel head) = refl
type_in_little (Orphaned head) = refl

head_in_little : (p : Pdu) → head_in (in_little p) ≡ little (head_in p)
head_in_little (Request head hint context opnum object stub) = refl
head_in_little (Response head hint context cancels stub) = refl
head_in_little (Fault head hint context cancels status) = refl
head_in_little (Bind head xmit recv group proposals) = refl
head_in_little (BindAck head xmit recv group address verdicts) = refl
head_in_little (BindNak head reason versions) = refl
head_in_little (AlterContext head xmit recv group proposals) = refl
head_in_little (AlterContextResp head xmit recv group address verdicts) = refl
head_in_little (Shutdown head) = refl
head_in_little (CoCancel head) = refl
head_in_little (Orphaned head) = refl

-- What is encoded is spelled so.
pub encoding_spells : (p : Pdu) → CanSpell p → InRange p → IsPdu (spelling p) (in_little p)
unfolding spelling
encoding_spells p can range =
    let kind = type_of p in
    let head = head_in p in
    let body = body_text p in
    let framed = frame_header kind head body can.minor can.flags range.0.2 can.size in
    let P : List ℕ → Type 0 = IsBody (in_little p) in
    record {
      header = subst (λ (k : PduType). IsHeader (frame_text kind head body) k (head_in (in_little p))) (sym (type_in_little p))
          (subst (λ (h : Head). IsHeader (frame_text kind head body) kind h) (sym (head_in_little p)) framed);
      body = subst P (sym (frame_body kind head body)) (body_spelled p can.object can.counts range.1);
    }

same_frame : (j k : PduType) (g h : Head) (a b : List ℕ) → j ≡ k → g ≡ h → a ≡ b → frame_text j g a ≡ frame_text k h b
same_frame j k g h a b kinds heads bodies = cc

-- What encode ensures: it framed the body.
pub framed_spells : (p : Pdu) (r : Result (Vec ℕ) AllocError) (ptype : PduType) (head : Head) (body : List ℕ) → ptype ≡ type_of p → head ≡ head_in p → body ≡ body_text p → CanSpell p → BodyInRange p
    → OnOk r (HeadInRange head) → IfOk r (λ bytes. bytes.items ≡ frame_text ptype head body) → IfOk r (λ bytes. IsPdu bytes.items (in_little p))
unfolding spelling
framed_spells p (Ok bytes) ptype head body type-is head-is body-is can range head-range text =
    let whole : bytes.items ≡ frame_text (type_of p) (head_in p) (body_text p) = text ∙ same_frame ptype (type_of p) head (head_in p) body (body_text p) type-is head-is body-is in
    let spelled = encoding_spells p can (subst HeadInRange head-is head-range, range) in
    subst (λ (t : List ℕ). IsPdu t (in_little p)) (sym whole) spelled
framed_spells p (Err e) ptype head body type-is head-is body-is can range head-range text = tt
