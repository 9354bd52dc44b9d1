-- What a server answers has an encoding: the sizes are shown here, once for all callers.
use Rattle.std.proofs.Common.{◌≡◌, ℕ, ◌+◌, ◌*◌, ◌<◌, ◌≤◌, List, [], ◌∷◌, ◌++◌, length, replicate, Option, Some, None, refl, ap, ◌∙◌, arith, length-append, false}
use Rattle.std.specs.Prelude.{IsTrue, is_some}
use Rattle.std.specs.List.{flat_map}
use Rattle.std.proofs.lemmas.Bool.Decides.{nat_tests}
use Rattle.std.proofs.lemmas.List.{length-replicate}
use Rattle.std.proofs.lemmas.List.Concat.{flat_map-cons}
use Rattle.wire_fields.specs.declared.endian.Endian.TheVariants.{Little}
use Rattle.wire_fields.specs.Numbers.{num, uuid_text}
use Rattle.wire_fields.specs.Reading.{gap}
use Rattle.wire_fields.proofs.NumberLaws.{length-num}
use Rattle.rpc_pdu.specs.declared.head.Head.{Head}
use Rattle.rpc_pdu.specs.declared.pdu.Pdu.TheVariants.{Request, Response, Fault, BindAck, BindNak, AlterContextResp}
use Rattle.rpc_pdu.specs.declared.verdict.Verdict.{Verdict}
use Rattle.rpc_pdu.specs.Encoding.{CanSpell, bind_ack_text, bind_nak_text, fault_text, object_text, request_text, response_text, syntax_text, verdict_text, version_text}
use Rattle.rpc_pdu.specs.Flags.{has_flag}
use Rattle.rpc_pdu.specs.Reading.{padding_behind}

gap-below : (place : ℕ) → gap 4 place ≤ 3
gap-below place = grind (arith, nat_tests)

length-uuid_little : (id : List ℕ) → length (uuid_text Little id) ≡ 16
unfolding uuid_text
length-uuid_little id = refl

length-verdict_text : (v : Verdict) → length (verdict_text v) ≡ 24
unfolding verdict_text syntax_text
length-verdict_text v =
    let id = uuid_text Little v.syntax.id in
    let version = num Little 4 v.syntax.version in
    let outcome = num Little 2 v.result in
    let reason = num Little 2 v.reason in
    omega (arith, length-append (outcome ++ reason) (id ++ version), length-append outcome reason, length-append id version, length-num Little 2 v.result, length-num Little 2 v.reason, length-uuid_little v.syntax.id, length-num Little 4 v.syntax.version)

length-verdicts : (vs : List Verdict) → length (flat_map verdict_text vs) ≡ 24 * length vs
length-verdicts [] = refl
length-verdicts (v ∷ vs) =
    ap length (flat_map-cons verdict_text v vs) ∙ omega (arith, length-append (verdict_text v) (flat_map verdict_text vs), length-verdict_text v, length-verdicts vs)

length-version_text : (v : ℕ × ℕ) → length (version_text v) ≡ 2
unfolding version_text
length-version_text v = omega (arith, length-append (num Little 1 v.0) (num Little 1 v.1), length-num Little 1 v.0, length-num Little 1 v.1)

length-versions : (vs : List (ℕ × ℕ)) → length (flat_map version_text vs) ≡ 2 * length vs
length-versions [] = refl
length-versions (v ∷ vs) =
    ap length (flat_map-cons version_text v vs) ∙ omega (arith, length-append (version_text v) (flat_map version_text vs), length-version_text v, length-versions vs)

-- ---- lengths of bodies

ack_size : (xmit recv group : ℕ) (address : List ℕ) (verdicts : List Verdict) → length (bind_ack_text xmit recv group address verdicts) ≤ 17 + (length address + 24 * length verdicts)
unfolding bind_ack_text
ack_size xmit recv group address verdicts =
    let a = num Little 2 xmit in
    let b = num Little 2 recv in
    let c = num Little 4 group in
    let d = num Little 2 (length address) in
    let zeros : List ℕ = replicate (padding_behind (length address)) 0 in
    let f = num Little 1 (length verdicts) in
    let three : List ℕ = 0 ∷ 0 ∷ 0 ∷ [] in
    let list = flat_map verdict_text verdicts in
    omega (
      arith,
      length-append (((((((a ++ b) ++ c) ++ d) ++ address) ++ zeros) ++ f) ++ three) list,
      length-append ((((((a ++ b) ++ c) ++ d) ++ address) ++ zeros) ++ f) three,
      length-append (((((a ++ b) ++ c) ++ d) ++ address) ++ zeros) f,
      length-append ((((a ++ b) ++ c) ++ d) ++ address) zeros,
      length-append (((a ++ b) ++ c) ++ d) address,
      length-append ((a ++ b) ++ c) d,
      length-append (a ++ b) c,
      length-append a b,
      length-num Little 2 xmit,
      length-num Little 2 recv,
      length-num Little 4 group,
      length-num Little 2 (length address),
      length-num Little 1 (length verdicts),
      length-replicate {A = ℕ} (padding_behind (length address)) 0,
      gap-below (26 + length address),
      length-verdicts verdicts,
    )

nak_size : (reason : ℕ) (versions : List (ℕ × ℕ)) → length (bind_nak_text reason versions) ≡ 3 + 2 * length versions
unfolding bind_nak_text
nak_size reason versions =
    let a = num Little 2 reason in
    let b = num Little 1 (length versions) in
    omega (arith, length-append (a ++ b) (flat_map version_text versions), length-append a b, length-num Little 2 reason, length-num Little 1 (length versions), length-versions versions)

fault_size : (hint context cancels status : ℕ) → length (fault_text hint context cancels status) ≡ 16
unfolding fault_text
fault_size hint context cancels status =
    let a = num Little 4 hint in
    let b = num Little 2 context in
    let c = num Little 1 cancels in
    let one : List ℕ = 0 ∷ [] in
    let d = num Little 4 status in
    let four : List ℕ = 0 ∷ 0 ∷ 0 ∷ 0 ∷ [] in
    omega (
      arith,
      length-append ((((a ++ b) ++ c) ++ one) ++ d) four,
      length-append (((a ++ b) ++ c) ++ one) d,
      length-append ((a ++ b) ++ c) one,
      length-append (a ++ b) c,
      length-append a b,
      length-num Little 4 hint,
      length-num Little 2 context,
      length-num Little 1 cancels,
      length-num Little 4 status,
    )

response_size : (hint context cancels : ℕ) (stub : List ℕ) → length (response_text hint context cancels stub) ≡ 8 + length stub
unfolding response_text
response_size hint context cancels stub =
    let a = num Little 4 hint in
    let b = num Little 2 context in
    let c = num Little 1 cancels in
    let one : List ℕ = 0 ∷ [] in
    omega (
      arith,
      length-append (((a ++ b) ++ c) ++ one) stub,
      length-append ((a ++ b) ++ c) one,
      length-append (a ++ b) c,
      length-append a b,
      length-num Little 4 hint,
      length-num Little 2 context,
      length-num Little 1 cancels,
    )

length-object_text : (object : Option (List ℕ)) → length (object_text object) ≤ 16
length-object_text None = omega arith
length-object_text (Some id) = omega (arith, length-uuid_little id)

request_size : (hint context opnum : ℕ) (object : Option (List ℕ)) (stub : List ℕ) → length (request_text hint context opnum object stub) ≤ 24 + length stub
unfolding request_text
request_size hint context opnum object stub =
    let a = num Little 4 hint in
    let b = num Little 2 context in
    let c = num Little 2 opnum in
    let d = object_text object in
    omega (
      arith,
      length-append (((a ++ b) ++ c) ++ d) stub,
      length-append ((a ++ b) ++ c) d,
      length-append (a ++ b) c,
      length-append a b,
      length-num Little 4 hint,
      length-num Little 2 context,
      length-num Little 2 opnum,
      length-object_text object,
    )

-- ---- what has an encoding

-- A bind_ack with up to 255 verdicts, its address short enough.
pub ack_spells : (head : Head) (xmit recv group : ℕ) (address : List ℕ) (verdicts : List Verdict) → head.minor ≤ 1 → IsTrue (has_flag head.flags 0x03)
    → length address ≤ 59000 → length verdicts < 256 → CanSpell (BindAck head xmit recv group address verdicts)
ack_spells head xmit recv group address verdicts minor flags short few = record {
  minor = minor;
  flags = flags;
  object = tt;
  counts = (omega arith, few);
  size = omega (arith, ack_size xmit recv group address verdicts);
}

pub alter_context_resp_spells : (head : Head) (xmit recv group : ℕ) (address : List ℕ) (verdicts : List Verdict) → head.minor ≤ 1 → IsTrue (has_flag head.flags 0x03)
    → length address ≤ 59000 → length verdicts < 256 → CanSpell (AlterContextResp head xmit recv group address verdicts)
alter_context_resp_spells head xmit recv group address verdicts minor flags short few = record {
  minor = minor;
  flags = flags;
  object = tt;
  counts = (omega arith, few);
  size = omega (arith, ack_size xmit recv group address verdicts);
}

pub nak_spells : (head : Head) (reason : ℕ) (versions : List (ℕ × ℕ)) → head.minor ≤ 1 → IsTrue (has_flag head.flags 0x03)
    → length versions < 256 → CanSpell (BindNak head reason versions)
nak_spells head reason versions minor flags few = record {
  minor = minor;
  flags = flags;
  object = tt;
  counts = few;
  size = omega (arith, nak_size reason versions);
}

pub fault_spells : (head : Head) (hint context cancels status : ℕ) → head.minor ≤ 1 → CanSpell (Fault head hint context cancels status)
fault_spells head hint context cancels status minor = record {
  minor = minor;
  flags = refl;
  object = tt;
  counts = tt;
  size = omega (arith, fault_size hint context cancels status);
}

pub response_spells : (head : Head) (hint context cancels : ℕ) (stub : List ℕ) → head.minor ≤ 1 → 24 + length stub ≤ 65535 → CanSpell (Response head hint context cancels stub)
response_spells head hint context cancels stub minor short = record {
  minor = minor;
  flags = refl;
  object = tt;
  counts = tt;
  size = omega (arith, response_size hint context cancels stub);
}

pub request_spells : (head : Head) (hint context opnum : ℕ) (object : Option (List ℕ)) (stub : List ℕ) → head.minor ≤ 1 → has_flag head.flags 0x40 ≡ false
    → has_flag head.flags 0x80 ≡ is_some object → 40 + length stub ≤ 65535 → CanSpell (Request head hint context opnum object stub)
request_spells head hint context opnum object stub minor wants_answer stands short = record {
  minor = minor;
  flags = rw wants_answer refl;
  object = stands;
  counts = tt;
  size = omega (arith, request_size hint context opnum object stub);
}
