-- Fields behind padding: what is read is spelled so, and what is spelled so is read.
use Rattle.std.proofs.Common.{◌≡◌, ℕ, ◌+◌, ◌^◌, ◌<◌, List, ◌++◌, length, Some, refl, ap, ◌∙◌, subst, append_assoc, arith, length-append}
use Rattle.wire_fields.specs.declared.endian.Endian.{Endian}
use Rattle.wire_fields.specs.Numbers.{IsBytes, num, uuid_text}
use Rattle.wire_fields.specs.Reading.{Reading, ◌>>=◌, align_at, gap, number_at, uuid_at}
use Rattle.wire_fields.proofs.NumberLaws.{length-num}
use Rattle.wire_fields.proofs.FieldLaws.{Took, at, took_then, bind_some, some_is, number_found, number_read, uuid_found, uuid_read, length-uuid_text, align_found, align_read}
use Rattle.ndr_values.specs.declared.handle.WireHandle.{WireHandle}
use Rattle.ndr_values.specs.Aligned.{word_at, handle_at}
use Rattle.ndr_values.specs.Spelling.{SpellsHandle}

-- A number in the order of an earlier reader.
pub number_took_in : (e : Endian) (s : Reading) (n : ℕ) (t : Reading) → s.endian ≡ e → IsBytes s.left → number_at 4 s ≡ Some (n, t) → Took s (num e 4 n) t × (n < 256 ^ 4)
number_took_in e s n t order h read = subst (λ o. Took s (num o 4 n) t × (n < 256 ^ 4)) order (number_found 4 s n t h read)

uuid_took_in : (e : Endian) (s : Reading) (id : List ℕ) (t : Reading) → s.endian ≡ e → IsBytes s.left → uuid_at s ≡ Some (id, t) → Took s (uuid_text e id) t × (length id ≡ 16)
uuid_took_in e s id t order h read = subst (λ o. Took s (uuid_text o id) t × (length id ≡ 16)) order (uuid_found s id t h read)

-- A number behind its padding was taken.
pub record TookWord (s : Reading) (n : ℕ) (t : Reading) : Type 0 where
  pub padding : List ℕ
  pub aligned : length padding ≡ gap 4 s.place
  pub fits : n < 256 ^ 4
  pub took : Took s (padding ++ num s.endian 4 n) t

pub word_found : (s : Reading) (n : ℕ) (t : Reading) → IsBytes s.left → word_at s ≡ Some (n, t) → TookWord s n t
unfolding word_at
word_found s n t h e =
    let padded = bind_some (align_at 4 s) (λ padded. number_at 4 padded.1) (n, t) e in
    let front = align_found 4 s padded.0.1 h padded.1 in
    let back = number_took_in s.endian padded.0.1 n t front.1.order front.1.bytes padded.2 in
    record {
      padding = front.0;
      aligned = front.2;
      fits = back.1;
      took = took_then s padded.0.1 t front.0 (num s.endian 4 n) front.1 back.0;
    }

pub word_read : (e : Endian) (place n : ℕ) (padding rest : List ℕ) → length padding ≡ gap 4 place → n < 256 ^ 4
    → word_at (at e place (padding ++ (num e 4 n ++ rest))) ≡ Some (n, at e (place + length padding + 4) rest)
unfolding word_at
word_read e place n padding rest gap_is small = rw (align_read e 4 place padding (num e 4 n ++ rest) gap_is, number_read e (place + length padding) 4 n rest small) refl

-- A context handle behind its padding was taken.
pub record TookHandle (s : Reading) (sent : WireHandle) (t : Reading) : Type 0 where
  pub bytes : List ℕ
  pub took : Took s bytes t
  pub spelled : SpellsHandle s.endian s.place sent bytes

pub handle_found : (s : Reading) (sent : WireHandle) (t : Reading) → IsBytes s.left → handle_at s ≡ Some (sent, t) → TookHandle s sent t
unfolding handle_at
handle_found s sent t h e =
    let padded = bind_some (align_at 4 s) (λ padded. number_at 4 padded.1 >>= λ attributes. uuid_at attributes.1 >>= λ id. Some (record { attributes = attributes.0; id = id.0 }, id.1)) (sent, t) e in
    let attributes = bind_some (number_at 4 padded.0.1) (λ attributes. uuid_at attributes.1 >>= λ id. Some (record { attributes = attributes.0; id = id.0 }, id.1)) (sent, t) padded.2 in
    let id = bind_some (uuid_at attributes.0.1) (λ id. Some (record { attributes = attributes.0.0; id = id.0 }, id.1)) (sent, t) attributes.2 in
    let front = align_found 4 s padded.0.1 h padded.1 in
    let middle = number_took_in s.endian padded.0.1 attributes.0.0 attributes.0.1 front.1.order front.1.bytes attributes.1 in
    let back = uuid_took_in s.endian attributes.0.1 id.0.0 id.0.1 (middle.0.order ∙ front.1.order) middle.0.bytes id.1 in
    let ends = took_then padded.0.1 attributes.0.1 id.0.1 (num s.endian 4 attributes.0.0) (uuid_text s.endian id.0.0) middle.0 back.0 in
    let made : WireHandle = record { attributes = attributes.0.0; id = id.0.0 } in
    let whole : TookHandle s made id.0.1 = record {
      bytes = front.0 ++ (num s.endian 4 attributes.0.0 ++ uuid_text s.endian id.0.0);
      took = took_then s padded.0.1 id.0.1 front.0 (num s.endian 4 attributes.0.0 ++ uuid_text s.endian id.0.0) front.1 ends;
      spelled = record { padding = front.0; aligned = front.2; attributes = middle.1; id = back.1; parts = refl };
    } in
    subst (λ (x : WireHandle × Reading). TookHandle s x.0 x.1) (some_is (made, id.0.1) (sent, t) id.2) whole

pub handle_read : (e : Endian) (place : ℕ) (sent : WireHandle) (bytes rest : List ℕ) → SpellsHandle e place sent bytes
    → handle_at (at e place (bytes ++ rest)) ≡ Some (sent, at e (place + length bytes) rest)
unfolding handle_at
handle_read e place sent bytes rest is =
    let padding = is.padding in
    let attributes = num e 4 sent.attributes in
    let id = uuid_text e sent.id in
    let regrouped : (padding ++ (attributes ++ id)) ++ rest ≡ padding ++ (attributes ++ (id ++ rest)) = simp append_assoc in
    let further : place + length padding + 4 + 16 ≡ place + length (padding ++ (attributes ++ id)) =
    omega (arith, length-append padding (attributes ++ id), length-append attributes id, length-num e 4 sent.attributes, length-uuid_text e sent.id is.id) in
    rw (is.parts, regrouped, align_read e 4 place padding (attributes ++ (id ++ rest)) is.aligned, number_read e (place + length padding) 4 sent.attributes (id ++ rest) is.attributes, uuid_read e (place + length padding + 4) sent.id rest is.id)
    (ap (λ p. Some (sent, at e p rest)) further)
