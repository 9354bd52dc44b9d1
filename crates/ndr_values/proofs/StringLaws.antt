-- Strings: what is read is spelled so, and what is spelled so is read.
use Rattle.std.proofs.Common.{◌≡◌, ℕ, ◌+◌, ◌^◌, ◌<◌, ◌≤◌, true, List, ◌++◌, length, Some, Ok, refl, ap, ◌∙◌, subst, append_assoc, arith, lit<, length-append}
use Rattle.std.specs.Prelude.{◌==◌, nat_le}
use Rattle.std.proofs.lemmas.Bool.{eqb-true, leb-true, le-leb}
use Rattle.wire_fields.specs.declared.endian.Endian.{Endian}
use Rattle.wire_fields.specs.Lists.{IsList}
use Rattle.wire_fields.specs.Numbers.{IsBytes, num}
use Rattle.wire_fields.specs.Reading.{Reading, gap, number_at, times}
use Rattle.wire_fields.proofs.NumberLaws.{length-num}
use Rattle.wire_fields.proofs.FieldLaws.{Took, at, took_then, number_found, number_read}
use Rattle.wire_fields.proofs.ListLaws.{FoundBy, ReadBy, list_found, list_read}
use Rattle.ndr_values.specs.declared.fault.NdrFault.TheVariants.{BadOffset, BadCount, NoEnd}
use Rattle.ndr_values.specs.Aligned.{aligned, word_at}
use Rattle.ndr_values.specs.Reading.{◌>>=◌, field, check, actual_count, units, end_place, string}
use Rattle.ndr_values.specs.Spelling.{Text, IsUnit, SpellsText, Reads}
use Rattle.ndr_values.specs.Text.{ends_in_zero, text_of}
use Rattle.ndr_values.proofs.AlignedLaws.{number_took_in, word_read}
use Rattle.ndr_values.proofs.ValueLaws.{number_took}
use Rattle.ndr_values.proofs.Steps.{bind_ok, bind_field, bind_check, ok_is, reads, only_of}

-- Maximum, offset and actual count were taken.
record TookCount (s : Reading) (count : ℕ) (t : Reading) : Type 0 where
  pub padding : List ℕ
  pub max : ℕ
  pub aligned : length padding ≡ gap 4 s.place
  pub fits : max < 256 ^ 4
  pub within : count ≤ max
  pub took : Took s (padding ++ (num s.endian 4 max ++ (num s.endian 4 0 ++ num s.endian 4 count))) t

three : (s m o t : Reading) (padding max offset count : List ℕ) → Took s (padding ++ max) m → Took m offset o → Took o count t → Took s (padding ++ (max ++ (offset ++ count))) t
three s m o t padding max offset count one two last =
    let regrouped : (padding ++ max) ++ (offset ++ count) ≡ padding ++ (max ++ (offset ++ count)) = simp append_assoc in
    subst (λ text. Took s text t) regrouped (took_then s m t (padding ++ max) (offset ++ count) one (took_then m o t offset count two last))

count_found : (s : Reading) (count : ℕ) (t : Reading) → IsBytes s.left → actual_count s ≡ Ok (count, t) → TookCount s count t
unfolding actual_count
count_found s count t h e =
    let max = bind_field (aligned s.place) (word_at s) (λ max. field max.1.place (number_at 4 max.1) >>= λ offset. field offset.1.place (number_at 4 offset.1) >>= λ actual. check (offset.0 == 0) (BadOffset max.1.place) >>= λ from_start. check (nat_le actual.0 max.0) (BadCount offset.1.place) >>= λ within. Ok actual) (count, t) e in
    let m = max.0.1 in
    let offset = bind_field m.place (number_at 4 m) (λ offset. field offset.1.place (number_at 4 offset.1) >>= λ actual. check (offset.0 == 0) (BadOffset m.place) >>= λ from_start. check (nat_le actual.0 max.0.0) (BadCount offset.1.place) >>= λ within. Ok actual) (count, t) max.2 in
    let o = offset.0.1 in
    let actual = bind_field o.place (number_at 4 o) (λ actual. check (offset.0.0 == 0) (BadOffset m.place) >>= λ from_start. check (nat_le actual.0 max.0.0) (BadCount o.place) >>= λ within. Ok actual) (count, t) offset.2 in
    let start = bind_check (offset.0.0 == 0) (BadOffset m.place) (λ from_start. check (nat_le actual.0.0 max.0.0) (BadCount o.place) >>= λ within. Ok actual.0) (count, t) actual.2 in
    let within = bind_check (nat_le actual.0.0 max.0.0) (BadCount o.place) (λ within. Ok actual.0) (count, t) start.1 in
    let a = number_took s max.0.0 m h (ap (field (aligned s.place)) max.1) in
    let b = number_took_in s.endian m offset.0.0 o a.took.order a.took.bytes offset.1 in
    let c = number_took_in s.endian o actual.0.0 actual.0.1 (b.0.order ∙ a.took.order) b.0.bytes actual.1 in
    let zero-is : offset.0.0 ≡ 0 = eqb-true _ _ start.0 in
    let b-zero : Took m (num s.endian 4 0) o = subst (λ n. Took m (num s.endian 4 n) o) zero-is b.0 in
    let whole : TookCount s actual.0.0 actual.0.1 = record {
      padding = a.padding;
      max = max.0.0;
      aligned = a.aligned;
      fits = a.fits;
      within = leb-true _ _ within.0;
      took = three s m o actual.0.1 a.padding (num s.endian 4 max.0.0) (num s.endian 4 0) (num s.endian 4 actual.0.0) a.took b-zero c.0;
    } in
    subst (λ (x : ℕ × Reading). TookCount s x.0 x.1) (ok_is (actual.0.0, actual.0.1) (count, t) within.1) whole

unit_found : FoundBy (number_at 2) IsUnit
unit_found s unit t h e =
    let taken = number_found 2 s unit t h e in
    (num s.endian 2 unit, taken.0, (taken.1, refl))

unit_read : ReadBy (number_at 2) IsUnit
unit_read e place unit text rest is =
    let further : place + 2 ≡ place + length (num e 2 unit) = omega (arith, length-num e 2 unit) in
    rw (is.1, number_read e place 2 unit rest is.0) (ap (λ p. Some (unit, at e p rest)) further)

pub string_reads : (s : Reading) (text : List ℕ) (t : Reading) → IsBytes s.left → string s ≡ Ok (text, t) → Reads (Text text) s t
unfolding string
string_reads s text t h e =
    let actual = bind_ok (actual_count s) (λ actual. units actual.0 actual.1 >>= λ sent. check (ends_in_zero sent.0) (NoEnd (end_place sent.1.place sent.0)) >>= λ ended. Ok (text_of sent.0, sent.1)) (text, t) e in
    let behind = actual.0.1 in
    let sent = bind_field behind.place (times actual.0.0 (number_at 2) behind) (λ sent. check (ends_in_zero sent.0) (NoEnd (end_place sent.1.place sent.0)) >>= λ ended. Ok (text_of sent.0, sent.1)) (text, t) actual.2 in
    let ended = bind_check (ends_in_zero sent.0.0) (NoEnd (end_place sent.0.1.place sent.0.0)) (λ ended. Ok (text_of sent.0.0, sent.0.1)) (text, t) sent.2 in
    let front = count_found s actual.0.0 behind h actual.1 in
    let back = list_found (number_at 2) IsUnit unit_found actual.0.0 behind sent.0.0 sent.0.1 front.took.bytes sent.1 in
    let max = num s.endian 4 front.max in
    let zero = num s.endian 4 0 in
    let count = num s.endian 4 (length sent.0.0) in
    let counted : Took s (front.padding ++ (max ++ (zero ++ count))) behind = rw back.many front.took in
    let regrouped : (front.padding ++ (max ++ (zero ++ count))) ++ back.text ≡ front.padding ++ (max ++ (zero ++ (count ++ back.text))) = simp append_assoc in
    let took : Took s (front.padding ++ (max ++ (zero ++ (count ++ back.text)))) sent.0.1 =
    subst (λ bytes. Took s bytes sent.0.1) regrouped (took_then s behind sent.0.1 (front.padding ++ (max ++ (zero ++ count))) back.text counted back.took) in
    let listed : IsList (IsUnit s.endian) sent.0.0 back.text = subst (λ o. IsList (IsUnit o) sent.0.0 back.text) front.took.order back.listed in
    let spelled : SpellsText s.endian s.place (text_of sent.0.0) (front.padding ++ (max ++ (zero ++ (count ++ back.text)))) = record {
      padding = front.padding;
      max = front.max;
      sent = sent.0.0;
      sent_bytes = back.text;
      aligned = front.aligned;
      fits = front.fits;
      within = rw back.many front.within;
      ended = ended.0;
      before_end = refl;
      units = listed;
      parts = refl;
    } in
    let whole : Reads (Text (text_of sent.0.0)) s sent.0.1 = reads (Text (text_of sent.0.0)) s sent.0.1 (front.padding ++ (max ++ (zero ++ (count ++ back.text)))) took spelled in
    subst (λ (x : List ℕ × Reading). Reads (Text x.0) s x.1) (ok_is (text_of sent.0.0, sent.0.1) (text, t) ended.1) whole

string_again : (e : Endian) (place : ℕ) (text bytes rest : List ℕ) → SpellsText e place text bytes
    → string (at e place (bytes ++ rest)) ≡ Ok (text, at e (place + length bytes) rest)
unfolding string actual_count
string_again e place text bytes rest is =
    let padding = is.padding in
    let max = num e 4 is.max in
    let zero = num e 4 0 in
    let count = num e 4 (length is.sent) in
    let sent = is.sent_bytes in
    let small : length is.sent < 256 ^ 4 = omega (arith, is.within, is.fits) in
    let regrouped : (padding ++ (max ++ (zero ++ (count ++ sent)))) ++ rest ≡ padding ++ (max ++ (zero ++ (count ++ (sent ++ rest)))) = simp append_assoc in
    let one = word_read e place is.max padding (zero ++ (count ++ (sent ++ rest))) is.aligned is.fits in
    let two = number_read e (place + length padding + 4) 4 0 (count ++ (sent ++ rest)) (lit< tt) in
    let three = number_read e (place + length padding + 4 + 4) 4 (length is.sent) (sent ++ rest) small in
    let within : nat_le (length is.sent) is.max ≡ true = le-leb _ _ is.within in
    let four = list_read (number_at 2) IsUnit unit_read e (place + length padding + 4 + 4 + 4) is.sent sent rest is.units in
    let further : place + length padding + 4 + 4 + 4 + length sent ≡ place + length (padding ++ (max ++ (zero ++ (count ++ sent)))) =
    omega (arith, length-append padding (max ++ (zero ++ (count ++ sent))), length-append max (zero ++ (count ++ sent)), length-append zero (count ++ sent), length-append count sent, length-num e 4 is.max, length-num e 4 0, length-num e 4 (length is.sent)) in
    rw (is.parts, regrouped, one, two, three, within, four, is.ended, is.before_end) (ap (λ p. Ok (text_of is.sent, at e p rest)) further)

pub string_only : (s : Reading) (text : List ℕ) (t : Reading) → Reads (Text text) s t → string s ≡ Ok (text, t)
string_only s text t r = only_of string (Text text) text s t r (string_again s.endian s.place text r.bytes t.left r.spelled)
