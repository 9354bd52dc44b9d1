-- Numbers, pointers, context handles and byte arrays: what is read is spelled so, and what is spelled so is read.
use Rattle.std.proofs.Common.{◌≡◌, ℕ, ◌+◌, ◌*◌, ◌^◌, Bool, not, List, ◌++◌, length, Ok, refl, ap, subst, append_assoc, arith, length-append}
use Rattle.std.specs.Prelude.{◌==◌}
use Rattle.wire_fields.specs.declared.endian.Endian.{Endian}
use Rattle.wire_fields.specs.Numbers.{IsBytes, num}
use Rattle.wire_fields.specs.Reading.{Reading, bytes_at, number_at}
use Rattle.wire_fields.proofs.NumberLaws.{length-num}
use Rattle.wire_fields.proofs.FieldLaws.{Took, at, took_then, bytes_found, bytes_read, number_read}
use Rattle.ndr_values.specs.declared.handle.WireHandle.{WireHandle}
use Rattle.ndr_values.specs.Aligned.{aligned, word_at, handle_at}
use Rattle.ndr_values.specs.Reading.{◌>>=◌, field, number, pointer, handle, time, byte_array}
use Rattle.ndr_values.specs.Spelling.{Bytes, Pointer, Handle, Number, Time, SpellsTime, SpellsNumber, SpellsHandle, SpellsBytes, Reads}
use Rattle.ndr_values.proofs.AlignedLaws.{TookWord, number_took_in, word_found, word_read, handle_found, handle_read}
use Rattle.ndr_values.proofs.Steps.{bind_ok, field_ok, bind_field, ok_is, reads, only_of}

-- ---- numbers

pub number_took : (s : Reading) (n : ℕ) (t : Reading) → IsBytes s.left → number s ≡ Ok (n, t) → TookWord s n t
number_took s n t h e = word_found s n t h (field_ok (aligned s.place) (word_at s) (n, t) e)

pub number_reads : (s : Reading) (n : ℕ) (t : Reading) → IsBytes s.left → number s ≡ Ok (n, t) → Reads (Number n) s t
number_reads s n t h e =
    let k = number_took s n t h e in
    reads (Number n) s t (k.padding ++ num s.endian 4 n) k.took (record { padding = k.padding; aligned = k.aligned; fits = k.fits; parts = refl })

number_again : (e : Endian) (place n : ℕ) (bytes rest : List ℕ) → SpellsNumber e place n bytes → number (at e place (bytes ++ rest)) ≡ Ok (n, at e (place + length bytes) rest)
number_again e place n bytes rest is =
    let one = word_read e place n is.padding rest is.aligned is.fits in
    let further : place + length is.padding + 4 ≡ place + length (is.padding ++ num e 4 n) = omega (arith, length-append is.padding (num e 4 n), length-num e 4 n) in
    rw (is.parts, append_assoc is.padding (num e 4 n) rest, one) (ap (λ p. Ok (n, at e p rest)) further)

pub number_only : (s : Reading) (n : ℕ) (t : Reading) → Reads (Number n) s t → number s ≡ Ok (n, t)
number_only s n t r = only_of number (Number n) n s t r (number_again s.endian s.place n r.bytes t.left r.spelled)

-- ---- pointers

pub pointer_reads : (s : Reading) (present : Bool) (t : Reading) → IsBytes s.left → pointer s ≡ Ok (present, t) → Reads (Pointer present) s t
unfolding pointer
pointer_reads s present t h e =
    let referent = bind_ok (number s) (λ referent. Ok (not (referent.0 == 0), referent.1)) (present, t) e in
    let k = number_took s referent.0.0 referent.0.1 h referent.1 in
    let whole : Reads (Pointer (not (referent.0.0 == 0))) s referent.0.1 =
    reads (Pointer (not (referent.0.0 == 0))) s referent.0.1 (k.padding ++ num s.endian 4 referent.0.0) k.took
    (record { referent = referent.0.0; null_is_0 = refl; number = record { padding = k.padding; aligned = k.aligned; fits = k.fits; parts = refl } }) in
    subst (λ (x : Bool × Reading). Reads (Pointer x.0) s x.1) (ok_is (not (referent.0.0 == 0), referent.0.1) (present, t) referent.2) whole

pub pointer_only : (s : Reading) (present : Bool) (t : Reading) → Reads (Pointer present) s t → pointer s ≡ Ok (present, t)
unfolding pointer
pointer_only s present t r =
    let referent = number_only s r.spelled.referent t (record { bytes = r.bytes; spelled = r.spelled.number; parts = r.parts; order = r.order; further = r.further }) in
    rw (referent, r.spelled.null_is_0) refl

-- ---- times

pub time_reads : (s : Reading) (value : ℕ) (t : Reading) → IsBytes s.left → time s ≡ Ok (value, t) → Reads (Time value) s t
unfolding time
time_reads s value t h e =
    let low = bind_ok (number s) (λ low. field low.1.place (number_at 4 low.1) >>= λ high. Ok (low.0 + 256 ^ 4 * high.0, high.1)) (value, t) e in
    let m = low.0.1 in
    let high = bind_field m.place (number_at 4 m) (λ high. Ok (low.0.0 + 256 ^ 4 * high.0, high.1)) (value, t) low.2 in
    let a = number_took s low.0.0 m h low.1 in
    let b = number_took_in s.endian m high.0.0 high.0.1 a.took.order a.took.bytes high.1 in
    let parts : (a.padding ++ num s.endian 4 low.0.0) ++ num s.endian 4 high.0.0 ≡ a.padding ++ (num s.endian 4 low.0.0 ++ num s.endian 4 high.0.0) =
    append_assoc a.padding (num s.endian 4 low.0.0) (num s.endian 4 high.0.0) in
    let took : Took s ((a.padding ++ num s.endian 4 low.0.0) ++ num s.endian 4 high.0.0) high.0.1 =
    took_then s m high.0.1 (a.padding ++ num s.endian 4 low.0.0) (num s.endian 4 high.0.0) a.took b.0 in
    let whole : Reads (Time (low.0.0 + 256 ^ 4 * high.0.0)) s high.0.1 =
    reads (Time (low.0.0 + 256 ^ 4 * high.0.0)) s high.0.1 ((a.padding ++ num s.endian 4 low.0.0) ++ num s.endian 4 high.0.0) took
    (record { padding = a.padding; low = low.0.0; high = high.0.0; aligned = a.aligned; low_fits = a.fits; high_fits = b.1; time_is = refl; parts = parts }) in
    subst (λ (x : ℕ × Reading). Reads (Time x.0) s x.1) (ok_is (low.0.0 + 256 ^ 4 * high.0.0, high.0.1) (value, t) high.2) whole

time_again : (e : Endian) (place value : ℕ) (bytes rest : List ℕ) → SpellsTime e place value bytes
    → time (at e place (bytes ++ rest)) ≡ Ok (value, at e (place + length bytes) rest)
unfolding time
time_again e place value bytes rest is =
    let padding = is.padding in
    let low = num e 4 is.low in
    let high = num e 4 is.high in
    let regrouped : (padding ++ (low ++ high)) ++ rest ≡ padding ++ (low ++ (high ++ rest)) = simp append_assoc in
    let further : place + length padding + 4 + 4 ≡ place + length (padding ++ (low ++ high)) =
    omega (arith, length-append padding (low ++ high), length-append low high, length-num e 4 is.low, length-num e 4 is.high) in
    rw (is.parts, regrouped, word_read e place is.low padding (high ++ rest) is.aligned is.low_fits, number_read e (place + length padding + 4) 4 is.high rest is.high_fits, is.time_is)
    (ap (λ p. Ok (is.low + 256 ^ 4 * is.high, at e p rest)) further)

pub time_only : (s : Reading) (value : ℕ) (t : Reading) → Reads (Time value) s t → time s ≡ Ok (value, t)
time_only s value t r = only_of time (Time value) value s t r (time_again s.endian s.place value r.bytes t.left r.spelled)

-- ---- context handles

pub handle_reads : (s : Reading) (sent : WireHandle) (t : Reading) → IsBytes s.left → handle s ≡ Ok (sent, t) → Reads (Handle sent) s t
handle_reads s sent t h e =
    let k = handle_found s sent t h (field_ok (aligned s.place) (handle_at s) (sent, t) e) in
    reads (Handle sent) s t k.bytes k.took k.spelled

handle_again : (e : Endian) (place : ℕ) (sent : WireHandle) (bytes rest : List ℕ) → SpellsHandle e place sent bytes
    → handle (at e place (bytes ++ rest)) ≡ Ok (sent, at e (place + length bytes) rest)
handle_again e place sent bytes rest is = rw (handle_read e place sent bytes rest is) refl

pub handle_only : (s : Reading) (sent : WireHandle) (t : Reading) → Reads (Handle sent) s t → handle s ≡ Ok (sent, t)
handle_only s sent t r = only_of handle (Handle sent) sent s t r (handle_again s.endian s.place sent r.bytes t.left r.spelled)

-- ---- byte arrays

pub bytes_reads : (s : Reading) (array : List ℕ) (t : Reading) → IsBytes s.left → byte_array s ≡ Ok (array, t) → Reads (Bytes array) s t
unfolding byte_array
bytes_reads s array t h e =
    let count = bind_ok (number s) (λ count. field count.1.place (bytes_at count.0 count.1)) (array, t) e in
    let k = number_took s count.0.0 count.0.1 h count.1 in
    let back = bytes_found count.0.0 count.0.1 array t k.took.bytes (field_ok count.0.1.place (bytes_at count.0.0 count.0.1) (array, t) count.2) in
    let text : Took s (k.padding ++ (num s.endian 4 (length array) ++ array)) t =
    rw (back.1, ← (append_assoc k.padding (num s.endian 4 count.0.0) array)) (took_then s count.0.1 t (k.padding ++ num s.endian 4 count.0.0) array k.took back.0) in
    reads (Bytes array) s t (k.padding ++ (num s.endian 4 (length array) ++ array)) text
    (record { padding = k.padding; aligned = k.aligned; fits = rw back.1 k.fits; parts = refl })

bytes_again : (e : Endian) (place : ℕ) (array bytes rest : List ℕ) → SpellsBytes e place array bytes
    → byte_array (at e place (bytes ++ rest)) ≡ Ok (array, at e (place + length bytes) rest)
unfolding byte_array
bytes_again e place array bytes rest is =
    let padding = is.padding in
    let count = num e 4 (length array) in
    let regrouped : (padding ++ (count ++ array)) ++ rest ≡ padding ++ (count ++ (array ++ rest)) = simp append_assoc in
    let further : place + length padding + 4 + length array ≡ place + length (padding ++ (count ++ array)) =
    omega (arith, length-append padding (count ++ array), length-append count array, length-num e 4 (length array)) in
    rw (is.parts, regrouped, word_read e place (length array) padding (array ++ rest) is.aligned is.fits, bytes_read e (place + length padding + 4) (length array) array rest refl)
    (ap (λ p. Ok (array, at e p rest)) further)

pub bytes_only : (s : Reading) (array : List ℕ) (t : Reading) → Reads (Bytes array) s t → byte_array s ≡ Ok (array, t)
bytes_only s array t r = only_of byte_array (Bytes array) array s t r (bytes_again s.endian s.place array r.bytes t.left r.spelled)
