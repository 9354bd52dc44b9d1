-- The bytes of a record are some.
use Rattle.std.proofs.Common.{◌≡◌, ℕ, ◌<◌, ◌≤◌, List, [], length, ap, length-append, arith}
use Rattle.wire_fields.proofs.NumberLaws.{length-num}
use Rattle.update_records.specs.Entry.{Entry, record_text}

pub text_some : (e : Entry) → 0 < length (record_text e)
unfolding record_text
text_some e = omega (arith, length-append {A = ℕ}, length-num)

pub written_some : (e : Entry) (bytes : List ℕ) → bytes ≡ record_text e → 1 ≤ length bytes
written_some e bytes is =
    let some = text_some e in
    let long : length bytes ≡ length (record_text e) = ap length is in
    omega (arith, some, long)

pub text_none : (e : Entry) (bytes : List ℕ) → bytes ≡ record_text e → bytes ≡ [] → ⊥
text_none e bytes is none =
    let some = written_some e bytes is in
    let short : length bytes ≡ 0 = ap length none in
    omega (arith, some, short)
