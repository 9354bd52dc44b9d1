-- What stands behind the head of a message: what is read is encoded so, and what is encoded so is read.
use Rattle.std.proofs.Common.{◌≡◌, ℕ, zero, suc, ◌+◌, ◌<◌, ◌≤◌, ◌^◌, Bool, true, false, cond, eqb, ltb, List, [], ◌++◌, length, take, Option, Some, None, Result, Ok, Err, refl, sym, ap, ◌∙◌, subst, append_assoc, length-append, arith}
use Rattle.std.proofs.lemmas.Bool.{eqb-true, ltb-false, le-ltb}
use Rattle.std.proofs.lemmas.Bool.Decides.{nat_tests}
use Rattle.std.proofs.lemmas.List.{append-nil, take_all, drop_all}
use Rattle.wire_fields.specs.declared.endian.Endian.TheVariants.{Little}
use Rattle.wire_fields.specs.Numbers.{IsBytes, num}
use Rattle.wire_fields.specs.Reading.{Reading, after, bytes_at, number_at}
use Rattle.wire_fields.specs.Written.{Written}
use Rattle.wire_fields.proofs.NumberLaws.{IsBytes-take, length-num}
use Rattle.wire_fields.proofs.FieldLaws.{at, Took, took_none, took_then, bytes_found, bytes_read}
use Rattle.update_records.specs.declared.update.Update.{Update}
use Rattle.update_records.specs.Checked.{◌>>=◌, field_at, anything, between, whole, no_end}
use Rattle.update_records.specs.Entry.{Entry, IsRecord, record_text}
use Rattle.update_records.specs.Grammar.{last_place, record_of, update_of}
use Rattle.update_records.specs.declared.fault.RecordFault.{RecordFault}
use Rattle.update_records.specs.declared.fault.RecordFault.TheVariants.{Bad, Memory}
use Rattle.update_records.specs.Limits.{IsUpdate}
use Rattle.update_records.specs.Outcomes.{FailsAt}
use Rattle.update_records.specs.Spelling.{update_text}
use Rattle.update_records.proofs.Fields.{bind_ok, ok_is, IsInput, input_behind, any_found, any_read, bounded_found, bounded_read, front_bytes}
use Rattle.update_records.proofs.RecordLaws.{record_short, whole_record_found, whole_record_read, whole_update_found, whole_update_read}
use Rattle.gum_messages.specs.declared.body.Body.{Body}
use Rattle.gum_messages.specs.declared.body.Body.TheVariants.{Ask, Granted, Apply, Applied, Release, Offer, Need, Piece, Ready, OpenView}
use Rattle.gum_messages.specs.Faults.{IsInReach}
use Rattle.gum_messages.specs.Messages.{IsBody, IsLast, IsOffered, IsPiece}
use Rattle.gum_messages.specs.Spelling.{body_text, kind_of, last_text}
use Rattle.gum_messages.specs.Grammar.{counted_from, part_at, rest_at, ask_at, granted_at, apply_at, applied_at, release_at, cut_off, last_at, offer_at, need_at, piece_at, update_body_at, view_body_at, body_at}

-- ---- parts

counted_ok : {A : Type 0} (start : ℕ) (read : Result A ℕ) (x : A) → counted_from start read ≡ Ok x → read ≡ Ok x
counted_ok start (Ok y) x e = e
counted_ok start (Err place) x e = absurd cc

pub record FoundPart {A : Type 0} (one : List ℕ → Result A ℕ) (s : Reading) (x : A) (t : Reading) : Type 0 where
  pub text : List ℕ
  pub took : Took s text t
  pub input : IsInput t
  pub bytes : IsBytes text
  pub read : one text ≡ Ok x

pub part_found : {A : Type 0} (one : List ℕ → Result A ℕ) (count : ℕ) (s : Reading) (x : A × Reading) → IsInput s → count ≤ length s.left → part_at one count s ≡ Ok x → FoundPart one s x.0 x.1
part_found {A} one count s x input enough e =
    let front = take count s.left in
    let a = bind_ok (counted_from s.place (one front)) (λ y. Ok (y, after count s)) x e in
    let test : ltb (length s.left) count ≡ false = le-ltb _ _ enough in
    let some : bytes_at count s ≡ Some (front, after count s) = rw test refl in
    let f = bytes_found count s front (after count s) input.bytes some in
    let whole : FoundPart one s a.0 (after count s) = record {
      text = front;
      took = f.0;
      input = input_behind s (after count s) front input f.0;
      bytes = IsBytes-take count s.left input.bytes;
      read = counted_ok s.place (one front) a.0 a.1;
    } in
    subst (λ (y : A × Reading). FoundPart one s y.0 y.1) (ok_is (a.0, after count s) x a.2) whole

pub record FoundRecord (s : Reading) (entry : Entry) (t : Reading) : Type 0 where
  pub took : Took s (record_text entry) t
  pub input : IsInput t
  pub is_record : IsRecord entry

pub record_found : (count : ℕ) (s : Reading) (x : Entry × Reading) → IsInput s → count ≤ length s.left → part_at record_of count s ≡ Ok x → FoundRecord s x.0 x.1
record_found count s x input enough e =
    let f = part_found record_of count s x input enough e in
    let is = whole_record_found f.text x.0 f.bytes f.read in
    record { took = subst (λ text. Took s text x.1) is.1 f.took; input = f.input; is_record = is.0 }

pub record FoundUpdate (s : Reading) (update : Update) (t : Reading) : Type 0 where
  pub took : Took s (update_text update) t
  pub input : IsInput t
  pub is_update : IsUpdate update

update_found : (s : Reading) (x : Update × Reading) → IsInput s → rest_at update_of s ≡ Ok x → FoundUpdate s x.0 x.1
update_found s x input e =
    let f = part_found update_of (length s.left) s x input (omega arith) e in
    let is = whole_update_found f.text x.0 f.bytes f.read in
    record { took = subst (λ text. Took s text x.1) is.1 f.took; input = f.input; is_update = is.0 }

-- The place of a part's fault, counted from the first byte of the message, is within the message.
pub part_in_reach : {A : Type 0} (read : Result A ℕ) (start count : ℕ) (fault : RecordFault) → ((place : ℕ) → read ≡ Err place → place ≤ count) → start + count < 2 ^ 64 → FailsAt fault read → IsInReach start fault
part_in_reach read start count (Bad place) within room e = (let far = within place e in omega arith)
part_in_reach read start count Memory within room e = tt

-- ---- the kinds, as they are found

pub record FoundBody (kind : ℕ) (s : Reading) (b : Body) (t : Reading) : Type 0 where
  pub took : Took s (body_text b) t
  pub input : IsInput t
  pub is_body : IsBody b
  pub of_kind : kind_of b ≡ kind

abbrev IsFound : ℕ → Reading → Body × Reading → Type 0
IsFound kind s x = FoundBody kind s x.0 x.1

ask_found : (s : Reading) (x : Body × Reading) → IsInput s → ask_at s ≡ Ok x → IsFound 1 s x
unfolding ask_at body_text
ask_found s x input e =
    let a = bind_ok (field_at (number_at 8) anything no_end s) (λ req. rest_at update_of req.1 >>= λ update. Ok (Ask req.0 update.0, update.1)) x e in
    let b = bind_ok (rest_at update_of a.0.1) (λ update. Ok (Ask a.0.0 update.0, update.1)) x a.2 in
    let f = any_found 8 no_end s a.0.0 a.0.1 input a.1 in
    let g = update_found a.0.1 b.0 f.input b.1 in
    let whole : FoundBody 1 s (Ask a.0.0 b.0.0) b.0.1 = record {
      took = took_then s a.0.1 b.0.1 (num Little 8 a.0.0) (update_text b.0.0) f.took g.took;
      input = g.input;
      is_body = (omega (arith, f.small), g.is_update);
      of_kind = refl {a = 1};
    } in
    subst (IsFound 1 s) {x = (Ask a.0.0 b.0.0, b.0.1)} (ok_is (Ask a.0.0 b.0.0, b.0.1) x b.2) whole

granted_found : (s : Reading) (x : Body × Reading) → IsInput s → granted_at s ≡ Ok x → IsFound 2 s x
unfolding granted_at body_text
granted_found s x input e =
    let a = bind_ok (rest_at record_of s) (λ entry. Ok (Granted entry.0, entry.1)) x e in
    let f = record_found (length s.left) s a.0 input (omega arith) a.1 in
    let whole : FoundBody 2 s (Granted a.0.0) a.0.1 = record { took = f.took; input = f.input; is_body = f.is_record; of_kind = refl {a = 2} } in
    subst (IsFound 2 s) {x = (Granted a.0.0, a.0.1)} (ok_is (Granted a.0.0, a.0.1) x a.2) whole

apply_found : (s : Reading) (x : Body × Reading) → IsInput s → apply_at s ≡ Ok x → IsFound 3 s x
unfolding apply_at body_text
apply_found s x input e =
    let a = bind_ok (rest_at record_of s) (λ entry. Ok (Apply entry.0, entry.1)) x e in
    let f = record_found (length s.left) s a.0 input (omega arith) a.1 in
    let whole : FoundBody 3 s (Apply a.0.0) a.0.1 = record { took = f.took; input = f.input; is_body = f.is_record; of_kind = refl {a = 3} } in
    subst (IsFound 3 s) {x = (Apply a.0.0, a.0.1)} (ok_is (Apply a.0.0, a.0.1) x a.2) whole

applied_found : (s : Reading) (x : Body × Reading) → IsInput s → applied_at s ≡ Ok x → IsFound 4 s x
unfolding applied_at body_text
applied_found s x input e =
    let a = bind_ok (field_at (number_at 8) anything no_end s) (λ place. Ok (Applied place.0, place.1)) x e in
    let f = any_found 8 no_end s a.0.0 a.0.1 input a.1 in
    let whole : FoundBody 4 s (Applied a.0.0) a.0.1 = record { took = f.took; input = f.input; is_body = omega (arith, f.small); of_kind = refl {a = 4} } in
    subst (IsFound 4 s) {x = (Applied a.0.0, a.0.1)} (ok_is (Applied a.0.0, a.0.1) x a.2) whole

release_found : (s : Reading) (x : Body × Reading) → IsInput s → release_at s ≡ Ok x → IsFound 5 s x
unfolding release_at body_text
release_found s x input e =
    let a = bind_ok (field_at (number_at 8) anything no_end s) (λ req. Ok (Release req.0, req.1)) x e in
    let f = any_found 8 no_end s a.0.0 a.0.1 input a.1 in
    let whole : FoundBody 5 s (Release a.0.0) a.0.1 = record { took = f.took; input = f.input; is_body = omega (arith, f.small); of_kind = refl {a = 5} } in
    subst (IsFound 5 s) {x = (Release a.0.0, a.0.1)} (ok_is (Release a.0.0, a.0.1) x a.2) whole

-- The length of an Offer's record stands before it.
pub record FoundLast (s0 s : Reading) (last : Option Entry) (t : Reading) : Type 0 where
  pub took : Took s0 (last_text last) t
  pub input : IsInput t
  pub is_last : IsLast last

abbrev IsFoundLast : Reading → Reading → Option Entry × Reading → Type 0
IsFoundLast s0 s x = FoundLast s0 s x.0 x.1

never_ends : (s : Reading) (x : Option Entry × Reading) → cut_off s ≡ Ok x → ⊥
never_ends s x e =
    let a = bind_ok (rest_at record_of s) (λ entry. Err entry.1.place) x e in
    absurd (let no = a.2 in cc)

-- What a part takes is as long as it was to be.
part_long : (count : ℕ) (s : Reading) (x : Entry × Reading) (text : List ℕ) → count ≤ length s.left → part_at record_of count s ≡ Ok x → Took s text x.1 → length text ≡ count
part_long count s x text enough e took =
    let a = bind_ok (counted_from s.place (record_of (take count s.left))) (λ y. Ok (y, after count s)) x e in
    let behind : after count s ≡ x.1 = ap (λ (y : Entry × Reading). y.1) (ok_is (a.0, after count s) x a.2) in
    let further : s.place + count ≡ s.place + length text = ap (λ t. t.place) behind ∙ took.further in
    omega arith

last_found : (count : ℕ) (s0 s : Reading) (x : Option Entry × Reading) → Took s0 (num Little 4 count) s → IsInput s → last_at count s ≡ Ok x → IsFoundLast s0 s x
unfolding last_at
last_found count s0 s x before input e = none_or (eqb count 0) refl e
  where
    some : count ≤ length s.left → (part_at record_of count s >>= λ entry. Ok (Some entry.0, entry.1)) ≡ Ok x → IsFoundLast s0 s x
    some enough e =
        let a = bind_ok (part_at record_of count s) (λ entry. Ok (Some entry.0, entry.1)) x e in
        let f = record_found count s a.0 input enough a.1 in
        let long : length (record_text a.0.0) ≡ count = part_long count s a.0 (record_text a.0.0) enough a.1 f.took in
        let counted : Took s0 (num Little 4 (length (record_text a.0.0))) s = subst (λ n. Took s0 (num Little 4 n) s) (sym long) before in
        let whole : FoundLast s0 s (Some a.0.0) a.0.1 = record {
          took = took_then s0 s a.0.1 (num Little 4 (length (record_text a.0.0))) (record_text a.0.0) counted f.took;
          input = f.input;
          is_last = f.is_record;
        } in
        subst (IsFoundLast s0 s) (ok_is (Some a.0.0, a.0.1) x a.2) whole

    cut_or : (b : Bool) → ltb (length s.left) count ≡ b → cond {A = Result (Option Entry × Reading) ℕ} b (cut_off s) (part_at record_of count s >>= λ entry. Ok (Some entry.0, entry.1)) ≡ Ok x → IsFoundLast s0 s x
    cut_or true is e = absurd (never_ends s x e)
    cut_or false is e = some (ltb-false _ _ is) e

    none_or : (b : Bool) → eqb count 0 ≡ b → cond {A = Result (Option Entry × Reading) ℕ} b (Ok (None, s)) (cond {A = Result (Option Entry × Reading) ℕ} (ltb (length s.left) count) (cut_off s) (part_at record_of count s >>= λ entry. Ok (Some entry.0, entry.1))) ≡ Ok x → IsFoundLast s0 s x
    none_or true is e =
        let whole : FoundLast s0 s None s = record { took = subst (λ n. Took s0 (num Little 4 n) s) (eqb-true _ _ is) before; input = input; is_last = tt } in
        subst (IsFoundLast s0 s) (ok_is (None, s) x e) whole
    none_or false is e = cut_or (ltb (length s.left) count) refl e

offer_found : (s : Reading) (x : Body × Reading) → IsInput s → offer_at s ≡ Ok x → IsFound 6 s x
unfolding offer_at body_text
offer_found s x input e =
    let a = bind_ok (field_at (number_at 8) (between 0 last_place) no_end s) (λ count. field_at (number_at 4) (between 4096 16777216) no_end count.1 >>= λ cap. field_at (number_at 4) (between 0 57344) no_end cap.1 >>= λ bytes. last_at bytes.0 bytes.1 >>= λ last. Ok (Offer count.0 cap.0 last.0, last.1)) x e in
    let b = bind_ok (field_at (number_at 4) (between 4096 16777216) no_end a.0.1) (λ cap. field_at (number_at 4) (between 0 57344) no_end cap.1 >>= λ bytes. last_at bytes.0 bytes.1 >>= λ last. Ok (Offer a.0.0 cap.0 last.0, last.1)) x a.2 in
    let c = bind_ok (field_at (number_at 4) (between 0 57344) no_end b.0.1) (λ bytes. last_at bytes.0 bytes.1 >>= λ last. Ok (Offer a.0.0 b.0.0 last.0, last.1)) x b.2 in
    let d = bind_ok (last_at c.0.0 c.0.1) (λ last. Ok (Offer a.0.0 b.0.0 last.0, last.1)) x c.2 in
    let f = bounded_found 8 0 last_place no_end s a.0.0 a.0.1 input a.1 in
    let g = bounded_found 4 4096 16777216 no_end a.0.1 b.0.0 b.0.1 f.input b.1 in
    let h = bounded_found 4 0 57344 no_end b.0.1 c.0.0 c.0.1 g.input c.1 in
    let l = last_found c.0.0 b.0.1 c.0.1 d.0 h.took h.input d.1 in
    let two = took_then s a.0.1 b.0.1 (num Little 8 a.0.0) (num Little 4 b.0.0) f.took g.took in
    let whole : FoundBody 6 s (Offer a.0.0 b.0.0 d.0.0) d.0.1 = record {
      took = took_then s b.0.1 d.0.1 (num Little 8 a.0.0 ++ num Little 4 b.0.0) (last_text d.0.0) two l.took;
      input = l.input;
      is_body = (record { counted = omega (arith, f.most); least_cap = g.least; most_cap = g.most }, l.is_last);
      of_kind = refl {a = 6};
    } in
    subst (IsFound 6 s) {x = (Offer a.0.0 b.0.0 d.0.0, d.0.1)} (ok_is (Offer a.0.0 b.0.0 d.0.0, d.0.1) x d.2) whole

need_found : (s : Reading) (x : Body × Reading) → IsInput s → need_at s ≡ Ok x → IsFound 7 s x
unfolding need_at body_text
need_found s x input e =
    let a = bind_ok (field_at (number_at 4) anything no_end s) (λ offset. Ok (Need offset.0, offset.1)) x e in
    let f = any_found 4 no_end s a.0.0 a.0.1 input a.1 in
    let whole : FoundBody 7 s (Need a.0.0) a.0.1 = record { took = f.took; input = f.input; is_body = omega (arith, f.small); of_kind = refl {a = 7} } in
    subst (IsFound 7 s) {x = (Need a.0.0, a.0.1)} (ok_is (Need a.0.0, a.0.1) x a.2) whole

whole_found : {A : Type 0} (place : ℕ) (read : Option (A × Reading)) (x : A × Reading) → whole place read ≡ Ok x → read ≡ Some x
whole_found place None x e = absurd cc
whole_found place (Some y) x e = cc

piece_found : (s : Reading) (x : Body × Reading) → IsInput s → piece_at s ≡ Ok x → IsFound 8 s x
unfolding piece_at body_text
piece_found s x input e =
    let a = bind_ok (field_at (number_at 4) anything no_end s) (λ total. field_at (number_at 4) anything no_end total.1 >>= λ offset. field_at (number_at 4) anything no_end offset.1 >>= λ count. whole count.1.place (bytes_at count.0 count.1) >>= λ bytes. Ok (Piece total.0 offset.0 bytes.0, bytes.1)) x e in
    let b = bind_ok (field_at (number_at 4) anything no_end a.0.1) (λ offset. field_at (number_at 4) anything no_end offset.1 >>= λ count. whole count.1.place (bytes_at count.0 count.1) >>= λ bytes. Ok (Piece a.0.0 offset.0 bytes.0, bytes.1)) x a.2 in
    let c = bind_ok (field_at (number_at 4) anything no_end b.0.1) (λ count. whole count.1.place (bytes_at count.0 count.1) >>= λ bytes. Ok (Piece a.0.0 b.0.0 bytes.0, bytes.1)) x b.2 in
    let d = bind_ok (whole c.0.1.place (bytes_at c.0.0 c.0.1)) (λ bytes. Ok (Piece a.0.0 b.0.0 bytes.0, bytes.1)) x c.2 in
    let f = any_found 4 no_end s a.0.0 a.0.1 input a.1 in
    let g = any_found 4 no_end a.0.1 b.0.0 b.0.1 f.input b.1 in
    let h = any_found 4 no_end b.0.1 c.0.0 c.0.1 g.input c.1 in
    let l = bytes_found c.0.0 c.0.1 d.0.0 d.0.1 h.input.bytes (whole_found c.0.1.place (bytes_at c.0.0 c.0.1) d.0 d.1) in
    let counted : Took b.0.1 (num Little 4 (length d.0.0)) c.0.1 = subst (λ n. Took b.0.1 (num Little 4 n) c.0.1) (sym l.1) h.took in
    let two = took_then s a.0.1 b.0.1 (num Little 4 a.0.0) (num Little 4 b.0.0) f.took g.took in
    let three = took_then s b.0.1 c.0.1 (num Little 4 a.0.0 ++ num Little 4 b.0.0) (num Little 4 (length d.0.0)) two counted in
    let took = took_then s c.0.1 d.0.1 (num Little 4 a.0.0 ++ num Little 4 b.0.0 ++ num Little 4 (length d.0.0)) d.0.0 three l.0 in
    let whole : FoundBody 8 s (Piece a.0.0 b.0.0 d.0.0) d.0.1 = record {
      took = took;
      input = input_behind s d.0.1 _ input took;
      is_body = record { small_total = omega (arith, f.small); small_offset = omega (arith, g.small); short = omega (arith, h.small, l.1); are_bytes = front_bytes c.0.1 d.0.1 d.0.0 h.input l.0 };
      of_kind = refl {a = 8};
    } in
    subst (IsFound 8 s) {x = (Piece a.0.0 b.0.0 d.0.0, d.0.1)} (ok_is (Piece a.0.0 b.0.0 d.0.0, d.0.1) x d.2) whole

empty_found : (kind : ℕ) (b : Body) (s : Reading) (x : Body × Reading) → body_text b ≡ [] → IsBody b → kind_of b ≡ kind → IsInput s → (b, s) ≡ x → IsFound kind s x
empty_found kind b s x no_text is of_kind input e =
    let whole : FoundBody kind s b s = record { took = subst (λ text. Took s text s) (sym no_text) (took_none s input.bytes); input = input; is_body = is; of_kind = of_kind } in
    subst (IsFound kind s) e whole

pub body_found : (kind : ℕ) (s : Reading) (x : Body × Reading) → 1 ≤ kind → kind ≤ 10 → IsInput s → body_at kind s ≡ Ok x → FoundBody kind s x.0 x.1
unfolding update_body_at view_body_at body_text
body_found zero s x least most input e = absurd (omega arith)
body_found (suc zero) s x least most input e = ask_found s x input e
body_found (suc (suc zero)) s x least most input e = granted_found s x input e
body_found (suc (suc (suc zero))) s x least most input e = apply_found s x input e
body_found (suc (suc (suc (suc zero)))) s x least most input e = applied_found s x input e
body_found (suc (suc (suc (suc (suc zero))))) s x least most input e = release_found s x input e
body_found (suc (suc (suc (suc (suc (suc zero)))))) s x least most input e = offer_found s x input e
body_found (suc (suc (suc (suc (suc (suc (suc zero))))))) s x least most input e = need_found s x input e
body_found (suc (suc (suc (suc (suc (suc (suc (suc zero)))))))) s x least most input e = piece_found s x input e
body_found (suc (suc (suc (suc (suc (suc (suc (suc (suc zero))))))))) s x least most input e = empty_found 9 Ready s x refl tt refl input (ok_is (Ready, s) x e)
body_found (suc (suc (suc (suc (suc (suc (suc (suc (suc (suc zero)))))))))) s x least most input e = empty_found 10 OpenView s x refl tt refl input (ok_is (OpenView, s) x e)
body_found (suc (suc (suc (suc (suc (suc (suc (suc (suc (suc (suc n))))))))))) s x least most input e = absurd (omega arith)

-- ---- read again

rest_read : {A : Type 0} (one : List ℕ → Result A ℕ) (place : ℕ) (text : List ℕ) (x : A) → one text ≡ Ok x → rest_at one (at Little place text) ≡ Ok (x, at Little (place + length text) [])
rest_read one place text x e = rw (take_all (length text) text (omega arith), e, drop_all (length text) text (omega arith)) refl

last_number : (w place n : ℕ) → n < 256 ^ w → place + w ≤ no_end → field_at (number_at w) anything no_end (at Little place (num Little w n)) ≡ Ok (n, at Little (place + w) [])
last_number w place n small room =
    subst (λ l. field_at (number_at w) anything no_end (at Little place l) ≡ Ok (n, at Little (place + w) [])) (append-nil (num Little w n)) (any_read w no_end place n [] small room)

-- The body that starts at the place is read, and nothing is left.
abbrev ReadAt : ℕ → Body → Type 0
ReadAt place b = (q : ℕ) × (body_at (kind_of b) (at Little place (body_text b)) ≡ Ok (b, at Little q []))

ask_read : (req : ℕ) (update : Update) → IsBody (Ask req update) → ReadAt 9 (Ask req update)
unfolding update_body_at ask_at body_text
ask_read req update h =
    let first = any_read 8 no_end 9 req (update_text update) (let small = h.0 in omega arith) (omega arith) in
    let rest = rest_read update_of 17 (update_text update) update (whole_update_read update h.1) in
    (17 + length (update_text update), rw (first, rest) refl)

granted_read : (entry : Entry) → IsRecord entry → ReadAt 9 (Granted entry)
unfolding update_body_at granted_at body_text
granted_read entry h = (9 + length (record_text entry), rw (rest_read record_of 9 (record_text entry) entry (whole_record_read entry h)) refl)

apply_read : (entry : Entry) → IsRecord entry → ReadAt 9 (Apply entry)
unfolding update_body_at apply_at body_text
apply_read entry h = (9 + length (record_text entry), rw (rest_read record_of 9 (record_text entry) entry (whole_record_read entry h)) refl)

applied_read : (place : ℕ) → place < 2 ^ 64 → ReadAt 9 (Applied place)
unfolding update_body_at applied_at body_text
applied_read place small = (17, rw (last_number 8 9 place (omega arith) (omega arith)) refl)

release_read : (req : ℕ) → req < 2 ^ 64 → ReadAt 9 (Release req)
unfolding update_body_at release_at body_text
release_read req small = (17, rw (last_number 8 9 req (omega arith) (omega arith)) refl)

some_text : (entry : Entry) → 0 < length (record_text entry)
unfolding record_text
some_text entry = omega (arith, length-append {A = ℕ}, length-num)

record ReadLast (last : Option Entry) (place : ℕ) : Type 0 where
  pub count : ℕ
  pub rest : List ℕ
  pub behind : ℕ
  pub counted : field_at (number_at 4) (between 0 57344) no_end (at Little place (last_text last)) ≡ Ok (count, at Little (place + 4) rest)
  pub read : last_at count (at Little (place + 4) rest) ≡ Ok (last, at Little behind [])

last_read : (last : Option Entry) (place : ℕ) → place + 4 ≤ no_end → IsLast last → ReadLast last place
unfolding last_at
last_read None place room h = record {
  count = 0;
  rest = [];
  behind = place + 4;
  counted = subst (λ l. field_at (number_at 4) (between 0 57344) no_end (at Little place l) ≡ Ok (0, at Little (place + 4) [])) (append-nil (num Little 4 0)) (bounded_read 4 0 57344 no_end place 0 [] (omega arith) (omega arith) (omega arith) room);
  read = refl;
}
last_read (Some entry) place room h =
    let text = record_text entry in
    let short : length text ≤ 57344 = record_short entry h.update in
    let some : eqb (length text) 0 ≡ false = (let more = some_text entry in grind (arith, nat_tests)) in
    let enough : ltb (length text) (length text) ≡ false = le-ltb _ _ (omega arith) in
    let rest = rest_read record_of (place + 4) text entry (whole_record_read entry h) in
    record {
      count = length text;
      rest = text;
      behind = place + 4 + length text;
      counted = bounded_read 4 0 57344 no_end place (length text) text (omega arith) (omega arith) short room;
      read = rw (some, enough, rest) refl;
    }

offer_read : (count most : ℕ) (last : Option Entry) → IsOffered count most → IsLast last → ReadAt 9 (Offer count most last)
unfolding view_body_at offer_at body_text
offer_read count most last kept h =
    let counted = bounded_read 8 0 last_place no_end 9 count (num Little 4 most ++ last_text last) (omega (arith, kept.counted)) (omega arith) (omega (arith, kept.counted)) (omega arith) in
    let capped = bounded_read 4 4096 16777216 no_end 17 most (last_text last) (omega (arith, kept.most_cap)) kept.least_cap kept.most_cap (omega arith) in
    let rest = last_read last 21 (omega arith) h in
    let split : num Little 8 count ++ num Little 4 most ++ last_text last ≡ num Little 8 count ++ (num Little 4 most ++ last_text last) = append_assoc (num Little 8 count) (num Little 4 most) (last_text last) in
    (rest.behind, rw (split, counted, capped, rest.counted, rest.read) refl)

need_read : (offset : ℕ) → offset < 2 ^ 32 → ReadAt 9 (Need offset)
unfolding view_body_at need_at body_text
need_read offset small = (13, rw (last_number 4 9 offset (omega arith) (omega arith)) refl)

piece_read : (total offset : ℕ) (bytes : List ℕ) → IsPiece total offset bytes → ReadAt 9 (Piece total offset bytes)
unfolding view_body_at piece_at body_text
piece_read total offset bytes h =
    let long = num Little 4 (length bytes) in
    let first = any_read 4 no_end 9 total (num Little 4 offset ++ (long ++ bytes)) (omega (arith, h.small_total)) (omega arith) in
    let second = any_read 4 no_end 13 offset (long ++ bytes) (omega (arith, h.small_offset)) (omega arith) in
    let third = any_read 4 no_end 17 (length bytes) bytes (omega (arith, h.short)) (omega arith) in
    let fourth : bytes_at (length bytes) (at Little 21 bytes) ≡ Some (bytes, at Little (21 + length bytes) []) =
    subst (λ l. bytes_at (length bytes) (at Little 21 l) ≡ Some (bytes, at Little (21 + length bytes) [])) (append-nil bytes) (bytes_read Little 21 (length bytes) bytes [] refl) in
    let split : num Little 4 total ++ num Little 4 offset ++ long ++ bytes ≡ num Little 4 total ++ (num Little 4 offset ++ (long ++ bytes)) = simp append_assoc in
    (21 + length bytes, rw (split, first, second, third, fourth) refl)

pub body_read : (b : Body) → IsBody b → (q : ℕ) × (body_at (kind_of b) (at Little 9 (body_text b)) ≡ Ok (b, at Little q []))
unfolding view_body_at body_text
body_read (Ask req update) h = ask_read req update h
body_read (Granted entry) h = granted_read entry h
body_read (Apply entry) h = apply_read entry h
body_read (Applied place) h = applied_read place h
body_read (Release req) h = release_read req h
body_read (Offer count cap last) h = offer_read count cap last h.0 h.1
body_read (Need offset) h = need_read offset h
body_read (Piece total offset bytes) h = piece_read total offset bytes h
body_read Ready h = (9, refl)
body_read OpenView h = (9, refl)

-- ---- nothing is written

pub nothing_put : (put : Written) → put.endian ≡ Little → put ≡ record { endian = Little; bytes = put.bytes ++ [] }
nothing_put put order = rw (append-nil put.bytes, ← order) refl
