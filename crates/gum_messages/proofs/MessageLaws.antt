-- A message that is read is encoded so, and one that is encoded so is read.
use Rattle.std.proofs.Common.{◌≡◌, ℕ, ◌≤◌, ◌<◌, ◌-◌, ◌^◌, List, ◌++◌, Result, Ok, Err, refl, subst, append_assoc, arith}
use Rattle.std.specs.Prelude.{IfOk}
use Rattle.wire_fields.specs.declared.endian.Endian.TheVariants.{Little}
use Rattle.wire_fields.specs.Numbers.{IsBytes, num}
use Rattle.wire_fields.specs.Reading.{Reading, number_at}
use Rattle.wire_fields.proofs.FieldLaws.{at, Took, took_then}
use Rattle.update_records.specs.Checked.{◌>>=◌, field_at, between, no_end, alone}
use Rattle.update_records.specs.Grammar.{start}
use Rattle.update_records.proofs.Fields.{bind_ok, ok_is, IsInput, bounded_found, bounded_read}
use Rattle.update_records.proofs.RecordLaws.{alone_found, all_taken, is_valid, started}
use Rattle.gum_messages.specs.declared.body.Body.{Body}
use Rattle.gum_messages.specs.declared.body.Body.TheVariants.{Ask, Granted, Apply, Applied, Release, Offer, Need, Piece, Ready, OpenView}
use Rattle.gum_messages.specs.declared.fault.MessageFault.{MessageFault}
use Rattle.gum_messages.specs.declared.head.Head.{Head}
use Rattle.gum_messages.specs.Faults.{Decodes}
use Rattle.gum_messages.specs.Messages.{Sent, FitsPiece, IsBody, IsKept, IsMessage, IsNode}
use Rattle.gum_messages.specs.Spelling.{body_text, head_text, kind_of, message_text}
use Rattle.gum_messages.specs.Grammar.{body_at, head_at, message_at, message_of, sent_of}
use Rattle.gum_messages.proofs.BodyLaws.{body_found, body_read}

record FoundHead (s : Reading) (h : Head) (t : Reading) : Type 0 where
  pub took : Took s (head_text h.kind h.view h.from h.to) t
  pub input : IsInput t
  pub least : 1 ≤ h.kind
  pub most : h.kind ≤ 10
  pub view : 1 ≤ h.view
  pub last_view : h.view < 2 ^ 32
  pub from : IsNode h.from
  pub to : IsNode h.to

head_found : (s : Reading) (x : Head × Reading) → IsInput s → head_at s ≡ Ok x → FoundHead s x.0 x.1
unfolding head_at head_text
head_found s x input e =
    let a = bind_ok (field_at (number_at 1) (between 1 10) no_end s) (λ kind. field_at (number_at 4) (between 1 (2 ^ 32 - 1)) no_end kind.1 >>= λ view. field_at (number_at 2) (between 1 16) no_end view.1 >>= λ from. field_at (number_at 2) (between 1 16) no_end from.1 >>= λ to. Ok (record { kind = kind.0; view = view.0; from = from.0; to = to.0 }, to.1)) x e in
    let b = bind_ok (field_at (number_at 4) (between 1 (2 ^ 32 - 1)) no_end a.0.1) (λ view. field_at (number_at 2) (between 1 16) no_end view.1 >>= λ from. field_at (number_at 2) (between 1 16) no_end from.1 >>= λ to. Ok (record { kind = a.0.0; view = view.0; from = from.0; to = to.0 }, to.1)) x a.2 in
    let c = bind_ok (field_at (number_at 2) (between 1 16) no_end b.0.1) (λ from. field_at (number_at 2) (between 1 16) no_end from.1 >>= λ to. Ok (record { kind = a.0.0; view = b.0.0; from = from.0; to = to.0 }, to.1)) x b.2 in
    let d = bind_ok (field_at (number_at 2) (between 1 16) no_end c.0.1) (λ to. Ok (record { kind = a.0.0; view = b.0.0; from = c.0.0; to = to.0 }, to.1)) x c.2 in
    let f = bounded_found 1 1 10 no_end s a.0.0 a.0.1 input a.1 in
    let g = bounded_found 4 1 (2 ^ 32 - 1) no_end a.0.1 b.0.0 b.0.1 f.input b.1 in
    let h = bounded_found 2 1 16 no_end b.0.1 c.0.0 c.0.1 g.input c.1 in
    let l = bounded_found 2 1 16 no_end c.0.1 d.0.0 d.0.1 h.input d.1 in
    let head : Head = record { kind = a.0.0; view = b.0.0; from = c.0.0; to = d.0.0 } in
    let two = took_then s a.0.1 b.0.1 (num Little 1 a.0.0) (num Little 4 b.0.0) f.took g.took in
    let three = took_then s b.0.1 c.0.1 (num Little 1 a.0.0 ++ num Little 4 b.0.0) (num Little 2 c.0.0) two h.took in
    let whole : FoundHead s head d.0.1 = record {
      took = took_then s c.0.1 d.0.1 (num Little 1 a.0.0 ++ num Little 4 b.0.0 ++ num Little 2 c.0.0) (num Little 2 d.0.0) three l.took;
      input = l.input;
      least = f.least;
      most = f.most;
      view = g.least;
      last_view = omega (arith, g.most);
      from = record { first = h.least; last = h.most };
      to = record { first = l.least; last = l.most };
    } in
    subst (λ (y : Head × Reading). FoundHead s y.0 y.1) {x = (head, d.0.1)} (ok_is (head, d.0.1) x d.2) whole

head_read : (kind view from to : ℕ) (rest : List ℕ) → 1 ≤ kind → kind ≤ 10 → 1 ≤ view → view < 2 ^ 32 → IsNode from → IsNode to
    → head_at (at Little 0 (head_text kind view from to ++ rest)) ≡ Ok (record { kind = kind; view = view; from = from; to = to }, at Little 9 rest)
unfolding head_at head_text
head_read kind view from to rest least most some small f t =
    let split : (num Little 1 kind ++ num Little 4 view ++ num Little 2 from ++ num Little 2 to) ++ rest ≡ num Little 1 kind ++ (num Little 4 view ++ (num Little 2 from ++ (num Little 2 to ++ rest))) = simp append_assoc in
    let first = bounded_read 1 1 10 no_end 0 kind (num Little 4 view ++ (num Little 2 from ++ (num Little 2 to ++ rest))) (omega arith) least most (omega arith) in
    let second = bounded_read 4 1 (2 ^ 32 - 1) no_end 1 view (num Little 2 from ++ (num Little 2 to ++ rest)) (omega arith) some (omega arith) (omega arith) in
    let third = bounded_read 2 1 16 no_end 5 from (num Little 2 to ++ rest) (omega (arith, f.last)) f.first f.last (omega arith) in
    let fourth = bounded_read 2 1 16 no_end 7 to rest (omega (arith, t.last)) t.first t.last (omega arith) in
    rw (split, first, second, third, fourth) refl

pub record FoundMessage (s : Reading) (m : Sent) (t : Reading) : Type 0 where
  pub took : Took s (message_text m) t
  pub is_message : IsMessage m

message_found : (s : Reading) (x : Sent × Reading) → IsInput s → message_at s ≡ Ok x → FoundMessage s x.0 x.1
unfolding message_at
message_found s x input e =
    let a = bind_ok (head_at s) (λ head. body_at head.0.kind head.1 >>= λ body. Ok (sent_of head.0 body.0, body.1)) x e in
    let b = bind_ok (body_at a.0.0.kind a.0.1) (λ body. Ok (sent_of a.0.0 body.0, body.1)) x a.2 in
    let f = head_found s a.0 input a.1 in
    let g = body_found a.0.0.kind a.0.1 b.0 f.least f.most f.input b.1 in
    let front : Took s (head_text (kind_of b.0.0) a.0.0.view a.0.0.from a.0.0.to) a.0.1 = rw g.of_kind f.took in
    let whole : FoundMessage s (sent_of a.0.0 b.0.0) b.0.1 = record {
      took = took_then s a.0.1 b.0.1 (head_text (kind_of b.0.0) a.0.0.view a.0.0.from a.0.0.to) (body_text b.0.0) front g.took;
      is_message = record { view = f.view; last_view = f.last_view; from = f.from; to = f.to; body = g.is_body };
    } in
    subst (λ (y : Sent × Reading). FoundMessage s y.0 y.1) {x = (sent_of a.0.0 b.0.0, b.0.1)} (ok_is (sent_of a.0.0 b.0.0, b.0.1) x b.2) whole

kinds : (b : Body) → (1 ≤ kind_of b) × (kind_of b ≤ 10)
kinds (Ask req update) = (omega arith, omega arith)
kinds (Granted entry) = (omega arith, omega arith)
kinds (Apply entry) = (omega arith, omega arith)
kinds (Applied place) = (omega arith, omega arith)
kinds (Release req) = (omega arith, omega arith)
kinds (Offer count cap last) = (omega arith, omega arith)
kinds (Need offset) = (omega arith, omega arith)
kinds (Piece total offset bytes) = (omega arith, omega arith)
kinds Ready = (omega arith, omega arith)
kinds OpenView = (omega arith, omega arith)

-- ---- all of the bytes

pub whole_message_read : (m : Sent) → IsMessage m → message_of (message_text m) ≡ Ok m
unfolding message_of message_at
whole_message_read m h =
    let range = kinds m.body in
    let head = head_read (kind_of m.body) m.view m.from m.to (body_text m.body) range.0 range.1 h.view h.last_view h.from h.to in
    let body = body_read m.body h.body in
    rw (head, body.1) refl

whole_message_found : (bytes : List ℕ) (m : Sent) → IsBytes bytes → message_of bytes ≡ Ok m → IsMessage m × (bytes ≡ message_text m)
unfolding message_of
whole_message_found bytes m h e =
    let a = bind_ok (message_at (start bytes)) alone m e in
    let f = message_found (start bytes) a.0 (started bytes h) a.1 in
    let last = alone_found a.0 m a.2 in
    subst (λ (v : Sent). IsMessage v × (bytes ≡ message_text v)) last.1 (f.is_message, all_taken bytes (message_text a.0.0) a.0.1 f.took last.0)

pub message_is_found : (bytes : List ℕ) (result : Result Sent MessageFault) → IsBytes bytes → Decodes result (message_of bytes) → IfOk result (λ message. IsMessage message × (bytes ≡ message_text message))
message_is_found bytes (Ok m) h read = whole_message_found bytes m h read
message_is_found bytes (Err fault) h read = tt

kept : (b : Body) → IsBody b → IsKept b
kept (Ask req update) h = is_valid update h.1
kept (Granted entry) h = tt
kept (Apply entry) h = tt
kept (Applied place) h = tt
kept (Release req) h = tt
kept (Offer count cap last) h = h.0
kept (Need offset) h = tt
kept (Piece total offset bytes) h = tt
kept Ready h = tt
kept OpenView h = tt

pub message_kept : (bytes : List ℕ) (x : Sent × Reading) → IsBytes bytes → message_at (start bytes) ≡ Ok x → IsKept x.0.body
message_kept bytes x h e = kept x.0.body (message_found (start bytes) x (started bytes h) e).is_message.body

fits : (b : Body) → IsBody b → FitsPiece b
fits (Ask req update) h = tt
fits (Granted entry) h = tt
fits (Apply entry) h = tt
fits (Applied place) h = tt
fits (Release req) h = tt
fits (Offer count cap last) h = tt
fits (Need offset) h = tt
fits (Piece total offset bytes) h = h.short
fits Ready h = tt
fits OpenView h = tt

pub message_fits : (bytes : List ℕ) (result : Result Sent MessageFault) → IsBytes bytes → Decodes result (message_of bytes) → IfOk result (λ message. FitsPiece message.body)
message_fits bytes (Ok m) h read = fits m.body (whole_message_found bytes m h read).0.body
message_fits bytes (Err fault) h read = tt
