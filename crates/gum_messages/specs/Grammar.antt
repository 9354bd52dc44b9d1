-- Reading messages from left to right, with the place of the first field at fault.
use Rattle.std.specs.Prelude.{ℕ, ◌+◌, ◌-◌, ◌^◌, List, length, take, Option, None, Some, Result, Ok, Err, nat_lt, ◌==◌, if◌then◌else◌}
use Rattle.wire_fields.specs.Reading.{Reading, after, bytes_at, number_at}
use Rattle.update_records.specs.Checked.{◌>>=◌, field_at, between, anything, whole, no_end, alone}
use Rattle.update_records.specs.Entry.{Entry}
use Rattle.update_records.specs.Grammar.{last_place, record_of, update_of, start}
use Rattle.gum_messages.specs.declared.body.Body.{Body}
use Rattle.gum_messages.specs.declared.body.Body.TheVariants.{Ask, Granted, Apply, Applied, Release, Offer, Need, Piece, Ready, OpenView}
use Rattle.gum_messages.specs.declared.head.Head.{Head}
use Rattle.gum_messages.specs.Messages.{Sent}

-- A fault within a part is counted from the first byte of the message.
abbrev pub counted_from : {A : Type 0} → ℕ → Result A ℕ → Result A ℕ
counted_from start (Ok x) = Ok x
counted_from start (Err place) = Err (start + place)

-- So many bytes that are an update or a record by themselves.
abbrev pub part_at : {A : Type 0} → (List ℕ → Result A ℕ) → ℕ → Reading → Result (A × Reading) ℕ
part_at one count s = counted_from s.place (one (take count s.left)) >>= λ x. Ok (x, after count s)

-- All that is left.
abbrev pub rest_at : {A : Type 0} → (List ℕ → Result A ℕ) → Reading → Result (A × Reading) ℕ
rest_at one s = part_at one (length s.left) s

unfoldable pub ask_at : Reading → Result (Body × Reading) ℕ
ask_at s = do
  req ← field_at (number_at 8) anything no_end s
  update ← rest_at update_of req.1
  Ok (Ask req.0 update.0, update.1)

unfoldable pub granted_at : Reading → Result (Body × Reading) ℕ
granted_at s = do
  entry ← rest_at record_of s
  Ok (Granted entry.0, entry.1)

unfoldable pub apply_at : Reading → Result (Body × Reading) ℕ
apply_at s = do
  entry ← rest_at record_of s
  Ok (Apply entry.0, entry.1)

unfoldable pub applied_at : Reading → Result (Body × Reading) ℕ
applied_at s = do
  place ← field_at (number_at 8) anything no_end s
  Ok (Applied place.0, place.1)

unfoldable pub release_at : Reading → Result (Body × Reading) ℕ
release_at s = do
  req ← field_at (number_at 8) anything no_end s
  Ok (Release req.0, req.1)

-- The message ends before the stated length of its record.
abbrev pub cut_off : Reading → Result (Option Entry × Reading) ℕ
cut_off s = do
  entry ← rest_at record_of s
  Err entry.1.place

unfoldable pub last_at : ℕ → Reading → Result (Option Entry × Reading) ℕ
last_at count s =
    if count == 0 then Ok (None, s)
    else if nat_lt (length s.left) count then cut_off s
    else part_at record_of count s >>= λ entry. Ok (Some entry.0, entry.1)

unfoldable pub offer_at : Reading → Result (Body × Reading) ℕ
offer_at s = do
  count ← field_at (number_at 8) (between 0 last_place) no_end s
  cap ← field_at (number_at 4) (between 4096 16777216) no_end count.1
  bytes ← field_at (number_at 4) (between 0 57344) no_end cap.1
  last ← last_at bytes.0 bytes.1
  Ok (Offer count.0 cap.0 last.0, last.1)

unfoldable pub need_at : Reading → Result (Body × Reading) ℕ
need_at s = do
  offset ← field_at (number_at 4) anything no_end s
  Ok (Need offset.0, offset.1)

unfoldable pub piece_at : Reading → Result (Body × Reading) ℕ
piece_at s = do
  total ← field_at (number_at 4) anything no_end s
  offset ← field_at (number_at 4) anything no_end total.1
  count ← field_at (number_at 4) anything no_end offset.1
  bytes ← whole count.1.place (bytes_at count.0 count.1)
  Ok (Piece total.0 offset.0 bytes.0, bytes.1)

-- What stands behind the head, by the kind: the update protocol and joining a view.
unfoldable pub update_body_at : ℕ → Reading → Result (Body × Reading) ℕ
update_body_at kind s =
    if kind == 1 then ask_at s
    else if kind == 2 then granted_at s
    else if kind == 3 then apply_at s
    else if kind == 4 then applied_at s
    else release_at s

unfoldable pub view_body_at : ℕ → Reading → Result (Body × Reading) ℕ
view_body_at kind s =
    if kind == 6 then offer_at s
    else if kind == 7 then need_at s
    else if kind == 8 then piece_at s
    else if kind == 9 then Ok (Ready, s)
    else Ok (OpenView, s)

abbrev pub body_at : ℕ → Reading → Result (Body × Reading) ℕ
body_at kind s = if nat_lt 5 kind then view_body_at kind s else update_body_at kind s

unfoldable pub head_at : Reading → Result (Head × Reading) ℕ
head_at s = do
  kind ← field_at (number_at 1) (between 1 10) no_end s
  view ← field_at (number_at 4) (between 1 (2 ^ 32 - 1)) no_end kind.1
  from ← field_at (number_at 2) (between 1 16) no_end view.1
  to ← field_at (number_at 2) (between 1 16) no_end from.1
  Ok (record { kind = kind.0; view = view.0; from = from.0; to = to.0 }, to.1)

abbrev pub sent_of : Head → Body → Sent
sent_of head body = record { view = head.view; from = head.from; to = head.to; body = body }

unfoldable pub message_at : Reading → Result (Sent × Reading) ℕ
message_at s = do
  head ← head_at s
  body ← body_at head.0.kind head.1
  Ok (sent_of head.0 body.0, body.1)

-- All of the bytes.
unfoldable pub message_of : List ℕ → Result Sent ℕ
message_of bytes = message_at (start bytes) >>= alone
