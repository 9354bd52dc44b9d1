-- The one encoding of each message. Numbers are little-endian.
use Rattle.std.specs.Prelude.{ℕ, List, [], ◌++◌, length, Option, None, Some}
use Rattle.wire_fields.specs.declared.endian.Endian.TheVariants.{Little}
use Rattle.wire_fields.specs.Numbers.{num}
use Rattle.update_records.specs.Entry.{Entry, record_text}
use Rattle.update_records.specs.Spelling.{update_text}
use Rattle.gum_messages.specs.declared.body.Body.{Body}
use Rattle.gum_messages.specs.declared.body.Body.TheVariants.{Ask, Granted, Apply, Applied, Release, Offer, Need, Piece, Ready, OpenView}
use Rattle.gum_messages.specs.Messages.{Sent}

abbrev pub kind_of : Body → ℕ
kind_of (Ask req update) = 1
kind_of (Granted entry) = 2
kind_of (Apply entry) = 3
kind_of (Applied place) = 4
kind_of (Release req) = 5
kind_of (Offer count cap last) = 6
kind_of (Need offset) = 7
kind_of (Piece total offset bytes) = 8
kind_of Ready = 9
kind_of OpenView = 10

-- The last record of an Offer: how many bytes, and the record; no bytes where there is none.
abbrev pub last_text : Option Entry → List ℕ
last_text None = num Little 4 0
last_text (Some entry) = num Little 4 (length (record_text entry)) ++ record_text entry

unfoldable pub body_text : Body → List ℕ
body_text (Ask req update) = num Little 8 req ++ update_text update
body_text (Granted entry) = record_text entry
body_text (Apply entry) = record_text entry
body_text (Applied place) = num Little 8 place
body_text (Release req) = num Little 8 req
body_text (Offer count cap last) = num Little 8 count ++ num Little 4 cap ++ last_text last
body_text (Need offset) = num Little 4 offset
body_text (Piece total offset bytes) = num Little 4 total ++ num Little 4 offset ++ num Little 4 (length bytes) ++ bytes
body_text Ready = []
body_text OpenView = []

-- The kind, the view, the sender and the receiver begin each message.
unfoldable pub head_text : ℕ → ℕ → ℕ → ℕ → List ℕ
head_text kind view from to = num Little 1 kind ++ num Little 4 view ++ num Little 2 from ++ num Little 2 to

abbrev pub message_text : Sent → List ℕ
message_text m = head_text (kind_of m.body) m.view m.from m.to ++ body_text m.body
