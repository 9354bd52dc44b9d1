-- A stub is cut into fragments (C706 12.6.4).
use Rattle.std.specs.Prelude.{ℕ, zero, suc, ◌+◌, ◌-◌, ◌*◌, ◌/◌, List, [], ◌∷◌, length, take, drop, None}
use Rattle.wire_fields.specs.declared.endian.Endian.TheVariants.{Little}
use Rattle.rpc_pdu.specs.declared.pdu.Pdu.{Pdu}
use Rattle.rpc_pdu.specs.declared.pdu.Pdu.TheVariants.{Request, Response}
use Rattle.rpc_calls.specs.declared.call.Call.{Call}
use Rattle.rpc_calls.specs.declared.sent.Sent.{Sent}
use Rattle.rpc_calls.specs.declared.sent.Sent.TheVariants as sends

-- A response with these flags, so many bytes of stub from here on, and this stub.
abbrev pub response_piece : ℕ → ℕ → ℕ → ℕ → List ℕ → Pdu
response_piece call_id context flags hint stub =
    Response (record { endian = Little; minor = 0; flags = flags; call_id = call_id }) hint context 0 stub

-- A request with these flags, so many bytes of stub from here on, and this stub. It has no object.
abbrev pub request_piece : ℕ → ℕ → ℕ → ℕ → ℕ → List ℕ → Pdu
request_piece call_id context opnum flags hint stub =
    Request (record { endian = Little; minor = 0; flags = flags; call_id = call_id }) hint context opnum None stub

-- The fragments of what is sent.
abbrev pub piece_of : Sent → ℕ → ℕ → List ℕ → Pdu
piece_of (sends.Request call_id context opnum) = request_piece call_id context opnum
piece_of (sends.Response call_id context) = response_piece call_id context

-- A request on the server's side.
abbrev pub requested : ℕ → ℕ → ℕ → List ℕ → Call
requested call_id context opnum stub = record { context = context; opnum = opnum; call_id = call_id; endian = Little; stub = stub }

-- A reply on the client's side.
abbrev pub replied : ℕ → ℕ → List ℕ → Call
replied call_id context stub = record { context = context; opnum = 0; call_id = call_id; endian = Little; stub = stub }

-- How much stub a fragment has that isn't the last: a multiple of 8.
abbrev pub room_of : ℕ → ℕ
room_of most = most / 8 * 8

-- How many pieces stand before the last one, which has at most so many bytes: what it has no room for, rounded up.
abbrev pub before_last : ℕ → ℕ → ℕ
before_last most size = (size - most + (room_of most - 1)) / room_of most

-- So many pieces with room for a multiple of 8 bytes, and the last one. The first of all has flag 0x01 and the last flag 0x02.
unfoldable pub pieces : (ℕ → ℕ → List ℕ → Pdu) → ℕ → ℕ → ℕ → List ℕ → List Pdu
pieces piece room zero first stub = piece (first + 2) (length stub) stub ∷ []
pieces piece room (suc more) first stub = piece first (length stub) (take room stub) ∷ pieces piece room more 0 (drop room stub)

-- A stub in as few pieces as can be, of at most so many bytes each. An empty stub has one.
abbrev pub cut_by : (ℕ → ℕ → List ℕ → Pdu) → ℕ → ℕ → List ℕ → List Pdu
cut_by piece most first stub = pieces piece (room_of most) (before_last most (length stub)) first stub

-- A stub in responses of at most so many bytes of stub each.
abbrev pub reply_pieces : ℕ → ℕ → ℕ → List ℕ → List Pdu
reply_pieces call_id context most stub = cut_by (response_piece call_id context) most 1 stub

-- A stub in requests of at most so many bytes of stub each.
abbrev pub request_pieces : ℕ → ℕ → ℕ → ℕ → List ℕ → List Pdu
request_pieces call_id context opnum most stub = cut_by (request_piece call_id context opnum) most 1 stub
