-- The fragments of what is sent have encodings, and joined by its receiver they are one call.
use Rattle.std.proofs.Common.{◌≡◌, ℕ, zero, suc, ◌+◌, ◌^◌, ◌≤◌, ◌<◌, Bool, true, false, List, [], ◌∷◌, ◌++◌, length, take, drop, refl, sym, ap, ◌∙◌, subst, append_assoc, length-append, arith}
use Rattle.std.specs.Prelude.{Option, Some, None, nat_lt, map}
use Rattle.std.specs.List.{All, concat}
use Rattle.std.proofs.Math.Nat.{div-mul-le_self}
use Rattle.std.proofs.lemmas.Bool.{eq-eqb, le-ltb}
use Rattle.std.proofs.lemmas.List.{append-nil, length-take-le, take-append-drop}
use Rattle.std.proofs.lemmas.List.Elements.{All-from_recursion}
use Rattle.std.specs.List.{AllByRecursion}
use Rattle.rpc_pdu.specs.declared.pdu.Pdu.{Pdu}
use Rattle.rpc_pdu.specs.Encoding.{CanSpell, spelling}
use Rattle.rpc_pdu.specs.Flags.{has_flag}
use Rattle.rpc_pdu.specs.Grammar.{IsPdu}
use Rattle.rpc_pdu.specs.Header.{frag_length}
use Rattle.rpc_pdu.specs.PduTypes.{head_in, type_of}
use Rattle.rpc_pdu.proofs.Answered.{request_spells, response_spells}
use Rattle.rpc_pdu.proofs.EncodingLaws.{encoding_spells}
use Rattle.rpc_pdu.proofs.HeaderLaws.{order_is}
use Rattle.wire_fields.specs.declared.endian.Endian.{Endian}
use Rattle.wire_fields.specs.declared.endian.Endian.TheVariants.{Little}
use Rattle.wire_fields.specs.Reading.{number_in}
use Rattle.rpc_calls.specs.declared.call.Call.{Call}
use Rattle.rpc_calls.specs.declared.item.Item.{Item}
use Rattle.rpc_calls.specs.declared.item.Item.TheVariants as items
use Rattle.rpc_calls.specs.declared.side.Side.{Side}
use Rattle.rpc_calls.specs.declared.side.Side.TheVariants.{Client, Server}
use Rattle.rpc_calls.specs.declared.sent.Sent.{Sent}
use Rattle.rpc_calls.specs.declared.sent.Sent.TheVariants as sends
use Rattle.rpc_calls.specs.Assembly.{ended, extended, finished_if, joined, most_stub, no_call, taken}
use Rattle.rpc_calls.specs.Cutting.{before_last, cut_by, piece_of, pieces, replied, reply_pieces, request_pieces, requested, room_of}
use Rattle.rpc_calls.specs.Fragments.{with_stub}
use Rattle.rpc_calls.specs.Frames.{IsFrame}
use Rattle.rpc_calls.specs.Intakes.{no_fault}
use Rattle.rpc_calls.specs.Streams.{Items, Runs}
use Rattle.rpc_calls.proofs.CuttingLaws.{count_behind, fits_last, has_more}

-- ---- what is sent

abbrev side_of : Sent → Side
side_of (sends.Request call_id context opnum) = Server
side_of (sends.Response call_id context) = Client

abbrev call_of : Sent → List ℕ → Call
call_of (sends.Request call_id context opnum) = requested call_id context opnum
call_of (sends.Response call_id context) = replied call_id context

abbrev SentFits : Sent → Type 0
SentFits (sends.Request call_id context opnum) = (call_id < 256 ^ 4) × (context < 256 ^ 2) × (opnum < 256 ^ 2)
SentFits (sends.Response call_id context) = (call_id < 256 ^ 4) × (context < 256 ^ 2)

-- The first piece has flag 0x01, and the last 0x02.
abbrev flag_of : Bool → ℕ
flag_of true = 1
flag_of false = 0

abbrev flags_of : Bool → Bool → ℕ
flags_of first true = flag_of first + 2
flags_of first false = flag_of first

flags-small : (first last : Bool) → flags_of first last < 256
flags-small true true = omega arith
flags-small true false = omega arith
flags-small false true = omega arith
flags-small false false = omega arith

no_other_flag : (first last : Bool) → (has_flag (flags_of first last) 0x40 ≡ false) × (has_flag (flags_of first last) 0x80 ≡ false)
no_other_flag true true = (refl, refl)
no_other_flag true false = (refl, refl)
no_other_flag false true = (refl, refl)
no_other_flag false false = (refl, refl)

-- ---- encodings

room-le : (most : ℕ) → room_of most ≤ most
room-le most = div-mul-le_self most 8

length-front : (most : ℕ) (stub : List ℕ) → most < length stub → length (take (room_of most) stub) ≤ most
length-front most stub long =
    let small = room-le most in
    let fits : room_of most ≤ length stub = omega arith in
    omega (arith, length-take-le (room_of most) stub fits)

piece_spells : (sent : Sent) (first last : Bool) (hint most : ℕ) (stub : List ℕ) → length stub ≤ most → most ≤ 5816 → CanSpell (piece_of sent (flags_of first last) hint stub)
piece_spells (sends.Request call_id context opnum) first last hint most stub short small =
    let others = no_other_flag first last in
    request_spells (record { endian = Little; minor = 0; flags = flags_of first last; call_id = call_id }) hint context opnum None stub (omega arith) others.0 others.1 (omega arith)
piece_spells (sends.Response call_id context) first last hint most stub short small =
    response_spells (record { endian = Little; minor = 0; flags = flags_of first last; call_id = call_id }) hint context 0 stub (omega arith) (omega arith)

each_spells : (sent : Sent) (most n : ℕ) (first : Bool) (stub : List ℕ) → most ≤ 5816 → 0 < room_of most → before_last most (length stub) ≡ n
    → AllByRecursion CanSpell (pieces (piece_of sent) (room_of most) n (flag_of first) stub)
unfolding pieces
each_spells sent most zero first stub small room count = (piece_spells sent first true (length stub) most stub (fits_last most (length stub) room count) small, tt)
each_spells sent most (suc n) first stub small room count =
    let long = has_more most (length stub) n room count in
    let behind = count_behind most n stub room count in
    (piece_spells sent first false (length stub) most (take (room_of most) stub) (length-front most stub long) small, each_spells sent most n false (drop (room_of most) stub) small room behind)

pub all_spell : (sent : Sent) (most : ℕ) (stub : List ℕ) → most ≤ 5816 → 0 < room_of most → All CanSpell (cut_by (piece_of sent) most 1 stub)
all_spell sent most stub small room = All-from_recursion CanSpell (cut_by (piece_of sent) most 1 stub) (each_spells sent most (before_last most (length stub)) true stub small room refl)

-- ---- one piece where it is received

pdu_is_frame : (frame : List ℕ) (pdu : Pdu) → IsPdu frame pdu → IsFrame frame
pdu_is_frame frame pdu is =
    let order = order_is frame (type_of pdu) (head_in pdu) is.header in
    let told : frag_length frame ≡ length frame = ap (λ (e : Endian). number_in e 2 8 frame) order ∙ is.header.frag_length in
    let enough : nat_lt (length frame) 10 ≡ false = le-ltb (length frame) 10 (omega (arith, is.header.long)) in
    record { long = is.header.long; told = rw (enough, told) refl }

piece_is_pdu : (sent : Sent) (first last : Bool) (hint most : ℕ) (stub : List ℕ) → length stub ≤ most → most ≤ 5816 → SentFits sent → hint < 256 ^ 4
    → IsPdu (spelling (piece_of sent (flags_of first last) hint stub)) (piece_of sent (flags_of first last) hint stub)
piece_is_pdu (sends.Request call_id context opnum) first last hint most stub short small fits hint_fits =
    let sent = sends.Request call_id context opnum in
    encoding_spells (piece_of sent (flags_of first last) hint stub) (piece_spells sent first last hint most stub short small)
    ((omega arith, flags-small first last, fits.0), (hint_fits, fits.1, fits.2, tt))
piece_is_pdu (sends.Response call_id context) first last hint most stub short small fits hint_fits =
    let sent = sends.Response call_id context in
    encoding_spells (piece_of sent (flags_of first last) hint stub) (piece_spells sent first last hint most stub short small)
    ((omega arith, flags-small first last, fits.0), (hint_fits, fits.1, omega arith))

-- The call that is unfinished before a piece.
abbrev held_before : Bool → Call → Option Call
held_before true call = None
held_before false call = Some call

not_too_long : (place : ℕ) (last : Bool) (call : Call) → length call.stub ≤ most_stub → ended place last (Some call) ≡ finished_if last call
not_too_long place last call short = rw (le-ltb most_stub (length call.stub) short) refl

joins_on : (call : Call) (place : ℕ) (last : Bool) (front stub : List ℕ) → length (front ++ stub) ≤ most_stub
    → ended place last (extended (Some (with_stub call front)) (with_stub call stub) false) ≡ finished_if last (with_stub call (front ++ stub))
joins_on call place last front stub short = rw (eq-eqb call.call_id call.call_id refl) (not_too_long place last (with_stub call (front ++ stub)) short)

starts_off : (call : Call) (place : ℕ) (last : Bool) (front stub : List ℕ) → front ≡ [] → length (front ++ stub) ≤ most_stub
    → ended place last (extended None (with_stub call stub) true) ≡ finished_if last (with_stub call (front ++ stub))
starts_off call place last front stub none short =
    let fits : length stub ≤ most_stub = omega (arith, length-append front stub) in
    rw none (not_too_long place last (with_stub call stub) fits)

abbrev NoneBefore : Bool → List ℕ → Type 0
NoneBefore true front = front ≡ []
NoneBefore false front = Unit {0}

-- A fragment of a call joins what was joined of it before, where it is one of those that are sent.
abbrev Joins : Side → Call → Bool → Bool → List ℕ → List ℕ → Item → Type 0
Joins side call first last front stub part =
    (place : ℕ) → taken side place (held_before first (with_stub call front)) part ≡ finished_if last (with_stub call (front ++ stub))

request_joins : (call_id context opnum hint : ℕ) (first last : Bool) (front stub : List ℕ) → NoneBefore first front → length (front ++ stub) ≤ most_stub
    → Joins Server (requested call_id context opnum []) first last front stub (items.Single (piece_of (sends.Request call_id context opnum) (flags_of first last) hint stub))
unfolding taken joined
request_joins call_id context opnum hint true true front stub none short place = starts_off (requested call_id context opnum []) place true front stub none short
request_joins call_id context opnum hint true false front stub none short place = starts_off (requested call_id context opnum []) place false front stub none short
request_joins call_id context opnum hint false true front stub none short place = joins_on (requested call_id context opnum []) place true front stub short
request_joins call_id context opnum hint false false front stub none short place = joins_on (requested call_id context opnum []) place false front stub short

reply_joins : (call_id context hint : ℕ) (first last : Bool) (front stub : List ℕ) → NoneBefore first front → length (front ++ stub) ≤ most_stub
    → Joins Client (replied call_id context []) first last front stub (items.Single (piece_of (sends.Response call_id context) (flags_of first last) hint stub))
unfolding taken joined
reply_joins call_id context hint true true front stub none short place = starts_off (replied call_id context []) place true front stub none short
reply_joins call_id context hint true false front stub none short place = starts_off (replied call_id context []) place false front stub none short
reply_joins call_id context hint false true front stub none short place = joins_on (replied call_id context []) place true front stub short
reply_joins call_id context hint false false front stub none short place = joins_on (replied call_id context []) place false front stub short

piece_taken : (sent : Sent) (hint place : ℕ) (first last : Bool) (front stub : List ℕ) → NoneBefore first front → length (front ++ stub) ≤ most_stub
    → taken (side_of sent) place (held_before first (call_of sent front)) (items.Single (piece_of sent (flags_of first last) hint stub)) ≡ finished_if last (call_of sent (front ++ stub))
piece_taken (sends.Request call_id context opnum) hint place first last front stub none short = request_joins call_id context opnum hint first last front stub none short place
piece_taken (sends.Response call_id context) hint place first last front stub none short = reply_joins call_id context hint first last front stub none short place

-- ---- all pieces

abbrev one_call : Sent → List ℕ → List Item
one_call sent stub = items.Call (call_of sent stub) ∷ []

pieces_run : (sent : Sent) (most n place : ℕ) (first : Bool) (front stub : List ℕ) → SentFits sent → most ≤ 5816 → 0 < room_of most → NoneBefore first front
    → length (front ++ stub) ≤ most_stub → before_last most (length stub) ≡ n
    → Runs (side_of sent) place (held_before first (call_of sent front)) (map spelling (pieces (piece_of sent) (room_of most) n (flag_of first) stub)) (one_call sent (front ++ stub)) no_call
unfolding pieces Runs
pieces_run sent most zero place first front stub fits small room none short count =
    let piece = piece_of sent (flags_of first true) (length stub) stub in
    let fits_here = fits_last most (length stub) room count in
    let hint_fits : length stub < 256 ^ 4 = omega (arith, length-append front stub) in
    let made = piece_is_pdu sent first true (length stub) most stub fits_here small fits hint_fits in (
      items.Single piece,
      None,
      Some (items.Call (call_of sent (front ++ stub))),
      [],
      pdu_is_frame (spelling piece) piece made,
      made,
      piece_taken sent (length stub) place first true front stub none short,
      refl,
      (refl, refl),
    )
pieces_run sent most (suc n) place first front stub fits small room none short count =
    let head = take (room_of most) stub in
    let rest = drop (room_of most) stub in
    let piece = piece_of sent (flags_of first false) (length stub) head in
    let long = has_more most (length stub) n room count in
    let hint_fits : length stub < 256 ^ 4 = omega (arith, length-append front stub) in
    let made = piece_is_pdu sent first false (length stub) most head (length-front most stub long) small fits hint_fits in
    let regrouped : (front ++ head) ++ rest ≡ front ++ stub = append_assoc front head rest ∙ ap (λ (s : List ℕ). front ++ s) (take-append-drop (room_of most) stub) in
    let short_front : length (front ++ head) ≤ most_stub = omega (arith, ap length regrouped, length-append (front ++ head) rest) in
    let short_all : length ((front ++ head) ++ rest) ≤ most_stub = rw regrouped short in
    let behind = count_behind most n stub room count in
    let runs = pieces_run sent most n (place + length (spelling piece)) false (front ++ head) rest fits small room tt short_all behind in
    let others = map spelling (pieces (piece_of sent) (room_of most) n 0 rest) in
    let P : List ℕ → Type 0 = λ all. Runs (side_of sent) (place + length (spelling piece)) (Some (call_of sent (front ++ head))) others (one_call sent all) no_call in (
      items.Single piece,
      Some (call_of sent (front ++ head)),
      None,
      one_call sent (front ++ stub),
      pdu_is_frame (spelling piece) piece made,
      made,
      piece_taken sent (length stub) place first false front head none short_front,
      refl,
      subst P regrouped runs,
    )

sent_joins : (sent : Sent) (most : ℕ) (stub : List ℕ) → SentFits sent → 8 ≤ most → most ≤ 5816 → length stub ≤ most_stub
    → Items (side_of sent) (concat (map spelling (cut_by (piece_of sent) most 1 stub))) (one_call sent stub) no_fault
sent_joins sent most stub fits large small short =
    let room : 0 < room_of most = omega arith in
    let frames = map spelling (cut_by (piece_of sent) most 1 stub) in
    let runs = pieces_run sent most (before_last most (length stub)) 0 true [] stub fits small room refl short refl in
    (frames, None, [], record { whole = sym (append-nil (concat frames)); runs = runs }, tt)

pub replies_join : (call_id context most : ℕ) (stub : List ℕ) → call_id < 256 ^ 4 → context < 256 ^ 2 → 8 ≤ most → most ≤ 5816 → length stub ≤ most_stub
    → Items Client (concat (map spelling (reply_pieces call_id context most stub))) (items.Call (replied call_id context stub) ∷ []) no_fault
replies_join call_id context most stub id_fits context_fits large small short = sent_joins (sends.Response call_id context) most stub (id_fits, context_fits) large small short

pub requests_join : (call_id context opnum most : ℕ) (stub : List ℕ) → call_id < 256 ^ 4 → context < 256 ^ 2 → opnum < 256 ^ 2 → 8 ≤ most → most ≤ 5816 → length stub ≤ most_stub
    → Items Server (concat (map spelling (request_pieces call_id context opnum most stub))) (items.Call (requested call_id context opnum stub) ∷ []) no_fault
requests_join call_id context opnum most stub id_fits context_fits opnum_fits large small short =
    sent_joins (sends.Request call_id context opnum) most stub (id_fits, context_fits, opnum_fits) large small short
