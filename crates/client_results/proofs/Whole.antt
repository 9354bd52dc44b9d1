-- Streams of whole fragments: joined they give the items of both, and what is sent of one PDU or one call gives that.
use Rattle.std.proofs.Common.{◌≡◌, ℕ, zero, suc, ◌+◌, ◌^◌, ◌≤◌, ◌<◌, Bool, true, false, List, [], ◌∷◌, ◌++◌, length, take, drop, refl, sym, ap, ◌∙◌, subst, append_assoc, length-append, arith}
use Rattle.std.specs.Prelude.{Option, Some, None, nat_lt, map, flat_map}
use Rattle.std.specs.List.{concat}
use Rattle.std.proofs.Math.Nat.{div-mul-le_self}
use Rattle.std.proofs.lemmas.Bool.{eq-eqb, le-ltb}
use Rattle.std.proofs.lemmas.List.{append-nil, length-take-le, take-append-drop}
use Rattle.std.proofs.lemmas.List.Folds.{concat-append}
use Rattle.wire_fields.specs.declared.endian.Endian.{Endian}
use Rattle.wire_fields.specs.declared.endian.Endian.TheVariants.{Little}
use Rattle.wire_fields.specs.Reading.{number_in}
use Rattle.rpc_pdu.specs.declared.pdu.Pdu.{Pdu}
use Rattle.rpc_pdu.specs.Encoding.{CanSpell, spelling}
use Rattle.rpc_pdu.specs.Flags.{has_flag}
use Rattle.rpc_pdu.specs.Grammar.{IsPdu}
use Rattle.rpc_pdu.specs.Header.{frag_length}
use Rattle.rpc_pdu.specs.PduTypes.{head_in, type_of}
use Rattle.rpc_pdu.proofs.Answered.{request_spells, response_spells}
use Rattle.rpc_pdu.proofs.EncodingLaws.{encoding_spells}
use Rattle.rpc_pdu.proofs.HeaderLaws.{order_is}
use Rattle.rpc_calls.specs.declared.call.Call.{Call}
use Rattle.rpc_calls.specs.declared.item.Item.{Item}
use Rattle.rpc_calls.specs.declared.item.Item.TheVariants as items
use Rattle.rpc_calls.specs.declared.side.Side.{Side}
use Rattle.rpc_calls.specs.declared.side.Side.TheVariants.{Client, Server}
use Rattle.rpc_calls.specs.Assembly.{ended, extended, finished_if, goes_on, joined, most_stub, no_call, taken}
use Rattle.rpc_calls.specs.Cutting.{before_last, cut_by, pieces, replied, reply_pieces, request_piece, request_pieces, requested, response_piece, room_of}
use Rattle.rpc_calls.specs.Fragments.{with_stub}
use Rattle.rpc_calls.specs.Frames.{IsFrame}
use Rattle.rpc_calls.specs.Intakes.{no_fault}
use Rattle.rpc_calls.specs.Streams.{Items, Runs, put}
use Rattle.rpc_calls.proofs.CuttingLaws.{count_behind, fits_last, has_more}
use Rattle.rpc_calls.proofs.FrameRuns.{put_front}
use Rattle.client_results.specs.Streams.{IsWhole}

-- ---- joined

runs_on : (side : Side) (place : ℕ) (before : Option Call) (xs ys : List (List ℕ)) (given more : List Item) → Runs side place before xs given no_call
    → ((at : ℕ) → Runs side at no_call ys more no_call) → Runs side place before (xs ++ ys) (given ++ more) no_call
unfolding Runs
runs_on side place before [] ys given more (none, same) behind =
    subst (λ (items : List Item). Runs side place before ys (items ++ more) no_call) (sym none)
    (subst (λ (call : Option Call). Runs side place call ys more no_call) same (behind place))
runs_on side place before (frame ∷ xs) ys given more (part, next, item, others, is, stands, does, gives, runs) behind =
    let all : given ++ more ≡ put item (others ++ more) = rw gives (put_front item others more) in
    (part, next, item, others ++ more, is, stands, does, all, runs_on side (place + length frame) next xs ys others more runs behind)

pub whole_on : (side : Side) (a b : List ℕ) (xs ys : List Item) → IsWhole side a xs → IsWhole side b ys → IsWhole side (a ++ b) (xs ++ ys)
whole_on side a b xs ys one two = record {
  frames = one.frames ++ two.frames;
  joined = rw (one.joined, two.joined) (sym (concat-append one.frames two.frames));
  give = λ place. runs_on side place no_call one.frames two.frames xs ys (one.give place) two.give;
}

pub whole_none : (side : Side) → IsWhole side [] []
unfolding Runs
whole_none side = record { frames = []; joined = refl; give = λ place. (refl, refl) }

pub whole_items : (side : Side) (stream : List ℕ) (given : List Item) → IsWhole side stream given → Items side stream given no_fault
whole_items side stream given is =
    (is.frames, None, [], record { whole = is.joined ∙ sym (append-nil (concat is.frames)); runs = is.give 0 }, tt)

-- ---- one PDU

pdu_is_frame : (frame : List ℕ) (pdu : Pdu) → IsPdu frame pdu → IsFrame frame
pdu_is_frame frame pdu is =
    let order = order_is frame (type_of pdu) (head_in pdu) is.header in
    let told : frag_length frame ≡ length frame = ap (λ (e : Endian). number_in e 2 8 frame) order ∙ is.header.frag_length in
    let enough : nat_lt (length frame) 10 ≡ false = le-ltb (length frame) 10 (omega (arith, is.header.long)) in
    record { long = is.header.long; told = rw (enough, told) refl }

abbrev one : Item → List Item
one item = item ∷ []

pub pdu_whole : (side : Side) (pdu : Pdu) → IsPdu (spelling pdu) pdu → ((place : ℕ) → taken side place no_call (items.Single pdu) ≡ goes_on None (Some (items.Single pdu)))
    → IsWhole side (spelling pdu ++ []) (one (items.Single pdu))
unfolding Runs
pdu_whole side pdu is alone = record {
  frames = spelling pdu ∷ [];
  joined = refl;
  give = λ place. (items.Single pdu, None, Some (items.Single pdu), [], pdu_is_frame (spelling pdu) pdu is, is, alone place, refl, (refl, refl));
}

-- ---- one call

-- What is sent: a call's parameters, or its results.
data Sent : Type 0 where
  AsRequest : ℕ → ℕ → ℕ → Sent
  AsResponse : ℕ → ℕ → Sent

abbrev piece_of : Sent → ℕ → ℕ → List ℕ → Pdu
piece_of (AsRequest call_id context opnum) = request_piece call_id context opnum
piece_of (AsResponse call_id context) = response_piece call_id context

abbrev side_of : Sent → Side
side_of (AsRequest call_id context opnum) = Server
side_of (AsResponse call_id context) = Client

abbrev call_of : Sent → List ℕ → Call
call_of (AsRequest call_id context opnum) = requested call_id context opnum
call_of (AsResponse call_id context) = replied call_id context

abbrev SentFits : Sent → Type 0
SentFits (AsRequest call_id context opnum) = (call_id < 256 ^ 4) × (context < 256 ^ 2) × (opnum < 256 ^ 2)
SentFits (AsResponse call_id context) = (call_id < 256 ^ 4) × (context < 256 ^ 2)

-- The first piece has flag 0x01, and the last 0x02.
abbrev flag_of : Bool → ℕ
flag_of true = 1
flag_of false = 0

abbrev flags_of : Bool → Bool → ℕ
flags_of first true = flag_of first + 2
flags_of first false = flag_of first

flags-small : (first last : Bool) → flags_of first last < 256
flags-small true true = omega arith
flags-small true false = omega arith
flags-small false true = omega arith
flags-small false false = omega arith

no_other_flag : (first last : Bool) → (has_flag (flags_of first last) 0x40 ≡ false) × (has_flag (flags_of first last) 0x80 ≡ false)
no_other_flag true true = (refl, refl)
no_other_flag true false = (refl, refl)
no_other_flag false true = (refl, refl)
no_other_flag false false = (refl, refl)

length-front : (most : ℕ) (stub : List ℕ) → most < length stub → length (take (room_of most) stub) ≤ most
length-front most stub long =
    let small : room_of most ≤ most = div-mul-le_self most 8 in
    let fits : room_of most ≤ length stub = omega arith in
    omega (arith, length-take-le (room_of most) stub fits)

piece_spells : (sent : Sent) (first last : Bool) (hint most : ℕ) (stub : List ℕ) → length stub ≤ most → most ≤ 5816 → CanSpell (piece_of sent (flags_of first last) hint stub)
piece_spells (AsRequest call_id context opnum) first last hint most stub short small =
    let others = no_other_flag first last in
    request_spells (record { endian = Little; minor = 0; flags = flags_of first last; call_id = call_id }) hint context opnum None stub (omega arith) others.0 others.1 (omega arith)
piece_spells (AsResponse call_id context) first last hint most stub short small =
    response_spells (record { endian = Little; minor = 0; flags = flags_of first last; call_id = call_id }) hint context 0 stub (omega arith) (omega arith)

piece_is_pdu : (sent : Sent) (first last : Bool) (hint most : ℕ) (stub : List ℕ) → length stub ≤ most → most ≤ 5816 → SentFits sent → hint < 256 ^ 4
    → IsPdu (spelling (piece_of sent (flags_of first last) hint stub)) (piece_of sent (flags_of first last) hint stub)
piece_is_pdu (AsRequest call_id context opnum) first last hint most stub short small fits hint_fits =
    let sent = AsRequest call_id context opnum in
    encoding_spells (piece_of sent (flags_of first last) hint stub) (piece_spells sent first last hint most stub short small)
    ((omega arith, flags-small first last, fits.0), (hint_fits, fits.1, fits.2, tt))
piece_is_pdu (AsResponse call_id context) first last hint most stub short small fits hint_fits =
    let sent = AsResponse call_id context in
    encoding_spells (piece_of sent (flags_of first last) hint stub) (piece_spells sent first last hint most stub short small)
    ((omega arith, flags-small first last, fits.0), (hint_fits, fits.1, omega arith))

-- The call that is unfinished before a piece.
abbrev held_before : Bool → Call → Option Call
held_before true call = None
held_before false call = Some call

not_too_long : (place : ℕ) (last : Bool) (call : Call) → length call.stub ≤ most_stub → ended place last (Some call) ≡ finished_if last call
not_too_long place last call short = rw (le-ltb most_stub (length call.stub) short) refl

joins_on : (call : Call) (place : ℕ) (last : Bool) (front stub : List ℕ) → length (front ++ stub) ≤ most_stub
    → ended place last (extended (Some (with_stub call front)) (with_stub call stub) false) ≡ finished_if last (with_stub call (front ++ stub))
joins_on call place last front stub short = rw (eq-eqb call.call_id call.call_id refl) (not_too_long place last (with_stub call (front ++ stub)) short)

starts_off : (call : Call) (place : ℕ) (last : Bool) (front stub : List ℕ) → front ≡ [] → length (front ++ stub) ≤ most_stub
    → ended place last (extended None (with_stub call stub) true) ≡ finished_if last (with_stub call (front ++ stub))
starts_off call place last front stub none short =
    let fits : length stub ≤ most_stub = omega (arith, length-append front stub) in
    rw none (not_too_long place last (with_stub call stub) fits)

abbrev NoneBefore : Bool → List ℕ → Type 0
NoneBefore true front = front ≡ []
NoneBefore false front = Unit {0}

-- A fragment of a call joins what was joined of it before, where it is one of those that are sent.
abbrev Joins : Side → Call → Bool → Bool → List ℕ → List ℕ → Item → Type 0
Joins side call first last front stub part =
    (place : ℕ) → taken side place (held_before first (with_stub call front)) part ≡ finished_if last (with_stub call (front ++ stub))

request_joins : (call_id context opnum hint : ℕ) (first last : Bool) (front stub : List ℕ) → NoneBefore first front → length (front ++ stub) ≤ most_stub
    → Joins Server (requested call_id context opnum []) first last front stub (items.Single (piece_of (AsRequest call_id context opnum) (flags_of first last) hint stub))
unfolding taken joined
request_joins call_id context opnum hint true true front stub none short place = starts_off (requested call_id context opnum []) place true front stub none short
request_joins call_id context opnum hint true false front stub none short place = starts_off (requested call_id context opnum []) place false front stub none short
request_joins call_id context opnum hint false true front stub none short place = joins_on (requested call_id context opnum []) place true front stub short
request_joins call_id context opnum hint false false front stub none short place = joins_on (requested call_id context opnum []) place false front stub short

reply_joins : (call_id context hint : ℕ) (first last : Bool) (front stub : List ℕ) → NoneBefore first front → length (front ++ stub) ≤ most_stub
    → Joins Client (replied call_id context []) first last front stub (items.Single (piece_of (AsResponse call_id context) (flags_of first last) hint stub))
unfolding taken joined
reply_joins call_id context hint true true front stub none short place = starts_off (replied call_id context []) place true front stub none short
reply_joins call_id context hint true false front stub none short place = starts_off (replied call_id context []) place false front stub none short
reply_joins call_id context hint false true front stub none short place = joins_on (replied call_id context []) place true front stub short
reply_joins call_id context hint false false front stub none short place = joins_on (replied call_id context []) place false front stub short

piece_taken : (sent : Sent) (hint place : ℕ) (first last : Bool) (front stub : List ℕ) → NoneBefore first front → length (front ++ stub) ≤ most_stub
    → taken (side_of sent) place (held_before first (call_of sent front)) (items.Single (piece_of sent (flags_of first last) hint stub)) ≡ finished_if last (call_of sent (front ++ stub))
piece_taken (AsRequest call_id context opnum) hint place first last front stub none short = request_joins call_id context opnum hint first last front stub none short place
piece_taken (AsResponse call_id context) hint place first last front stub none short = reply_joins call_id context hint first last front stub none short place

abbrev one_call : Sent → List ℕ → List Item
one_call sent stub = items.Call (call_of sent stub) ∷ []

pieces_run : (sent : Sent) (most n place : ℕ) (first : Bool) (front stub : List ℕ) → SentFits sent → most ≤ 5816 → 0 < room_of most → NoneBefore first front
    → length (front ++ stub) ≤ most_stub → before_last most (length stub) ≡ n
    → Runs (side_of sent) place (held_before first (call_of sent front)) (map spelling (pieces (piece_of sent) (room_of most) n (flag_of first) stub)) (one_call sent (front ++ stub)) no_call
unfolding pieces Runs
pieces_run sent most zero place first front stub fits small room none short count =
    let piece = piece_of sent (flags_of first true) (length stub) stub in
    let fits_here = fits_last most (length stub) room count in
    let hint_fits : length stub < 256 ^ 4 = omega (arith, length-append front stub) in
    let made = piece_is_pdu sent first true (length stub) most stub fits_here small fits hint_fits in (
      items.Single piece,
      None,
      Some (items.Call (call_of sent (front ++ stub))),
      [],
      pdu_is_frame (spelling piece) piece made,
      made,
      piece_taken sent (length stub) place first true front stub none short,
      refl,
      (refl, refl),
    )
pieces_run sent most (suc n) place first front stub fits small room none short count =
    let head = take (room_of most) stub in
    let rest = drop (room_of most) stub in
    let piece = piece_of sent (flags_of first false) (length stub) head in
    let long = has_more most (length stub) n room count in
    let hint_fits : length stub < 256 ^ 4 = omega (arith, length-append front stub) in
    let made = piece_is_pdu sent first false (length stub) most head (length-front most stub long) small fits hint_fits in
    let regrouped : (front ++ head) ++ rest ≡ front ++ stub = append_assoc front head rest ∙ ap (λ (s : List ℕ). front ++ s) (take-append-drop (room_of most) stub) in
    let short_front : length (front ++ head) ≤ most_stub = omega (arith, ap length regrouped, length-append (front ++ head) rest) in
    let short_all : length ((front ++ head) ++ rest) ≤ most_stub = rw regrouped short in
    let behind = count_behind most n stub room count in
    let runs = pieces_run sent most n (place + length (spelling piece)) false (front ++ head) rest fits small room tt short_all behind in
    let others = map spelling (pieces (piece_of sent) (room_of most) n 0 rest) in
    let P : List ℕ → Type 0 = λ all. Runs (side_of sent) (place + length (spelling piece)) (Some (call_of sent (front ++ head))) others (one_call sent all) no_call in (
      items.Single piece,
      Some (call_of sent (front ++ head)),
      None,
      one_call sent (front ++ stub),
      pdu_is_frame (spelling piece) piece made,
      made,
      piece_taken sent (length stub) place first false front head none short_front,
      refl,
      subst P regrouped runs,
    )

text_joined : (pdus : List Pdu) → flat_map spelling pdus ≡ concat (map spelling pdus)
text_joined [] = refl
text_joined (pdu ∷ pdus) = ap (λ (text : List ℕ). spelling pdu ++ text) (text_joined pdus)

call_whole : (sent : Sent) (most : ℕ) (stub : List ℕ) → SentFits sent → 8 ≤ most → most ≤ 5816 → length stub ≤ most_stub
    → IsWhole (side_of sent) (flat_map spelling (cut_by (piece_of sent) most 1 stub)) (one_call sent stub)
call_whole sent most stub fits large small short =
    let room : 0 < room_of most = omega arith in
    let cut = cut_by (piece_of sent) most 1 stub in
    record {
      frames = map spelling cut;
      joined = text_joined cut;
      give = λ place. pieces_run sent most (before_last most (length stub)) place true [] stub fits small room refl short refl;
    }

pub reply_whole : (call_id context most : ℕ) (stub : List ℕ) → call_id < 256 ^ 4 → context < 256 ^ 2 → 8 ≤ most → most ≤ 5816 → length stub ≤ most_stub
    → IsWhole Client (flat_map spelling (reply_pieces call_id context most stub)) (items.Call (replied call_id context stub) ∷ [])
reply_whole call_id context most stub id_fits context_fits large small short = call_whole (AsResponse call_id context) most stub (id_fits, context_fits) large small short

pub request_whole : (call_id context opnum most : ℕ) (stub : List ℕ) → call_id < 256 ^ 4 → context < 256 ^ 2 → opnum < 256 ^ 2 → 8 ≤ most → most ≤ 5816 → length stub ≤ most_stub
    → IsWhole Server (flat_map spelling (request_pieces call_id context opnum most stub)) (items.Call (requested call_id context opnum stub) ∷ [])
request_whole call_id context opnum most stub id_fits context_fits opnum_fits large small short =
    call_whole (AsRequest call_id context opnum) most stub (id_fits, context_fits, opnum_fits) large small short
