-- A stub is cut piece by piece: how many pieces there are, and which.
use Rattle.std.proofs.Common.{◌≡◌, ℕ, suc, ◌+◌, ◌-◌, ◌/◌, ◌≤◌, ◌<◌, List, [], ◌∷◌, ◌++◌, length, take, drop, ⊎_elim, refl, sym, ap, ◌∙◌, add-one, append_assoc, length-drop, arith}
use Rattle.std.proofs.lemmas.Bool.{cases_lt}
use Rattle.std.proofs.lemmas.List.{drop-drop}
use Rattle.std.proofs.Math.Nat.{add-div_right, div-eq_of_lt}
use Rattle.rpc_pdu.specs.declared.pdu.Pdu.{Pdu}
use Rattle.rpc_calls.specs.Cutting.{before_last, cut_by, pieces, room_of}

-- ---- how many there are

none_before : (left room : ℕ) → 0 < room → left ≡ 0 → (left + (room - 1)) / room ≡ 0
none_before left room some none =
    let small : left + (room - 1) < room = omega arith in
    div-eq_of_lt small

one_less : (left room : ℕ) → 0 < left → 0 < room → (left - room + (room - 1)) / room ≡ (left - 1) / room
one_less left room some has = ⊎_elim
    (λ small. let less : left - room + (room - 1) < room = omega arith in
    let few : left - 1 < room = omega arith in
    div-eq_of_lt less ∙ sym (div-eq_of_lt few))
    (λ large. let same : left - room + (room - 1) ≡ left - 1 = omega arith in
    ap (λ (n : ℕ). n / room) same)
    (cases_lt left room)

-- What doesn't fit into one piece has one more than what is left behind its first.
one_more : (left room : ℕ) → 0 < left → 0 < room → (left + (room - 1)) / room ≡ suc ((left - room + (room - 1)) / room)
one_more left room some has =
    let split : left + (room - 1) ≡ (left - 1) + room = omega arith in
    let all : (left + (room - 1)) / room ≡ (left - 1) / room + 1 = ap (λ (n : ℕ). n / room) split ∙ add-div_right (left - 1) has in
    all ∙ add-one ((left - 1) / room) ∙ ap (λ (n : ℕ). suc n) (sym (one_less left room some has))

none_short : (most size : ℕ) → 0 < room_of most → size ≤ most → before_last most size ≡ 0
none_short most size room short = none_before (size - most) (room_of most) room (omega arith)

more_long : (most size : ℕ) → 0 < room_of most → most < size → before_last most size ≡ suc (before_last most (size - room_of most))
more_long most size room long =
    let left : 0 < size - most = omega arith in
    let behind : size - most - room_of most ≡ size - room_of most - most = omega arith in
    one_more (size - most) (room_of most) left room ∙ ap (λ (n : ℕ). suc ((n + (room_of most - 1)) / room_of most)) behind

pub fits_last : (most size : ℕ) → 0 < room_of most → before_last most size ≡ 0 → size ≤ most
fits_last most size room count = ⊎_elim (λ long. absurd (omega (arith, count, more_long most size room long))) (λ short. short) (cases_lt most size)

pub has_more : (most size n : ℕ) → 0 < room_of most → before_last most size ≡ suc n → most < size
has_more most size n room count = ⊎_elim (λ long. long) (λ short. absurd (omega (arith, count, none_short most size room short))) (cases_lt most size)

pub count_behind : (most n : ℕ) (stub : List ℕ) → 0 < room_of most → before_last most (length stub) ≡ suc n → before_last most (length (drop (room_of most) stub)) ≡ n
count_behind most n stub room count =
    let more = more_long most (length stub) room (has_more most (length stub) n room count) in
    let size : length (drop (room_of most) stub) ≡ length stub - room_of most = length-drop (room_of most) stub in
    rw size (omega (arith, count, more))

-- ---- which they are

last_cut : (piece : ℕ → ℕ → List ℕ → Pdu) (most first : ℕ) (stub : List ℕ) → 0 < room_of most → length stub ≤ most
    → cut_by piece most first stub ≡ piece (first + 2) (length stub) stub ∷ []
unfolding pieces
last_cut piece most first stub room short = rw (none_short most (length stub) room short) refl

next_cut : (piece : ℕ → ℕ → List ℕ → Pdu) (most first : ℕ) (stub : List ℕ) → 0 < room_of most → most < length stub
    → cut_by piece most first stub ≡ piece first (length stub) (take (room_of most) stub) ∷ cut_by piece most 0 (drop (room_of most) stub)
unfolding pieces
next_cut piece most first stub room long = rw (more_long most (length stub) room long, length-drop (room_of most) stub) refl

pub last_piece : (piece : ℕ → ℕ → List ℕ → Pdu) (most first place : ℕ) (stub : List ℕ) (done all : List Pdu) (pdu : Pdu) (hint : ℕ) (front : List ℕ)
    → pdu ≡ piece (first + 2) hint front → hint ≡ length (drop place stub) → front ≡ drop place stub → 0 < room_of most
    → done ++ cut_by piece most first (drop place stub) ≡ all → length (drop place stub) ≤ most → done ++ pdu ∷ [] ≡ all
last_piece piece most first place stub done all pdu hint front is hint_is front_is room cut short =
    let last : pdu ∷ [] ≡ cut_by piece most first (drop place stub) = rw (is, hint_is, front_is) (sym (last_cut piece most first (drop place stub) room short)) in
    ap (λ (pdus : List Pdu). done ++ pdus) last ∙ cut

pub next_piece : (piece : ℕ → ℕ → List ℕ → Pdu) (most first place : ℕ) (stub : List ℕ) (done all : List Pdu) (pdu : Pdu) (hint : ℕ) (front : List ℕ)
    → pdu ≡ piece first hint front → hint ≡ length (drop place stub) → front ≡ take (room_of most) (drop place stub) → 0 < room_of most
    → done ++ cut_by piece most first (drop place stub) ≡ all → most < length (drop place stub)
    → (done ++ pdu ∷ []) ++ cut_by piece most 0 (drop (place + room_of most) stub) ≡ all
next_piece piece most first place stub done all pdu hint front is hint_is front_is room cut long =
    let rest = drop place stub in
    let here : pdu ∷ cut_by piece most 0 (drop (room_of most) rest) ≡ cut_by piece most first rest = rw (is, hint_is, front_is) (sym (next_cut piece most first rest room long)) in
    let there : cut_by piece most 0 (drop (place + room_of most) stub) ≡ cut_by piece most 0 (drop (room_of most) rest) =
    ap (λ (s : List ℕ). cut_by piece most 0 s) (sym (drop-drop (room_of most) place stub)) in
    let both = ap (λ (pdus : List Pdu). pdu ∷ pdus) there ∙ here in
    append_assoc done (pdu ∷ []) (cut_by piece most 0 (drop (place + room_of most) stub)) ∙ (ap (λ (pdus : List Pdu). done ++ pdus) both ∙ cut)
