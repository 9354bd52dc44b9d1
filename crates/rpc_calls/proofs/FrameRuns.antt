-- Frames that were read, and one more; what is read stays so when the stream goes on.
use Rattle.std.proofs.Common.{◌≡◌, ℕ, ◌+◌, ◌≤◌, Bool, true, false, List, [], ◌∷◌, ◌++◌, length, take, drop, refl, length-append, length-drop, arith}
use Rattle.std.specs.Prelude.{Option, Some, None, nat_lt, if◌then◌else◌}
use Rattle.std.proofs.lemmas.Bool.{le-ltb, ltb-false}
use Rattle.std.specs.List.{concat}
use Rattle.std.proofs.lemmas.List.{append-nil, drop-append-le, get_or_append_left, take-append-le}
use Rattle.std.proofs.lemmas.List.Folds.{concat-append}
use Rattle.rpc_pdu.specs.Header.{frag_length, peek_at}
use Rattle.wire_fields.specs.declared.endian.Endian.{Endian}
use Rattle.wire_fields.specs.Numbers.{number}
use Rattle.rpc_calls.specs.declared.call.Call.{Call}
use Rattle.rpc_calls.specs.declared.item.Item.{Item}
use Rattle.rpc_calls.specs.declared.side.Side.{Side}
use Rattle.rpc_calls.specs.Assembly.{goes_on, taken}
use Rattle.rpc_calls.specs.Frames.{IsFrame, TooShort}
use Rattle.rpc_calls.specs.Parts.{IsPart}
use Rattle.rpc_calls.specs.Streams.{Runs, put}

pub put_front : (item : Option Item) (more front : List Item) → put item more ++ front ≡ put item (more ++ front)
put_front None more front = refl
put_front (Some item) more front = refl

-- One frame more at the end.
pub runs_more : (side : Side) (place at : ℕ) (before left behind : Option Call) (frames : List (List ℕ)) (given : List Item) (frame : List ℕ) (part : Item) (item : Option Item)
    → Runs side place before frames given left → at ≡ place + length (concat frames)
    → IsFrame frame → IsPart frame part → taken side at left part ≡ goes_on behind item
    → Runs side place before (frames ++ frame ∷ []) (given ++ put item []) behind
unfolding Runs
runs_more side place at before left behind [] given frame part item (none, same) here is stands does =
    let at_place : at ≡ place = omega arith in
    let moved : taken side place before part ≡ goes_on behind item = rw (← at_place, ← same) does in
    (part, behind, item, [], is, stands, moved, rw none refl, (refl, refl))
runs_more side place at before left behind (f ∷ frames) given frame part item (p, b, i, more, f_is, f_stands, f_does, given_is, runs) here is stands does =
    let further : at ≡ place + length f + length (concat frames) = omega (arith, length-append {A = ℕ}) in
    let all : given ++ put item [] ≡ put i (more ++ put item []) = rw given_is (put_front i more (put item [])) in
    (p, b, i, more ++ put item [], f_is, f_stands, f_does, all, runs_more side (place + length f) at b left behind frames more frame part item runs further is stands does)

pub concat_more : (frames : List (List ℕ)) (frame : List ℕ) → concat (frames ++ frame ∷ []) ≡ concat frames ++ frame
concat_more frames frame = rw (concat-append frames (frame ∷ []), append-nil frame) refl

-- What a frame says of its length stands at its front.
number_front : (e : Endian) (w place : ℕ) (a b : List ℕ) → place + w ≤ length a → number e w (take w (drop place (a ++ b))) ≡ number e w (take w (drop place a))
number_front e w place a b long =
    let start : drop place (a ++ b) ≡ drop place a ++ b = drop-append-le place a b (omega arith) in
    let enough : w ≤ length (drop place a) = omega (arith, length-drop place a) in
    rw (start, take-append-le w (drop place a) b enough) refl

pub frag_length-front : (a b : List ℕ) → 10 ≤ length a → frag_length (a ++ b) ≡ frag_length a
frag_length-front a b long = rw (get_or_append_left a b 0 4 (omega arith)) (number_front _ 2 8 a b long)

-- Ten bytes tell how long the frame is, whatever stands behind them.
by_length : (a b : List ℕ) (told : ℕ) → (10 ≤ length a) × (peek_at a ≡ Some told) → peek_at (a ++ b) ≡ Some told
by_length a b told (long, is) =
    let here : nat_lt (length a) 10 ≡ false = le-ltb (length a) 10 long in
    let there : nat_lt (length (a ++ b)) 10 ≡ false = le-ltb (length (a ++ b)) 10 (omega (arith, length-append a b)) in
    let said : Some (frag_length a) ≡ Some told = rw here at is in
    rw (there, frag_length-front a b long) said

abbrev told_if : Bool → ℕ → Option ℕ
told_if few told = if few then None else Some told

long_by : (few : Bool) (a : List ℕ) (told : ℕ) → nat_lt (length a) 10 ≡ few → told_if few (frag_length a) ≡ Some told → 10 ≤ length a
long_by true a told is e = absurd cc
long_by false a told is e = ltb-false (length a) 10 is

pub long_enough : (a : List ℕ) (told : ℕ) → peek_at a ≡ Some told → 10 ≤ length a
long_enough a told e = long_by (nat_lt (length a) 10) a told refl e

pub peek_at-append : (a b : List ℕ) (told : ℕ) → peek_at a ≡ Some told → peek_at (a ++ b) ≡ Some told
peek_at-append a b told e = by_length a b told (long_enough a told e, e)

pub TooShort-append : (rest piece : List ℕ) → TooShort rest → TooShort (rest ++ piece)
TooShort-append rest piece (told, is, short) = (told, peek_at-append rest piece told is, short)
