-- Each stream has its items: frames are taken off its front until no whole one is left, or one has a fault.
use Rattle.std.proofs.Common.{◌≡◌, ℕ, zero, suc, ◌+◌, ◌≤◌, false, List, [], ◌∷◌, ◌++◌, length, take, drop, ⊎_elim, inl, inr, refl, sym, ap, ◌∙◌, subst, append_assoc, length-append, length-drop, arith}
use Rattle.std.specs.Prelude.{Option, Some, None, Result, Ok, Err, nat_lt}
use Rattle.std.specs.List.{concat}
use Rattle.std.proofs.lemmas.Bool.{cases_lt, le-ltb}
use Rattle.std.proofs.lemmas.List.{length-take-le, take-append-drop}
use Rattle.wire_fields.specs.Numbers.{IsBytes}
use Rattle.wire_fields.proofs.NumberLaws.{IsBytes-drop, IsBytes-take}
use Rattle.rpc_pdu.specs.declared.pdu.Pdu.{Pdu}
use Rattle.rpc_pdu.specs.declared.pdu_fault.PduFault.{PduFault}
use Rattle.rpc_pdu.specs.declared.pdu_fault.PduFault.TheVariants as pdu_faults
use Rattle.rpc_pdu.specs.Header.{frag_length, peek_at}
use Rattle.rpc_pdu.specs.Reading.{pdu_at}
use Rattle.rpc_pdu.proofs.PduLaws.{pdu_bad, pdu_found}
use Rattle.rpc_calls.specs.declared.call.Call.{Call}
use Rattle.rpc_calls.specs.declared.intake_fault.IntakeFault.{IntakeFault}
use Rattle.rpc_calls.specs.declared.intake_fault.IntakeFault.TheVariants as faults
use Rattle.rpc_calls.specs.declared.item.Item.{Item}
use Rattle.rpc_calls.specs.declared.item.Item.TheVariants as items
use Rattle.rpc_calls.specs.declared.side.Side.{Side}
use Rattle.rpc_calls.specs.Assembly.{Outcome, goes_on, taken}
use Rattle.rpc_calls.specs.Frames.{IsFrame, Waits}
use Rattle.rpc_calls.specs.Parts.{IsPart, call_id_in, refusal}
use Rattle.rpc_calls.specs.Streams.{Items, Runs, StopsBy, put}
use Rattle.rpc_calls.proofs.FrameRuns.{frag_length-front}

-- What can be read from this place on, where this call is unfinished.
record ItemsFrom (side : Side) (place : ℕ) (before : Option Call) (stream : List ℕ) : Type 0 where
  pub frames : List (List ℕ)
  pub given : List Item
  pub left : Option Call
  pub rest : List ℕ
  pub fault : Option IntakeFault
  pub whole : stream ≡ concat frames ++ rest
  pub runs : Runs side place before frames given left
  pub stops : StopsBy side (place + length (concat frames)) left rest fault

stop_here : (side : Side) (place : ℕ) (before : Option Call) (stream : List ℕ) (fault : Option IntakeFault) → StopsBy side place before stream fault → ItemsFrom side place before stream
unfolding Runs
stop_here side place before stream fault stops =
    let none : List (List ℕ) = [] in
    let here : place ≡ place + length (concat none) = omega arith in
    record {
      frames = [];
      given = [];
      left = before;
      rest = stream;
      fault = fault;
      whole = refl;
      runs = (refl, refl);
      stops = subst (λ (at : ℕ). StopsBy side at before stream fault) here stops;
    }

frame_more : (side : Side) (place : ℕ) (before behind : Option Call) (stream frame more : List ℕ) (part : Item) (item : Option Item)
    → stream ≡ frame ++ more → IsFrame frame → IsPart frame part → taken side place before part ≡ goes_on behind item
    → ItemsFrom side (place + length frame) behind more → ItemsFrom side place before stream
unfolding Runs
frame_more side place before behind stream frame more part item cut is stands does others =
    let there : place + length frame + length (concat others.frames) ≡ place + length (frame ++ concat others.frames) = omega (arith, length-append frame (concat others.frames)) in
    record {
      frames = frame ∷ others.frames;
      given = put item others.given;
      left = others.left;
      rest = others.rest;
      fault = others.fault;
      whole = cut ∙ (ap (λ (s : List ℕ). frame ++ s) others.whole ∙ sym (append_assoc frame (concat others.frames) others.rest));
      runs = (part, behind, item, others.given, is, stands, does, refl, others.runs);
      stops = subst (λ (at : ℕ). StopsBy side at others.left others.rest others.fault) there others.stops;
    }

-- What stands behind a frame, from wherever it is.
abbrev Behind : Side → List ℕ → Type 0
Behind side more = (place : ℕ) (before : Option Call) → ItemsFrom side place before more

from_part : (side : Side) (place : ℕ) (before : Option Call) (stream frame more : List ℕ) (part : Item) → stream ≡ frame ++ more → IsFrame frame → IsPart frame part
    → Behind side more → ItemsFrom side place before stream
from_part side place before stream frame more part cut is stands others = by_outcome (taken side place before part) refl
  where
    by_outcome : (outcome : Outcome) → taken side place before part ≡ outcome → ItemsFrom side place before stream
    by_outcome (Ok (behind, item)) does = frame_more side place before behind stream frame more part item cut is stands does (others (place + length frame) behind)
    by_outcome (Err fault) does = stop_here side place before stream (Some fault) (inr (frame, more, cut, is, inr (part, stands, does)))

from_bad : (side : Side) (place : ℕ) (before : Option Call) (stream frame more : List ℕ) (inner : PduFault) → stream ≡ frame ++ more → IsFrame frame → pdu_at frame ≡ Err inner
    → Behind side more → ItemsFrom side place before stream
from_bad side place before stream frame more inner cut is fails others = by_reason (refusal frame inner) refl
  where
    by_reason : (reason : Option ℕ) → refusal frame inner ≡ reason → ItemsFrom side place before stream
    by_reason (Some reason) told =
        from_part side place before stream frame more (items.BadBind (call_id_in frame) reason) cut is (refl, (inner, pdu_bad frame inner fails, told)) others
    by_reason None told =
        stop_here side place before stream (Some (faults.Pdu place inner)) (inr (frame, more, cut, is, inl (inner, (pdu_bad frame inner fails, told), refl)))

from_frame : (side : Side) (place : ℕ) (before : Option Call) (stream frame more : List ℕ) → IsBytes frame → stream ≡ frame ++ more → IsFrame frame
    → Behind side more → ItemsFrom side place before stream
from_frame side place before stream frame more bytes cut is others = by_pdu (pdu_at frame) refl
  where
    by_pdu : (read : Result Pdu PduFault) → pdu_at frame ≡ read → ItemsFrom side place before stream
    by_pdu (Ok pdu) e = from_part side place before stream frame more (items.Single pdu) cut is (pdu_found frame pdu bytes e) others
    by_pdu (Err inner) e = from_bad side place before stream frame more inner cut is e others

-- As many bytes as the first ten tell are a frame.
is_frame : (frame more : List ℕ) (told : ℕ) → peek_at (frame ++ more) ≡ Some told → length frame ≡ told → 16 ≤ told → IsFrame frame
is_frame frame more told says size large =
    let whole : nat_lt (length (frame ++ more)) 10 ≡ false = le-ltb (length (frame ++ more)) 10 (omega (arith, length-append frame more)) in
    let here : nat_lt (length frame) 10 ≡ false = le-ltb (length frame) 10 (omega arith) in
    let said : Some (frag_length (frame ++ more)) ≡ Some told = rw whole at says in
    let same : frag_length (frame ++ more) ≡ frag_length frame = frag_length-front frame more (omega arith) in
    let told_is : Some (frag_length frame) ≡ Some told = rw same at said in
    record { long = omega arith; told = rw (here, told_is, size) refl }

-- The whole stream, once what stands behind each frame at its front can be read.
abbrev EachBehind : Side → List ℕ → Type 0
EachBehind side stream = (size : ℕ) → 16 ≤ size → size ≤ length stream → Behind side (drop size stream)

from_told : (side : Side) (place : ℕ) (before : Option Call) (stream : List ℕ) (told : ℕ) → IsBytes stream → peek_at stream ≡ Some told → EachBehind side stream
    → ItemsFrom side place before stream
from_told side place before stream told bytes says others = ⊎_elim
    (λ short. stop_here side place before stream (Some (faults.Pdu place pdu_faults.BadLength)) (inl ((told, says, short), refl)))
    (λ large. ⊎_elim
    (λ few. let waits : Waits stream = rw says (large, few) in stop_here side place before stream None waits)
    (λ fits. let cut = sym (take-append-drop told stream) in
    let said : peek_at (take told stream ++ drop told stream) ≡ Some told = rw (take-append-drop told stream) says in
    let is = is_frame (take told stream) (drop told stream) told said (length-take-le told stream fits) large in
    from_frame side place before stream (take told stream) (drop told stream) (IsBytes-take told stream bytes) cut is (others told large fits))
    (cases_lt (length stream) told))
    (cases_lt told 16)

from_peek : (side : Side) (place : ℕ) (before : Option Call) (stream : List ℕ) (told : Option ℕ) → IsBytes stream → peek_at stream ≡ told → EachBehind side stream
    → ItemsFrom side place before stream
from_peek side place before stream None bytes says others = let waits : Waits stream = rw says tt in stop_here side place before stream None waits
from_peek side place before stream (Some told) bytes says others = from_told side place before stream told bytes says others

from_start : (most : ℕ) (side : Side) (place : ℕ) (before : Option Call) (stream : List ℕ) → IsBytes stream → length stream ≤ most → ItemsFrom side place before stream
from_start zero side place before stream bytes short =
    from_peek side place before stream (peek_at stream) bytes refl (λ size large fits. absurd (omega (arith, short, large, fits)))
from_start (suc most) side place before stream bytes short =
    from_peek side place before stream (peek_at stream) bytes refl (λ size large fits at behind.
    from_start most side at behind (drop size stream) (IsBytes-drop size stream bytes) (omega (arith, short, large, fits, length-drop size stream)))

pub items_are_there : (side : Side) (stream : List ℕ) → IsBytes stream → (given : List Item) × (fault : Option IntakeFault) × Items side stream given fault
items_are_there side stream bytes =
    let all = from_start (length stream) side 0 None stream bytes (omega arith) in
    let at : 0 + length (concat all.frames) ≡ length (concat all.frames) = omega arith in
    let stops = subst (λ (place : ℕ). StopsBy side place all.left all.rest all.fault) at all.stops in
    let items : Items side stream all.given all.fault = (all.frames, all.left, all.rest, record { whole = all.whole; runs = all.runs }, stops) in
    (all.given, all.fault, items)
