-- A frame stands for one part or has one fault, and the front of a stream is one frame at most.
use Rattle.std.proofs.Common.{◌≡◌, ℕ, ◌≤◌, ◌<◌, List, ◌++◌, length, take, refl, sym, ap, ◌∙◌, subst, inl, inr, length-append, arith}
use Rattle.std.specs.Prelude.{Option, Some, None, Result, Ok, Err}
use Rattle.std.proofs.Math.Seq.{take-append_seam}
use Rattle.std.proofs.lemmas.List.{append_cancel_left}
use Rattle.rpc_pdu.specs.declared.pdu.Pdu.{Pdu}
use Rattle.rpc_pdu.specs.declared.pdu_fault.PduFault.{PduFault}
use Rattle.rpc_pdu.specs.Grammar.{IsPdu, PduBad}
use Rattle.rpc_pdu.specs.Header.{header_fault, peek_at}
use Rattle.rpc_pdu.specs.PduTypes.{head_in, type_of}
use Rattle.rpc_pdu.specs.Reading.{pdu_at}
use Rattle.rpc_pdu.proofs.HeaderLaws.{header_passes}
use Rattle.rpc_pdu.proofs.PduLaws.{pdu_read}
use Rattle.rpc_calls.specs.declared.call.Call.{Call}
use Rattle.rpc_calls.specs.declared.intake_fault.IntakeFault.{IntakeFault}
use Rattle.rpc_calls.specs.declared.intake_fault.IntakeFault.TheVariants as faults
use Rattle.rpc_calls.specs.declared.item.Item.{Item}
use Rattle.rpc_calls.specs.declared.item.Item.TheVariants as items
use Rattle.rpc_calls.specs.declared.side.Side.{Side}
use Rattle.rpc_calls.specs.Assembly.{Outcome, goes_on, taken}
use Rattle.rpc_calls.specs.Frames.{IsFrame, TooShort, Waits, WaitsBy}
use Rattle.rpc_calls.specs.Parts.{FrameBad, IsPart, no_reason, refusal}
use Rattle.rpc_calls.specs.Streams.{BadFrame, FaultAt, StopsBy}
use Rattle.rpc_calls.proofs.Assembling.{goes_on-same}
use Rattle.rpc_calls.proofs.FrameRuns.{peek_at-append}

-- ---- frames

told_front : (frame rest : List ℕ) → IsFrame frame → peek_at (frame ++ rest) ≡ Some (length frame)
told_front frame rest is = peek_at-append frame rest (length frame) is.told

same_told : (x y : ℕ) (told : Option ℕ) → told ≡ Some x → told ≡ Some y → x ≡ y
same_told x y told a b = cc

pub one_front : (f g a b : List ℕ) → IsFrame f → IsFrame g → f ++ a ≡ g ++ b → (f ≡ g) × (a ≡ b)
one_front f g a b f_is g_is same =
    let as_long : length f ≡ length g = same_told (length f) (length g) (peek_at (f ++ a)) (told_front f a f_is) (ap peek_at same ∙ told_front g b g_is) in
    let front : f ≡ g = sym (take-append_seam f a) ∙ (ap (λ (s : List ℕ). take (length f) s) same ∙ (ap (λ (n : ℕ). take n (g ++ b)) as_long ∙ take-append_seam g b)) in
    let moved : g ++ a ≡ g ++ b = subst (λ (x : List ℕ). x ++ a ≡ g ++ b) front same in
    (front, append_cancel_left g a b moved)

waits_no_longer : (s : List ℕ) (n : ℕ) (told : Option ℕ) → told ≡ Some n → n ≤ length s → WaitsBy s told → ⊥
waits_no_longer s n None is long waits = absurd cc
waits_no_longer s n (Some m) is long waits = let same : m ≡ n = cc in absurd (omega (arith, waits.1))

pub not_waiting : (frame more : List ℕ) → IsFrame frame → Waits (frame ++ more) → ⊥
not_waiting frame more is waits =
    waits_no_longer (frame ++ more) (length frame) (peek_at (frame ++ more)) (told_front frame more is) (omega (arith, length-append frame more)) waits

not_short : (frame more : List ℕ) → IsFrame frame → TooShort (frame ++ more) → ⊥
not_short frame more is (told, says, short) =
    let same : told ≡ length frame = same_told told (length frame) (peek_at (frame ++ more)) says (told_front frame more is) in
    absurd (omega (arith, is.long))

waits_and_short : (s : List ℕ) (told : Option ℕ) (n : ℕ) → told ≡ Some n → n < 16 → WaitsBy s told → ⊥
waits_and_short s None n is short waits = absurd cc
waits_and_short s (Some m) n is short waits = let same : m ≡ n = cc in absurd (omega (arith, waits.0))

-- ---- what a frame stands for

bad_no_pdu : (frame : List ℕ) (fault : PduFault) (pdu : Pdu) → PduBad frame fault → IsPdu frame pdu → ⊥
bad_no_pdu frame fault pdu (inl bad) is =
    let passes = header_passes frame (type_of pdu) (head_in pdu) is.header in
    apart (header_fault frame) fault bad passes
  where
    apart : (x : Option PduFault) (y : PduFault) → x ≡ Some y → x ≡ None → ⊥
    apart x y a b = cc
bad_no_pdu frame fault pdu (inr (passes, short, none)) is = none pdu is

one_fault : (frame : List ℕ) (e f : PduFault) → PduBad frame e → PduBad frame f → e ≡ f
one_fault frame e f (inl a) (inl b) = both (header_fault frame) a b
  where
    both : (x : Option PduFault) → x ≡ Some e → x ≡ Some f → e ≡ f
    both x p q = cc
one_fault frame e f (inl a) (inr (passes, b, none)) = cc
one_fault frame e f (inr (passes, a, none)) (inl b) = cc
one_fault frame e f (inr (passes, a, none)) (inr (passes', b, none')) = cc

one_pdu : (frame : List ℕ) (p q : Pdu) → IsPdu frame p → IsPdu frame q → p ≡ q
one_pdu frame p q a b = both (pdu_at frame) (pdu_read frame p a) (pdu_read frame q b)
  where
    both : (x : Result Pdu PduFault) → x ≡ Ok p → x ≡ Ok q → p ≡ q
    both x e f = cc

one_reason : (frame : List ℕ) (e f : PduFault) (r s : ℕ) → PduBad frame e → PduBad frame f → refusal frame e ≡ Some r → refusal frame f ≡ Some s → r ≡ s
one_reason frame e f r s a b p q =
    let same = ap (refusal frame) (one_fault frame e f a b) in
    both (refusal frame e) (refusal frame f) p q same
  where
    both : (x y : Option ℕ) → x ≡ Some r → y ≡ Some s → x ≡ y → r ≡ s
    both x y g h i = cc

bad_bind : ℕ → ℕ → Item
bad_bind call_id why = items.BadBind call_id why

pub one_part : (frame : List ℕ) (a b : Item) → IsPart frame a → IsPart frame b → a ≡ b
one_part frame (items.Single p) (items.Single q) a b = ap (λ (x : Pdu). items.Single x) (one_pdu frame p q a b)
one_part frame (items.Single p) (items.BadBind id why) a (at, (fault, bad, told)) = absurd (bad_no_pdu frame fault p bad a)
one_part frame (items.BadBind id why) (items.Single q) (at, (fault, bad, told)) b = absurd (bad_no_pdu frame fault q bad b)
one_part frame (items.BadBind id why) (items.BadBind id' why') (at, (fault, bad, told)) (at', (fault', bad', told')) =
    let reason = one_reason frame fault fault' why why' bad bad' told told' in
    let call = at ∙ sym at' in
    rw (call, reason) refl
one_part frame (items.Call c) b a b_is = absurd a
one_part frame (items.Single p) (items.Call c) a b = absurd b
one_part frame (items.BadBind id why) (items.Call c) a b = absurd b

part_or_bad : (frame : List ℕ) (part : Item) (fault : PduFault) → IsPart frame part → FrameBad frame fault → ⊥
part_or_bad frame (items.Single p) fault is (bad, plain) = bad_no_pdu frame fault p bad is
part_or_bad frame (items.BadBind id why) fault (at, (e, e_bad, told)) (bad, plain) =
    let same = ap (refusal frame) (one_fault frame e fault e_bad bad) in
    apart (refusal frame e) (refusal frame fault) told plain same
  where
    apart : (x y : Option ℕ) → x ≡ Some why → y ≡ no_reason → x ≡ y → ⊥
    apart x y a b e = cc
part_or_bad frame (items.Call c) fault is bad = absurd is

went_or_bad : (x : Outcome) (behind : Option Call) (item : Option Item) (fault : IntakeFault) → x ≡ goes_on behind item → x ≡ Err fault → ⊥
went_or_bad x behind item fault a b = cc

-- ---- the end of what can be read

-- A frame that is taken isn't the end.
pub no_stop : (side : Side) (place : ℕ) (left behind : Option Call) (frame more rest : List ℕ) (part : Item) (item : Option Item) (stop : Option IntakeFault)
    → IsFrame frame → IsPart frame part → taken side place left part ≡ goes_on behind item → rest ≡ frame ++ more → StopsBy side place left rest stop → ⊥
no_stop side place left behind frame more rest part item None is stands does cut stops = not_waiting frame more is (subst Waits cut stops)
no_stop side place left behind frame more rest part item (Some fault) is stands does cut (inl (short, f_is)) = not_short frame more is (subst TooShort cut short)
no_stop side place left behind frame more rest part item (Some fault) is stands does cut (inr (g, behind_g, g_cut, g_is, inl (inner, bad, f_is))) =
    let same = (one_front frame g more behind_g is g_is (sym cut ∙ g_cut)).0 in
    part_or_bad frame part inner stands (subst (λ (x : List ℕ). FrameBad x inner) (sym same) bad)
no_stop side place left behind frame more rest part item (Some fault) is stands does cut (inr (g, behind_g, g_cut, g_is, inr (p, p_stands, fails))) =
    let same = (one_front frame g more behind_g is g_is (sym cut ∙ g_cut)).0 in
    let one = one_part frame part p stands (subst (λ (x : List ℕ). IsPart x p) (sym same) p_stands) in
    went_or_bad (taken side place left part) behind item fault does (subst (λ (x : Item). taken side place left x ≡ Err fault) (sym one) fails)

one_bad_frame : (side : Side) (place : ℕ) (left : Option Call) (frame : List ℕ) (x y : IntakeFault) → BadFrame side place left frame x → BadFrame side place left frame y → x ≡ y
one_bad_frame side place left frame x y (inl (e, e_bad, x_is)) (inl (f, f_bad, y_is)) =
    let same = one_fault frame e f e_bad.0 f_bad.0 in
    x_is ∙ (ap (λ (inner : PduFault). faults.Pdu place inner) same ∙ sym y_is)
one_bad_frame side place left frame x y (inl (e, e_bad, x_is)) (inr (p, stands, fails)) = absurd (part_or_bad frame p e stands e_bad)
one_bad_frame side place left frame x y (inr (p, stands, fails)) (inl (f, f_bad, y_is)) = absurd (part_or_bad frame p f stands f_bad)
one_bad_frame side place left frame x y (inr (p, stands, fails)) (inr (q, q_stands, q_fails)) =
    let one = one_part frame p q stands q_stands in
    both (taken side place left p) fails (subst (λ (part : Item). taken side place left part ≡ Err y) (sym one) q_fails)
  where
    both : (o : Outcome) → o ≡ Err x → o ≡ Err y → x ≡ y
    both o a b = cc

one_fault_at : (side : Side) (place : ℕ) (left : Option Call) (rest : List ℕ) (x y : IntakeFault) → FaultAt side place left rest x → FaultAt side place left rest y → x ≡ y
one_fault_at side place left rest x y (inl (a, x_is)) (inl (b, y_is)) = x_is ∙ sym y_is
one_fault_at side place left rest x y (inl (a, x_is)) (inr (f, more, cut, is, bad)) = absurd (not_short f more is (subst TooShort cut a))
one_fault_at side place left rest x y (inr (f, more, cut, is, bad)) (inl (b, y_is)) = absurd (not_short f more is (subst TooShort cut b))
one_fault_at side place left rest x y (inr (f, more, cut, is, bad)) (inr (g, behind, g_cut, g_is, g_bad)) =
    let same = (one_front f g more behind is g_is (sym cut ∙ g_cut)).0 in
    one_bad_frame side place left f x y bad (subst (λ (frame : List ℕ). BadFrame side place left frame y) (sym same) g_bad)

waits_no_fault : (side : Side) (place : ℕ) (left : Option Call) (rest : List ℕ) (fault : IntakeFault) → Waits rest → FaultAt side place left rest fault → ⊥
waits_no_fault side place left rest fault waits (inl ((told, says, short), is)) = waits_and_short rest (peek_at rest) told says short waits
waits_no_fault side place left rest fault waits (inr (f, more, cut, is, bad)) = not_waiting f more is (subst Waits cut waits)

pub stops_agree : (side : Side) (place : ℕ) (left : Option Call) (rest : List ℕ) (x y : Option IntakeFault) → StopsBy side place left rest x → StopsBy side place left rest y → x ≡ y
stops_agree side place left rest None None a b = refl
stops_agree side place left rest None (Some y) a b = absurd (waits_no_fault side place left rest y a b)
stops_agree side place left rest (Some x) None a b = absurd (waits_no_fault side place left rest x b a)
stops_agree side place left rest (Some x) (Some y) a b = ap (λ (fault : IntakeFault). Some fault) (one_fault_at side place left rest x y a b)

-- ---- one frame, taken twice

pub same_step : (side : Side) (place : ℕ) (left : Option Call) (f g a b : List ℕ) (p q : Item) (l m : Option Call) (i j : Option Item)
    → IsFrame f → IsFrame g → IsPart f p → IsPart g q → taken side place left p ≡ goes_on l i → taken side place left q ≡ goes_on m j → f ++ a ≡ g ++ b
    → (f ≡ g) × (a ≡ b) × (l ≡ m) × (i ≡ j)
same_step side place left f g a b p q l m i j f_is g_is p_stands q_stands p_does q_does same =
    let front = one_front f g a b f_is g_is same in
    let one = one_part f p q p_stands (subst (λ (x : List ℕ). IsPart x q) (sym front.0) q_stands) in
    let does = sym p_does ∙ (ap (taken side place left) one ∙ q_does) in
    let both = goes_on-same l m i j does in
    (front.0, front.1, both.0, both.1)
