-- The items of a stream's parts, told by the lists of fragments, are those that the frames give one by one.
use Rattle.std.proofs.Common.{◌≡◌, ℕ, ◌+◌, Bool, true, false, List, [], ◌∷◌, ◌++◌, length, refl, sym, ap, ◌∙◌, subst, inl, inr, append_assoc}
use Rattle.std.specs.Prelude.{Option, Some, None, Err, ◌==◌, nat_lt, if◌then◌else◌}
use Rattle.std.proofs.lemmas.Bool.{eq-eqb, eqb-true}
use Rattle.std.proofs.lemmas.List.{append-nil}
use Rattle.rpc_calls.specs.declared.call.Call.{Call}
use Rattle.rpc_calls.specs.declared.intake_fault.IntakeFault.TheVariants as faults
use Rattle.rpc_calls.specs.declared.item.Item.{Item}
use Rattle.rpc_calls.specs.declared.item.Item.TheVariants as items
use Rattle.rpc_calls.specs.declared.side.Side.{Side}
use Rattle.rpc_calls.specs.Assembly.{ended, extended, finished_if, goes_on, joined, kept_by, most_stub, taken, taken_as}
use Rattle.rpc_calls.specs.Calls.{ArePartsOf, IsFragment, IsUnfinished, ItemAt, ItemsAt, LeftIs, Middles, StandsApart}
use Rattle.rpc_calls.specs.Fragments.{fragment_of, is_first, orphan_of, with_stub}
use Rattle.rpc_calls.specs.Streams.{Reads, Runs, put}
use Rattle.rpc_calls.proofs.Assembling.{goes_on-same}
use Rattle.rpc_calls.proofs.CallLaws.{Sound, sound_step}
use Rattle.rpc_calls.proofs.FrameRuns.{put_front}
use Rattle.rpc_calls.proofs.PartUniqueness.{one_part}

-- The parts give these items one by one, wherever they stand, and leave this call unfinished.
unfoldable pub Took : Side → Option Call → List Item → List Item → Option Call → Type 0
Took side before [] given left = (given ≡ []) × (left ≡ before)
Took side before (part ∷ parts) given left =
    (place : ℕ) × (next : Option Call) × (item : Option Item) × (more : List Item)
    × (taken side place before part ≡ goes_on next item) × (given ≡ put item more) × Took side next parts more left

abbrev PartsOf : List (List ℕ) → Type 0
PartsOf frames = (parts : List Item) × ArePartsOf frames parts

parts_there : (side : Side) (place : ℕ) (before left : Option Call) (frames : List (List ℕ)) (given : List Item) → Runs side place before frames given left → PartsOf frames
unfolding Runs
parts_there side place before left [] given runs = ([], tt)
parts_there side place before left (f ∷ frames) given (p, next, item, more, is, stands, does, given_is, runs) =
    let rest = parts_there side (place + length f) next left frames more runs in
    (p ∷ rest.0, (stands, rest.1))

took_parts : (side : Side) (place : ℕ) (before left : Option Call) (frames : List (List ℕ)) (parts given : List Item) → Runs side place before frames given left → ArePartsOf frames parts
    → Took side before parts given left
unfolding Runs Took
took_parts side place before left [] [] given runs are = runs
took_parts side place before left [] (p ∷ parts) given runs are = absurd are
took_parts side place before left (f ∷ frames) [] given runs are = absurd are
took_parts side place before left (f ∷ frames) (q ∷ parts) given (p, next, item, more, is, stands, does, given_is, runs) (q_stands, are) =
    let one = one_part f p q stands q_stands in
    let q_does = subst (λ (part : Item). taken side place before part ≡ goes_on next item) one does in
    (place, next, item, more, q_does, given_is, took_parts side (place + length f) next left frames parts more runs are)

-- ---- one by one gives the calls

abbrev AllSound : Side → List Item → List Item → List Item → Option Call → Type 0
AllSound side done parts given left = ItemsAt side done parts given × Sound side (done ++ parts) left

sound_all : (side : Side) (done : List Item) (before left : Option Call) (parts given : List Item) → Sound side done before → Took side before parts given left → AllSound side done parts given left
unfolding Took ItemsAt
sound_all side done before left [] given sound (given_is, left_is) =
    (given_is, subst (λ (l : List Item). Sound side l left) (sym (append-nil done)) (subst (λ (c : Option Call). Sound side done c) (sym left_is) sound))
sound_all side done before left (p ∷ parts) given sound (place, next, item, more, does, given_is, took) =
    let step = sound_step side done p before next place item sound does in
    let rest = sound_all side (done ++ p ∷ []) next left parts more step.0 took in
    ((item, more, step.1, given_is, rest.0), subst (λ (l : List Item). Sound side l left) (append_assoc done (p ∷ []) parts) rest.1)

-- ---- what one part does, by what it is

viewed : (side : Side) (place : ℕ) (before next : Option Call) (part : Item) (item : Option Item) (view : Option (Call × ℕ)) → fragment_of side part ≡ view
    → taken side place before part ≡ goes_on next item → taken_as view place before part ≡ goes_on next item
unfolding taken
viewed side place before next part item view is e = subst (λ (v : Option (Call × ℕ)). taken_as v place before part ≡ goes_on next item) is e

fragment_does : (side : Side) (place : ℕ) (before next : Option Call) (part : Item) (item : Option Item) (c : Call) (first last : Bool) → IsFragment side part c first last
    → taken side place before part ≡ goes_on next item → ended place last (extended before c first) ≡ goes_on next item
unfolding joined
fragment_does side place before next part item c first last is e =
    let seen = viewed side place before next part item (Some (c, is.flags)) is.is e in
    let P : Bool → Type 0 = λ b. ended place b (extended before c (is_first is.flags)) ≡ goes_on next item in
    let Q : Bool → Type 0 = λ b. ended place last (extended before c b) ≡ goes_on next item in
    subst Q is.first_flag (subst P is.last_flag seen)

not_long : (long last : Bool) (place : ℕ) (call : Call) (next : Option Call) (item : Option Item) → (if long then Err (faults.StubTooLong place) else finished_if last call) ≡ goes_on next item
    → finished_if last call ≡ goes_on next item
not_long true last place call next item e = absurd cc
not_long false last place call next item e = e

finished : (last : Bool) (place : ℕ) (call : Call) (next : Option Call) (item : Option Item) → ended place last (Some call) ≡ goes_on next item → finished_if last call ≡ goes_on next item
finished last place call next item e = not_long (nat_lt most_stub (length call.stub)) last place call next item e

goes_unfinished : (place : ℕ) (call : Call) (x next : Option Call) (item : Option Item) → x ≡ Some call → ended place false x ≡ goes_on next item → next ≡ Some call
goes_unfinished place call x next item is e =
    let at = subst (λ (y : Option Call). ended place false y ≡ goes_on next item) is e in
    sym (goes_on-same (Some call) next None item (finished false place call next item at)).0

goes_finished : (place : ℕ) (call : Call) (x next : Option Call) (item : Option Item) → x ≡ Some call → ended place true x ≡ goes_on next item → Some (items.Call call) ≡ item
goes_finished place call x next item is e =
    let at = subst (λ (y : Option Call). ended place true y ≡ goes_on next item) is e in
    (goes_on-same None next (Some (items.Call call)) item (finished true place call next item at)).1

goes_without_item : (place : ℕ) (x next : Option Call) (item : Option Item) → ended place false x ≡ goes_on next item → None ≡ item
goes_without_item place None next item e = absurd cc
goes_without_item place (Some call) next item e = (goes_on-same (Some call) next None item (finished false place call next item e)).1

extended_same : (u c : Call) (same : Bool) → (u.call_id == c.call_id) ≡ same → same ≡ true → (if same then Some (with_stub u (u.stub ++ c.stub)) else None) ≡ Some (with_stub u (u.stub ++ c.stub))
extended_same u c true is holds = refl
extended_same u c false is holds = absurd cc

extended_by : (u c : Call) → c.call_id ≡ u.call_id → extended (Some u) c false ≡ Some (with_stub u (u.stub ++ c.stub))
extended_by u c same = extended_same u c (u.call_id == c.call_id) refl (eq-eqb u.call_id c.call_id (sym same))

first_starts : (side : Side) (place : ℕ) (before next : Option Call) (part : Item) (item : Option Item) (start : Call) (last : Bool) → IsFragment side part start true last
    → taken side place before part ≡ goes_on next item → extended before start true ≡ Some start
first_starts side place None next part item start last is e = refl
first_starts side place (Some u) next part item start last is e = let does = fragment_does side place (Some u) next part item start true last is e in absurd cc

kept_apart : (u : Call) (orphan : Option ℕ) (id : ℕ) (same : Bool) → orphan ≡ Some id → (u.call_id == id) ≡ same → (orphan ≡ Some u.call_id → ⊥) → (if same then None else Some u) ≡ Some u
kept_apart u orphan id false is test apart = refl
kept_apart u orphan id true is test apart = let same : u.call_id ≡ id = eqb-true u.call_id id test in absurd (apart (is ∙ ap (λ (n : ℕ). Some n) (sym same)))

stays_kept : (u : Call) (orphan : Option ℕ) → (orphan ≡ Some u.call_id → ⊥) → kept_by orphan (Some u) ≡ Some u
stays_kept u None apart = refl
stays_kept u (Some id) apart = kept_apart u (Some id) id (u.call_id == id) refl refl apart

apart_keeps : (side : Side) (place : ℕ) (u : Call) (next : Option Call) (part : Item) (item : Option Item) → StandsApart side u.call_id part → taken side place (Some u) part ≡ goes_on next item → next ≡ Some u
apart_keeps side place u next part item apart e =
    let seen = viewed side place (Some u) next part item None apart.no_fragment e in
    sym (goes_on-same (kept_by (orphan_of part) (Some u)) next (Some part) item seen).0 ∙ stays_kept u (orphan_of part) apart.goes_on

-- ---- the calls are given one by one

complete_middles : (side : Side) (u : Call) (parts given : List Item) (stub : List ℕ) (left : Option Call) → Middles side u.call_id parts stub → Took side (Some u) parts given left
    → left ≡ Some (with_stub u (u.stub ++ stub))
unfolding Middles Took
complete_middles side u [] given stub left none (given_is, left_is) =
    left_is ∙ (ap (λ (s : List ℕ). Some (with_stub u s)) (sym (append-nil u.stub)) ∙ ap (λ (s : List ℕ). Some (with_stub u (u.stub ++ s))) (sym none))
complete_middles side u (p ∷ parts) given stub left (inl (apart, middles)) (place, next, item, more, does, given_is, took) =
    let same = apart_keeps side place u next p item apart does in
    complete_middles side u parts more stub left middles (subst (λ (c : Option Call). Took side c parts more left) same took)
complete_middles side u (p ∷ parts) given stub left (inr (c, rest, is, ids, stub_is, middles)) (place, next, item, more, does, given_is, took) =
    let whole = with_stub u (u.stub ++ c.stub) in
    let same = goes_unfinished place whole (extended (Some u) c false) next item (extended_by u c ids) (fragment_does side place (Some u) next p item c false false is does) in
    let all = complete_middles side whole parts more rest left middles (subst (λ (d : Option Call). Took side d parts more left) same took) in
    let regrouped = append_assoc u.stub c.stub rest in
    all ∙ (ap (λ (s : List ℕ). Some (with_stub u s)) regrouped ∙ ap (λ (s : List ℕ). Some (with_stub u (u.stub ++ s))) (sym stub_is))

abbrev Split : Side → Option Call → List Item → List Item → Option Call → Type 0
Split side before xs ys left = (mid : Option Call) × (a : List Item) × (b : List Item) × Took side before xs a mid × Took side mid ys b left

took_split : (side : Side) (before left : Option Call) (xs ys given : List Item) → Took side before (xs ++ ys) given left → Split side before xs ys left
unfolding Took
took_split side before left [] ys given took = (before, [], given, (refl, refl), took)
took_split side before left (p ∷ xs) ys given (place, next, item, more, does, given_is, took) =
    let rest = took_split side next left xs ys more took in
    (rest.0, put item rest.1, rest.2, (place, next, item, rest.1, does, refl, rest.3), rest.4)

complete_from : (side : Side) (mid left : Option Call) (first : Item) (middle given : List Item) (start : Call) (stub : List ℕ) → IsFragment side first start true false → Middles side start.call_id middle stub
    → Took side mid (first ∷ middle) given left → left ≡ Some (with_stub start (start.stub ++ stub))
unfolding Took
complete_from side mid left first middle given start stub begins goes_on (place, next, item, more, does, given_is, took) =
    let fits = first_starts side place mid next first item start false begins does in
    let same = goes_unfinished place start (extended mid start true) next item fits (fragment_does side place mid next first item start true false begins does) in
    complete_middles side start middle more stub left goes_on (subst (λ (c : Option Call). Took side c middle more left) same took)

complete : (side : Side) (parts given : List Item) (left : Option Call) (u : Call) → IsUnfinished side parts u → Took side None parts given left → left ≡ Some u
complete side parts given left u is took =
    let split = took_split side None left is.before (is.first ∷ is.middle) given (subst (λ (l : List Item). Took side None l given left) is.all took) in
    complete_from side split.0 left is.first is.middle split.2 is.start is.stub is.begins is.goes_on split.4 ∙ ap (λ (c : Call). Some c) (sym is.call_is)

left_is : (side : Side) (parts given : List Item) (left : Option Call) → Sound side parts left → Took side None parts given left → LeftIs side parts left
left_is side parts given None sound took = λ call is. let none = complete side parts given None call is took in cc
left_is side parts given (Some u) sound took = (sound, λ other is. let same = complete side parts given (Some u) other is took in cc)

-- ---- one item stands at a part

took_more : (side : Side) (before mid next : Option Call) (xs a : List Item) (p : Item) (place : ℕ) (item : Option Item) → Took side before xs a mid → taken side place mid p ≡ goes_on next item
    → Took side before (xs ++ p ∷ []) (a ++ put item []) next
unfolding Took
took_more side before mid next [] a p place item (a_is, mid_is) does =
    let here = subst (λ (c : Option Call). taken side place c p ≡ goes_on next item) mid_is does in
    (place, next, item, [], here, rw a_is refl, (refl, refl))
took_more side before mid next (q ∷ xs) a p place item (at, n, i, more, q_does, a_is, took) does =
    (at, n, i, more ++ put item [], q_does, rw a_is (put_front i more (put item [])), took_more side n mid next xs more p place item took does)

item_is : (side : Side) (done given : List Item) (state next : Option Call) (part : Item) (place : ℕ) (item other : Option Item) → Took side None done given state
    → taken side place state part ≡ goes_on next item → ItemAt side done part other → other ≡ item
item_is side done given state next part place item None took does (c, first, is) = goes_without_item place (extended state c first) next item (fragment_does side place state next part item c first false is does)
item_is side done given state next part place item (Some it) took does (inl (none, it_is)) =
    let seen = viewed side place state next part item None none does in
    ap (λ (i : Item). Some i) it_is ∙ (goes_on-same (kept_by (orphan_of part) state) next (Some part) item seen).1
item_is side done given state next part place item (Some it) took does (inr (call, it_is, inl (is, short))) =
    let fits = first_starts side place state next part item call true is does in
    ap (λ (i : Item). Some i) it_is ∙ goes_finished place call (extended state call true) next item fits (fragment_does side place state next part item call true true is does)
item_is side done given state next part place item (Some it) took does (inr (call, it_is, inr (held, c, unfinished, is, ids, short, call_is))) =
    let whole = with_stub held (held.stub ++ c.stub) in
    let before = complete side done given state held unfinished took in
    let fits : extended state c false ≡ Some whole = subst (λ (s : Option Call). extended s c false ≡ Some whole) (sym before) (extended_by held c ids) in
    let ends = goes_finished place whole (extended state c false) next item fits (fragment_does side place state next part item c false true is does) in
    ap (λ (i : Item). Some i) it_is ∙ (ap (λ (k : Call). Some (items.Call k)) call_is ∙ ends)

one_list : (side : Side) (done past : List Item) (state left : Option Call) (parts given other : List Item) → Took side None done past state → Took side state parts given left → ItemsAt side done parts other → other ≡ given
unfolding Took ItemsAt
one_list side done past state left [] given other took (given_is, left_is) other_is = other_is ∙ sym given_is
one_list side done past state left (p ∷ parts) given other took (place, next, item, more, does, given_is, rest) (item', more', at, other_is, rest') =
    let same = item_is side done past state next p place item item' took does at in
    let all = one_list side (done ++ p ∷ []) (past ++ put item []) next left parts more more' (took_more side None state next done past p place item took does) rest rest' in
    other_is ∙ (ap (λ (i : Option Item). put i more') same ∙ (ap (put item) all ∙ sym given_is))

-- ---- of streams

abbrev Told : Side → List (List ℕ) → List Item → Option Call → Type 0
Told side frames given left = (parts : List Item) × ArePartsOf frames parts × ItemsAt side [] parts given × LeftIs side parts left

pub parts_tell : (side : Side) (stream : List ℕ) (frames : List (List ℕ)) (given : List Item) (left : Option Call) (rest : List ℕ) → Reads side stream frames given left rest → Told side frames given left
parts_tell side stream frames given left rest reads =
    let parts = parts_there side 0 None left frames given reads.runs in
    let took = took_parts side 0 None left frames parts.0 given reads.runs parts.1 in
    let sound = sound_all side [] None left parts.0 given tt took in
    (parts.0, parts.1, sound.0, left_is side parts.0 given left sound.1 took)

pub parts_tell_all : (side : Side) (stream : List ℕ) (frames : List (List ℕ)) (given : List Item) (left : Option Call) (rest : List ℕ) → Reads side stream frames given left rest
    → (parts other : List Item) → ArePartsOf frames parts → ItemsAt side [] parts other → other ≡ given
unfolding Took
parts_tell_all side stream frames given left rest reads parts other are at =
    one_list side [] [] None left parts given other (refl, refl) (took_parts side 0 None left frames parts given reads.runs are) at
