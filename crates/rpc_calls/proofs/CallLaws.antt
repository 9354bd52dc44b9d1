-- Joining fragment by fragment gives the calls that are the lists of their fragments, and no others.
use Rattle.std.proofs.Common.{◌≡◌, ℕ, ◌≤◌, Bool, true, false, List, [], ◌∷◌, ◌++◌, length, refl, sym, ap, ◌∙◌, subst, inl, inr, append_assoc}
use Rattle.std.specs.Prelude.{Option, Some, None, Err, ◌==◌, nat_lt, if◌then◌else◌}
use Rattle.std.proofs.lemmas.Bool.{eq-eqb, eqb-true, ltb-false}
use Rattle.std.proofs.lemmas.List.{append-nil}
use Rattle.rpc_calls.specs.declared.call.Call.{Call}
use Rattle.rpc_calls.specs.declared.intake_fault.IntakeFault.TheVariants as faults
use Rattle.rpc_calls.specs.declared.item.Item.{Item}
use Rattle.rpc_calls.specs.declared.item.Item.TheVariants as items
use Rattle.rpc_calls.specs.declared.side.Side.{Side}
use Rattle.rpc_calls.specs.Assembly.{ended, extended, finished_if, goes_on, joined, kept_by, most_stub, taken, taken_as}
use Rattle.rpc_calls.specs.Calls.{IsCall, IsFragment, IsUnfinished, ItemAt, Middles, StandsApart}
use Rattle.rpc_calls.specs.Fragments.{fragment_of, is_first, is_last, orphan_of, with_stub}
use Rattle.rpc_calls.proofs.Assembling.{goes_on-same}

-- ---- one part more behind an unfinished call

middles_apart : (side : Side) (id : ℕ) (parts : List Item) (part : Item) (stub : List ℕ) → Middles side id parts stub → StandsApart side id part → Middles side id (parts ++ part ∷ []) stub
unfolding Middles
middles_apart side id [] part stub none apart = inl (apart, none)
middles_apart side id (p ∷ parts) part stub (inl (p_apart, rest)) apart = inl (p_apart, middles_apart side id parts part stub rest apart)
middles_apart side id (p ∷ parts) part stub (inr (c, more, is, same, stub_is, rest)) apart =
    inr (c, more, is, same, stub_is, middles_apart side id parts part more rest apart)

middles_more : (side : Side) (id : ℕ) (parts : List Item) (part : Item) (stub : List ℕ) (c : Call) → Middles side id parts stub → IsFragment side part c false false → c.call_id ≡ id
    → Middles side id (parts ++ part ∷ []) (stub ++ c.stub)
unfolding Middles
middles_more side id [] part stub c none is same = inr (c, [], is, same, rw none (sym (append-nil c.stub)), refl)
middles_more side id (p ∷ parts) part stub c (inl (p_apart, rest)) is same = inl (p_apart, middles_more side id parts part stub c rest is same)
middles_more side id (p ∷ parts) part stub c (inr (d, more, d_is, d_same, stub_is, rest)) is same =
    inr (d, more ++ c.stub, d_is, d_same, rw stub_is (append_assoc d.stub more c.stub), middles_more side id parts part more c rest is same)

longer : (parts before middle : List Item) (first part : Item) → parts ≡ before ++ first ∷ middle → parts ++ part ∷ [] ≡ before ++ first ∷ (middle ++ part ∷ [])
longer parts before middle first part all = ap (λ (l : List Item). l ++ part ∷ []) all ∙ append_assoc before (first ∷ middle) (part ∷ [])

unfinished_apart : (side : Side) (parts : List Item) (part : Item) (u : Call) → IsUnfinished side parts u → StandsApart side u.call_id part → IsUnfinished side (parts ++ part ∷ []) u
unfinished_apart side parts part u is apart = record {
  before = is.before;
  first = is.first;
  middle = is.middle ++ part ∷ [];
  start = is.start;
  stub = is.stub;
  all = longer parts is.before is.middle is.first part is.all;
  begins = is.begins;
  goes_on = middles_apart side is.start.call_id is.middle part is.stub is.goes_on
      (subst (λ (id : ℕ). StandsApart side id part) (ap (λ (c : Call). c.call_id) is.call_is) apart);
  call_is = is.call_is;
}

joined_stub : (u start c : Call) (stub : List ℕ) → u ≡ with_stub start (start.stub ++ stub) → with_stub u (u.stub ++ c.stub) ≡ with_stub start (start.stub ++ (stub ++ c.stub))
joined_stub u start c stub is =
    let same = ap (λ (v : Call). with_stub v (v.stub ++ c.stub)) is in
    same ∙ ap (λ (s : List ℕ). with_stub start s) (append_assoc start.stub stub c.stub)

unfinished_more : (side : Side) (parts : List Item) (part : Item) (u c : Call) → IsUnfinished side parts u → IsFragment side part c false false → c.call_id ≡ u.call_id
    → IsUnfinished side (parts ++ part ∷ []) (with_stub u (u.stub ++ c.stub))
unfinished_more side parts part u c is fragment same = record {
  before = is.before;
  first = is.first;
  middle = is.middle ++ part ∷ [];
  start = is.start;
  stub = is.stub ++ c.stub;
  all = longer parts is.before is.middle is.first part is.all;
  begins = is.begins;
  goes_on = middles_more side is.start.call_id is.middle part is.stub c is.goes_on fragment (same ∙ ap (λ (v : Call). v.call_id) is.call_is);
  call_is = joined_stub u is.start c is.stub is.call_is;
}

unfinished_first : (side : Side) (parts : List Item) (part : Item) (c : Call) → IsFragment side part c true false → IsUnfinished side (parts ++ part ∷ []) c
unfolding Middles
unfinished_first side parts part c is = record {
  before = parts;
  first = part;
  middle = [];
  start = c;
  stub = [];
  all = refl;
  begins = is;
  goes_on = refl;
  call_is = sym (ap (λ (s : List ℕ). with_stub c s) (append-nil c.stub));
}

-- ---- a step is sound

abbrev pub Sound : Side → List Item → Option Call → Type 0
Sound side parts None = Unit {0}
Sound side parts (Some u) = IsUnfinished side parts u

abbrev SoundStep : Side → List Item → Item → Option Call → Option Item → Type 0
SoundStep side done part next item = Sound side (done ++ part ∷ []) next × ItemAt side done part item

stepped : (side : Side) (done : List Item) (part : Item) (a next : Option Call) (i item : Option Item) → goes_on a i ≡ goes_on next item → SoundStep side done part a i → SoundStep side done part next item
stepped side done part a next i item e step =
    let same = goes_on-same a next i item e in
    subst (λ (n : Option Call). SoundStep side done part n item) same.0 (subst (λ (j : Option Item). SoundStep side done part a j) same.1 step)

kept_or_not : (side : Side) (done : List Item) (part : Item) (u : Call) (id : ℕ) (given_up : Bool) → fragment_of side part ≡ None → orphan_of part ≡ Some id → (u.call_id == id) ≡ given_up
    → IsUnfinished side done u → Sound side (done ++ part ∷ []) (if given_up then None else Some u)
kept_or_not side done part u id true none orphan is sound = tt
kept_or_not side done part u id false none orphan is sound =
    unfinished_apart side done part u sound (record { no_fragment = none; goes_on = λ same. other (orphan_of part) orphan same })
  where
    other : (o : Option ℕ) → o ≡ Some id → o ≡ Some u.call_id → ⊥
    other o a b = let same : u.call_id ≡ id = cc in let equal = eq-eqb u.call_id id same in let apart : true ≡ false = sym equal ∙ is in cc

none_or_some : (o : Option ℕ) (id : ℕ) → o ≡ None → o ≡ Some id → ⊥
none_or_some o id a b = cc

sound_apart : (side : Side) (done : List Item) (part : Item) (before : Option Call) (orphan : Option ℕ) → fragment_of side part ≡ None → orphan_of part ≡ orphan → Sound side done before
    → Sound side (done ++ part ∷ []) (kept_by orphan before)
sound_apart side done part None None none is sound = tt
sound_apart side done part None (Some id) none is sound = tt
sound_apart side done part (Some u) None none is sound =
    unfinished_apart side done part u sound (record { no_fragment = none; goes_on = λ same. none_or_some (orphan_of part) u.call_id is same })
sound_apart side done part (Some u) (Some id) none is sound = kept_or_not side done part u id (u.call_id == id) none is refl sound

-- A fragment that neither is too long nor out of its place.
sound_end : (side : Side) (done : List Item) (part : Item) (last long : Bool) (place : ℕ) (call : Call) (next : Option Call) (item : Option Item) → nat_lt most_stub (length call.stub) ≡ long
    → (last ≡ true → length call.stub ≤ most_stub → IsCall side done part call)
    → (last ≡ false → SoundStep side done part (Some call) None)
    → (if long then Err (faults.StubTooLong place) else finished_if last call) ≡ goes_on next item → SoundStep side done part next item
sound_end side done part last true place call next item is ends stays e = absurd cc
sound_end side done part true false place call next item is ends stays e =
    let ended = ends refl (ltb-false most_stub (length call.stub) is) in
    stepped side done part None next (Some (items.Call call)) item e (tt, inr (call, refl, ended))
sound_end side done part false false place call next item is ends stays e = stepped side done part (Some call) next None item e (stays refl)

fragment_is : (side : Side) (part : Item) (c : Call) (flags : ℕ) (first last : Bool) → fragment_of side part ≡ Some (c, flags) → is_first flags ≡ first → is_last flags ≡ last → IsFragment side part c first last
fragment_is side part c flags first last is a b = record { flags = flags; is = is; first_flag = a; last_flag = b }

sound_same : (side : Side) (done : List Item) (part : Item) (u c : Call) (flags : ℕ) (place : ℕ) (same : Bool) (next : Option Call) (item : Option Item)
    → fragment_of side part ≡ Some (c, flags) → is_first flags ≡ false → (u.call_id == c.call_id) ≡ same → IsUnfinished side done u
    → ended place (is_last flags) (if same then Some (with_stub u (u.stub ++ c.stub)) else None) ≡ goes_on next item → SoundStep side done part next item
sound_same side done part u c flags place false next item is first same sound e = absurd cc
sound_same side done part u c flags place true next item is first same sound e =
    let ids : c.call_id ≡ u.call_id = sym (eqb-true u.call_id c.call_id same) in
    let whole = with_stub u (u.stub ++ c.stub) in
    sound_end side done part (is_last flags) (nat_lt most_stub (length whole.stub)) place whole next item refl
    (λ last short. inr (u, c, sound, fragment_is side part c flags false true is first last, ids, short, refl))
    (λ last. (unfinished_more side done part u c sound (fragment_is side part c flags false false is first last) ids, (c, false, fragment_is side part c flags false false is first last)))
    e

sound_fragment : (side : Side) (done : List Item) (part : Item) (before : Option Call) (c : Call) (flags : ℕ) (place : ℕ) (first : Bool) (next : Option Call) (item : Option Item)
    → fragment_of side part ≡ Some (c, flags) → is_first flags ≡ first → Sound side done before → ended place (is_last flags) (extended before c first) ≡ goes_on next item → SoundStep side done part next item
sound_fragment side done part None c flags place false next item is first_is sound e = absurd cc
sound_fragment side done part None c flags place true next item is first_is sound e =
    sound_end side done part (is_last flags) (nat_lt most_stub (length c.stub)) place c next item refl
    (λ last short. inl (fragment_is side part c flags true true is first_is last, short))
    (λ last. (unfinished_first side done part c (fragment_is side part c flags true false is first_is last), (c, true, fragment_is side part c flags true false is first_is last)))
    e
sound_fragment side done part (Some u) c flags place true next item is first_is sound e = absurd cc
sound_fragment side done part (Some u) c flags place false next item is first_is sound e =
    sound_same side done part u c flags place (u.call_id == c.call_id) next item is first_is refl sound e

sound_view : (side : Side) (done : List Item) (part : Item) (before : Option Call) (place : ℕ) (view : Option (Call × ℕ)) (next : Option Call) (item : Option Item)
    → fragment_of side part ≡ view → Sound side done before → taken_as view place before part ≡ goes_on next item → SoundStep side done part next item
unfolding joined
sound_view side done part before place None next item none sound e =
    stepped side done part (kept_by (orphan_of part) before) next (Some part) item e (sound_apart side done part before (orphan_of part) none refl sound, inl (none, refl))
sound_view side done part before place (Some (c, flags)) next item is sound e = sound_fragment side done part before c flags place (is_first flags) next item is refl sound e

pub sound_step : (side : Side) (done : List Item) (part : Item) (before next : Option Call) (place : ℕ) (item : Option Item)
    → Sound side done before → taken side place before part ≡ goes_on next item → SoundStep side done part next item
unfolding taken
sound_step side done part before next place item sound e = sound_view side done part before place (fragment_of side part) next item refl sound e
