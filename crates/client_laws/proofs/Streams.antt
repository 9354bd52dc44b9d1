-- The calls of a stream of bytes have stubs of bytes.
use Rattle.std.proofs.Common.{◌≡◌, inl, inr, ℕ, ◌+◌, ◌-◌, Bool, true, false, List, [], ◌∷◌, ◌++◌, length, drop, Option, Some, None, Err, nat_lt, if◌then◌else◌, refl, sym, subst, arith}
use Rattle.std.specs.Prelude.{◌==◌, IfSome}
use Rattle.std.specs.List.{AllByRecursion, concat}
use Rattle.std.proofs.lemmas.Bool.{cases_lt}
use Rattle.std.proofs.lemmas.List.{drop_at, get_or-append_right, get_or_append_left, take_at}
use Rattle.wire_fields.specs.Numbers.{IsBytes, num}
use Rattle.wire_fields.proofs.NumberLaws.{IsBytes-drop, IsBytes-take}
use Rattle.rpc_pdu.specs.declared.pdu.Pdu.TheVariants.{Request, Response}
use Rattle.rpc_calls.specs.declared.call.Call.{Call}
use Rattle.rpc_calls.specs.declared.intake_fault.IntakeFault.TheVariants.{StubTooLong}
use Rattle.rpc_calls.specs.declared.item.Item.{Item}
use Rattle.rpc_calls.specs.declared.item.Item.TheVariants as items
use Rattle.rpc_calls.specs.declared.side.Side.{Side}
use Rattle.rpc_calls.specs.declared.side.Side.TheVariants.{Server, Client}
use Rattle.rpc_calls.specs.Assembly.{Outcome, ended, extended, finished_if, goes_on, joined, kept_by, most_stub, no_call, taken, taken_as}
use Rattle.rpc_calls.specs.Fragments.{fragment_of, is_first, is_last, orphan_of, with_stub}
use Rattle.rpc_calls.specs.Intakes.{Holds, Kept, fed, fresh}
use Rattle.rpc_calls.specs.Parts.{IsPart}
use Rattle.rpc_calls.specs.Streams.{Runs, put}
use Rattle.rpc_calls.proofs.HoldingLaws.{holds_fed, holds_nothing}
use Rattle.client_laws.specs.Typed.{IsFed}
use Rattle.client_laws.proofs.Lists.{all_behind}

-- ---- parts of bytes

pub bytes_tail : (front rest : List ℕ) → IsBytes (front ++ rest) → IsBytes rest
bytes_tail front rest h = subst (λ (l : List ℕ). IsBytes l) (drop_at front rest (length front) refl) (IsBytes-drop (length front) (front ++ rest) h)

pub bytes_front : (front rest : List ℕ) → IsBytes (front ++ rest) → IsBytes front
bytes_front front rest h = subst (λ (l : List ℕ). IsBytes l) (take_at front rest (length front) refl) (IsBytes-take (length front) (front ++ rest) h)

-- ---- a fragment

abbrev IsStub : Option (Call × ℕ) → Type 0
IsStub fragment = IfSome fragment (λ f. IsBytes f.0.stub)

behind_four : (a b c d stub body : List ℕ) → body ≡ a ++ (b ++ (c ++ (d ++ stub))) → IsBytes body → IsBytes stub
behind_four a b c d stub body is h =
    bytes_tail d stub (bytes_tail c (d ++ stub) (bytes_tail b (c ++ (d ++ stub)) (bytes_tail a (b ++ (c ++ (d ++ stub))) (subst (λ (l : List ℕ). IsBytes l) is h))))

fragment_stub : (side : Side) (frame : List ℕ) (part : Item) → IsBytes frame → IsPart frame part → IsStub (fragment_of side part)
fragment_stub Server frame (items.Single (Request head hint context opnum object stub)) h is =
    let b = is.body in behind_four (num head.endian 4 hint) (num head.endian 2 context) (num head.endian 2 opnum) b.0 stub (drop 16 frame) b.5 (IsBytes-drop 16 frame h)
fragment_stub Client frame (items.Single (Response head hint context cancels stub)) h is =
    let b = is.body in behind_four (num head.endian 4 hint) (num head.endian 2 context) (num head.endian 1 cancels) b.0 stub (drop 16 frame) b.5 (IsBytes-drop 16 frame h)
fragment_stub side frame part h is = tt

-- ---- a call that is joined of fragments

abbrev IsStubbed : Option Call → Type 0
IsStubbed call = IfSome call (λ c. IsBytes c.stub)

abbrev pub HasStub : Item → Type 0
HasStub (items.Call call) = IsBytes call.stub
HasStub item = Unit {0}

-- what a part leaves: the call that is unfinished behind it, and the item that stands there
record Leaves (behind : Option Call) (item : Option Item) : Type 0 where
  left : IsStubbed behind
  given : IfSome item HasStub

leaves : (one : Option Call) (two : Option Item) (behind : Option Call) (item : Option Item) → goes_on one two ≡ goes_on behind item → Leaves one two → Leaves behind item
leaves one two behind item e l =
    let q : ◌≡◌ {A = Option Call × Option Item} (one, two) (behind, item) = cc in
    subst (λ (p : Option Call × Option Item). Leaves p.0 p.1) q l

bytes_append : (a b : List ℕ) → IsBytes a → IsBytes b → IsBytes (a ++ b)
bytes_append a b h g i = elim (cases_lt i (length a)) [
  | inl lt ↦ rw (get_or_append_left a b 0 i lt) (h i)
  | inr le ↦ rw (get_or-append_right a b (length a) i 0 refl le) (g (i - length a))
]

extended_stub : (unfinished : Option Call) (fragment : Call) (first : Bool) → IsStubbed unfinished → IsBytes fragment.stub → IsStubbed (extended unfinished fragment first)
extended_stub None fragment true u f = f
extended_stub None fragment false u f = tt
extended_stub (Some call) fragment true u f = tt
extended_stub (Some call) fragment false u f = by (call.call_id == fragment.call_id)
  where
    by : (b : Bool) → IsStubbed (if b then Some (with_stub call (call.stub ++ fragment.stub)) else no_call)
    by true = bytes_append call.stub fragment.stub u f
    by false = tt

finished_leaves : (last : Bool) (call : Call) (behind : Option Call) (item : Option Item) → IsBytes call.stub → finished_if last call ≡ goes_on behind item → Leaves behind item
finished_leaves true call behind item h e = leaves None (Some (items.Call call)) behind item e (record { left = tt; given = h })
finished_leaves false call behind item h e = leaves (Some call) None behind item e (record { left = h; given = tt })

ended_leaves : (place : ℕ) (last : Bool) (call : Option Call) (behind : Option Call) (item : Option Item) → IsStubbed call → ended place last call ≡ goes_on behind item → Leaves behind item
ended_leaves place last None behind item h e = absurd (cc)
ended_leaves place last (Some call) behind item h e = by (nat_lt most_stub (length call.stub)) e
  where
    by : (b : Bool) → ◌≡◌ {A = Outcome} (if b then Err (StubTooLong place) else finished_if last call) (goes_on behind item) → Leaves behind item
    by true e = absurd (cc)
    by false e = finished_leaves last call behind item h e

kept_stub : (orphan : Option ℕ) (unfinished : Option Call) → IsStubbed unfinished → IsStubbed (kept_by orphan unfinished)
kept_stub None unfinished h = h
kept_stub (Some id) None h = tt
kept_stub (Some id) (Some call) h = by (call.call_id == id)
  where
    by : (b : Bool) → IsStubbed (if b then no_call else Some call)
    by true = tt
    by false = h

part_stub : (frame : List ℕ) (part : Item) → IsPart frame part → HasStub part
part_stub frame (items.Call call) is = absurd is
part_stub frame part is = tt

taken_leaves : (fragment : Option (Call × ℕ)) (place : ℕ) (before behind : Option Call) (part : Item) (item : Option Item) → IsStub fragment → IsStubbed before → HasStub part
    → taken_as fragment place before part ≡ goes_on behind item → Leaves behind item
unfolding joined
taken_leaves None place before behind part item f b h e = leaves (kept_by (orphan_of part) before) (Some part) behind item e (record { left = kept_stub (orphan_of part) before b; given = h })
taken_leaves (Some fragment) place before behind part item f b h e =
    ended_leaves place (is_last fragment.1) (extended before fragment.0 (is_first fragment.1)) behind item (extended_stub before fragment.0 (is_first fragment.1) b f) e

part_leaves : (side : Side) (place : ℕ) (before behind : Option Call) (frame : List ℕ) (part : Item) (item : Option Item) → IsBytes frame → IsStubbed before → IsPart frame part
    → taken side place before part ≡ goes_on behind item → Leaves behind item
unfolding taken
part_leaves side place before behind frame part item h b is e =
    taken_leaves (fragment_of side part) place before behind part item (fragment_stub side frame part h is) b (part_stub frame part is) e

-- ---- the items of frames

put_stubs : (item : Option Item) (more : List Item) → IfSome item HasStub → AllByRecursion HasStub more → AllByRecursion HasStub (put item more)
put_stubs None more h all = all
put_stubs (Some item) more h all = (h, all)

runs_stubs : (side : Side) (place : ℕ) (before : Option Call) (frames : List (List ℕ)) (given : List Item) (left : Option Call) → IsBytes (concat frames) → IsStubbed before
    → Runs side place before frames given left → AllByRecursion HasStub given
unfolding Runs
runs_stubs side place before [] given left h b r = subst (λ (l : List Item). AllByRecursion HasStub l) (sym r.0) tt
runs_stubs side place before (frame ∷ frames) given left h b r =
    let l = part_leaves side place before r.1 frame r.0 r.2 (bytes_front frame (concat frames) h) b r.5 r.6 in
    let more = runs_stubs side (place + length frame) r.1 frames r.3 left (bytes_tail frame (concat frames) h) l.left r.8 in
    subst (λ (l : List Item). AllByRecursion HasStub l) (sym r.7) (put_stubs r.2 r.3 l.given more)

given_stubs : (kept : Kept) (stream : List ℕ) (given : List Item) → IsBytes stream → Holds kept stream given → AllByRecursion HasStub given
given_stubs kept stream given h holds =
    runs_stubs kept.side 0 no_call holds.frames given kept.left (bytes_front (concat holds.frames) kept.rest (subst (λ (l : List ℕ). IsBytes l) holds.reads.whole h)) tt holds.reads.runs

-- ---- an intake

pub fed_fresh : (side : Side) → IsFed (fresh side)
fed_fresh side = record { stream = []; given = []; bytes = λ i. omega arith; holds = holds_nothing side }

pub fed_more : (kept : Kept) (piece : List ℕ) → IsFed kept → IsBytes piece → IsFed (fed kept piece)
fed_more kept piece f h = record { stream = f.stream ++ piece; given = f.given; bytes = bytes_append f.stream piece f.bytes h; holds = holds_fed kept f.stream piece f.given f.holds }

-- what an intake gives
pub record Given (after : Kept) (more : List Item) : Type 0 where
  pub fed : IsFed after
  pub stubs : AllByRecursion HasStub more

pub fed_gives : (before after : Kept) (more : List Item) → IsFed before → ((stream : List ℕ) (given : List Item) → Holds before stream given → Holds after stream (given ++ more)) → Given after more
fed_gives before after more f goes =
    let holds : Holds after f.stream (f.given ++ more) = goes f.stream f.given f.holds in
    record {
      fed = record { stream = f.stream; given = f.given ++ more; bytes = f.bytes; holds = holds };
      stubs = all_behind HasStub f.given more (given_stubs after f.stream (f.given ++ more) f.bytes holds);
    }
