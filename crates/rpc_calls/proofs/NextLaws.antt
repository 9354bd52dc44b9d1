-- The turns of `next`: what was read before stays read, and how each turn ends.
use Rattle.std.proofs.Common.{◌≡◌, ℕ, ◌<◌, ◌≤◌, List, [], ◌∷◌, ◌++◌, length, refl, sym, ap, ◌∙◌, subst, append_assoc, length-append, arith}
use Rattle.std.specs.Prelude.{Option, Some, None, Result, Ok, Err}
use Rattle.std.specs.List.{concat}
use Rattle.std.proofs.lemmas.List.{append-nil}
use Rattle.rpc_pdu.specs.declared.pdu_fault.PduFault.TheVariants as pdu_faults
use Rattle.rpc_calls.specs.declared.intake_fault.IntakeFault.{IntakeFault}
use Rattle.rpc_calls.specs.declared.intake_fault.IntakeFault.TheVariants as faults
use Rattle.rpc_calls.specs.declared.item.Item.{Item}
use Rattle.rpc_calls.specs.declared.side.Side.{Side}
use Rattle.rpc_calls.specs.Assembly.{stub_length}
use Rattle.rpc_calls.specs.Frames.{Waits}
use Rattle.rpc_calls.specs.Intakes.{AtEnd, BehindItem, FaultStands, Holds, IsLasting, KeepsFault, Kept, LastsIfAny, NextIs, NoMemoryInside, NumbersAre, Stays, no_fault}
use Rattle.rpc_calls.specs.Streams.{FaultAt, Items, Reads, Runs, StopsBy, put}
use Rattle.rpc_calls.specs.Turns.{Goes, MayStand, refused, reported}
use Rattle.rpc_calls.proofs.FrameRuns.{concat_more, runs_more}

-- Turns without an item lie between.
pub record GoneOn (old new : Kept) : Type 0 where
  pub healthy : new.fault ≡ no_fault
  pub carries : (stream : List ℕ) (given : List Item) → Holds old stream given → Holds new stream given
  pub stays : Stays old new
  pub nearer : length new.rest ≤ length old.rest
  pub numbers : (new.unprocessed ≡ old.unprocessed) × (new.unfinished ≡ old.unfinished)

pub gone_nowhere : (kept : Kept) → kept.fault ≡ no_fault → GoneOn kept kept
gone_nowhere kept healthy = record { healthy = healthy; carries = λ stream given holds. holds; stays = record { side = refl; length = refl }; nearer = omega arith; numbers = (refl, refl) }

-- ---- a frame more

abbrev Beyond : Kept → Kept → Option Item → List ℕ → List Item → List (List ℕ) → List ℕ → Type 0
Beyond old new item stream given frames frame =
    Reads new.side stream (frames ++ frame ∷ []) (given ++ put item []) new.left new.rest × (new.place ≡ length (concat (frames ++ frame ∷ [])))

-- The frame that was taken follows those before it.
goes_beyond : (old new : Kept) (item : Option Item) (stream : List ℕ) (given : List Item) (goes : Goes old new item) (holds : Holds old stream given)
    → Beyond old new item stream given holds.frames goes.frame
goes_beyond old new item stream given goes holds =
    let frames = holds.frames in
    let frame = goes.frame in
    let longer = concat_more frames frame in
    let runs = runs_more old.side 0 old.place None old.left new.left frames given frame goes.part item holds.reads.runs (rw holds.place (omega arith)) goes.is goes.stands goes.does in
    let whole : stream ≡ concat (frames ++ frame ∷ []) ++ new.rest = rw (longer, append_assoc, ← goes.cut) holds.reads.whole in
    let place : new.place ≡ length (concat (frames ++ frame ∷ [])) = rw longer (omega (arith, length-append (concat frames) frame, goes.place, holds.place)) in
    (record { whole = whole; runs = subst (λ (side : Side). Runs side 0 None (frames ++ frame ∷ []) (given ++ put item []) new.left) (sym goes.side) runs }, place)

stands_healthy : (kept : Kept) (fault : Option IntakeFault) → fault ≡ no_fault → FaultStands kept fault
stands_healthy kept fault none = rw none tt

holds_goes : (old new : Kept) (item : Option Item) (stream : List ℕ) (given : List Item) → Goes old new item → Holds old stream given → Holds new stream (given ++ put item [])
holds_goes old new item stream given goes holds =
    let beyond = goes_beyond old new item stream given goes holds in
    record {
      frames = holds.frames ++ goes.frame ∷ [];
      reads = beyond.0;
      place = beyond.1;
      faulty = stands_healthy new new.fault goes.healthy;
    }

goes_stays : (old new : Kept) (item : Option Item) → Goes old new item → Stays old new
goes_stays old new item goes = record {
  side = goes.side;
  length = omega (arith, goes.place, ap length goes.cut, length-append goes.frame new.rest);
}

goes_shorter : (old new : Kept) (item : Option Item) → Goes old new item → length new.rest < length old.rest
goes_shorter old new item goes = omega (arith, goes.is.long, ap length goes.cut, length-append goes.frame new.rest)

stays_on : (first old new : Kept) → Stays first old → Stays old new → Stays first new
stays_on first old new a b = record { side = b.side ∙ a.side; length = b.length ∙ a.length }

-- A turn without an item.
pub goes_on_turning : (first old new : Kept) → GoneOn first old → Goes old new None → GoneOn first new
goes_on_turning first old new gone goes = record {
  healthy = goes.healthy;
  carries = λ stream given holds. subst (λ (items : List Item). Holds new stream items) (append-nil given) (holds_goes old new None stream given goes (gone.carries stream given holds));
  stays = stays_on first old new gone.stays (goes_stays old new None goes);
  nearer = omega (arith, gone.nearer, goes_shorter old new None goes);
  numbers = (goes.numbers.0 ∙ gone.numbers.0, goes.numbers.1 ∙ gone.numbers.1);
}

-- An item takes its frame at least.
pub item_shorter : (first old new after : Kept) (item : Item) → GoneOn first old → Goes old new (Some item) → after ≡ reported new → length after.rest < length first.rest
item_shorter first old new after item gone goes is =
    let same : length after.rest ≡ length new.rest = ap (λ (kept : Kept). length kept.rest) is in
    omega (arith, same, gone.nearer, goes_shorter old new (Some item) goes)

-- ---- the ends

abbrev given_item : Item → Result (Option Item) IntakeFault
given_item item = Ok (Some item)

abbrev given_none : Result (Option Item) IntakeFault
given_none = Ok None

abbrev given_fault : IntakeFault → Result (Option Item) IntakeFault
given_fault fault = Err fault

-- What a call of `next` that ends so owes.
pub record Ends (result : Result (Option Item) IntakeFault) (old new : Kept) : Type 0 where
  pub gives : NextIs result old new
  pub keeps : KeepsFault result new
  pub numbers : NumbersAre result old new
  pub stays : Stays old new

-- ---- the end of what can be read

ends_at : (kept : Kept) (stop : Option IntakeFault) (stream : List ℕ) (given : List Item) → Holds kept stream given → StopsBy kept.side kept.place kept.left kept.rest stop
    → Items kept.side stream given stop
ends_at kept stop stream given holds stops =
    (holds.frames, kept.left, kept.rest, holds.reads, subst (λ (place : ℕ). StopsBy kept.side place kept.left kept.rest stop) holds.place stops)

tells_at : (kept : Kept) (stop : Option IntakeFault) (stream : List ℕ) (given : List Item) → Holds kept stream given → StopsBy kept.side kept.place kept.left kept.rest stop
    → kept.unprocessed ≡ length kept.rest → kept.unfinished ≡ stub_length kept.left → AtEnd kept.side stream given stop kept.unprocessed kept.unfinished
tells_at kept stop stream given holds stops bytes stub = record {
  frames = holds.frames;
  leave = record { left = kept.left; rest = kept.rest; reads = holds.reads; bytes = bytes; stub = stub };
  stops = subst (λ (place : ℕ). StopsBy kept.side place kept.left kept.rest stop) holds.place stops;
}

-- What holds behind a fault of the stream.
abbrev Faulty : Kept → Kept → IntakeFault → Type 0
Faulty first new fault =
    (stream : List ℕ) (given : List Item) → Holds first stream given
    → (Holds new stream given × Items new.side stream given (Some fault)) × AtEnd new.side stream given (Some fault) new.unprocessed new.unfinished

faulty_ends : (first new : Kept) (fault : IntakeFault) → IsLasting fault → Faulty first new fault → new.fault ≡ Some fault → Stays first new → Ends (given_fault fault) first new
faulty_ends first new faults.Memory lasts all kept stays = absurd lasts
faulty_ends first new (faults.Pdu place inner) lasts all kept stays =
    record { gives = λ stream given holds. (all stream given holds).0; keeps = kept; numbers = λ stream given holds. (all stream given holds).1; stays = stays }
faulty_ends first new (faults.Interleaved place) lasts all kept stays =
    record { gives = λ stream given holds. (all stream given holds).0; keeps = kept; numbers = λ stream given holds. (all stream given holds).1; stays = stays }
faulty_ends first new (faults.StubTooLong place) lasts all kept stays =
    record { gives = λ stream given holds. (all stream given holds).0; keeps = kept; numbers = λ stream given holds. (all stream given holds).1; stays = stays }

faulty_at : (kept : Kept) (fault : IntakeFault) → kept.fault ≡ Some fault → Faulty kept kept fault
faulty_at kept fault is stream given holds =
    let stands = subst (λ (f : Option IntakeFault). FaultStands kept f) is holds.faulty in
    ((holds, ends_at kept (Some fault) stream given holds stands.0), tells_at kept (Some fault) stream given holds stands.0 stands.1 stands.2)

-- The fault of before is given again.
pub gives_again : (kept : Kept) (fault : IntakeFault) → kept.fault ≡ Some fault → LastsIfAny kept.fault → Ends (given_fault fault) kept kept
gives_again kept fault is lasts =
    faulty_ends kept kept fault (subst LastsIfAny is lasts) (faulty_at kept fault is) is (record { side = refl; length = refl })

-- ---- the four other exits

holds_reported : (kept : Kept) (stream : List ℕ) (given : List Item) → kept.fault ≡ no_fault → Holds kept stream given → Holds (reported kept) stream given
holds_reported kept stream given healthy holds = record {
  frames = holds.frames;
  reads = holds.reads;
  place = holds.place;
  faulty = stands_healthy (reported kept) kept.fault healthy;
}

reported_stays : (kept : Kept) → Stays kept (reported kept)
reported_stays kept = record { side = refl; length = refl }

waits_reported : (first old : Kept) → GoneOn first old → Waits old.rest → Ends given_none first (reported old)
waits_reported first old gone waits = record {
  gives = λ stream given holds.
      let now = holds_reported old stream given gone.healthy (gone.carries stream given holds) in
      (now, ends_at (reported old) no_fault stream given now waits);
  keeps = tt;
  numbers = λ stream given holds.
      let now = holds_reported old stream given gone.healthy (gone.carries stream given holds) in
      tells_at (reported old) no_fault stream given now waits refl refl;
  stays = stays_on first old (reported old) gone.stays (reported_stays old);
}

pub few_waiting : (old new after : Kept) → (new ≡ old) × Waits old.rest × (length old.rest < 65536) → after ≡ reported new → length after.rest < 65536
few_waiting old new after (same, waits, few) is =
    let rest : length after.rest ≡ length old.rest = ap (λ (kept : Kept). length kept.rest) is ∙ ap (λ (kept : Kept). length kept.rest) same in
    omega (arith, rest, few)

pub ends_waiting : (first old new after : Kept) → GoneOn first old → (new ≡ old) × Waits old.rest × (length old.rest < 65536) → after ≡ reported new → Ends given_none first after
ends_waiting first old new after gone (same, waits, few) is =
    let after_is : reported old ≡ after = sym (is ∙ ap reported same) in
    subst (λ (kept : Kept). Ends given_none first kept) after_is (waits_reported first old gone waits)

behind_item : (first old new : Kept) (item : Item) → GoneOn first old → Goes old new (Some item) → (stream : List ℕ) (given : List Item) → Holds first stream given
    → BehindItem new.side stream given item (length new.rest) (stub_length new.left) new.last_place
behind_item first old new item gone goes stream given holds =
    let before = gone.carries stream given holds in
    let beyond = goes_beyond old new (Some item) stream given goes before in
    let reads : Reads old.side stream before.frames given old.left (goes.frame ++ new.rest) =
    subst (λ (rest : List ℕ). Reads old.side stream before.frames given old.left rest) goes.cut before.reads in
    record {
      before = before.frames;
      frame = goes.frame;
      behind = new.rest;
      held = old.left;
      stands = goes.last_place ∙ before.place;
      not_before = subst (λ (side : Side). Reads side stream before.frames given old.left (goes.frame ++ new.rest)) (sym goes.side) reads;
      here = record { left = new.left; rest = new.rest; reads = beyond.0; bytes = refl; stub = refl };
    }

gives_reported : (first old new : Kept) (item : Item) → GoneOn first old → Goes old new (Some item) → Ends (given_item item) first (reported new)
gives_reported first old new item gone goes = record {
  gives = λ stream given holds.
      holds_reported new stream (given ++ item ∷ []) goes.healthy (holds_goes old new (Some item) stream given goes (gone.carries stream given holds));
  keeps = tt;
  numbers = behind_item first old new item gone goes;
  stays = stays_on first new (reported new) (stays_on first old new gone.stays (goes_stays old new (Some item) goes)) (reported_stays new);
}

pub ends_with_item : (first old new after : Kept) (item : Item) → GoneOn first old → Goes old new (Some item) → after ≡ reported new → Ends (given_item item) first after
ends_with_item first old new after item gone goes is =
    subst (λ (kept : Kept). Ends (given_item item) first kept) (sym is) (gives_reported first old new item gone goes)

-- The intake keeps the fault.
abbrev keeping : Kept → IntakeFault → Kept
keeping kept fault = record {
  side = kept.side;
  rest = kept.rest;
  left = kept.left;
  place = kept.place;
  last_place = kept.last_place;
  fault = Some fault;
  unprocessed = length kept.rest;
  unfinished = stub_length kept.left;
}

keeping_ends : (first old : Kept) (fault : IntakeFault) → GoneOn first old → IsLasting fault × FaultAt old.side old.place old.left old.rest fault
    → Ends (given_fault fault) first (keeping old fault)
keeping_ends first old fault gone (lasts, stands) =
    let now : (stream : List ℕ) (given : List Item) → Holds old stream given → Holds (keeping old fault) stream given =
    λ stream given holds. record { frames = holds.frames; reads = holds.reads; place = holds.place; faulty = (stands, refl, refl) } in
    let all : Faulty first (keeping old fault) fault =
    λ stream given holds. faulty_at (keeping old fault) fault refl stream given (now stream given (gone.carries stream given holds)) in
    faulty_ends first (keeping old fault) fault lasts all refl (stays_on first old (keeping old fault) gone.stays (record { side = refl; length = refl }))

stays_fed : (first old : Kept) → GoneOn first old → Ends (given_fault faults.Memory) first old
stays_fed first old gone = record { gives = gone.carries; keeps = tt; numbers = λ stream given holds. gone.numbers; stays = gone.stays }

refused_ends : (first old : Kept) (fault : IntakeFault) → GoneOn first old → MayStand old fault → Ends (given_fault fault) first (refused old fault)
refused_ends first old faults.Memory gone stands = stays_fed first old gone
refused_ends first old (faults.Pdu place inner) gone stands = keeping_ends first old (faults.Pdu place inner) gone stands
refused_ends first old (faults.Interleaved place) gone stands = keeping_ends first old (faults.Interleaved place) gone stands
refused_ends first old (faults.StubTooLong place) gone stands = keeping_ends first old (faults.StubTooLong place) gone stands

pub ends_with_fault : (first old new : Kept) (fault : IntakeFault) → GoneOn first old → MayStand old fault × (new ≡ refused old fault) → Ends (given_fault fault) first new
ends_with_fault first old new fault gone (stands, is) =
    subst (λ (kept : Kept). Ends (given_fault fault) first kept) (sym is) (refused_ends first old fault gone stands)

-- ---- memory

lasting_is_plain : (fault : IntakeFault) → IsLasting fault → NoMemoryInside fault
lasting_is_plain (faults.Pdu place pdu_faults.BadVersion) lasts = tt
lasting_is_plain (faults.Pdu place pdu_faults.BadType) lasts = tt
lasting_is_plain (faults.Pdu place pdu_faults.BadRep) lasts = tt
lasting_is_plain (faults.Pdu place pdu_faults.BadLength) lasts = tt
lasting_is_plain (faults.Pdu place pdu_faults.HasAuth) lasts = tt
lasting_is_plain (faults.Pdu place pdu_faults.BadFlags) lasts = tt
lasting_is_plain (faults.Pdu place pdu_faults.Memory) lasts = lasts
lasting_is_plain (faults.Interleaved place) lasts = tt
lasting_is_plain (faults.StubTooLong place) lasts = tt
lasting_is_plain faults.Memory lasts = tt

pub kept_is_plain : (kept : Option IntakeFault) (fault : IntakeFault) → kept ≡ Some fault → LastsIfAny kept → NoMemoryInside fault
kept_is_plain kept fault is lasts = lasting_is_plain fault (subst LastsIfAny is lasts)

pub standing_is_plain : (kept : Kept) (fault : IntakeFault) → MayStand kept fault → NoMemoryInside fault
standing_is_plain kept faults.Memory stands = tt
standing_is_plain kept (faults.Pdu place inner) stands = lasting_is_plain (faults.Pdu place inner) stands.0
standing_is_plain kept (faults.Interleaved place) stands = tt
standing_is_plain kept (faults.StubTooLong place) stands = tt
