-- A disk in memory stays sound from call to call.
use Rattle.std.proofs.Common.{◌≡◌, ℕ, ◌+◌, ◌-◌, ◌<◌, ◌≤◌, List, [], ◌∷◌, ◌++◌, length, take, drop, replicate, get_or, refl, sym, ap, ◌∙◌, subst, arith, length-append}
use Rattle.std.proofs.lemmas.List.{append-nil, drop_more, length-replicate, take_all}
use Rattle.std.proofs.Math.Seq.{drop-append_seam}
use Rattle.std.proofs.lemmas.List.Sums.{sum_by-append}
use Rattle.disk_core.specs.declared.span.Span.{Span}
use Rattle.disk_core.specs.declared.note.Note.{Note}
use Rattle.disk_core.specs.declared.note.Note.TheVariants.{Wrote, Synced, Claimed, Nothing}
use Rattle.disk_core.specs.Images.{Moment, total}
use Rattle.disk_core.specs.Notes.{after, replay, befores, IsNoteWithin, AreNotesWithin, AreWithin, IsPlain, IsSound, Memory, noted, written}
use Rattle.disk_core.proofs.Replays.{replay-push, befores-push, replay-longer, befores-longer, within-longer, within-push, after-size, after-ranges, after-plain}

-- what contracts see of these parts
abbrev pub memory : Moment → Moment → List Note → List ℕ → ℕ → ℕ → ℕ → Memory
memory marked present notes store left faults awaits = record {
  current = present;
  past = befores store notes marked;
  faults = faults;
  awaits = awaits;
  calls_left = 4096 - (length marked.pending + length notes);
  bytes_left = left;
}

one-more : (store : List ℕ) (n : Note) (m : Moment) → length (after store n m).pending ≤ length m.pending + 1
one-more store (Wrote at len from count) m = omega (arith, length-append m.pending (record { at = at; len = len } ∷ []))
one-more store Synced m = omega arith
one-more store (Claimed number) m = omega arith
one-more store Nothing m = omega arith

pub plain-total : (store : List ℕ) (n : Note) (m : Moment) → IsPlain n → total (after store n m).pending ≤ total m.pending
plain-total store (Wrote at len from count) m plain = absurd plain
plain-total store Synced m plain = omega arith
plain-total store (Claimed number) m plain = omega arith
plain-total store Nothing m plain = omega arith

pub plain-within : (size stored : ℕ) (n : Note) → IsPlain n → IsNoteWithin size stored n
plain-within size stored (Wrote at len from count) plain = absurd plain
plain-within size stored Synced plain = tt
plain-within size stored (Claimed number) plain = tt
plain-within size stored Nothing plain = tt

pub sound-push : (marked present : Moment) (notes : List Note) (n : Note) (store store' more : List ℕ) (left left' : ℕ)
    → IsSound marked present notes store left → store' ≡ store ++ more → IsNoteWithin (length present.seen) (length store') n → length marked.pending + length notes < 4096
    → left' + length more ≤ left → total (after store' n present).pending + left' ≤ length present.seen
    → IsSound marked (after store' n present) (notes ++ n ∷ []) store' left'
sound-push marked present notes n store store' more left left' sound longer within room fits bytes =
    let grown : length store' ≡ length store + length more = ap (λ xs. length xs) longer ∙ length-append store more in
    let size : length (after store' n present).seen ≡ length present.seen = after-size (length store') store' n present refl within in
    let old : replay store' notes marked ≡ present = rw longer (replay-longer (length present.seen) store more notes marked sound.notes_within ∙ sound.replayed) in
    let stored : AreNotesWithin (length present.seen) (length store') notes = (let P : ℕ → Type 0 = λ k. AreNotesWithin (length present.seen) k notes in subst P (sym grown) (within-longer (length present.seen) (length store) (length more) notes sound.notes_within)) in
    record {
      replayed = replay-push store' notes n marked ∙ ap (λ m. after store' n m) old;
      size = sound.size ∙ sym size;
      notes_within = rw size (within-push (length present.seen) (length store') notes n stored within);
      marked_within = rw size sound.marked_within;
      within = rw size (after-ranges (length present.seen) (length store') store' n present within sound.within);
      calls = omega (arith, length-append notes (n ∷ []));
      pending = omega (arith, sound.pending, one-more store' n present, length-append notes (n ∷ []));
      stored = omega (arith, sound.stored, size, grown);
      bytes = omega (arith, bytes, size);
    }

pub noted-push : (marked present : Moment) (notes : List Note) (n : Note) (store store' more : List ℕ) (left len faults awaits : ℕ)
    → IsSound marked present notes store left → store' ≡ store ++ more
    → memory marked (after store' n present) (notes ++ n ∷ []) store' (left - len) faults awaits
    ≡ noted (after store' n present) len (memory marked present notes store left faults awaits)
noted-push marked present notes n store store' more left len faults awaits sound longer =
    let old : replay store' notes marked ≡ present = rw longer (replay-longer (length present.seen) store more notes marked sound.notes_within ∙ sound.replayed) in
    let before : befores store' notes marked ≡ befores store notes marked = rw longer (befores-longer (length present.seen) store more notes marked sound.notes_within) in
    let past : befores store' (notes ++ n ∷ []) marked ≡ befores store notes marked ++ present ∷ [] =
    befores-push store' notes n marked ∙ ap (λ m. befores store' notes marked ++ m ∷ []) old ∙ ap (λ ms. ms ++ present ∷ []) before in
    let calls : 4096 - (length marked.pending + length (notes ++ n ∷ [])) ≡ 4096 - (length marked.pending + length notes) - 1 = omega (arith, length-append notes (n ∷ [])) in
    cc (past, calls)

pub noted-plain : (marked present : Moment) (notes : List Note) (n : Note) (store : List ℕ) (left faults awaits : ℕ)
    → IsSound marked present notes store left → IsPlain n
    → memory marked (after store n present) (notes ++ n ∷ []) store left faults awaits
    ≡ noted (after [] n present) 0 (memory marked present notes store left faults awaits)
noted-plain marked present notes n store left faults awaits sound plain =
    let one = noted-push marked present notes n store store [] left 0 faults awaits sound (sym (append-nil store)) in
    let same : left - 0 ≡ left = omega arith in
    cc (one, after-plain store n present plain, same)

pub sound-new : (size : ℕ) (zeros : Moment) → zeros ≡ record { seen = replicate size 0; pending = []; held = 0 } → IsSound zeros zeros [] [] size
unfolding replay
sound-new size zeros is = rw is (record {
  replayed = refl;
  size = refl;
  notes_within = tt;
  marked_within = tt;
  within = tt;
  calls = omega arith;
  pending = omega arith;
  stored = omega (arith, length-replicate {A = ℕ} size 0);
  bytes = omega (arith, length-replicate {A = ℕ} size 0);
})

-- behind a mark or a crash
pub sound-marked : (m : Moment) (left : ℕ) → AreWithin (length m.seen) m.pending → length m.pending ≤ 4096 → total m.pending + left ≤ length m.seen → IsSound m m [] [] left
unfolding replay
sound-marked m left within calls bytes = record {
  replayed = refl;
  size = refl;
  notes_within = tt;
  marked_within = within;
  within = within;
  calls = omega arith;
  pending = omega arith;
  stored = omega arith;
  bytes = bytes;
}

pub replay-next : (store : List ℕ) (notes : List Note) (i : ℕ) (d : Note) (m next whole : Moment) → i < length notes → next ≡ after store (get_or notes i d) m → replay store (drop i notes) m ≡ whole
    → AreNotesWithin (length m.seen) (length store) (drop i notes) → length m.pending + (length notes - i) ≤ 4096
    → (replay store (drop (i + 1) notes) next ≡ whole) × AreNotesWithin (length next.seen) (length store) (drop (i + 1) notes) × (length next.pending + (length notes - (i + 1)) ≤ 4096)
unfolding replay
replay-next store notes i d m next whole below step e within room =
    let n : Note = get_or notes i d in
    let all : AreNotesWithin (length m.seen) (length store) (n ∷ drop (i + 1) notes) = rw (drop_more notes i d below) at within in
    let size : length (after store n m).seen ≡ length m.seen = after-size (length store) store n m refl all.0 in
    let rest : replay store (drop (i + 1) notes) (after store n m) ≡ whole = rw (drop_more notes i d below) at e in
    rw step (rest, rw size all.1, omega (arith, one-more store n m))

-- what was stored last is read back
pub after-written : (store bytes : List ℕ) (at len from : ℕ) (m : Moment) → from ≡ length store → after (store ++ bytes) (Wrote at len from (length bytes)) m ≡ written at bytes len m
after-written store bytes at len from m is =
    let part : take (length bytes) (drop from (store ++ bytes)) ≡ bytes =
    rw is (ap (λ xs. take (length bytes) xs) (drop-append_seam store bytes) ∙ take_all (length bytes) bytes (omega arith)) in
    ap (λ xs. written at xs len m) part

pub wrote-total : (pending : List Span) (at len : ℕ) → total (pending ++ record { at = at; len = len } ∷ []) ≡ total pending + len
wrote-total pending at len =
    let one = sum_by-append (λ r. r.len) pending (record { at = at; len = len } ∷ []) in
    omega (arith, one)

pub noted-written : (marked present : Moment) (notes : List Note) (store bytes : List ℕ) (at len from left faults awaits : ℕ)
    → IsSound marked present notes store left → from ≡ length store
    → memory marked (after (store ++ bytes) (Wrote at len from (length bytes)) present) (notes ++ Wrote at len from (length bytes) ∷ []) (store ++ bytes) (left - len) faults awaits
    ≡ noted (written at bytes len present) len (memory marked present notes store left faults awaits)
noted-written marked present notes store bytes at len from left faults awaits sound is =
    let one = noted-push marked present notes (Wrote at len from (length bytes)) store (store ++ bytes) bytes left len faults awaits sound refl in
    let same = after-written store bytes at len from present is in
    cc (one, same)
