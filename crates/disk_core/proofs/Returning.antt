-- What marks and crashes of a disk in memory leave.
use Rattle.std.proofs.Common.{◌≡◌, ℕ, ◌+◌, ◌-◌, ◌≤◌, List, [], ◌∷◌, ◌++◌, length, take, min, get_or, refl, sym, ap, ◌∙◌, subst, arith}
use Rattle.disk_core.specs.declared.note.Note.{Note}
use Rattle.disk_core.specs.Images.{Moment, IsImage, total}
use Rattle.disk_core.specs.Crashes.{Marked, Crashed, after_crash, moment_at}
use Rattle.disk_core.specs.Notes.{replay, befores, AreWithin, IsSound, view_of}
use Rattle.disk_core.proofs.Fills.{filled-size, crash_image}
use Rattle.disk_core.proofs.Replays.{length-befores, moment-replayed, replay-size, replay-ranges, within-take}
use Rattle.disk_core.proofs.Sounds.{memory}

pub is_marked : (marked present m : Moment) (notes : List Note) (store : List ℕ) (left faults awaits size pending : ℕ)
    → m ≡ present → size ≡ length present.seen → pending ≡ total present.pending
    → Marked (view_of (memory marked present notes store left faults awaits)) (view_of (memory m present [] [] (size - pending) faults awaits))
unfolding befores
is_marked marked present m notes store left faults awaits size pending same sized counted =
    let calls : 4096 - (length m.pending + 0) ≡ 4096 - length present.pending = rw same (omega arith) in
    let bytes : size - pending ≡ length present.seen - total present.pending = rw (sized, counted) refl in
    record {
      same = record { size = refl; tells = refl; faults = omega arith };
      faults = refl;
      current = refl;
      past = refl;
      plan = cc (calls, bytes);
    }

-- the moment to which a crash goes back
pub went_back : (marked present : Moment) (notes : List Note) (store : List ℕ) (left faults awaits k moment : ℕ)
    → IsSound marked present notes store left → k ≡ min (length notes) moment
    → moment_at (view_of (memory marked present notes store left faults awaits)) moment ≡ replay store (take k notes) marked
went_back marked present notes store left faults awaits k moment sound is =
    let index : min moment (length (befores store notes marked)) ≡ k = omega (arith, length-befores store notes marked) in
    let most : k ≤ length notes = omega arith in
    rw index (ap (λ m. get_or (befores store notes marked ++ m ∷ []) k present) (sym sound.replayed) ∙ moment-replayed store notes marked present k most)

pub back-within : (marked present : Moment) (notes : List Note) (store : List ℕ) (left k : ℕ) (m : Moment)
    → IsSound marked present notes store left → m ≡ replay store (take k notes) marked → (length m.seen ≡ length present.seen) × AreWithin (length m.seen) m.pending
back-within marked present notes store left k m sound is =
    let size = length present.seen in
    let notes_within = within-take size (length store) notes k sound.notes_within in
    let sized : length (replay store (take k notes) marked).seen ≡ size = replay-size size store (take k notes) marked sound.size notes_within in
    let ranges : AreWithin size (replay store (take k notes) marked).pending = replay-ranges size (length store) store (take k notes) marked notes_within sound.marked_within in
    rw is (sized, rw sized ranges)

pub is_crashed : (marked present m left_over : Moment) (notes : List Note) (store bytes : List ℕ) (left faults awaits k moment size : ℕ)
    → IsSound marked present notes store left → k ≡ min (length notes) moment → m ≡ replay store (take k notes) marked → left_over ≡ after_crash m bytes → size ≡ length left_over.seen
    → Crashed (view_of (memory marked present notes store left faults awaits)) moment bytes (view_of (memory left_over left_over [] [] size faults awaits))
unfolding befores
is_crashed marked present m left_over notes store bytes left faults awaits k moment size sound is replayed crashed sized =
    let back : moment_at (view_of (memory marked present notes store left faults awaits)) moment ≡ m = went_back marked present notes store left faults awaits k moment sound is ∙ sym replayed in
    let within = back-within marked present notes store left k m sound replayed in
    let whole : length left_over.seen ≡ length present.seen = ap (λ m. length m.seen) crashed ∙ filled-size m.pending bytes m.seen within.1 ∙ within.0 in
    let image : IsImage m left_over.seen = (let P : Moment → Type 0 = λ x. IsImage m x.seen in subst P (sym crashed) (crash_image m bytes within.1)) in
    let calls : 4096 - (length left_over.pending + 0) ≡ 4096 - 0 = rw crashed refl in
    let room : size ≡ length present.seen - 0 = omega arith in
    record {
      same = record { size = whole; tells = refl; faults = omega arith };
      faults = refl;
      past = refl;
      left = λ told. crashed ∙ ap (λ x. after_crash x bytes) (sym back);
      image = λ told. (let P : Moment → Type 0 = λ x. IsImage x left_over.seen in subst P (sym back) image);
      plan = cc (calls, room, whole);
    }
