-- How moments come back from notes.
use Rattle.std.proofs.Common.{◌≡◌, ℕ, zero, suc, ◌+◌, ◌≤◌, List, [], ◌∷◌, ◌++◌, length, take, drop, get_or, refl, sym, ap, ◌∙◌, subst, arith, length-drop}
use Rattle.std.proofs.lemmas.List.{take-append-le, drop-append-le, length-take-le}
use Rattle.disk_core.specs.declared.span.Span.{Span}
use Rattle.disk_core.specs.declared.note.Note.{Note}
use Rattle.disk_core.specs.declared.note.Note.TheVariants.{Wrote, Synced, Claimed, Nothing}
use Rattle.disk_core.specs.Images.{Moment, overlay}
use Rattle.disk_core.specs.Notes.{after, replay, befores, IsNoteWithin, AreNotesWithin, AreWithin, IsPlain}
use Rattle.disk_core.proofs.Overlays.{length-overlay}

-- one note more
pub replay-push : (store : List ℕ) (ns : List Note) (n : Note) (m : Moment) → replay store (ns ++ n ∷ []) m ≡ after store n (replay store ns m)
unfolding replay
replay-push store [] n m = refl
replay-push store (k ∷ ns) n m = replay-push store ns n (after store k m)

pub befores-push : (store : List ℕ) (ns : List Note) (n : Note) (m : Moment) → befores store (ns ++ n ∷ []) m ≡ befores store ns m ++ replay store ns m ∷ []
unfolding replay befores
befores-push store [] n m = refl
befores-push store (k ∷ ns) n m = ap (λ ms. m ∷ ms) (befores-push store ns n (after store k m))

pub length-befores : (store : List ℕ) (ns : List Note) (m : Moment) → length (befores store ns m) ≡ length ns
unfolding befores
length-befores store [] m = refl
length-befores store (n ∷ ns) m = ap suc (length-befores store ns (after store n m))

-- more in the store changes nothing for the notes within it
same_part : (store more : List ℕ) (from count : ℕ) → from + count ≤ length store → take count (drop from (store ++ more)) ≡ take count (drop from store)
same_part store more from count within =
    let k : from ≤ length store = omega arith in
    let j : count ≤ length (drop from store) = omega (arith, length-drop from store) in
    ap (λ xs. take count xs) (drop-append-le from store more k) ∙ take-append-le count (drop from store) more j

pub after-longer : (size : ℕ) (store more : List ℕ) (n : Note) (m : Moment) → IsNoteWithin size (length store) n → after (store ++ more) n m ≡ after store n m
after-longer size store more (Wrote at len from count) m within =
    ap (λ bytes. record m { seen = overlay m.seen at bytes; pending = m.pending ++ record { at = at; len = len } ∷ [] }) (same_part store more from count within.2)
after-longer size store more Synced m within = refl
after-longer size store more (Claimed number) m within = refl
after-longer size store more Nothing m within = refl

pub replay-longer : (size : ℕ) (store more : List ℕ) (ns : List Note) (m : Moment) → AreNotesWithin size (length store) ns → replay (store ++ more) ns m ≡ replay store ns m
unfolding replay
replay-longer size store more [] m within = refl
replay-longer size store more (n ∷ ns) m within =
    ap (λ k. replay (store ++ more) ns k) (after-longer size store more n m within.0) ∙ replay-longer size store more ns (after store n m) within.1

pub befores-longer : (size : ℕ) (store more : List ℕ) (ns : List Note) (m : Moment) → AreNotesWithin size (length store) ns → befores (store ++ more) ns m ≡ befores store ns m
unfolding befores
befores-longer size store more [] m within = refl
befores-longer size store more (n ∷ ns) m within =
    ap (λ ms. m ∷ ms) (ap (λ k. befores (store ++ more) ns k) (after-longer size store more n m within.0) ∙ befores-longer size store more ns (after store n m) within.1)

pub within-longer : (size stored more : ℕ) (ns : List Note) → AreNotesWithin size stored ns → AreNotesWithin size (stored + more) ns
within-longer size stored more [] within = tt
within-longer size stored more (Wrote at len from count ∷ ns) within = ((within.0.0, within.0.1, omega (arith, within.0.2)), within-longer size stored more ns within.1)
within-longer size stored more (Synced ∷ ns) within = (tt, within-longer size stored more ns within.1)
within-longer size stored more (Claimed number ∷ ns) within = (tt, within-longer size stored more ns within.1)
within-longer size stored more (Nothing ∷ ns) within = (tt, within-longer size stored more ns within.1)

pub within-push : (size stored : ℕ) (ns : List Note) (n : Note) → AreNotesWithin size stored ns → IsNoteWithin size stored n → AreNotesWithin size stored (ns ++ n ∷ [])
within-push size stored [] n within one = (one, tt)
within-push size stored (k ∷ ns) n within one = (within.0, within-push size stored ns n within.1 one)

pub within-take : (size stored : ℕ) (ns : List Note) (k : ℕ) → AreNotesWithin size stored ns → AreNotesWithin size stored (take k ns)
within-take size stored ns zero within = tt
within-take size stored [] (suc k) within = tt
within-take size stored (n ∷ ns) (suc k) within = (within.0, within-take size stored ns k within.1)

pub ranges-push : (size : ℕ) (rs : List Span) (r : Span) → AreWithin size rs → r.at + r.len ≤ size → AreWithin size (rs ++ r ∷ [])
ranges-push size [] r within one = (one, tt)
ranges-push size (k ∷ rs) r within one = (within.0, ranges-push size rs r within.1 one)

-- a replay keeps the size, and all ranges within it
pub after-size : (stored : ℕ) (store : List ℕ) (n : Note) (m : Moment) → length store ≡ stored → IsNoteWithin (length m.seen) stored n → length (after store n m).seen ≡ length m.seen
after-size stored store (Wrote at len from count) m size within =
    let taken : length (take count (drop from store)) ≡ count = length-take-le count (drop from store) (omega (arith, within.2, length-drop from store)) in
    length-overlay m.seen at (take count (drop from store)) (omega (arith, within.0, within.1))
after-size stored store Synced m size within = refl
after-size stored store (Claimed number) m size within = refl
after-size stored store Nothing m size within = refl

pub after-ranges : (size stored : ℕ) (store : List ℕ) (n : Note) (m : Moment) → IsNoteWithin size stored n → AreWithin size m.pending → AreWithin size (after store n m).pending
after-ranges size stored store (Wrote at len from count) m within ranges = ranges-push size m.pending (record { at = at; len = len }) ranges within.0
after-ranges size stored store Synced m within ranges = tt
after-ranges size stored store (Claimed number) m within ranges = ranges
after-ranges size stored store Nothing m within ranges = ranges

pub replay-size : (size : ℕ) (store : List ℕ) (ns : List Note) (m : Moment) → length m.seen ≡ size → AreNotesWithin size (length store) ns → length (replay store ns m).seen ≡ size
unfolding replay
replay-size size store [] m e within = e
replay-size size store (n ∷ ns) m e within =
    let one : IsNoteWithin (length m.seen) (length store) n = (let P : ℕ → Type 0 = λ k. IsNoteWithin k (length store) n in subst P (sym e) within.0) in
    replay-size size store ns (after store n m) (after-size (length store) store n m refl one ∙ e) within.1

pub replay-ranges : (size stored : ℕ) (store : List ℕ) (ns : List Note) (m : Moment) → AreNotesWithin size stored ns → AreWithin size m.pending → AreWithin size (replay store ns m).pending
unfolding replay
replay-ranges size stored store [] m within ranges = ranges
replay-ranges size stored store (n ∷ ns) m within ranges =
    replay-ranges size stored store ns (after store n m) within.1 (after-ranges size stored store n m within.0 ranges)

-- each moment since the mark is a replay of the first notes
pub moment-replayed : (store : List ℕ) (ns : List Note) (m d : Moment) (k : ℕ) → k ≤ length ns → get_or (befores store ns m ++ replay store ns m ∷ []) k d ≡ replay store (take k ns) m
unfolding replay befores
moment-replayed store [] m d zero within = refl
moment-replayed store [] m d (suc k) within = absurd (omega arith)
moment-replayed store (n ∷ ns) m d zero within = refl
moment-replayed store (n ∷ ns) m d (suc k) within = moment-replayed store ns (after store n m) d k (omega arith)

-- a note of no write says the same over any store
pub after-plain : (store : List ℕ) (n : Note) (m : Moment) → IsPlain n → after store n m ≡ after [] n m
after-plain store (Wrote at len from count) m plain = absurd plain
after-plain store Synced m plain = refl
after-plain store (Claimed number) m plain = refl
after-plain store Nothing m plain = refl
