-- What reading a piece comes to, in the words of the code.
use Rattle.std.proofs.Common.{◌≡◌, ℕ, ◌+◌, ◌-◌, ◌<◌, ◌≤◌, List, ◌++◌, length, take, drop, Result, Ok, Err, refl, sym, ap, ◌∙◌, subst, length-append, arith}
use Rattle.std.specs.Prelude.{min}
use Rattle.std.proofs.lemmas.List.{take-append-drop, drop_all, drop_at, length-take-le}
use Rattle.wire_fields.specs.Reading.{Reading}
use Rattle.wire_fields.specs.declared.endian.Endian.TheVariants.{Little}
use Rattle.registry_states.specs.declared.fault.StateFault.{StateFault}
use Rattle.registry_states.specs.declared.fault.StateFault.TheVariants as faults
use Rattle.registry_states.specs.declared.item.Item.{Item}
use Rattle.registry_states.specs.declared.turning.Reach.{Reach}
use Rattle.registry_states.specs.Ahead.{Course}
use Rattle.registry_states.specs.Builds.{IsAtFault, PieceIs, Place, Stands, reading_of}
use Rattle.registry_states.specs.Moves.{end_of}
use Rattle.registry_states.specs.Turns.{Follows, Reaches, Rests}
use Rattle.registry_states.proofs.Feeding.{breaks_all, passes_cap, stands_now}

abbrev Reached : ℕ → List Item → Course → Reading → List Item → Course → Reach → Type 0
Reached cap told ahead s told_now ahead_now reach = (t : Reading) × (t.place ≡ reach.taken) × Follows cap told ahead s told_now ahead_now t × Rests ahead_now.next cap told_now ahead_now t reach.cut

abbrev pub reading_at : Place → List ℕ → Reading
reading_at place left = record { endian = Little; place = place.taken; left = left }

abbrev made_place : Course → ℕ → List ℕ → ℕ → Place
made_place ahead taken pending cut = record { ahead = ahead; taken = taken; pending = pending; cut = cut }

as_read : (result : Result Reach StateFault) (cap : ℕ) (told : List Item) (ahead before : Course) (s read : Reading) (told_now : List Item) (ahead_now : Course) → ahead ≡ before → s ≡ read
    → Reaches result cap told ahead s told_now ahead_now → Reaches result cap told before read told_now ahead_now
as_read result cap told ahead before s read told_now ahead_now same same_read reaches =
    subst (λ (x : Reading). Reaches result cap told before x told_now ahead_now) same_read (subst (λ (x : Course). Reaches result cap told x s told_now ahead_now) same reaches)

module _ (cap : ℕ) (told : List Item) (before : Place) (ahead : Course) (ahead_is : ahead ≡ before.ahead) (s : Reading) (piece bytes : List ℕ) (count : ℕ)
    (bytes_are : bytes ≡ before.pending ++ take count piece) (s_is : s ≡ reading_of before (take count piece))
    (told_now : List Item) (ahead_now : Course) where
  pub piece_fails : (fault : StateFault) → Reaches (Err fault) cap told ahead s told_now ahead_now → (stream : List ℕ) → Stands cap told before stream → PieceIs (Err fault) cap told_now (stream ++ piece)
  piece_fails faults.Memory reaches stream stands = tt
  piece_fails (faults.Bad place) reaches stream stands =
      breaks_all cap told before stream stands (take count piece) (drop count piece) piece (sym (take-append-drop count piece)) place
      (as_read (Err (faults.Bad place)) cap told ahead before.ahead s (reading_of before (take count piece)) told_now ahead_now ahead_is s_is reaches)

  module _ (reach : Reach) (reaches : Reaches (Ok reach) cap told ahead s told_now ahead_now) where
    read : Reached cap told before.ahead (reading_of before (take count piece)) told_now ahead_now reach
    read = as_read (Ok reach) cap told ahead before.ahead s (reading_of before (take count piece)) told_now ahead_now ahead_is s_is reaches

    total_is : end_of (reading_of before (take count piece)) ≡ before.taken + length bytes
    total_is = ap (λ (l : List ℕ). before.taken + length l) (sym bytes_are)

    pub piece_over : cap < before.taken + length bytes → (stream : List ℕ) → Stands cap told before stream → (more : List ℕ) → IsAtFault cap ((stream ++ piece) ++ more) reach.cut
    piece_over past stream stands =
        passes_cap cap told before stream stands (take count piece) (drop count piece) piece (sym (take-append-drop count piece)) told_now ahead_now read.0 reach.cut read.2
        (omega (arith, past, total_is)) read.3

    module _ (pending : List ℕ) (room : ℕ) (pending_is : pending ≡ drop (reach.taken - before.taken) bytes) (count_is : count ≡ min (length piece) room) (room_is : room ≡ cap + 1 - (before.taken + length before.pending))
        (so_far : before.taken + length before.pending ≤ cap) (fits : before.taken + length bytes ≤ cap) where
      counted : length (take count piece) ≡ count
      counted = length-take-le count piece (omega (arith, count_is))

      whole : length piece ≤ count
      whole = omega (arith, count_is, room_is, so_far, fits, counted, ap length bytes_are, length-append before.pending (take count piece))

      left_is : pending ≡ read.0.left
      left_is =
          let over = read.2.over in
          let far : reach.taken - before.taken ≡ length over.front = omega (arith, sym read.1, over.place) in
          pending_is ∙ ap (λ (n : ℕ). drop n bytes) far ∙ ap (λ (l : List ℕ). drop (length over.front) l) (bytes_are ∙ over.parts) ∙ drop_at over.front read.0.left (length over.front) refl

      place_is : (ahead : Course) (place taken : ℕ) (left kept : List ℕ) (cut : ℕ) → place ≡ taken → kept ≡ left → made_place ahead place left cut ≡ made_place ahead taken kept cut
      place_is ahead place taken left kept cut e f = rw (e, f) refl

      pub piece_stands : (stream : List ℕ) → Stands cap told before stream → Stands cap told_now (record { ahead = ahead_now; taken = reach.taken; pending = pending; cut = reach.cut }) (stream ++ piece)
      piece_stands stream stands =
          subst (λ (place : Place). Stands cap told_now place (stream ++ piece)) (place_is ahead_now read.0.place reach.taken read.0.left pending reach.cut read.1 left_is)
          (stands_now cap told before stream stands (take count piece) (drop count piece) piece (sym (take-append-drop count piece)) told_now ahead_now read.0 reach.cut read.2
          (omega (arith, fits, total_is)) (drop_all count piece whole) read.3)

pub reading_is : (place : Place) (s : Reading) (left bytes front : List ℕ) → s ≡ reading_at place left → left ≡ bytes → bytes ≡ place.pending ++ front → s ≡ reading_of place front
reading_is place s left bytes front e f g = e ∙ ap (reading_at place) (f ∙ g)
