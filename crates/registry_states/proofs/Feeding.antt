-- A further piece of a state.
use Rattle.std.proofs.Common.{◌≡◌, inl, inr, ℕ, ◌+◌, ◌<◌, ◌≤◌, List, [], ◌++◌, length, Some, Result, Ok, Err, sym, ap, ◌∙◌, subst, append_assoc, length-append, arith}
use Rattle.std.proofs.lemmas.List.{append-nil}
use Rattle.wire_fields.specs.Reading.{Reading}
use Rattle.registry_defs.specs.Nodes.{Node}
use Rattle.registry_defs.specs.StateFields.{Stop}
use Rattle.registry_defs.specs.StateFields as stops
use Rattle.registry_defs.specs.StateGrammar.{state_of}
use Rattle.registry_states.specs.declared.ahead.Next.{Next}
use Rattle.registry_states.specs.declared.ahead.Next.TheVariants as nexts
use Rattle.registry_states.specs.declared.item.Item.{Item}
use Rattle.registry_states.specs.Ahead.{Course, all_at}
use Rattle.registry_states.specs.Assembled.{node_in}
use Rattle.registry_states.specs.Builds.{IsAtFault, IsSound, IsWholeOrCut, Place, Stands, reading_of}
use Rattle.registry_states.specs.Items.{items_of}
use Rattle.registry_states.specs.Moves.{StopsAt, end_of, further}
use Rattle.registry_states.specs.Turns.{Breaks, Follows, IsDone, Rests, Waits}
use Rattle.registry_states.proofs.Steady.{same_end}
use Rattle.registry_states.proofs.Trees.{TellsState, state_tells}

-- ---- what the items tell of the state

pub state_stops : (cap : ℕ) (bytes : List ℕ) (stop : Stop) → items_of cap bytes ≡ Err stop → state_of cap bytes ≡ Err stop
state_stops cap bytes stop is = subst (λ (told : Result (List Item) Stop). TellsState told (state_of cap bytes)) is (state_tells cap bytes)

pub state_is : (cap : ℕ) (bytes : List ℕ) (told : List Item) → items_of cap bytes ≡ Ok told → (root : Node) × (state_of cap bytes ≡ Ok root) × (node_in 513 told ≡ Some (root, []))
state_is cap bytes told is = subst (λ (told : Result (List Item) Stop). TellsState told (state_of cap bytes)) is (state_tells cap bytes)

at_fault : (cap : ℕ) (bytes : List ℕ) (place : ℕ) → cap < length bytes → StopsAt place (items_of cap bytes) → IsAtFault cap bytes place
at_fault cap bytes place long (inl bad) = inl (state_stops cap bytes (stops.Bad place) bad)
at_fault cap bytes place long (inr cut) = inr (long, state_stops cap bytes (stops.Cut place) cut)

-- ---- the piece

regrouped : (a b c d : List ℕ) → (a ++ (b ++ c)) ++ d ≡ a ++ (b ++ (c ++ d))
regrouped a b c d = simp append_assoc

module _ (cap : ℕ) (told : List Item) (before : Place) (stream : List ℕ) (stands : Stands cap told before stream) (front rest piece : List ℕ) (cut_is : piece ≡ front ++ rest) where
  told_on : (more : List ℕ) → items_of cap ((stream ++ piece) ++ more) ≡ all_at cap told before.ahead (further (rest ++ more) (reading_of before front))
  told_on more =
      let same : (stream ++ piece) ++ more ≡ stream ++ (front ++ (rest ++ more)) = ap (λ p. (stream ++ p) ++ more) cut_is ∙ regrouped stream front rest more in
      let left : before.pending ++ (front ++ (rest ++ more)) ≡ (before.pending ++ front) ++ (rest ++ more) = sym (append_assoc before.pending front (rest ++ more)) in
      ap (items_of cap) same ∙ stands.goes_on (front ++ (rest ++ more)) ∙ ap (λ (bytes : List ℕ). all_at cap told before.ahead (record { endian = (reading_of before []).endian; place = before.taken; left = bytes })) left

  total : length (stream ++ piece) ≡ end_of (reading_of before front) + length rest
  total = omega (arith, length-append stream piece, ap length cut_is, length-append front rest, length-append before.pending front, stands.counted)

  pub breaks_all : (place : ℕ) → Breaks cap told before.ahead (reading_of before front) place → (more : List ℕ) → IsAtFault cap ((stream ++ piece) ++ more) place
  breaks_all place breaks more = inl (state_stops cap ((stream ++ piece) ++ more) (stops.Bad place) (told_on more ∙ breaks (rest ++ more)))

  module _ (told_now : List Item) (ahead : Course) (t : Reading) (cut : ℕ) (follows : Follows cap told before.ahead (reading_of before front) told_now ahead t) where
    told_then : (more : List ℕ) → items_of cap ((stream ++ piece) ++ more) ≡ all_at cap told_now ahead (further (rest ++ more) t)
    told_then more = told_on more ∙ follows.same (rest ++ more)

    ends_same : end_of t ≡ end_of (reading_of before front)
    ends_same = same_end (reading_of before front) t follows.over

    waits_past : cap < end_of (reading_of before front) → Waits cap told_now ahead t cut → (more : List ℕ) → IsAtFault cap ((stream ++ piece) ++ more) cut
    waits_past past waits more =
        let long : cap < length ((stream ++ piece) ++ more) = omega (arith, past, total, length-append (stream ++ piece) more) in
        at_fault cap ((stream ++ piece) ++ more) cut long
        (subst (λ (read : Result (List Item) Stop). StopsAt cut read) (sym (told_then more)) (waits.past (omega (arith, past, ends_same)) (rest ++ more)))

    never_done : cap < end_of (reading_of before front) → IsDone cap told_now ahead t → ⊥
    never_done past done =
        let start : before.taken ≤ cap = omega (arith, stands.counted, stands.fits) in
        omega (arith, past, ends_same, follows.within start, ap length done.ended)

    passed : (next : Next) → cap < end_of (reading_of before front) → Rests next cap told_now ahead t cut → (more : List ℕ) → IsAtFault cap ((stream ++ piece) ++ more) cut
    passed nexts.Nothing past done more = absurd (never_done past done)
    passed nexts.Root past waits more = waits_past past waits more
    passed (nexts.Values left used depth) past waits more = waits_past past waits more
    passed (nexts.Subkeys level) past waits more = waits_past past waits more

    pub passes_cap : cap < end_of (reading_of before front) → Rests ahead.next cap told_now ahead t cut → (more : List ℕ) → IsAtFault cap ((stream ++ piece) ++ more) cut
    passes_cap past rests more = passed ahead.next past rests more

    abbrev pub place_now : Place
    place_now = record { ahead = ahead; taken = t.place; pending = t.left; cut = cut }

    as_kept : (more : List ℕ) → further more t ≡ reading_of place_now more
    as_kept more = ap (λ order. record { endian = order; place = t.place; left = t.left ++ more }) follows.over.order

    kept_now : t ≡ reading_of place_now []
    kept_now = ap (λ left. record { endian = t.endian; place = t.place; left = left }) (sym (append-nil t.left)) ∙ as_kept []

    pub stands_now : end_of (reading_of before front) ≤ cap → rest ≡ [] → Rests ahead.next cap told_now ahead t cut → Stands cap told_now place_now (stream ++ piece)
    stands_now fits none rests = record {
      goes_on = λ more. told_then more ∙ ap (λ (behind : List ℕ). all_at cap told_now ahead (further (behind ++ more) t)) none ∙ ap (all_at cap told_now ahead) (as_kept more);
      counted = omega (arith, total, ends_same, ap length none);
      fits = omega (arith, total, fits, ap length none);
      rests = subst (λ (s : Reading). Rests ahead.next cap told_now ahead s cut) kept_now rests;
    }

-- ---- what reading came to

module _ (cap : ℕ) (told : List Item) (place : Place) (stream : List ℕ) (stands : Stands cap told place stream) where
  known : items_of cap stream ≡ all_at cap told place.ahead (reading_of place [])
  known = ap (items_of cap) (sym (append-nil stream)) ∙ stands.goes_on []

  pub waits_here : Waits cap told place.ahead (reading_of place []) place.cut → state_of cap stream ≡ Err (stops.Cut place.cut)
  waits_here waits = state_stops cap stream (stops.Cut place.cut) (known ∙ waits.cut)

  pub done_here : IsDone cap told place.ahead (reading_of place []) → (root : Node) × (state_of cap stream ≡ Ok root) × (node_in 513 told ≡ Some (root, []))
  done_here done = state_is cap stream told (known ∙ done.all)

  cut_sound : state_of cap stream ≡ Err (stops.Cut place.cut) → IsSound cap stream
  cut_sound is = record { fits = stands.fits; reads = subst (λ (read : Result Node Stop). IsWholeOrCut read) (sym is) tt }

  done_sound : (root : Node) × (state_of cap stream ≡ Ok root) × (node_in 513 told ≡ Some (root, [])) → IsSound cap stream
  done_sound (root, is, tree) = record { fits = stands.fits; reads = subst (λ (read : Result Node Stop). IsWholeOrCut read) (sym is) tt }

  sound_by : (next : Next) → Rests next cap told place.ahead (reading_of place []) place.cut → IsSound cap stream
  sound_by nexts.Nothing done = done_sound (done_here done)
  sound_by nexts.Root waits = cut_sound (waits_here waits)
  sound_by (nexts.Values left used depth) waits = cut_sound (waits_here waits)
  sound_by (nexts.Subkeys level) waits = cut_sound (waits_here waits)

  pub sound : IsSound cap stream
  sound = sound_by place.ahead.next stands.rests
