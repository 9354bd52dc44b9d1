-- What a build keeps, from call to call.
use Rattle.std.proofs.Common.{◌≡◌, inl, inr, ℕ, ◌+◌, ◌≤◌, true, false, List, [], ◌++◌, length, take, Option, Some, None, Ok, Err, refl, sym, ap, ◌∙◌, subst, append_assoc, arith}
use Rattle.std.specs.Prelude.{IsSome}
use Rattle.std.proofs.lemmas.List.{append-nil, take_at}
use Rattle.wire_fields.specs.Reading.{Reading}
use Rattle.wire_fields.specs.declared.endian.Endian.TheVariants.{Little}
use Rattle.registry_defs.specs.Nodes.{Node}
use Rattle.registry_defs.specs.StateFields.{Stop, ◌>>=◌, alone}
use Rattle.registry_defs.specs.StateFields as stops
use Rattle.registry_defs.specs.StateGrammar.{state_of}
use Rattle.registry_states.specs.declared.ahead.Next.{Next}
use Rattle.registry_states.specs.declared.ahead.Next.TheVariants as nexts
use Rattle.registry_states.specs.declared.item.Item.{Item}
use Rattle.registry_states.specs.Ahead.{above_at, all_at, is_nothing}
use Rattle.registry_states.specs.Assembled.{node_in}
use Rattle.registry_states.specs.Builds.{IsAtFault, IsFed, IsKept, IsSound, Kept, Place, Stands, first_place, no_fault, reading_of}
use Rattle.registry_states.specs.Items.{Told, followed, head_at, items_at, items_of}
use Rattle.registry_states.specs.States.{IsFaultAt}
use Rattle.registry_states.specs.Turns.{Grew, IsDone, Rests, course, longest_item}
use Rattle.registry_states.proofs.Feeding.{done_here, sound, waits_here}
use Rattle.registry_states.proofs.ItemKinds.{none_behind}
use Rattle.registry_states.proofs.ItemReads.{root_waits}

abbrev pub kept : ℕ → List Item → Place → Option ℕ → Kept
kept cap told place fault = record { cap = cap; told = told; place = place; fault = fault }

-- ---- before the first piece

nothing_above : (end : ℕ) (read : Told) → followed read (above_at end []) ≡ read
unfolding above_at
nothing_above end (Ok x) = ap (λ (all : List Item). Ok (all, x.1)) (append-nil x.0)
nothing_above end (Err stop) = refl

abbrev first_reading : List ℕ → Reading
first_reading bytes = record { endian = Little; place = 0; left = bytes }

first_goes_on : (cap : ℕ) (more : List ℕ) → items_of cap more ≡ all_at cap [] (course nexts.Root []) (first_reading more)
unfolding items_of all_at
first_goes_on cap more =
    let read : Told = items_at 513 cap [] 0 (first_reading more) in
    ap (λ (told : Told). told >>= alone) (sym (none_behind (followed read (above_at cap [])) ∙ nothing_above cap read))

no_bytes : (cap : ℕ) → head_at [] cap (first_reading []) ≡ Err (stops.Cut 0)
unfolding head_at
no_bytes cap = refl

pub first_stands : (cap : ℕ) → Stands cap [] first_place []
first_stands cap = record { goes_on = first_goes_on cap; counted = refl; fits = omega arith; rests = root_waits cap [] (first_reading []) 0 (no_bytes cap) [] }

pub first_kept : (cap : ℕ) → cap ≤ 16777216 → IsKept (kept cap [] first_place no_fault)
first_kept cap most = record { most = most; within = omega arith; short = omega arith; stream = []; fed = first_stands cap }

-- ---- a further piece

module _ (cap : ℕ) (told : List Item) (place : Place) where
  at_once : (bytes : List ℕ) (at : ℕ) → ((more : List ℕ) → IsAtFault cap (bytes ++ more) at) → IsAtFault cap bytes at
  at_once bytes at faulty = subst (λ (b : List ℕ). IsAtFault cap b at) (append-nil bytes) (faulty [])

  -- A fault that was found stays.
  pub fed_again : (at : ℕ) (stream piece : List ℕ) → IsFed (kept cap told place (Some at)) stream → IsFed (kept cap told place (Some at)) (stream ++ piece) × IsAtFault cap (stream ++ piece) at
  fed_again at stream piece fed =
      (λ more. subst (λ (b : List ℕ). IsAtFault cap b at) (sym (append_assoc stream piece more)) (fed (piece ++ more)), fed piece)

  pub fed_ok : (told_now : List Item) (place_now : Place) (stream piece : List ℕ) → ((stream : List ℕ) → Stands cap told place stream → Stands cap told_now place_now (stream ++ piece))
      → IsFed (kept cap told place no_fault) stream → IsFed (kept cap told_now place_now no_fault) (stream ++ piece) × IsSound cap (stream ++ piece)
  fed_ok told_now place_now stream piece on fed =
      let now = on stream fed in
      (now, sound cap told_now place_now (stream ++ piece) now)

  pub fed_bad : (told_now : List Item) (at : ℕ) (stream piece : List ℕ) → ((stream : List ℕ) → Stands cap told place stream → (more : List ℕ) → IsAtFault cap ((stream ++ piece) ++ more) at)
      → IsFed (kept cap told place no_fault) stream → IsFed (kept cap told_now place (Some at)) (stream ++ piece) × IsAtFault cap (stream ++ piece) at
  fed_bad told_now at stream piece on fed = (on stream fed, at_once (stream ++ piece) at (on stream fed))

pub none_of : (fault : Option ℕ) → ((at : ℕ) → fault ≡ Some at → ⊥) → fault ≡ no_fault
none_of None none = refl
none_of (Some at) none = absurd (none at refl)

module _ (cap : ℕ) (told : List Item) (place : Place) (fault : Option ℕ) (none : fault ≡ no_fault) (told_now : List Item) (piece : List ℕ) where
  module _ (place_now : Place) (on : (stream : List ℕ) → Stands cap told place stream → Stands cap told_now place_now (stream ++ piece)) where
    pub ok_kept : place_now.taken + length place_now.pending ≤ cap → length place_now.pending ≤ longest_item → IsKept (kept cap told place fault) → IsKept (kept cap told_now place_now fault)
    ok_kept within short = subst (λ (f : Option ℕ). IsKept (kept cap told place f) → IsKept (kept cap told_now place_now f)) (sym none)
        (λ is. record { most = is.most; within = within; short = short; stream = is.stream ++ piece; fed = on is.stream is.fed })

    pub ok_fed : (stream : List ℕ) → IsFed (kept cap told place fault) stream → IsFed (kept cap told_now place_now fault) (stream ++ piece) × IsSound cap (stream ++ piece)
    ok_fed stream = subst (λ (f : Option ℕ). IsFed (kept cap told place f) stream → IsFed (kept cap told_now place_now f) (stream ++ piece) × IsSound cap (stream ++ piece)) (sym none)
        (fed_ok cap told place told_now place_now stream piece on)

  module _ (at : ℕ) (on : (stream : List ℕ) → Stands cap told place stream → (more : List ℕ) → IsAtFault cap ((stream ++ piece) ++ more) at) where
    pub bad_kept : IsKept (kept cap told place fault) → IsKept (kept cap told_now place (Some at))
    bad_kept = subst (λ (f : Option ℕ). IsKept (kept cap told place f) → IsKept (kept cap told_now place (Some at))) (sym none)
        (λ is. record { most = is.most; within = is.within; short = is.short; stream = is.stream ++ piece; fed = on is.stream is.fed })

    pub bad_fed : (stream : List ℕ) → IsFed (kept cap told place fault) stream → IsFed (kept cap told_now place (Some at)) (stream ++ piece) × IsAtFault cap (stream ++ piece) at
    bad_fed stream = subst (λ (f : Option ℕ). IsFed (kept cap told place f) stream → IsFed (kept cap told_now place (Some at)) (stream ++ piece) × IsAtFault cap (stream ++ piece) at) (sym none)
        (fed_bad cap told place told_now at stream piece on)

pub untold : (told told_now left : List Item) (many : ℕ) → Grew told told_now → left ≡ take many told_now → many ≡ length told → left ≡ told
untold told told_now left many grew left_is many_is =
    left_is ∙ ap (λ (n : ℕ). take n told_now) many_is ∙ ap (λ (all : List Item). take (length told) all) grew.all ∙ take_at told grew.added (length told) refl

-- ---- the end

pub finish_fault : (cap : ℕ) (told : List Item) (place : Place) (at : ℕ) (stream : List ℕ) → IsFed (kept cap told place (Some at)) stream → IsFaultAt at (state_of cap stream)
finish_fault cap told place at stream fed = by (at_once cap told place stream at fed)
  where
    by : IsAtFault cap stream at → IsFaultAt at (state_of cap stream)
    by (inl bad) = inl bad
    by (inr (long, cut)) = inr cut

module _ (cap : ℕ) (told : List Item) (place : Place) where
  cut_by : (next : Next) (stream : List ℕ) → is_nothing next ≡ false → Stands cap told place stream → Rests next cap told place.ahead (reading_of place []) place.cut → IsFaultAt place.cut (state_of cap stream)
  cut_by nexts.Nothing stream some stands rests = absurd cc
  cut_by nexts.Root stream some stands rests = inr (waits_here cap told place stream stands rests)
  cut_by (nexts.Values left used depth) stream some stands rests = inr (waits_here cap told place stream stands rests)
  cut_by (nexts.Subkeys level) stream some stands rests = inr (waits_here cap told place stream stands rests)

  pub finish_cut : (stream : List ℕ) → is_nothing place.ahead.next ≡ false → IsFed (kept cap told place no_fault) stream → IsFaultAt place.cut (state_of cap stream)
  finish_cut stream some fed = cut_by place.ahead.next stream some fed fed.rests

  done_by : (next : Next) → is_nothing next ≡ true → Rests next cap told place.ahead (reading_of place []) place.cut → IsDone cap told place.ahead (reading_of place [])
  done_by nexts.Nothing none rests = rests
  done_by nexts.Root none rests = absurd cc
  done_by (nexts.Values left used depth) none rests = absurd cc
  done_by (nexts.Subkeys level) none rests = absurd cc

  done_tree : (stream : List ℕ) → is_nothing place.ahead.next ≡ true → Stands cap told place stream → (root : Node) × (state_of cap stream ≡ Ok root) × (node_in 513 told ≡ Some (root, []))
  done_tree stream none stands = done_here cap told place stream stands (done_by place.ahead.next none stands.rests)

  pub has_tree : is_nothing place.ahead.next ≡ true → IsKept (kept cap told place no_fault) → IsSome (node_in 513 told)
  has_tree none is =
      let tree = done_tree is.stream none is.fed in
      subst (λ (found : Option (Node × List Item)). IsSome found) (sym tree.2) refl

  abbrev pair : Node → List Item → Node × List Item
  pair a x = (a, x)

  same_tree : (a b : Node) (x y : List Item) (found : Option (Node × List Item)) → found ≡ Some (a, x) → found ≡ Some (b, y) → a ≡ b
  same_tree a b x y found e f =
      let both : pair a x ≡ pair b y = cc in
      ap (λ (p : Node × List Item). p.0) both

  pub finish_done : (stream : List ℕ) (root : Node) (rest : List Item) → is_nothing place.ahead.next ≡ true → node_in 513 told ≡ Some (root, rest) → IsFed (kept cap told place no_fault) stream → state_of cap stream ≡ Ok root
  finish_done stream root rest none is fed =
      let tree = done_tree stream none fed in
      tree.1 ∙ ap (λ (node : Node). Ok node) (same_tree tree.0 root [] rest (node_in 513 told) tree.2 is)

module _ (cap : ℕ) (told : List Item) (place : Place) (fault : Option ℕ) where
  pub ends_fault : (at : ℕ) → fault ≡ Some at → (stream : List ℕ) → IsFed (kept cap told place fault) stream → IsFaultAt at (state_of cap stream)
  ends_fault at is stream = subst (λ (f : Option ℕ). IsFed (kept cap told place f) stream → IsFaultAt at (state_of cap stream)) (sym is) (finish_fault cap told place at stream)

  module _ (none : fault ≡ no_fault) where
    pub ends_cut : is_nothing place.ahead.next ≡ false → (stream : List ℕ) → IsFed (kept cap told place fault) stream → IsFaultAt place.cut (state_of cap stream)
    ends_cut some stream = subst (λ (f : Option ℕ). IsFed (kept cap told place f) stream → IsFaultAt place.cut (state_of cap stream)) (sym none) (finish_cut cap told place stream some)

    pub ends_tree : is_nothing place.ahead.next ≡ true → IsKept (kept cap told place fault) → IsSome (node_in 513 told)
    ends_tree done = subst (λ (f : Option ℕ). IsKept (kept cap told place f) → IsSome (node_in 513 told)) (sym none) (has_tree cap told place done)

    pub ends_done : (root : Node) (rest : List Item) → is_nothing place.ahead.next ≡ true → node_in 513 told ≡ Some (root, rest) → (stream : List ℕ) → IsFed (kept cap told place fault) stream → state_of cap stream ≡ Ok root
    ends_done root rest done is stream =
        subst (λ (f : Option ℕ). IsFed (kept cap told place f) stream → state_of cap stream ≡ Ok root) (sym none) (finish_done cap told place stream root rest done is)
