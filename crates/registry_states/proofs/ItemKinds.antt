-- Each kind of item: what it is read by, and that all that a state tells is the same before and after.
use Rattle.std.proofs.Common.{◌≡◌, inl, inr, ℕ, zero, suc, ◌+◌, ◌-◌, ◌*◌, ◌<◌, ◌≤◌, true, List, [], ◌∷◌, ◌++◌, length, map, Option, Some, None, Result, Ok, Err, refl, sym, ap, ◌∙◌, subst, append_assoc, length-append, arith}
use Rattle.wire_fields.specs.Reading.{Reading, number_at}
use Rattle.registry_defs.specs.Keys.{ValueData, Values}
use Rattle.registry_defs.specs.StateFields.{Stop, ◌>>=◌, alone, field_at}
use Rattle.registry_defs.specs.StateFields as stops
use Rattle.registry_defs.specs.StateGrammar.{birth_in, fits_birth, part_at, tells_written, value_at, values_at, written_at}
use Rattle.clus_names.specs.Folding.{folded}
use Rattle.registry_states.specs.declared.ahead.Level.{Level}
use Rattle.registry_states.specs.declared.ahead.Next.{Next}
use Rattle.registry_states.specs.declared.ahead.Next.TheVariants as nexts
use Rattle.registry_states.specs.declared.item.Head.{Head}
use Rattle.registry_states.specs.declared.item.Item.{Item}
use Rattle.registry_states.specs.declared.item.Item.TheVariants as items
use Rattle.registry_states.specs.declared.read_fault.ReadFault.{ReadFault}
use Rattle.registry_states.specs.declared.read_fault.ReadFault.TheVariants.{Cut, Bad, Memory}
use Rattle.registry_states.specs.Ahead.{Course, above_at, all_at, last_value, rest_at, value_name}
use Rattle.registry_states.specs.Items.{Told, behind, counted_below, deep_head_at, followed, head_at, items_at, items_below, items_left, subkey_at, value_item, value_items_at}
use Rattle.registry_states.specs.Moves.{StopsAt, further}
use Rattle.registry_states.specs.Readers.{FailsAt}
use Rattle.registry_states.specs.Turns.{Breaks, Grew, Reads, Waits, WasRead, course, longest_item, next_weight}
use Rattle.registry_states.proofs.Lasts.{last_more}
use Rattle.registry_states.proofs.Steady.{Steady}

-- ---- items joined

pub behind_behind : (a b : List Item) (read : Told) → behind a (behind b read) ≡ behind (a ++ b) read
behind_behind a b (Ok x) = ap (λ all. Ok (all, x.1)) (sym (append_assoc a b x.0))
behind_behind a b (Err stop) = refl

pub none_behind : (read : Told) → behind [] read ≡ read
none_behind (Ok x) = refl
none_behind (Err stop) = refl

pub behind_followed : (a : List Item) (read : Told) (next : Reading → Told) → followed (behind a read) next ≡ behind a (followed read next)
behind_followed a (Ok x) next = sym (behind_behind a x.0 (next x.1))
behind_followed a (Err stop) next = refl

pub followed_on : (read : Told) (next last both : Reading → Told) → ((t : Reading) → both t ≡ followed (next t) last) → followed (followed read next) last ≡ followed read both
followed_on (Ok x) next last both is = behind_followed x.0 (next x.1) last ∙ ap (behind x.0) (sym (is x.1))
followed_on (Err stop) next last both is = refl

-- ---- what a kind of item has

told_then : {X : Type 0} → (X → List Item) → (X → Reading → Told) → Result (X × Reading) Stop → Told
told_then front rest read = read >>= λ x. behind (front x.0) (rest x.0 x.1)

module _ {X : Type 0} (end : ℕ) (told : List Item) (next : Next) (one : Reading → Result (X × Reading) Stop) (front : X → List Item) (to : X → List Level → Course)
    (low high : ℕ) (few : high ≤ longest_item)
    (is : (above : List Level) (s : Reading) → rest_at end told (course next above) s ≡ (one s >>= λ x. behind (front x.0) (rest_at end (told ++ front x.0) (to x.0 above) x.1)))
    (lighter : (x : X) (above : List Level) → 2 * length (to x above).above + next_weight (to x above).next < low + (2 * length above + next_weight next))
    (steady : (s : Reading) (more : List ℕ) → Steady end low high s more (one s) (one (further more s))) where
  all_stops : (above : List Level) (s : Reading) (stop : Stop) → one s ≡ Err stop → all_at end told (course next above) s ≡ Err stop
  unfolding all_at
  all_stops above s stop e = rw (is above s, e) refl

  all_goes_on : (above : List Level) (s : Reading) (x : X) (t : Reading) → one s ≡ Ok (x, t) → all_at end told (course next above) s ≡ all_at end (told ++ front x) (to x above) t
  unfolding all_at
  all_goes_on above s x t e = rw (is above s, e) (ap (λ (read : Told). read >>= alone) (behind_behind told (front x) (rest_at end (told ++ front x) (to x above) t)))

  pub read_ok : (s : Reading) (x : X) (t : Reading) → one s ≡ Ok (x, t) → (above : List Level) → WasRead end told (course next above) s (told ++ front x) (to x above) t
  read_ok s x t e above =
      let at : (more : List ℕ) → Steady end low high s more (Ok (x, t)) (one (further more s)) = λ more. subst (λ (now : Result (X × Reading) Stop). Steady end low high s more now (one (further more s))) e (steady s more) in
      let moved = (at []).1 in
      record {
        follows = record {
          same = λ more. all_goes_on above (further more s) x (further more t) (at more).0;
          over = moved.over;
          within = (at []).2;
        };
        closer = omega (arith, lighter x above, moved.least, ap length moved.over.parts, length-append moved.over.front t.left);
      }

  pub read_bad : (s : Reading) (place : ℕ) → one s ≡ Err (stops.Bad place) → (above : List Level) → Breaks end told (course next above) s place
  read_bad s place e above more =
      let at : Steady end low high s more (Err (stops.Bad place)) (one (further more s)) = subst (λ (now : Result (X × Reading) Stop). Steady end low high s more now (one (further more s))) e (steady s more) in
      all_stops above (further more s) (stops.Bad place) at

  stop_all : (above : List Level) (s : Reading) (place : ℕ) → StopsAt place (one s) → StopsAt place (all_at end told (course next above) s)
  stop_all above s place (inl bad) = inl (all_stops above s (stops.Bad place) bad)
  stop_all above s place (inr cut) = inr (all_stops above s (stops.Cut place) cut)

  pub read_cut : (s : Reading) (place : ℕ) → one s ≡ Err (stops.Cut place) → (above : List Level) → Waits end told (course next above) s place
  read_cut s place e above =
      let at : (more : List ℕ) → Steady end low high s more (Err (stops.Cut place)) (one (further more s)) = λ more. subst (λ (now : Result (X × Reading) Stop). Steady end low high s more now (one (further more s))) e (steady s more) in
      record {
        cut = all_stops above s (stops.Cut place) e;
        short = omega (arith, few, (at []).0);
        past = λ beyond more. stop_all above (further more s) place ((at more).1 beyond);
      }

  pub read_fails : {Y : Type 0} (view : Y → List Level → Course) (fault : ReadFault) (s t : Reading) (told_now : List Item) → FailsAt fault (one s) → told_now ≡ told → Reads view (Err fault) end told next s told_now t
  read_fails view (Cut place) s t told_now e same = (same, read_cut s place e)
  read_fails view (Bad place) s t told_now e same = (same, read_bad s place e)
  read_fails view Memory s t told_now e same = same

  pub read_gives : (s : Reading) (x : X) (t : Reading) (told_now : List Item) → one s ≡ Ok (x, t) → told_now ≡ told ++ front x
      → Grew told told_now × ((above : List Level) → WasRead end told (course next above) s told_now (to x above) t)
  read_gives s x t told_now e grown =
      (record { added = front x; all = grown }, λ above. subst (λ (all : List Item). WasRead end told (course next above) s all (to x above) t) (sym grown) (read_ok s x t e above))

-- ---- the root

abbrev pub head_front : Head → List Item
head_front head = items.Head head ∷ []

abbrev pub root_to : Head → List Level → Course
root_to head above = course (nexts.Values head.values 0 512) above

no_value : (told : List Item) (head : Head) → last_value (told ++ items.Head head ∷ []) ≡ None
no_value told head = ap value_name (last_more None told (items.Head head))

module _ (end : ℕ) (told : List Item) where
  root_by : (above : List Level) (read : Result (Head × Reading) Stop)
      → followed (read >>= λ head. behind (items.Head head.0 ∷ []) (items_left (items_at 512 end) head.0.values None 0 end head.1)) (above_at end above)
      ≡ (read >>= λ x. behind (head_front x.0) (rest_at end (told ++ head_front x.0) (root_to x.0 above) x.1))
  root_by above (Ok x) = rw (no_value told x.0) (behind_followed (items.Head x.0 ∷ []) (items_left (items_at 512 end) x.0.values None 0 end x.1) (above_at end above))
  root_by above (Err stop) = refl

  pub root_is : (above : List Level) (s : Reading)
      → rest_at end told (course nexts.Root above) s ≡ (head_at [] end s >>= λ x. behind (head_front x.0) (rest_at end (told ++ head_front x.0) (root_to x.0 above) x.1))
  unfolding items_at
  root_is above s = root_by above (head_at [] end s)

  pub root_lighter : (x : Head) (above : List Level) → 2 * length (root_to x above).above + next_weight (root_to x above).next < 12 + (2 * length above + next_weight nexts.Root)
  root_lighter x above = omega arith

-- ---- a value

abbrev pub value_front : ValueData → List Item
value_front value = value_item value ∷ []

module _ (end : ℕ) (told : List Item) (left used depth : ℕ) where
  abbrev pub value_to : ValueData → List Level → Course
  value_to value above = course (nexts.Values left used depth) above

  a_value : (value : ValueData) → last_value (told ++ value_item value ∷ []) ≡ Some value.name
  a_value value = ap value_name (last_more None told (value_item value))

  abbrev one_more : List ℕ → ValueData → Result (Values × Reading) Stop → Result (Values × Reading) Stop
  one_more name value others = others >>= λ others. Ok ((name, value) ∷ others.0, others.1)

  abbrev as_items : Result (Values × Reading) Stop → Told
  as_items values = values >>= λ values. Ok (map (λ entry. value_item entry.1) values.0, values.1)

  others_by : (name : List ℕ) (value : ValueData) (others : Result (Values × Reading) Stop) → as_items (one_more name value others) ≡ behind (value_item value ∷ []) (as_items others)
  others_by name value (Ok x) = refl
  others_by name value (Err stop) = refl

  counted : Reading → Told
  counted t = counted_below (items_at depth end) used end t

  value_by : (above : List Level) (read : Result (ValueData × Reading) Stop)
      → followed (followed (as_items (read >>= λ first. one_more (folded first.0.name) first.0 (values_at left (Some first.0.name) end first.1))) (counted_below (items_at depth end) used end)) (above_at end above)
      ≡ (read >>= λ x. behind (value_front x.0) (rest_at end (told ++ value_front x.0) (value_to x.0 above) x.1))
  value_by above (Ok x) =
      let V : Told = value_items_at left (Some x.0.name) end x.1 in
      let front : List Item = value_item x.0 ∷ [] in
      let C : Reading → Told = counted_below (items_at depth end) used end in
      rw (a_value x.0)
      (ap (λ (read : Told). followed (followed read C) (above_at end above)) (others_by (folded x.0.name) x.0 (values_at left (Some x.0.name) end x.1))
      ∙ ap (λ (read : Told). followed read (above_at end above)) (behind_followed front V C)
      ∙ behind_followed front (followed V C) (above_at end above))
  value_by above (Err stop) = refl

  pub value_is : (above : List Level) (s : Reading)
      → rest_at end told (course (nexts.Values (suc left) used depth) above) s
      ≡ (value_at (last_value told) end s >>= λ x. behind (value_front x.0) (rest_at end (told ++ value_front x.0) (value_to x.0 above) x.1))
  unfolding values_at
  value_is above s = value_by above (value_at (last_value told) end s)

  pub value_lighter : (x : ValueData) (above : List Level) → 2 * length (value_to x above).above + next_weight (value_to x above).next < 10 + (2 * length above + next_weight (nexts.Values (suc left) used depth))
  value_lighter x above = omega arith

-- ---- the count of subkeys

abbrev pub count_front : ℕ → List Item
count_front count = items.Subkeys count ∷ []

module _ (end : ℕ) (told : List Item) (used depth : ℕ) where
  abbrev pub count_to : ℕ → List Level → Course
  count_to count above = course (nexts.Subkeys (record { left = count; used = used; depth = depth; last = None })) above

  count_by : (above : List Level) (read : Result (ℕ × Reading) Stop)
      → followed (behind [] (read >>= λ count. behind (items.Subkeys count.0 ∷ []) (items_below (items_at depth end) count.0 None used end count.1))) (above_at end above)
      ≡ (read >>= λ x. behind (count_front x.0) (rest_at end (told ++ count_front x.0) (count_to x.0 above) x.1))
  count_by above (Ok x) =
      let below : Told = items_below (items_at depth end) x.0 None used end x.1 in
      ap (λ (read : Told). followed read (above_at end above)) (none_behind (behind (items.Subkeys x.0 ∷ []) below))
      ∙ behind_followed (items.Subkeys x.0 ∷ []) below (above_at end above)
  count_by above (Err stop) = refl

  pub count_is : (above : List Level) (s : Reading)
      → rest_at end told (course (nexts.Values zero used depth) above) s
      ≡ (field_at (number_at 4) (λ count. true) end s >>= λ x. behind (count_front x.0) (rest_at end (told ++ count_front x.0) (count_to x.0 above) x.1))
  unfolding values_at
  count_is above s = count_by above (field_at (number_at 4) (λ count. true) end s)

  pub count_lighter : (x : ℕ) (above : List Level) → 2 * length (count_to x above).above + next_weight (count_to x above).next < 4 + (2 * length above + next_weight (nexts.Values zero used depth))
  count_lighter x above = omega arith

-- ---- a subkey

abbrev made_head : List ℕ → ℕ → ℕ → ℕ → Head
made_head part field written count = record { part = part; birth = birth_in field; written = written; values = count }

abbrev HasPart : List ℕ → Result (Head × Reading) Stop → Type 0
HasPart part (Ok x) = x.0.part ≡ part
HasPart part (Err stop) = Unit {0}

head_part : (part : List ℕ) (end : ℕ) (s : Reading) → HasPart part (head_at part end s)
unfolding head_at
head_part part end s = by_field (field_at (number_at 8) (fits_birth part) end s)
  where
    by_count : (field written : ℕ) (read : Result (ℕ × Reading) Stop)
        → HasPart part (read >>= λ count. Ok (made_head part field written count.0, count.1))
    by_count field written (Ok count) = refl
    by_count field written (Err stop) = tt

    by_written : (field : ℕ) (read : Result (ℕ × Reading) Stop)
        → HasPart part (read >>= λ written. field_at (number_at 4) (λ count. true) end written.1 >>= λ count. Ok (made_head part field written.0 count.0, count.1))
    by_written field (Ok written) = by_count field written.0 (field_at (number_at 4) (λ count. true) end written.1)
    by_written field (Err stop) = tt

    by_field : (read : Result (ℕ × Reading) Stop)
        → HasPart part (read >>= λ field. written_at (tells_written field.0) end field.1 >>= λ written. field_at (number_at 4) (λ count. true) end written.1 >>= λ count. Ok (made_head part field.0 written.0 count.0, count.1))
    by_field (Ok field) = by_written field.0 (written_at (tells_written field.0) end field.1)
    by_field (Err stop) = tt

module _ (end : ℕ) (told : List Item) (left used depth : ℕ) (last : Option (List ℕ)) where
  abbrev pub level_after : Head → Level
  level_after head = record { left = left; used = used; depth = depth; last = Some head.part }

  abbrev pub subkey_to : Head → List Level → Course
  subkey_to head above = course (nexts.Values head.values (used + length head.part + 1) (depth - 1)) (level_after head ∷ above)

  -- the subkey whose name was read, and all behind it
  headed : (above : List Level) (shallower : ℕ) (part : List ℕ) (read : Result (Head × Reading) Stop) → HasPart part read → shallower ≡ depth - 1
      → followed (followed (read >>= λ head. behind (items.Head head.0 ∷ []) (items_left (items_at shallower end) head.0.values None (used + length part + 1) end head.1)) (items_below (items_at depth end) left (Some part) used end)) (above_at end above)
      ≡ (read >>= λ x. behind (head_front x.0) (rest_at end (told ++ head_front x.0) (subkey_to x.0 above) x.1))
  unfolding above_at
  headed above shallower part (Err stop) has is = refl
  headed above shallower part (Ok x) has is =
      let front : List Item = items.Head x.0 ∷ [] in
      let L : Told = items_left (items_at (depth - 1) end) x.0.values None (used + length x.0.part + 1) end x.1 in
      let B : Reading → Told = items_below (items_at depth end) left (Some x.0.part) used end in
      rw (is, sym has, no_value told x.0)
      (ap (λ (read : Told). followed read (above_at end above)) (behind_followed front L B)
      ∙ behind_followed front (followed L B) (above_at end above)
      ∙ ap (behind front) (followed_on L B (above_at end above) (above_at end (level_after x.0 ∷ above)) (λ t. refl)))

  deep : (above : List Level) (d : ℕ) (part : List ℕ) (s : Reading) → d ≡ depth
      → followed (followed (items_at d end part (used + length part + 1) s) (items_below (items_at depth end) left (Some part) used end)) (above_at end above)
      ≡ (deep_head_at d part end s >>= λ x. behind (head_front x.0) (rest_at end (told ++ head_front x.0) (subkey_to x.0 above) x.1))
  unfolding items_at
  deep above zero part s is = refl
  deep above (suc d) part s is =
      let shallower : d ≡ depth - 1 = omega (arith, is) in
      headed above d part (head_at part end s) (head_part part end s) shallower

  named : (above : List Level) (read : Result (List ℕ × Reading) Stop)
      → followed (read >>= λ part. followed (items_at depth end part.0 (used + length part.0 + 1) part.1) (items_below (items_at depth end) left (Some part.0) used end)) (above_at end above)
      ≡ ((read >>= λ part. deep_head_at depth part.0 end part.1) >>= λ x. behind (head_front x.0) (rest_at end (told ++ head_front x.0) (subkey_to x.0 above) x.1))
  named above (Ok part) = deep above depth part.0 part.1 refl
  named above (Err stop) = refl

  pub subkey_is : (above : List Level) (s : Reading)
      → rest_at end told (course (nexts.Subkeys (record { left = suc left; used = used; depth = depth; last = last })) above) s
      ≡ (subkey_at depth last used end s >>= λ x. behind (head_front x.0) (rest_at end (told ++ head_front x.0) (subkey_to x.0 above) x.1))
  unfolding items_below subkey_at
  subkey_is above s = named above (part_at last used end s)

  pub subkey_lighter : (x : Head) (above : List Level)
      → 2 * length (subkey_to x above).above + next_weight (subkey_to x above).next < 14 + (2 * length above + next_weight (nexts.Subkeys (record { left = suc left; used = used; depth = depth; last = last })))
  subkey_lighter x above = omega arith
