-- Reading more bytes: what was read stays as it was, a rule that was broken stays broken, and a field that is cut off past
-- the end stays at fault.
use Rattle.std.proofs.Common.{◌≡◌, inl, inr, ℕ, zero, suc, ◌+◌, ◌<◌, ◌≤◌, Bool, true, false, cond, ltb, List, [], ◌∷◌, ◌++◌, length, take, drop, Option, Some, None, Result, Ok, Err, refl, sym, ap, ◌∙◌, append_assoc, length-append, arith}
use Rattle.std.specs.Prelude.{min, ◌&&◌, nat_le, ◌-◌}
use Rattle.std.proofs.lemmas.Bool.{ltb-true, ltb-false, le-ltb}
use Rattle.std.proofs.lemmas.Bool.Decides.{nat_tests}
use Rattle.std.proofs.lemmas.List.{take-append-drop, take-append-le, drop-append-le, length-take-le}
use Rattle.wire_fields.specs.Numbers.{number}
use Rattle.wire_fields.specs.Reading.{Reading, after, bytes_at, number_at, times}
use Rattle.wire_fields.specs.Reading as options
use Rattle.registry_defs.specs.Keys.{ValueData}
use Rattle.registry_defs.specs.StateFields.{Stop, Cut, Bad, ◌>>=◌, field_at, judged, units_at, data_at}
use Rattle.registry_defs.specs.StateGrammar.{birth_in, fits_birth, is_above, lacks_separator, part_at, tells_written, value_at, written_at}
use Rattle.clus_names.specs.Limits.{lacks_zero}
use Rattle.registry_states.specs.declared.item.Head.{Head}
use Rattle.registry_states.specs.Items.{deep_head_at, head_at, subkey_at}
use Rattle.registry_states.specs.Moves.{Advanced, further, end_of, StopsAt}

-- The reader went over so many bytes, at the least and at the most.
pub record Moved (low high : ℕ) (s t : Reading) : Type 0 where
  pub over : Advanced s t
  pub least : low ≤ length over.front
  pub most : length over.front ≤ high

stays : (s : Reading) → Moved 0 0 s s
stays s = record { over = record { front = []; parts = refl; place = omega arith; order = refl }; least = omega arith; most = omega arith }

pub moved_on : (a b c d : ℕ) (s t u : Reading) → Moved a b s t → Moved c d t u → Moved (a + c) (b + d) s u
moved_on a b c d s t u first next =
    let long = length-append first.over.front next.over.front in
    record {
      over = record {
        front = first.over.front ++ next.over.front;
        parts = first.over.parts ∙ ap (λ l. first.over.front ++ l) next.over.parts ∙ sym (append_assoc first.over.front next.over.front u.left);
        place = omega (arith, first.over.place, next.over.place, long);
        order = next.over.order ∙ first.over.order;
      };
      least = omega (arith, first.least, next.least, long);
      most = omega (arith, first.most, next.most, long);
    }

pub same_end : (s t : Reading) → Advanced s t → end_of t ≡ end_of s
same_end s t over = omega (arith, over.place, ap length over.parts, length-append over.front t.left)

-- ---- one field

-- What is read is read again; where bytes are missing, more of them are missing, or the field ends past them.
abbrev pub Grows : {A : Type 0} → (low high : ℕ) → Reading → List ℕ → Option (A × Reading) → Option (A × Reading) → Type 0
Grows low high s more (Some x) longer = (longer ≡ Some (x.0, further more x.1)) × Moved low high s x.1
Grows low high s more None None = length s.left < high
Grows low high s more None (Some y) = (length s.left < high) × (end_of s < y.1.place)

abbrev fixed : {A : Type 0} → Bool → A → Reading → Option (A × Reading)
fixed short x t = cond short None (Some (x, t))

-- A field of a fixed length.
fixed_grows : {A : Type 0} (width : ℕ) (value : List ℕ → A) (s : Reading) (more : List ℕ)
    → Grows width width s more (fixed (ltb (length s.left) width) (value (take width s.left)) (after width s))
    (fixed (ltb (length (s.left ++ more)) width) (value (take width (s.left ++ more))) (after width (further more s)))
fixed_grows {A} width value s more = by (ltb (length s.left) width) refl
  where
    still : (b : Bool) → ltb (length (s.left ++ more)) width ≡ b → length s.left < width
        → Grows width width s more None (fixed b (value (take width (s.left ++ more))) (after width (further more s)))
    still true is short = short
    still false is short = (short, omega (arith, short))

    by : (b : Bool) → ltb (length s.left) width ≡ b
        → Grows width width s more (fixed b (value (take width s.left)) (after width s))
        (fixed (ltb (length (s.left ++ more)) width) (value (take width (s.left ++ more))) (after width (further more s)))
    by true is = still (ltb (length (s.left ++ more)) width) refl (ltb-true _ _ is)
    by false is =
        let long : width ≤ length s.left = ltb-false _ _ is in
        let longer : ltb (length (s.left ++ more)) width ≡ false = le-ltb _ _ (omega (arith, long, length-append s.left more)) in
        let same : take width (s.left ++ more) ≡ take width s.left = take-append-le width s.left more long in
        let rest : drop width (s.left ++ more) ≡ drop width s.left ++ more = drop-append-le width s.left more long in
        let count : length (take width s.left) ≡ width = length-take-le width s.left long in (
          rw (longer, same, rest) refl,
          record {
            over = record { front = take width s.left; parts = sym (take-append-drop width s.left); place = omega (arith, count); order = refl };
            least = omega (arith, count);
            most = omega (arith, count);
          },
        )

pub number_grows : (width : ℕ) (s : Reading) (more : List ℕ) → Grows width width s more (number_at width s) (number_at width (further more s))
number_grows width s more = fixed_grows width (number s.endian width) s more

pub bytes_grow : (count : ℕ) (s : Reading) (more : List ℕ) → Grows count count s more (bytes_at count s) (bytes_at count (further more s))
bytes_grow count s more = fixed_grows count (λ bytes. bytes) s more

-- ---- a counted list

-- So many times a length.
abbrev many : ℕ → ℕ → ℕ
many zero width = 0
many (suc count) width = width + many count width

module _ {A : Type 0} (one : Reading → Option (A × Reading)) (low high : ℕ) (more : List ℕ) (grows : (s : Reading) → Grows low high s more (one s) (one (further more s))) where
  -- behind an element that is there
  behind_one : (count : ℕ) (s : Reading) (x : A × Reading) (others longer : Option (List A × Reading)) → Moved low high s x.1
      → Grows (many count low) (many count high) x.1 more others longer
      → Grows (low + many count low) (high + many count high) s more
      (options.◌>>=◌ others (λ xs. Some (x.0 ∷ xs.0, xs.1)))
      (options.◌>>=◌ longer (λ xs. Some (x.0 ∷ xs.0, xs.1)))
  behind_one count s x (Some xs) longer moved (same, next) = (rw same refl, moved_on low high (many count low) (many count high) s x.1 xs.1 moved next)
  behind_one count s x None None moved short = omega (arith, short, same_end s x.1 moved.over, moved.most, moved.over.place)
  behind_one count s x None (Some y) moved (short, past) = (omega (arith, short, same_end s x.1 moved.over, moved.most, moved.over.place), omega (arith, past, same_end s x.1 moved.over))

  abbrev then_others : ℕ → Option (A × Reading) → Option (List A × Reading)
  then_others count x = options.◌>>=◌ x (λ first. options.◌>>=◌ (times count one first.1) (λ others. Some (first.0 ∷ others.0, others.1)))

  past_one : (count : ℕ) (s : Reading) (y : A × Reading) (others longer : Option (List A × Reading)) → Grows (many count low) (many count high) y.1 more others longer
      → length s.left < high → end_of s < y.1.place
      → Grows (low + many count low) (high + many count high) s more None (options.◌>>=◌ others (λ others. Some (y.0 ∷ others.0, others.1)))
  past_one count s y None None grown short past = omega (arith, short)
  past_one count s y None (Some longer) grown short past = omega (arith, short)
  past_one count s y (Some others) longer (same, moved) short past = (omega (arith, short), omega (arith, past, moved.over.place))

  module _ (count : ℕ) (s : Reading) (rest : (t : Reading) → Grows (many count low) (many count high) t more (times count one t) (times count one (further more t))) where
    -- an element that is cut off
    cut_one : (y : Option (A × Reading)) → Grows low high s more None y → Grows (low + many count low) (high + many count high) s more None (then_others count y)
    cut_one None short = omega (arith, short)
    cut_one (Some y) (short, past) = past_one count s y (times count one y.1) (times count one (further more y.1)) (rest y.1) short past

    one_then : (x longer : Option (A × Reading)) → Grows low high s more x longer → Grows (low + many count low) (high + many count high) s more (then_others count x) (then_others count longer)
    one_then (Some x) longer (same, moved) = rw same (behind_one count s x (times count one x.1) (times count one (further more x.1)) moved (rest x.1))
    one_then None None grown = cut_one None grown
    one_then None (Some y) grown = cut_one (Some y) grown

  pub times_grow : (count : ℕ) (s : Reading) → Grows (many count low) (many count high) s more (times count one s) (times count one (further more s))
  unfolding times
  times_grow zero s = (refl, stays s)
  times_grow (suc count) s = one_then count s (times_grow count) (one s) (one (further more s)) (grows s)

-- ---- a field with its rule

abbrev pub Within : ℕ → Reading → Reading → Type 0
Within end s t = s.place ≤ end → t.place ≤ end

abbrev pub Steady : {A : Type 0} → (end low high : ℕ) → Reading → List ℕ → Result (A × Reading) Stop → Result (A × Reading) Stop → Type 0
Steady end low high s more (Ok x) longer = (longer ≡ Ok (x.0, further more x.1)) × Moved low high s x.1 × Within end s x.1
Steady end low high s more (Err (Bad place)) longer = longer ≡ Err (Bad place)
Steady end low high s more (Err (Cut place)) longer = (length s.left < high) × (end < end_of s → StopsAt place longer)

abbrev ruled : {A : Type 0} → Bool → Bool → ℕ → A → Result A Stop
ruled {A} past obeyed place x = cond {A = Result A Stop} past (Err (Bad place)) (cond {A = Result A Stop} obeyed (Ok x) (Err (Bad place)))

module _ {A : Type 0} (obeys : A → Bool) (end low high : ℕ) (s : Reading) (more : List ℕ) where
  whole_field : (x : A × Reading) (past obeyed : Bool) → ltb end x.1.place ≡ past → Moved low high s x.1
      → Steady end low high s more (ruled past obeyed s.place x) (ruled past obeyed s.place (x.0, further more x.1))
  whole_field x true obeyed is moved = refl
  whole_field x false true is moved = (refl, moved, λ within. ltb-false _ _ is)
  whole_field x false false is moved = refl

  judged_steady : (read longer : Option (A × Reading)) → Grows low high s more read longer → Steady end low high s more (judged obeys end s.place read) (judged obeys end s.place longer)
  judged_steady (Some x) longer (same, moved) = rw same (whole_field x (ltb end x.1.place) (obeys x.0) refl moved)
  judged_steady None None short = (short, λ past. inr refl)
  judged_steady None (Some y) (short, beyond) = (
    short,
    λ past.
        let out : ltb end y.1.place ≡ true = grind (arith, nat_tests, past, beyond) in
        inl (rw out refl),
  )

pub field_steady : {A : Type 0} (one : Reading → Option (A × Reading)) (obeys : A → Bool) (end low high : ℕ) (s : Reading) (more : List ℕ)
    → Grows low high s more (one s) (one (further more s)) → Steady end low high s more (field_at one obeys end s) (field_at one obeys end (further more s))
field_steady one obeys end low high s more grows = judged_steady obeys end low high s more (one s) (one (further more s)) grows

-- A field that was read obeys its rule.
pub field_obeys : {A : Type 0} (one : Reading → Option (A × Reading)) (obeys : A → Bool) (end : ℕ) (s : Reading) (x : A × Reading) → field_at one obeys end s ≡ Ok x → obeys x.0 ≡ true
field_obeys {A} one obeys end s x e = by (one s) e
  where
    passed : (past obeyed : Bool) (y : A × Reading) → obeys y.0 ≡ obeyed → ruled past obeyed s.place y ≡ Ok x → obeys x.0 ≡ true
    passed true obeyed y is e = absurd cc
    passed false true y is e =
        let same : y ≡ x = cc in
        ap (λ (z : A × Reading). obeys z.0) (sym same) ∙ is
    passed false false y is e = absurd cc

    by : (read : Option (A × Reading)) → judged obeys end s.place read ≡ Ok x → obeys x.0 ≡ true
    by None e = absurd cc
    by (Some y) e = passed (ltb end y.1.place) (obeys y.0) y refl e

-- ---- one after the other

module _ {A B : Type 0} (end : ℕ) (more : List ℕ) (next : A × Reading → Result (B × Reading) Stop) where
  carried : (a b c d : ℕ) (s : Reading) (x : A × Reading) (now longer : Result (B × Reading) Stop) → Moved a b s x.1 → Within end s x.1
      → Steady end c d x.1 more now longer → Steady end (a + c) (b + d) s more now longer
  carried a b c d s x (Ok y) longer moved within (same, on, inside) = (same, moved_on a b c d s x.1 y.1 moved on, λ start. inside (within start))
  carried a b c d s x (Err (Bad place)) longer moved within bad = bad
  carried a b c d s x (Err (Cut place)) longer moved within (short, past) =
      let end_is : end_of x.1 ≡ end_of s = same_end s x.1 moved.over in
      (omega (arith, short, end_is, moved.most, moved.over.place), λ beyond. past (omega (arith, beyond, end_is)))

  stops_on : (place : ℕ) (longer : Result (A × Reading) Stop) → StopsAt place longer → StopsAt place (longer >>= next)
  stops_on place longer (inl bad) = inl (rw bad refl)
  stops_on place longer (inr cut) = inr (rw cut refl)

  pub steady_then : (a b c d : ℕ) (s : Reading) (now longer : Result (A × Reading) Stop) → Steady end a b s more now longer
      → ((x : A × Reading) → now ≡ Ok x → Steady end c d x.1 more (next x) (next (x.0, further more x.1)))
      → Steady end (a + c) (b + d) s more (now >>= next) (longer >>= next)
  steady_then a b c d s (Ok x) longer (same, moved, within) on = rw same (carried a b c d s x (next x) (next (x.0, further more x.1)) moved within (on x refl))
  steady_then a b c d s (Err (Bad place)) longer bad on = rw bad refl
  steady_then a b c d s (Err (Cut place)) longer (short, past) on = (omega (arith, short), λ beyond. stops_on place longer (past beyond))

pub done_steady : {A : Type 0} (end : ℕ) (s : Reading) (more : List ℕ) (x : A) → Steady end 0 0 s more (Ok (x, s)) (Ok (x, further more s))
done_steady end s more x = (refl, stays s, λ start. start)

-- More room is room.
pub roomier : {A : Type 0} (end a b c d : ℕ) (s : Reading) (more : List ℕ) (now longer : Result (A × Reading) Stop) → c ≤ a → b ≤ d
    → Steady end a b s more now longer → Steady end c d s more now longer
roomier end a b c d s more (Ok x) longer low high (same, moved, within) =
    (same, record { over = moved.over; least = omega (arith, low, moved.least); most = omega (arith, high, moved.most) }, within)
roomier end a b c d s more (Err (Bad place)) longer low high bad = bad
roomier end a b c d s more (Err (Cut place)) longer low high (short, past) = (omega (arith, short, high), past)

-- ---- the parts of items

many_two : (count : ℕ) → many count 2 ≡ count + count
many_two zero = omega arith
many_two (suc count) = omega (arith, many_two count)

most_units : (low high count : ℕ) → nat_le low count && nat_le count high ≡ true → count ≤ high
most_units low high count e = grind (arith, nat_tests)

pub units_steady : (low high : ℕ) (obeys : List ℕ → Bool) (end : ℕ) (s : Reading) (more : List ℕ)
    → Steady end 2 (2 + (high + high)) s more (units_at low high obeys end s) (units_at low high obeys end (further more s))
unfolding units_at
units_steady low high obeys end s more =
    let next : ℕ × Reading → Result (List ℕ × Reading) Stop = λ count. field_at (times count.0 (number_at 2)) obeys end count.1 in
    let rule : ℕ → Bool = λ count. nat_le low count && nat_le count high in
    steady_then end more next 2 2 0 (high + high) s (field_at (number_at 2) rule end s) (field_at (number_at 2) rule end (further more s))
    (field_steady (number_at 2) rule end 2 2 s more (number_grows 2 s more))
    (λ count is.
    let few : count.0 ≤ high = most_units low high count.0 (field_obeys (number_at 2) rule end s count is) in
    let grows = times_grow (number_at 2) 2 2 more (λ t. number_grows 2 t more) count.0 count.1 in
    roomier end (many count.0 2) (many count.0 2) 0 (high + high) count.1 more (next count) (next (count.0, further more count.1)) (omega arith) (omega (arith, few, many_two count.0))
    (field_steady (times count.0 (number_at 2)) obeys end (many count.0 2) (many count.0 2) count.1 more grows))

pub any_number_steady : (width : ℕ) (rule : ℕ → Bool) (end : ℕ) (s : Reading) (more : List ℕ) → Steady end width width s more (field_at (number_at width) rule end s) (field_at (number_at width) rule end (further more s))
any_number_steady width rule end s more = field_steady (number_at width) rule end width width s more (number_grows width s more)

most_bytes : (count : ℕ) → nat_le count 49152 ≡ true → count ≤ 49152
most_bytes count e = grind (arith, nat_tests)

pub data_steady : (end : ℕ) (s : Reading) (more : List ℕ) → Steady end 4 49156 s more (data_at end s) (data_at end (further more s))
unfolding data_at
data_steady end s more =
    let next : ℕ × Reading → Result (List ℕ × Reading) Stop = λ count. field_at (bytes_at count.0) (λ bytes. true) end count.1 in
    let rule : ℕ → Bool = λ count. nat_le count 49152 in
    steady_then end more next 4 4 0 49152 s (field_at (number_at 4) rule end s) (field_at (number_at 4) rule end (further more s))
    (any_number_steady 4 rule end s more)
    (λ count is.
    let few : count.0 ≤ 49152 = most_bytes count.0 (field_obeys (number_at 4) rule end s count is) in
    roomier end count.0 count.0 0 49152 count.1 more (next count) (next (count.0, further more count.1)) (omega arith) few
    (field_steady (bytes_at count.0) (λ bytes. true) end count.0 count.0 count.1 more (bytes_grow count.0 count.1 more)))

-- ---- items

pub value_steady : (last : Option (List ℕ)) (end : ℕ) (s : Reading) (more : List ℕ) → Steady end 10 51208 s more (value_at last end s) (value_at last end (further more s))
unfolding value_at
value_steady last end s more =
    let rule : List ℕ → Bool = λ units. lacks_zero units && is_above last units in
    let made : List ℕ → ℕ → List ℕ → ValueData = λ name kind bytes. record { name = name; kind = kind; bytes = bytes } in
    steady_then end more (λ name. field_at (number_at 4) (λ kind. true) end name.1 >>= λ kind. data_at end kind.1 >>= λ bytes. Ok (made name.0 kind.0 bytes.0, bytes.1)) 2 2048 8 49160 s
    (units_at 0 1023 rule end s) (units_at 0 1023 rule end (further more s)) (units_steady 0 1023 rule end s more)
    (λ name is. steady_then end more (λ kind. data_at end kind.1 >>= λ bytes. Ok (made name.0 kind.0 bytes.0, bytes.1)) 4 4 4 49156 name.1
    (field_at (number_at 4) (λ kind. true) end name.1) (field_at (number_at 4) (λ kind. true) end (further more name.1)) (any_number_steady 4 (λ kind. true) end name.1 more)
    (λ kind is. steady_then end more (λ bytes. Ok (made name.0 kind.0 bytes.0, bytes.1)) 4 49156 0 0 kind.1
    (data_at end kind.1) (data_at end (further more kind.1)) (data_steady end kind.1 more)
    (λ bytes is. done_steady end bytes.1 more (made name.0 kind.0 bytes.0))))

written_steady : (is_there : Bool) (end : ℕ) (s : Reading) (more : List ℕ) → Steady end 0 8 s more (written_at is_there end s) (written_at is_there end (further more s))
written_steady true end s more =
    let rule : ℕ → Bool = λ written. ltb 0 written in
    roomier end 8 8 0 8 s more (field_at (number_at 8) rule end s) (field_at (number_at 8) rule end (further more s)) (omega arith) (omega arith) (any_number_steady 8 rule end s more)
written_steady false end s more = roomier end 0 0 0 8 s more (Ok (0, s)) (Ok (0, further more s)) (omega arith) (omega arith) (done_steady end s more 0)

pub head_steady : (part : List ℕ) (end : ℕ) (s : Reading) (more : List ℕ) → Steady end 12 20 s more (head_at part end s) (head_at part end (further more s))
unfolding head_at
head_steady part end s more =
    let made : ℕ → ℕ → ℕ → Head = λ field written count. record { part = part; birth = birth_in field; written = written; values = count } in
    steady_then end more (λ field. written_at (tells_written field.0) end field.1 >>= λ written. field_at (number_at 4) (λ count. true) end written.1 >>= λ count. Ok (made field.0 written.0 count.0, count.1)) 8 8 4 12 s
    (field_at (number_at 8) (fits_birth part) end s) (field_at (number_at 8) (fits_birth part) end (further more s)) (any_number_steady 8 (fits_birth part) end s more)
    (λ field is. steady_then end more (λ written. field_at (number_at 4) (λ count. true) end written.1 >>= λ count. Ok (made field.0 written.0 count.0, count.1)) 0 8 4 4 field.1
    (written_at (tells_written field.0) end field.1) (written_at (tells_written field.0) end (further more field.1)) (written_steady (tells_written field.0) end field.1 more)
    (λ written is. steady_then end more (λ count. Ok (made field.0 written.0 count.0, count.1)) 4 4 0 0 written.1
    (field_at (number_at 4) (λ count. true) end written.1) (field_at (number_at 4) (λ count. true) end (further more written.1)) (any_number_steady 4 (λ count. true) end written.1 more)
    (λ count is. done_steady end count.1 more (made field.0 written.0 count.0))))

part_steady : (last : Option (List ℕ)) (used end : ℕ) (s : Reading) (more : List ℕ) → Steady end 2 512 s more (part_at last used end s) (part_at last used end (further more s))
unfolding part_at
part_steady last used end s more =
    let rule : List ℕ → Bool = λ units. lacks_zero units && (lacks_separator units && is_above last units) in
    let high = min 255 (1023 - used) in
    roomier end 2 (2 + (high + high)) 2 512 s more (units_at 1 high rule end s) (units_at 1 high rule end (further more s)) (omega arith) (omega arith) (units_steady 1 high rule end s more)

deep_steady : (depth : ℕ) (part : List ℕ) (end : ℕ) (s : Reading) (more : List ℕ) → Steady end 12 20 s more (deep_head_at depth part end s) (deep_head_at depth part end (further more s))
deep_steady zero part end s more = refl
deep_steady (suc depth) part end s more = head_steady part end s more

pub subkey_steady : (depth : ℕ) (last : Option (List ℕ)) (used end : ℕ) (s : Reading) (more : List ℕ)
    → Steady end 14 532 s more (subkey_at depth last used end s) (subkey_at depth last used end (further more s))
unfolding subkey_at
subkey_steady depth last used end s more =
    steady_then end more (λ part. deep_head_at depth part.0 end part.1) 2 512 12 20 s
    (part_at last used end s) (part_at last used end (further more s)) (part_steady last used end s more)
    (λ part is. deep_steady depth part.0 end part.1 more)
