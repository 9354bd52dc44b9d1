-- A value of the innermost open key, and a key that ends.
use Rattle.std.proofs.Common.{◌≡◌, ℕ, ◌+◌, ◌-◌, ◌<◌, ◌≤◌, ◌&&◌, Bool, true, false, not, eqb, List, [], ◌∷◌, ◌++◌, length, Option, Some, None, refl, sym, ap, subst, ◌∙◌, length-append, arith}
use Rattle.std.specs.Prelude.{option_map, reverse}
use Rattle.std.specs.List.{AllByRecursion, last_or}
use Rattle.std.specs.declared.cmp.Ordering.{Ordering}
use Rattle.std.specs.declared.cmp.Ordering.TheVariants.{Less, Equal, Greater}
use Rattle.std.specs.Ordering.{ordering_then}
use Rattle.std.proofs.lemmas.Bool.Decides.{nat_tests}
use Rattle.std.proofs.lemmas.Grind.{flat_map-append}
use Rattle.std.proofs.lemmas.List.{append-nil, map-append, reverse-append}
use Rattle.clus_names.specs.Folding.{folded, name_cmp, path_cmp}
use Rattle.registry_defs.specs.Keys.{KeyData, Keys, Values}
use Rattle.registry_defs.specs.Limits.{IsKey, IsRegistry}
use Rattle.registry_defs.specs.Nodes.{Node, keys_of, name_of, spread, under}
use Rattle.registry_defs.specs.Rising.{Rising, RisingKeys}
use Rattle.registry_defs.specs.Sizes.{key_size, size, value_size}
use Rattle.registry_defs.specs.StateGrammar.{is_above}
use Rattle.registry_defs.proofs.Orders.{cmp_behind, rising_from_sorted}
use Rattle.registry_defs.proofs.Paths.{length-folded}
use Rattle.registry_tree.specs.declared.value.Value.{Value}
use Rattle.registry_tree.specs.Values.{RisingValues, entries_of, value_data, value_entry, value_name}
use Rattle.registry_tree.proofs.Subkeys.{each_back, rising_back}
use Rattle.hive_text.specs.LineWords.{IsLine}
use Rattle.hive_text.specs.Standings.{Entry, Follows, MayHold, Standing, behind, given_value, last_name}
use Rattle.hive_text.specs.Walks.{IsDone, IsHeld, IsOrdered, IsUp, IsWalk, keys_in, last_value, level_node, levels_of, may_hold, open_count, path_of, prefixed, size_with_value, standing_at, used_by}
use Rattle.hive_text.specs.declared.line.Line.{Line}
use Rattle.hive_text.specs.declared.line.Line.TheVariants as lines
use Rattle.hive_text.specs.declared.walk.Level.{Level}
use Rattle.hive_text.specs.declared.walk.Walk.{Walk}
use Rattle.hive_text.proofs.Chains.{RestIs, ended_same, one_snoc, used_more}
use Rattle.hive_text.proofs.Fronts.{last_changed, last_key, one_more_value, rising_of, same_name, total_append}
use Rattle.hive_text.proofs.WalkKeys.{both_true, differ, ended_standing, last_at, not_true, open_standing, path_long, true_both, true_not}

-- ---- values

last_entry : (d : Option Value) (values : List Value) → option_map (λ (entry : List ℕ × _). entry.1.name) (last_or (option_map value_entry d) (entries_of values)) ≡ option_map (λ (value : Value). value.name) (last_or d values)
last_entry None [] = refl
last_entry (Some v) [] = refl
last_entry d (v ∷ vs) = last_entry (Some v) vs

same_last : (values : List Value) → last_name (entries_of values) ≡ last_value values
same_last values = last_entry None values

none_below : (nodes : List Node) → (length nodes ≡ 0) → spread nodes ≡ []
none_below [] e = refl
none_below (n ∷ ns) e = absurd (omega (arith, e))

module _ (walk : Walk) (s : Standing) (is : IsWalk walk s) (value : Value) (open_now : walk.ended ≡ false) where
  abbrev t : Standing
  t = standing_at is.before is.last (length walk.above.items + 1)

  abbrev line : Line
  line = lines.Value value

  abbrev path : List (List ℕ)
  path = path_of (levels_of walk)

  follows_open : Follows walk.cap s line → Follows walk.cap t line
  follows_open follows = subst (λ (u : Standing). Follows walk.cap u line) (open_standing walk s is open_now) follows

  size_made : size (is.before ++ given_value value is.last ∷ []) ≡ size_with_value walk value
  size_made =
      let old = total_append key_size is.before (is.last ∷ []) in
      let new = total_append key_size is.before (given_value value is.last ∷ []) in
      let values = total_append value_size is.last.1.values (value_entry value ∷ []) in
      omega (arith, old, new, values, is.counted)

  -- the last key is the innermost open one, if it has no subkeys
  alone : (nodes : List Node) → nodes ≡ walk.here.subkeys.items → length nodes ≡ 0 → ((last_at walk s is).rest ≡ []) × (is.last.1 ≡ (level_node walk.here).here)
  alone [] same none = subst (λ (n : List Node). RestIs (last_or None n) (last_at walk s is).rest is.last.1 (level_node walk.here).here) (sym same) (last_at walk s is).rest_is
  alone (n ∷ ns) same none = absurd (omega (arith, none))

  long_if : (last_at walk s is).rest ≡ [] → length walk.above.items + 1 ≡ length is.last.0 + 1
  long_if none =
      let whole : length is.last.0 ≡ length path = ap (λ (p : List (List ℕ)). length p) ((last_at walk s is).path_is ∙ ap (λ (r : List (List ℕ)). path ++ r) none ∙ append-nil path) in
      omega (arith, whole, path_long walk s is)

  may : IsLine line → may_hold walk value.name ≡ true → MayHold is.last (length walk.above.items + 1) value
  may fits ok =
      let one = both_true (not walk.ended) ((eqb (length walk.here.subkeys.items) 0) && is_above (last_value walk.here.values.items) value.name) ok in
      let two = both_true (eqb (length walk.here.subkeys.items) 0) (is_above (last_value walk.here.values.items) value.name) one.1 in
      let none : length walk.here.subkeys.items ≡ 0 = (let e = two.0 in grind (arith, nat_tests)) in
      let own = alone walk.here.subkeys.items refl none in
      let names : last_name is.last.1.values ≡ last_value walk.here.values.items = ap (λ (k : KeyData). last_name k.values) own.1 ∙ same_last walk.here.values.items in
      record { place = long_if own.0; limits = fits; above = ap (λ o. is_above o value.name) names ∙ two.1 }

  pub hold_follows : IsLine line → may_hold walk value.name ≡ true → size_with_value walk value ≤ walk.cap → Follows walk.cap s line
  hold_follows fits ok small = subst (λ (u : Standing). Follows walk.cap u line) (sym (open_standing walk s is open_now)) (may fits ok, omega (arith, size_made, small))

  pub hold_small : Follows walk.cap s line → size_with_value walk value ≤ walk.cap
  hold_small follows =
      let small : size (is.before ++ given_value value is.last ∷ []) ≤ walk.cap = (follows_open follows).1 in
      omega (arith, size_made, small)

  no_rest : (o : Option Node) → RestIs o (last_at walk s is).rest is.last.1 (level_node walk.here).here → (last_at walk s is).rest ≡ [] → o ≡ None
  no_rest None h none = refl
  no_rest (Some node) h none = absurd (let e = sym none ∙ h.1 in cc)

  none_last : (nodes : List Node) → last_or None nodes ≡ None → length nodes ≡ 0
  none_last [] e = refl
  none_last (n ∷ ns) e = absurd (some_last n ns e)
    where
      some_last : (m : Node) (ms : List Node) → last_or (Some m) ms ≡ None → ⊥
      some_last m [] e = absurd cc
      some_last m (k ∷ ks) e = some_last k ks e

  pub hold_passes : Follows walk.cap s line → may_hold walk value.name ≡ true
  hold_passes follows =
      let own : MayHold is.last (length walk.above.items + 1) value = (follows_open follows).0 in
      let place = own.place in
      let rest = (last_at walk s is).rest in
      let whole : length is.last.0 ≡ length path + length rest = ap (λ (p : List (List ℕ)). length p) (last_at walk s is).path_is ∙ length-append path rest in
      let none : rest ≡ [] = empty rest (omega (arith, place, whole, path_long walk s is)) in
      let last = none_last walk.here.subkeys.items (no_rest (last_or None walk.here.subkeys.items) (last_at walk s is).rest_is none) in
      let same = (alone walk.here.subkeys.items refl last).1 in
      let names : last_name is.last.1.values ≡ last_value walk.here.values.items = ap (λ (k : KeyData). last_name k.values) same ∙ same_last walk.here.values.items in
      let test : eqb (length walk.here.subkeys.items) 0 ≡ true = grind (arith, nat_tests) in
      true_both (not walk.ended) ((eqb (length walk.here.subkeys.items) 0) && is_above (last_value walk.here.values.items) value.name) (true_not walk.ended open_now)
      (true_both (eqb (length walk.here.subkeys.items) 0) (is_above (last_value walk.here.values.items) value.name) test (ap (λ o. is_above o value.name) (sym names) ∙ own.above))
    where
      empty : (l : List (List ℕ)) → length l ≡ 0 → l ≡ []
      empty [] e = refl
      empty (x ∷ xs) e = absurd (omega (arith, e))

  same_path : (above : List Level) (a b : Level) → a.part ≡ b.part → path_of (a ∷ above) ≡ path_of (b ∷ above)
  same_path [] a b e = refl
  same_path (next ∷ above) a b e = ap (λ (p : List ℕ). path_of (next ∷ above) ++ folded p ∷ []) e

  abbrev node_from : List ℕ → ℕ → ℕ → Values → Keys → Node
  node_from part birth written values under_it = record { here = record { part = part; birth = birth; written = written; values = values }; below = under_it }

  pub hold_walk : (new : Walk) → IsLine line → may_hold walk value.name ≡ true → size_with_value walk value ≤ walk.cap → IsHeld walk value (size_with_value walk value) new → IsWalk new (behind line s)
  hold_walk new fits ok small held =
      let own = may fits ok in
      let one = both_true (not walk.ended) ((eqb (length walk.here.subkeys.items) 0) && is_above (last_value walk.here.values.items) value.name) ok in
      let two = both_true (eqb (length walk.here.subkeys.items) 0) (is_above (last_value walk.here.values.items) value.name) one.1 in
      let none : length walk.here.subkeys.items ≡ 0 = (let e = two.0 in grind (arith, nat_tests)) in
      let only = alone walk.here.subkeys.items refl none in
      let ended : new.ended ≡ false = held.ended_is ∙ open_now in
      let old_key = last_key is.before is.last is.registry in
      let values = one_more_value is.last.1.values (value_data value) old_key.values own.limits own.above in
      let now = given_value value is.last in
      let key : IsKey is.last.0 now.1 = record { named = same_name is.last.0 is.last.1 now.1 refl refl old_key.named; under_name = old_key.under_name; short = old_key.short; written = old_key.written; values = values } in
      let nothing = none_below walk.here.subkeys.items none in
      let new_nothing : spread new.here.subkeys.items ≡ [] = ap spread held.subkeys_are ∙ nothing in
      let entries : entries_of new.here.values.items ≡ entries_of walk.here.values.items ++ value_entry value ∷ [] = ap entries_of held.values_are ∙ map-append value_entry walk.here.values.items (value ∷ []) in
      let node : level_node new.here ≡ node_from walk.here.part walk.here.birth walk.here.written (entries_of walk.here.values.items ++ value_entry value ∷ []) [] =
      ap (λ (p : List ℕ). node_from p new.here.birth new.here.written (entries_of new.here.values.items) (spread new.here.subkeys.items)) held.part_is
      ∙ ap (λ b. node_from walk.here.part b new.here.written (entries_of new.here.values.items) (spread new.here.subkeys.items)) held.birth_is
      ∙ ap (λ w. node_from walk.here.part walk.here.birth w (entries_of new.here.values.items) (spread new.here.subkeys.items)) held.written_is
      ∙ ap (λ (v : Values). node_from walk.here.part walk.here.birth walk.here.written v (spread new.here.subkeys.items)) entries
      ∙ ap (λ (k : Keys). node_from walk.here.part walk.here.birth walk.here.written (entries_of walk.here.values.items ++ value_entry value ∷ []) k) new_nothing in
      let levels : levels_of new ≡ new.here ∷ reverse walk.above.items = ap (λ (l : List Level). new.here ∷ reverse l) held.above_are in
      let path_now : path_of (levels_of new) ≡ path = ap path_of levels ∙ same_path (reverse walk.above.items) new.here walk.here held.part_is in
      let above = keys_in (reverse walk.above.items) in
      let old_keys : is.before ++ is.last ∷ [] ≡ above ++ (path ++ [], (level_node walk.here).here) ∷ [] = is.keys_are ∙ ap (λ (k : Keys). above ++ prefixed path (([], (level_node walk.here).here) ∷ k)) nothing in
      let parts = one_snoc is.before above is.last (path ++ [], (level_node walk.here).here) old_keys in
      let last_now : (path ++ [], (level_node walk.here).here) ≡ is.last = sym parts.1 in
      let keys_now : keys_in (levels_of new) ≡ is.before ++ now ∷ [] =
      ap keys_in levels
      ∙ ap (λ (p : List (List ℕ)). above ++ prefixed p (keys_of (level_node new.here))) (same_path (reverse walk.above.items) new.here walk.here held.part_is)
      ∙ ap (λ (n : Node). above ++ prefixed path (keys_of n)) node
      ∙ ap (λ (e : Entry). above ++ given_value value e ∷ []) last_now
      ∙ ap (λ (k : Keys). k ++ now ∷ []) (sym parts.0) in
      record {
        before = is.before;
        last = now;
        standing_is = ap (behind line) (open_standing walk s is open_now)
            ∙ ap (λ (l : List Level). standing_at is.before now (length l + 1)) (sym held.above_are)
            ∙ ap (λ b. standing_at is.before now (open_count b (length new.above.items))) (sym ended);
        keys_are = sym keys_now;
        registry = last_changed is.before is.last.0 is.last.1 now.1 is.registry key;
        counted = held.size_is ∙ sym size_made;
        fits = omega (arith, held.size_is, small, held.cap_is);
        most = omega (arith, is.most, held.cap_is);
        path_counted = held.used_is ∙ is.path_counted ∙ ap used_by (sym path_now);
        short = omega (arith, is.short, held.used_is);
        root_alone = λ yes. absurd (differ new.ended yes ended);
      }

pub hold_ended : (walk : Walk) (s : Standing) (is : IsWalk walk s) (value : Value) → walk.ended ≡ true → Follows walk.cap s (lines.Value value) → ⊥
hold_ended walk s is value ended follows =
    let own : MayHold is.last 0 value = (subst (λ (u : Standing). Follows walk.cap u (lines.Value value)) (ended_standing walk s is ended) follows).0 in
    let place = own.place in
    omega (arith, place)

pub hold_refused : (walk : Walk) (s : Standing) (is : IsWalk walk s) (value : Value) → may_hold walk value.name ≡ false → Follows walk.cap s (lines.Value value) → ⊥
hold_refused walk s is value fails follows = by walk.ended refl
  where
    by : (b : Bool) → walk.ended ≡ b → ⊥
    by true ended = hold_ended walk s is value ended follows
    by false open_now = differ (may_hold walk value.name) (hold_passes walk s is value open_now follows) fails

pub hold_open : (walk : Walk) (name : List ℕ) → may_hold walk name ≡ true → walk.ended ≡ false
hold_open walk name ok = not_true walk.ended (both_true (not walk.ended) ((eqb (length walk.here.subkeys.items) 0) && is_above (last_value walk.here.values.items) name) ok).0

-- ---- keys that end

rising_prefixed : (path : List (List ℕ)) (keys : Keys) → RisingKeys (prefixed path keys) → RisingKeys keys
rising_prefixed front [] h = tt
rising_prefixed front (e ∷ es) h = (all es h.0, rising_prefixed front es h.1)
  where
    all : (xs : Keys) → AllByRecursion (λ x. path_cmp (front ++ e.0) x.0 ≡ Less) (prefixed front xs) → AllByRecursion (λ x. path_cmp e.0 x.0 ≡ Less) xs
    all [] h = tt
    all (x ∷ xs) h = (sym (cmp_behind front e.0 x.0) ∙ h.0, all xs h.1)

one : (n m : List ℕ) → path_cmp (n ∷ []) (m ∷ []) ≡ Less → name_cmp n m ≡ Less
one n m h = by (name_cmp n m) refl
  where
    by : (r : Ordering) → name_cmp n m ≡ r → name_cmp n m ≡ Less
    by Less e = e
    by Equal e = (let end : Equal ≡ Less = sym (ap (λ r. ordering_then r Equal) e) ∙ h in absurd cc)
    by Greater e = (let end : Greater ≡ Less = sym (ap (λ r. ordering_then r Equal) e) ∙ h in absurd cc)

rising_nodes : (nodes : List Node) → RisingKeys (spread nodes) → Rising name_cmp name_of nodes
rising_nodes [] h = tt
rising_nodes (n ∷ ns) h = (all ns (each_back (λ (x : Entry). path_cmp (name_of n ∷ []) x.0 ≡ Less) (under (name_of n) n.below) (spread ns) h.0), rising_nodes ns (rising_back (under (name_of n) (keys_of n)) (spread ns) h))
  where
    all : (ms : List Node) → AllByRecursion (λ (x : Entry). path_cmp (name_of n ∷ []) x.0 ≡ Less) (spread ms) → AllByRecursion (λ m. name_cmp (name_of n) (name_of m) ≡ Less) ms
    all [] h = tt
    all (m ∷ ms) h = (one (name_of n) (name_of m) h.0, all ms (each_back (λ (x : Entry). path_cmp (name_of n ∷ []) x.0 ≡ Less) (under (name_of m) m.below) (spread ms) h.1))

rising_entries : (values : List Value) → Rising name_cmp (λ e. e.0) (entries_of values) → RisingValues values
rising_entries [] h = tt
rising_entries (v ∷ vs) h = (all vs h.0, rising_entries vs h.1)
  where
    all : (ws : List Value) → AllByRecursion (λ e. name_cmp (value_name v) e.0 ≡ Less) (entries_of ws) → AllByRecursion (λ w. name_cmp (value_name v) (value_name w) ≡ Less) ws
    all [] h = tt
    all (w ∷ ws) h = (h.0, all ws h.1)

abbrev level_values : Level → Values
level_values level = entries_of level.values.items

pub ordered : (walk : Walk) (s : Standing) (is : IsWalk walk s) → IsOrdered walk.here
ordered walk s is =
    let above = keys_in (reverse walk.above.items) in
    let own = prefixed (path_of (levels_of walk)) (keys_of (level_node walk.here)) in
    let registry = subst IsRegistry is.keys_are is.registry in
    let rising = rising_prefixed (path_of (levels_of walk)) (keys_of (level_node walk.here)) (rising_back above own (rising_of (above ++ own) registry)) in
    let key = (each_back (λ (x : Entry). IsKey x.0 x.1) above own registry.limits).0 in
    (rising_entries walk.here.values.items (rising_from_sorted name_cmp (level_values walk.here) key.values.rising), rising_nodes walk.here.subkeys.items rising.1)

module _ (walk : Walk) (s : Standing) (is : IsWalk walk s) (open_now : walk.ended ≡ false) where
  abbrev here_open : Standing
  here_open = standing_at is.before is.last (length walk.above.items + 1)

  pub up_follows : Follows walk.cap s lines.Up
  up_follows =
      subst (λ (u : Standing). Follows walk.cap u lines.Up) (sym (open_standing walk s is open_now)) (omega arith, omega (arith, is.counted, is.fits))

  spread_more : (nodes : List Node) (node : Node) → spread (nodes ++ node ∷ []) ≡ spread nodes ++ under (name_of node) (keys_of node)
  spread_more nodes node =
      flat_map-append (λ (n : Node). under (name_of n) (keys_of n)) nodes (node ∷ []) ∙ ap (λ (k : Keys). spread nodes ++ k) (append-nil (under (name_of node) (keys_of node)))

  path_same : (above : List Level) (a b : Level) → a.part ≡ b.part → path_of (a ∷ above) ≡ path_of (b ∷ above)
  path_same [] a b e = refl
  path_same (next ∷ above) a b e = ap (λ (p : List ℕ). path_of (next ∷ above) ++ folded p ∷ []) e

  abbrev made_from : List ℕ → ℕ → ℕ → List Value → List Node → Node
  made_from part birth written values nodes = record { here = record { part = part; birth = birth; written = written; values = entries_of values }; below = spread nodes }

  pub up_walk : (next : Level) (new : Walk) → walk.above.items ≡ new.above.items ++ next ∷ [] → IsUp walk next new → IsWalk new (behind lines.Up s)
  up_walk next new above_are up =
      let ended : new.ended ≡ false = up.ended_is ∙ open_now in
      let rest = reverse new.above.items in
      let count : length walk.above.items ≡ length new.above.items + 1 = omega (arith, ap (λ (l : List Level). length l) above_are, length-append new.above.items (next ∷ [])) in
      let less : length walk.above.items + 1 - 1 ≡ length new.above.items + 1 = omega (arith, count) in
      let levels : levels_of walk ≡ walk.here ∷ next ∷ rest = ap (λ (l : List Level). walk.here ∷ reverse l) above_are ∙ ap (λ (l : List Level). walk.here ∷ l) (reverse-append new.above.items (next ∷ [])) in
      let path = path_of (next ∷ rest) in
      let node = level_node walk.here in
      let same = path_same rest new.here next up.part_is in
      let made : level_node new.here ≡ made_from next.part next.birth next.written next.values.items (next.subkeys.items ++ node ∷ []) =
      ap (λ (p : List ℕ). made_from p new.here.birth new.here.written new.here.values.items new.here.subkeys.items) up.part_is
      ∙ ap (λ b. made_from next.part b new.here.written new.here.values.items new.here.subkeys.items) up.birth_is
      ∙ ap (λ w. made_from next.part next.birth w new.here.values.items new.here.subkeys.items) up.written_is
      ∙ ap (λ (v : List Value). made_from next.part next.birth next.written v new.here.subkeys.items) up.values_are
      ∙ ap (λ (k : List Node). made_from next.part next.birth next.written next.values.items k) up.subkeys_are in
      let keys_now : keys_in (levels_of new) ≡ keys_in (levels_of walk) =
      ap (λ (p : List (List ℕ)). keys_in rest ++ prefixed p (keys_of (level_node new.here))) same
      ∙ ap (λ (n : Node). keys_in rest ++ prefixed path (keys_of n)) made
      ∙ ap (λ (k : Keys). keys_in rest ++ prefixed path (([], (level_node next).here) ∷ k)) (spread_more next.subkeys.items node)
      ∙ sym (ended_same (keys_in rest) path (level_node next).here (level_node next).below node)
      ∙ sym (ap keys_in levels) in
      let path_was : path_of (levels_of walk) ≡ path ++ folded walk.here.part ∷ [] = ap path_of levels in
      record {
        before = is.before;
        last = is.last;
        standing_is = ap (behind lines.Up) (open_standing walk s is open_now)
            ∙ ap (λ n. standing_at is.before is.last n) less
            ∙ ap (λ b. standing_at is.before is.last (open_count b (length new.above.items))) (sym ended);
        keys_are = is.keys_are ∙ sym keys_now;
        registry = is.registry;
        counted = up.size_is ∙ is.counted;
        fits = omega (arith, up.size_is, is.fits, up.cap_is);
        most = omega (arith, is.most, up.cap_is);
        path_counted = omega (arith, up.used_is, is.path_counted, ap used_by path_was, used_more path (folded walk.here.part), length-folded walk.here.part, ap used_by same);
        short = omega (arith, is.short, up.used_is);
        root_alone = λ yes. absurd (differ new.ended yes ended);
      }

  pub done_walk : (new : Walk) → IsDone walk new → IsWalk new (behind lines.Up s)
  done_walk new done =
      let none : length walk.above.items + 1 - 1 ≡ 0 = omega (arith, ap (λ (l : List Level). length l) done.was_alone) in
      let same : levels_of new ≡ levels_of walk = ap (λ (l : List Level). new.here ∷ reverse l) (done.alone ∙ sym done.was_alone) ∙ ap (λ (h : Level). h ∷ reverse walk.above.items) done.here_is in
      record {
        before = is.before;
        last = is.last;
        standing_is = ap (behind lines.Up) (open_standing walk s is open_now)
            ∙ ap (λ n. standing_at is.before is.last n) none
            ∙ ap (λ b. standing_at is.before is.last (open_count b (length new.above.items))) (sym done.ended_is);
        keys_are = is.keys_are ∙ sym (ap keys_in same);
        registry = is.registry;
        counted = done.size_is ∙ is.counted;
        fits = omega (arith, done.size_is, is.fits, done.cap_is);
        most = omega (arith, is.most, done.cap_is);
        path_counted = done.used_is ∙ is.path_counted ∙ ap used_by (ap path_of (sym same));
        short = omega (arith, is.short, done.used_is);
        root_alone = λ _. done.alone;
      }

pub up_ended : (walk : Walk) (s : Standing) (is : IsWalk walk s) → walk.ended ≡ true → Follows walk.cap s lines.Up → ⊥
up_ended walk s is ended follows =
    let some = (subst (λ (u : Standing). Follows walk.cap u lines.Up) (ended_standing walk s is ended) follows).0 in
    omega (arith, some)

-- ---- the root

keys_alone : (path : List (List ℕ)) (keys : Keys) → path ≡ [] → prefixed path keys ≡ keys
keys_alone front [] e = refl
keys_alone front (x ∷ xs) e = ap (λ (p : List (List ℕ)). (p ++ x.0, x.1) ∷ prefixed front xs) e ∙ ap (λ (k : Keys). x ∷ k) (keys_alone front xs e)

pub whole_is : (walk : Walk) (s : Standing) (is : IsWalk walk s) → walk.ended ≡ true → is.before ++ is.last ∷ [] ≡ keys_of (level_node walk.here)
whole_is walk s is ended =
    let levels : levels_of walk ≡ walk.here ∷ [] = ap (λ (l : List Level). walk.here ∷ reverse l) (is.root_alone ended) in
    is.keys_are ∙ ap keys_in levels ∙ keys_alone [] (keys_of (level_node walk.here)) refl

pub held_step : (old : Walk) (value : Value) (s : Standing) (is : IsWalk old s) (new : Walk) → IsLine (lines.Value value) → may_hold old value.name ≡ true → size_with_value old value ≤ old.cap → IsHeld old value (size_with_value old value) new
    → Follows old.cap s (lines.Value value) × IsWalk new (behind (lines.Value value) s) × (new.cap ≡ old.cap)
held_step old value s is new fits ok small did =
    let open_now = hold_open old value.name ok in
    (hold_follows old s is value open_now fits ok small, hold_walk old s is value open_now new fits ok small did, did.cap_is)

pub too_large_value : (old : Walk) (value : Value) → may_hold old value.name ≡ true → old.cap < size_with_value old value → (s : Standing) → IsWalk old s → Follows old.cap s (lines.Value value) → ⊥
too_large_value old value ok large s is follows =
    let small = hold_small old s is value (hold_open old value.name ok) follows in
    omega (arith, small, large)

pub empty_above : (above : List Level) → length above ≡ 0 → above ≡ []
empty_above [] e = refl
empty_above (x ∷ xs) e = absurd (omega (arith, e))

pub up_step : (old : Walk) (s : Standing) (is : IsWalk old s) (next : Level) (new : Walk) → old.ended ≡ false → old.above.items ≡ new.above.items ++ next ∷ [] → IsUp old next new
    → Follows old.cap s lines.Up × IsWalk new (behind lines.Up s) × (new.cap ≡ old.cap)
up_step old s is next new open_now above up = (up_follows old s is open_now, up_walk old s is open_now next new above up, up.cap_is)

pub done_step : (old : Walk) (s : Standing) (is : IsWalk old s) (new : Walk) → old.ended ≡ false → IsDone old new → Follows old.cap s lines.Up × IsWalk new (behind lines.Up s) × (new.cap ≡ old.cap)
done_step old s is new open_now done = (up_follows old s is open_now, done_walk old s is open_now new done, done.cap_is)

pub whole_registry : (walk : Walk) (s : Standing) (is : IsWalk walk s) → walk.ended ≡ true → IsRegistry (keys_of (level_node walk.here)) × (size (keys_of (level_node walk.here)) ≤ walk.cap)
whole_registry walk s is ended =
    let same = whole_is walk s is ended in
    (subst IsRegistry same is.registry, omega (arith, ap size same, is.counted, is.fits))
