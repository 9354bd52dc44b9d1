-- A key that begins below an open one.
use Rattle.std.proofs.Common.{◌≡◌, ℕ, ◌+◌, ◌-◌, ◌*◌, ◌<◌, ◌≤◌, ◌^◌, ◌&&◌, Bool, true, false, not, List, [], ◌∷◌, ◌++◌, length, take, None, refl, sym, ap, subst, ◌∙◌, length-append, All, arith}
use Rattle.std.specs.Prelude.{nat_le, nat_lt, reverse, ◌==◌, ◌||◌}
use Rattle.std.specs.List.{last_or, list_any}
use Rattle.std.specs.declared.cmp.Ordering.TheVariants.{Less}
use Rattle.std.proofs.lemmas.Bool.{le-leb, leb-true, lt-ltb, ltb-true}
use Rattle.std.proofs.lemmas.Bool.Decides.{nat_tests}
use Rattle.std.proofs.lemmas.List.{append-nil, length-reverse, reverse-append}
use Rattle.std.proofs.lemmas.List.Elements.{All-nil, All-cons, All-head, All-tail}
use Rattle.clus_names.specs.Folding.{folded, path_cmp}
use Rattle.clus_names.specs.Limits.{IsNameUnit, IsPart, IsPartUnit}
use Rattle.clus_names.specs.Parts.{text_of}
use Rattle.registry_defs.specs.Keys.{KeyData, Keys, below}
use Rattle.registry_defs.specs.Limits.{IsKey, IsNamed, IsRegistry}
use Rattle.registry_defs.specs.Nodes.{Node, keys_of}
use Rattle.registry_defs.specs.Sizes.{key_size, size, written_size}
use Rattle.registry_defs.specs.StateGrammar.{is_above, lacks_separator}
use Rattle.registry_defs.proofs.Paths.{ends_in, length-folded}
use Rattle.hive_text.specs.LineWords.{IsLine}
use Rattle.hive_text.specs.Standings.{Follows, MayBegin, Standing, begun_key, behind, named, next_path}
use Rattle.hive_text.specs.Walks.{IsBegun, IsWalk, is_birth, is_part, keys_in, last_part, level_node, levels_of, may_begin, open_count, path_of, prefixed, size_with_key, standing_at, used_by}
use Rattle.hive_text.specs.declared.line.Line.{Line}
use Rattle.hive_text.specs.declared.line.Line.TheVariants as lines
use Rattle.hive_text.specs.declared.walk.Level.{Level}
use Rattle.hive_text.specs.declared.walk.Walk.{Walk}
use Rattle.hive_text.proofs.Chains.{LastIs, front_path, is_above_if, is_behind, last_is, path_length, text_length, used_more}
use Rattle.hive_text.proofs.Fronts.{one_more, total_append}

pub both_true : (a b : Bool) → (a && b) ≡ true → (a ≡ true) × (b ≡ true)
both_true true b e = (refl, e)
both_true false b e = absurd (cc e)

pub true_both : (a b : Bool) → a ≡ true → b ≡ true → (a && b) ≡ true
true_both a b p q = rw (p, q) refl

pub not_true : (b : Bool) → not b ≡ true → b ≡ false
not_true true e = absurd (cc e)
not_true false e = refl

pub true_not : (b : Bool) → b ≡ false → not b ≡ true
true_not b e = ap not e

pub differ : (b : Bool) → b ≡ true → b ≡ false → ⊥
differ b p q = absurd (cc (p, q))

-- ---- the last key

module _ (walk : Walk) (s : Standing) (is : IsWalk walk s) where
  pub own_path : List (List ℕ)
  own_path = path_of (levels_of walk)

  pub last_at : LastIs is.last (path_of (levels_of walk)) (level_node walk.here).here walk.here.subkeys.items
  last_at = last_is (keys_in (reverse walk.above.items)) (path_of (levels_of walk)) (level_node walk.here).here walk.here.subkeys.items is.before is.last is.keys_are

  pub path_long : length (path_of (levels_of walk)) ≡ length walk.above.items
  path_long = path_length walk.here (reverse walk.above.items) ∙ length-reverse walk.above.items

  pub open_standing : walk.ended ≡ false → s ≡ standing_at is.before is.last (length walk.above.items + 1)
  open_standing open_now = is.standing_is ∙ ap (λ b. standing_at is.before is.last (open_count b (length walk.above.items))) open_now

  pub ended_standing : walk.ended ≡ true → s ≡ standing_at is.before is.last 0
  ended_standing ended = is.standing_is ∙ ap (λ b. standing_at is.before is.last (open_count b (length walk.above.items))) ended

  -- the front of the last path is the path of the innermost open key
  pub front_is : take (length walk.above.items + 1 - 1) is.last.0 ≡ path_of (levels_of walk)
  front_is =
      let count : length walk.above.items + 1 - 1 ≡ length (path_of (levels_of walk)) = omega (arith, path_long) in
      ap (take (length walk.above.items + 1 - 1)) last_at.path_is ∙ front_path (length walk.above.items + 1 - 1) (path_of (levels_of walk)) last_at.rest count

-- ---- names

list_any_none : (part : List ℕ) → All IsPartUnit part → lacks_separator part ≡ true
list_any_none [] h = refl
list_any_none (u ∷ us) h =
    let first = (All-head IsPartUnit u us h).not_separator in
    let no = list_any_none us (All-tail IsPartUnit u us h) in
    grind (arith, nat_tests)

units_of : (part : List ℕ) → All IsNameUnit part → lacks_separator part ≡ true → All IsPartUnit part
units_of [] h e = All-nil IsPartUnit
units_of (u ∷ us) h e =
    let own = All-head IsNameUnit u us h in
    let apart = separated u (list_any (λ unit. unit == 0x5C) us) e in
    All-cons IsPartUnit u us (record { not_zero = own.not_zero; in_range = own.in_range; not_separator = apart.0 }) (units_of us (All-tail IsNameUnit u us h) apart.1)
  where
    separated : (u : ℕ) (others : Bool) → not ((u == 0x5C) || others) ≡ true → (u ≡ 0x5C → ⊥) × (not others ≡ true)
    separated u others e = (λ same. grind (arith, nat_tests), grind (arith, nat_tests))

pub part_is : (part : List ℕ) → All IsNameUnit part → is_part part ≡ true → IsPart part
part_is part units e =
    let one = both_true (nat_lt 0 (length part)) (nat_le (length part) 255 && lacks_separator part) e in
    let two = both_true (nat_le (length part) 255) (lacks_separator part) one.1 in
    record { not_empty = ltb-true _ _ one.0; short = leb-true _ _ two.0; units = units_of part units two.1 }

pub part_passes : (part : List ℕ) → IsPart part → is_part part ≡ true
part_passes part is =
    true_both (nat_lt 0 (length part)) (nat_le (length part) 255 && lacks_separator part) (lt-ltb _ _ is.not_empty)
    (true_both (nat_le (length part) 255) (lacks_separator part) (le-leb _ _ is.short) (list_any_none part is.units))

named_below : (path : List (List ℕ)) (part : List ℕ) (key : KeyData) → IsPart key.part → 0 < key.birth → key.birth < 2 ^ 63 → IsNamed (below path part) key
named_below [] part key is some small = (is, some, small)
named_below (p ∷ ps) part key is some small = (is, some, small)

below_named : (path : List (List ℕ)) (part : List ℕ) (key : KeyData) → IsNamed (below path part) key → IsPart key.part × (0 < key.birth) × (key.birth < 2 ^ 63)
below_named [] part key is = is
below_named (p ∷ ps) part key is = is

size_below : (path : List (List ℕ)) (part : List ℕ) (birth written : ℕ) → key_size (below path part) (begun_key part birth written) ≡ 18 + 2 * length part + written_size written
size_below [] part birth written = omega arith
size_below (p ∷ ps) part birth written = omega arith

size_more : (keys : Keys) (path : List (List ℕ)) (part : List ℕ) (birth written : ℕ) → size (keys ++ (below path part, begun_key part birth written) ∷ []) ≡ size keys + (18 + 2 * length part + written_size written)
size_more keys path part birth written = omega (arith, total_append key_size keys ((below path part, begun_key part birth written) ∷ []), size_below path part birth written)

module _ (walk : Walk) (s : Standing) (is : IsWalk walk s) (part : List ℕ) (birth written : ℕ) (open_now : walk.ended ≡ false) where
  abbrev t : Standing
  t = standing_at is.before is.last (length walk.above.items + 1)

  abbrev path : List (List ℕ)
  path = path_of (levels_of walk)

  abbrev key : KeyData
  key = begun_key part birth written

  abbrev line : Line
  line = lines.Key part birth written

  abbrev keys : Keys
  keys = is.before ++ is.last ∷ []

  next_is : next_path t part ≡ below path part
  next_is = ap (λ (p : List (List ℕ)). below p part) (front_is walk s is)

  made : named (behind line t) ≡ keys ++ (below path part, key) ∷ []
  made = ap (λ (p : List (List ℕ)). keys ++ (p, key) ∷ []) next_is

  size_made : size (named (behind line t)) ≡ size_with_key walk part written
  size_made = ap size made ∙ size_more keys path part birth written ∙ ap (λ n. n + (18 + 2 * length part + written_size written)) (sym is.counted)

  order_same : path_cmp is.last.0 (below path part) ≡ path_cmp (path ++ (last_at walk s is).rest) (path ++ folded part ∷ [])
  order_same = ap (λ (p : List (List ℕ)). path_cmp p (below path part)) (last_at walk s is).path_is

  short_text : length (text_of (below path part)) ≡ walk.used + length part
  short_text = omega (arith, text_length path (folded part), length-folded part, is.path_counted)

  may : IsLine line → may_begin walk part birth ≡ true → MayBegin t part birth written
  may fits ok =
      let one = both_true (not walk.ended) ((is_part part && is_birth birth) && (nat_le (walk.used + length part) 1023 && is_above (last_part walk.here.subkeys.items) part)) ok in
      let two = both_true (is_part part && is_birth birth) (nat_le (walk.used + length part) 1023 && is_above (last_part walk.here.subkeys.items) part) one.1 in
      let three = both_true (is_part part) (is_birth birth) two.0 in
      let four = both_true (nat_le (walk.used + length part) 1023) (is_above (last_part walk.here.subkeys.items) part) two.1 in
      let births = both_true (nat_lt 0 birth) (nat_lt birth (2 ^ 63)) three.1 in
      let few : walk.used + length part ≤ 1023 = leb-true _ _ four.0 in
      let limits : IsKey (below path part) key = record {
        named = named_below path part key (part_is part fits.0.units three.0) (ltb-true _ _ births.0) (ltb-true _ _ births.1);
        under_name = ends_in path part;
        short = omega (arith, short_text, few);
        written = fits.2;
        values = record { rising = refl; under_names = tt; limits = tt };
      } in
      let low = order_same ∙ is_behind path part (last_at walk s is).rest is.last.1 (level_node walk.here).here (last_or None walk.here.subkeys.items) (last_at walk s is).rest_is four.1 in
      record {
        place = omega arith;
        limits = subst (λ (p : List (List ℕ)). IsKey p key) (sym next_is) limits;
        above = subst (λ (p : List (List ℕ)). path_cmp is.last.0 p ≡ Less) (sym next_is) low;
      }

  pub begin_follows : IsLine line → may_begin walk part birth ≡ true → size_with_key walk part written ≤ walk.cap → Follows walk.cap s line
  begin_follows fits ok small =
      subst (λ (u : Standing). Follows walk.cap u line) (sym (open_standing walk s is open_now)) (may fits ok, omega (arith, size_made, small))

  follows_open : Follows walk.cap s line → Follows walk.cap t line
  follows_open follows = subst (λ (u : Standing). Follows walk.cap u line) (open_standing walk s is open_now) follows

  pub begin_small : Follows walk.cap s line → size_with_key walk part written ≤ walk.cap
  begin_small follows =
      let small : size (named (behind line t)) ≤ walk.cap = (follows_open follows).1 in
      omega (arith, size_made, small)

  pub begin_passes : Follows walk.cap s line → may_begin walk part birth ≡ true
  begin_passes follows =
      let own = (follows_open follows).0 in
      let limits : IsKey (below path part) key = subst (λ (p : List (List ℕ)). IsKey p key) next_is own.limits in
      let low : path_cmp is.last.0 (below path part) ≡ Less = subst (λ (p : List (List ℕ)). path_cmp is.last.0 p ≡ Less) next_is own.above in
      let names = below_named path part key limits.named in
      let short = limits.short in
      let above = is_above_if path part (last_at walk s is).rest is.last.1 (level_node walk.here).here (last_or None walk.here.subkeys.items) (last_at walk s is).rest_is (sym order_same ∙ low) in
      true_both (not walk.ended) ((is_part part && is_birth birth) && (nat_le (walk.used + length part) 1023 && is_above (last_part walk.here.subkeys.items) part)) (true_not walk.ended open_now)
      (true_both (is_part part && is_birth birth) (nat_le (walk.used + length part) 1023 && is_above (last_part walk.here.subkeys.items) part)
      (true_both (is_part part) (is_birth birth) (part_passes part names.0) (true_both (nat_lt 0 birth) (nat_lt birth (2 ^ 63)) (lt-ltb _ _ names.1) (lt-ltb _ _ names.2)))
      (true_both (nat_le (walk.used + length part) 1023) (is_above (last_part walk.here.subkeys.items) part) (le-leb _ _ (omega (arith, short_text, short))) above))

  node_is : (level : Level) → level.part ≡ part → level.birth ≡ birth → level.written ≡ written → level.values.items ≡ [] → level.subkeys.items ≡ [] → level_node level ≡ record { here = key; below = [] }
  node_is level p b w v k = rw (p, b, w, v, k) refl

  levels_are : (new : Walk) → new.above.items ≡ walk.above.items ++ walk.here ∷ [] → levels_of new ≡ new.here ∷ levels_of walk
  levels_are new above = ap (λ (l : List Level). new.here ∷ reverse l) above ∙ ap (λ (l : List Level). new.here ∷ l) (reverse-append walk.above.items (walk.here ∷ []))

  pub begin_walk : (new : Walk) → IsLine line → may_begin walk part birth ≡ true → size_with_key walk part written ≤ walk.cap → IsBegun walk part birth written (size_with_key walk part written) new → IsWalk new (behind line s)
  begin_walk new fits ok small begun =
      let own = may fits ok in
      let limits : IsKey (below (take (length walk.above.items + 1 - 1) is.last.0) part) key = own.limits in
      let all = one_more is.before is.last (length walk.above.items + 1 - 1) part key is.registry limits own.above in
      let ended : new.ended ≡ false = begun.ended_is ∙ open_now in
      let count : length new.above.items ≡ length walk.above.items + 1 = omega (arith, ap (λ (l : List Level). length l) begun.above_are, length-append walk.above.items (walk.here ∷ [])) in
      let levels = levels_are new begun.above_are in
      let node = node_is new.here begun.part_is begun.birth_is begun.written_is begun.no_values begun.no_subkeys in
      let path_now : path_of (levels_of new) ≡ path ++ folded part ∷ [] = ap path_of levels ∙ ap (λ (n : List ℕ). path ++ folded n ∷ []) begun.part_is in
      let keys_now : keys_in (levels_of new) ≡ keys ++ (below path part, key) ∷ [] =
      ap keys_in levels
      ∙ ap (λ (n : List ℕ). keys_in (levels_of walk) ++ prefixed (path ++ folded n ∷ []) (keys_of (level_node new.here))) begun.part_is
      ∙ ap (λ (n : Node). keys_in (levels_of walk) ++ prefixed (path ++ folded part ∷ []) (keys_of n)) node
      ∙ ap (λ (p : List (List ℕ)). keys_in (levels_of walk) ++ (p, key) ∷ []) (append-nil (path ++ folded part ∷ []))
      ∙ ap (λ (k : Keys). k ++ (below path part, key) ∷ []) (sym is.keys_are) in
      let one = both_true (not walk.ended) ((is_part part && is_birth birth) && (nat_le (walk.used + length part) 1023 && is_above (last_part walk.here.subkeys.items) part)) ok in
      let two = both_true (is_part part && is_birth birth) (nat_le (walk.used + length part) 1023 && is_above (last_part walk.here.subkeys.items) part) one.1 in
      let four = both_true (nat_le (walk.used + length part) 1023) (is_above (last_part walk.here.subkeys.items) part) two.1 in
      let few : walk.used + length part ≤ 1023 = leb-true _ _ four.0 in
      record {
        before = keys;
        last = (below path part, key);
        standing_is = ap (behind line) (open_standing walk s is open_now)
            ∙ ap (λ (p : List (List ℕ)). standing_at keys (p, key) (length walk.above.items + 1 + 1)) next_is
            ∙ ap (λ n. standing_at keys (below path part, key) (n + 1)) (sym count)
            ∙ ap (λ b. standing_at keys (below path part, key) (open_count b (length new.above.items))) (sym ended);
        keys_are = sym keys_now;
        registry = subst (λ (p : List (List ℕ)). IsRegistry (keys ++ (p, key) ∷ [])) next_is all;
        counted = begun.size_is ∙ sym (ap size (sym made) ∙ size_made);
        fits = omega (arith, begun.size_is, small, begun.cap_is);
        most = omega (arith, is.most, begun.cap_is);
        path_counted = omega (arith, begun.used_is, is.path_counted, ap used_by path_now, used_more path (folded part), length-folded part);
        short = omega (arith, begun.used_is, few);
        root_alone = λ yes. absurd (differ new.ended yes ended);
      }

-- ---- where no key may begin

pub none_ended : (walk : Walk) (s : Standing) (is : IsWalk walk s) (part : List ℕ) (birth written : ℕ) → walk.ended ≡ true → Follows walk.cap s (lines.Key part birth written) → ⊥
none_ended walk s is part birth written ended follows =
    let own : MayBegin (standing_at is.before is.last 0) part birth written = (subst (λ (u : Standing). Follows walk.cap u (lines.Key part birth written)) (ended_standing walk s is ended) follows).0 in
    let place = own.place in
    omega (arith, place)

pub begin_refused : (walk : Walk) (s : Standing) (is : IsWalk walk s) (part : List ℕ) (birth written : ℕ) → may_begin walk part birth ≡ false → Follows walk.cap s (lines.Key part birth written) → ⊥
begin_refused walk s is part birth written fails follows = by walk.ended refl
  where
    by : (b : Bool) → walk.ended ≡ b → ⊥
    by true ended = none_ended walk s is part birth written ended follows
    by false open_now = differ (may_begin walk part birth) (begin_passes walk s is part birth written open_now follows) fails

pub begin_open : (walk : Walk) (part : List ℕ) (birth : ℕ) → may_begin walk part birth ≡ true → walk.ended ≡ false
begin_open walk part birth ok =
    not_true walk.ended (both_true (not walk.ended) ((is_part part && is_birth birth) && (nat_le (walk.used + length part) 1023 && is_above (last_part walk.here.subkeys.items) part)) ok).0

pub part_short : (walk : Walk) (part : List ℕ) (birth : ℕ) → may_begin walk part birth ≡ true → length part ≤ 255
part_short walk part birth ok =
    let one = both_true (not walk.ended) ((is_part part && is_birth birth) && (nat_le (walk.used + length part) 1023 && is_above (last_part walk.here.subkeys.items) part)) ok in
    let two = both_true (is_part part && is_birth birth) (nat_le (walk.used + length part) 1023 && is_above (last_part walk.here.subkeys.items) part) one.1 in
    let three = both_true (is_part part) (is_birth birth) two.0 in
    let four = both_true (nat_lt 0 (length part)) (nat_le (length part) 255 && lacks_separator part) three.0 in
    leb-true _ _ (both_true (nat_le (length part) 255) (lacks_separator part) four.1).0

-- ---- a step as the call tells it

pub begun_step : (old : Walk) (part passed : List ℕ) (birth written : ℕ) (s : Standing) (is : IsWalk old s) (new : Walk) → passed ≡ part → IsLine (lines.Key part birth written) → may_begin old passed birth ≡ true
    → size_with_key old passed written ≤ old.cap → IsBegun old part birth written (size_with_key old passed written) new
    → Follows old.cap s (lines.Key part birth written) × IsWalk new (behind (lines.Key part birth written) s) × (new.cap ≡ old.cap)
begun_step old part passed birth written s is new same fits ok small begun =
    let P : List ℕ → Type 0 = λ p. may_begin old p birth ≡ true → size_with_key old p written ≤ old.cap → IsBegun old part birth written (size_with_key old p written) new
    → Follows old.cap s (lines.Key part birth written) × IsWalk new (behind (lines.Key part birth written) s) × (new.cap ≡ old.cap) in
    let open_now = begin_open old passed birth ok in
    let own : P part = λ yes little did.
    (begin_follows old s is part birth written open_now fits yes little, begin_walk old s is part birth written open_now new fits yes little did, did.cap_is) in
    subst P (sym same) own ok small begun

pub too_large : (old : Walk) (part : List ℕ) (birth written : ℕ) → may_begin old part birth ≡ true → old.cap < size_with_key old part written → (s : Standing) → IsWalk old s → Follows old.cap s (lines.Key part birth written) → ⊥
too_large old part birth written ok large s is follows =
    let small = begin_small old s is part birth written (begin_open old part birth ok) follows in
    omega (arith, small, large)
