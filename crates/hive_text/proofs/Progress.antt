-- Lines that may stand behind one another are those with which a registry's lines begin.
use Rattle.std.proofs.Common.{◌≡◌, ℕ, zero, suc, ◌+◌, ◌-◌, ◌<◌, ◌≤◌, List, [], ◌∷◌, ◌++◌, length, map, take, Option, Some, None, refl, sym, ap, ◌∙◌, append_assoc, length-append, arith}
use Rattle.std.proofs.lemmas.List.{append-nil, length-take-le, map-append}
use Rattle.clus_names.specs.Folding.{folded}
use Rattle.registry_defs.specs.Keys.{Keys, below, root_alone}
use Rattle.registry_defs.specs.Limits.{IsKey}
use Rattle.registry_defs.proofs.Held.{root_registry}
use Rattle.registry_tree.specs.declared.value.Value.{Value}
use Rattle.registry_tree.specs.Values.{value_data, value_entry}
use Rattle.hive_text.specs.Standings.{Entry, Follows, Standing, begun_key, behind, given_value, named, nothing_named}
use Rattle.hive_text.specs.TextFaults.{MayStand}
use Rattle.hive_text.specs.Told.{Stands, open_lines, still_open}
use Rattle.hive_text.specs.TextLines.{key_begins, lines_of, ups, value_stands}
use Rattle.hive_text.specs.declared.line.Line.{Line}
use Rattle.hive_text.specs.declared.line.Line.TheVariants as lines
use Rattle.hive_text.proofs.Fronts.{last_changed, last_key, one_key, one_more, one_more_value, same_name}

-- ---- lines of keys of which some are open

regrouped : (a : List Line) (k : Line) (v o u : List Line) → a ++ (k ∷ (v ++ (o ++ u))) ≡ (a ++ (k ∷ (v ++ o))) ++ u
regrouped a k v o u = simp append_assoc

pub lines_split : (count : ℕ) (keys : Keys) → lines_of count keys ≡ open_lines count keys ++ ups (still_open count keys)
unfolding lines_of
lines_split count [] = refl
lines_split count (e ∷ es) =
    let front = ups (count - length e.0) in
    let values = map value_stands e.1.values in
    ap (λ (t : List Line). front ++ (key_begins e.1 ∷ (values ++ t))) (lines_split (length e.0 + 1) es)
    ∙ regrouped front (key_begins e.1) values (open_lines (length e.0 + 1) es) (ups (still_open (length e.0 + 1) es))

open_more : (count : ℕ) (xs : Keys) (e : Entry) → open_lines count (xs ++ e ∷ []) ≡ open_lines count xs ++ (ups (still_open count xs - length e.0) ++ (key_begins e.1 ∷ map value_stands e.1.values))
open_more count [] e = ap (λ (t : List Line). ups (count - length e.0) ++ (key_begins e.1 ∷ t)) (append-nil (map value_stands e.1.values))
open_more count (x ∷ xs) e =
    let front = ups (count - length x.0) in
    let values = map value_stands x.1.values in
    let last = ups (still_open (length x.0 + 1) xs - length e.0) ++ (key_begins e.1 ∷ map value_stands e.1.values) in
    ap (λ (t : List Line). front ++ (key_begins x.1 ∷ (values ++ t))) (open_more (length x.0 + 1) xs e)
    ∙ regrouped front (key_begins x.1) values (open_lines (length x.0 + 1) xs) last

still_more : (count : ℕ) (xs : Keys) (e : Entry) → still_open count (xs ++ e ∷ []) ≡ length e.0 + 1
still_more count [] e = refl
still_more count (x ∷ xs) e = still_more (length x.0 + 1) xs e

no_ups : (count : ℕ) → count ≡ 0 → ups count ≡ []
unfolding ups
no_ups zero e = refl
no_ups (suc count) e = absurd (omega (arith, e))

ups_join : (a b : ℕ) → ups (a + b) ≡ ups a ++ ups b
unfolding ups
ups_join zero b = let e : zero + b ≡ b = omega arith in ap ups e
ups_join (suc a) b =
    let e : suc a + b ≡ suc (a + b) = omega arith in
    ap ups e ∙ ap (λ (t : List Line). lines.Up ∷ t) (ups_join a b)

one_up : ups 1 ≡ lines.Up ∷ []
unfolding ups
one_up = refl

-- ---- what was told

module _ (xs : Keys) (count : ℕ) (told : List Line) (few : count ≤ still_open 0 xs) (is : told ≡ open_lines 0 xs ++ ups (still_open 0 xs - count)) where
  key_told : (e : Entry) → length e.0 ≡ count → e.1.values ≡ [] → told ++ key_begins e.1 ∷ [] ≡ open_lines 0 (xs ++ e ∷ []) ++ ups (still_open 0 (xs ++ e ∷ []) - (count + 1))
  key_told e long none =
      let closed : still_open 0 (xs ++ e ∷ []) - (count + 1) ≡ 0 = omega (arith, still_more 0 xs e, long) in
      let whole = open_more 0 xs e in
      let values : map value_stands e.1.values ≡ [] = ap (map value_stands) none in
      ap (λ (t : List Line). t ++ key_begins e.1 ∷ []) is
      ∙ append_assoc (open_lines 0 xs) (ups (still_open 0 xs - count)) (key_begins e.1 ∷ [])
      ∙ ap (λ n. open_lines 0 xs ++ (ups (still_open 0 xs - n) ++ key_begins e.1 ∷ [])) (sym long)
      ∙ ap (λ (t : List Line). open_lines 0 xs ++ (ups (still_open 0 xs - length e.0) ++ (key_begins e.1 ∷ t))) (sym values)
      ∙ sym whole
      ∙ sym (append-nil (open_lines 0 (xs ++ e ∷ [])))
      ∙ ap (λ (t : List Line). open_lines 0 (xs ++ e ∷ []) ++ t) (sym (no_ups (still_open 0 (xs ++ e ∷ []) - (count + 1)) closed))

  up_told : 0 < count → told ++ lines.Up ∷ [] ≡ open_lines 0 xs ++ ups (still_open 0 xs - (count - 1))
  up_told some =
      let one : still_open 0 xs - (count - 1) ≡ (still_open 0 xs - count) + 1 = omega (arith, some, few) in
      ap (λ (t : List Line). t ++ lines.Up ∷ []) is
      ∙ append_assoc (open_lines 0 xs) (ups (still_open 0 xs - count)) (lines.Up ∷ [])
      ∙ ap (λ (t : List Line). open_lines 0 xs ++ t) (ap (λ (t : List Line). ups (still_open 0 xs - count) ++ t) (sym one_up) ∙ sym (ups_join (still_open 0 xs - count) 1) ∙ ap ups (sym one))

  pub closed_told : told ++ ups count ≡ lines_of 0 xs
  closed_told =
      let all : (still_open 0 xs - count) + count ≡ still_open 0 xs = omega (arith, few) in
      ap (λ (t : List Line). t ++ ups count) is
      ∙ append_assoc (open_lines 0 xs) (ups (still_open 0 xs - count)) (ups count)
      ∙ ap (λ (t : List Line). open_lines 0 xs ++ t) (sym (ups_join (still_open 0 xs - count) count) ∙ ap ups all)
      ∙ sym (lines_split 0 xs)

value_told : (xs : Keys) (e : Entry) (count : ℕ) (told : List Line) (value : Value) → count ≡ length e.0 + 1 → told ≡ open_lines 0 (xs ++ e ∷ []) ++ ups (still_open 0 (xs ++ e ∷ []) - count)
    → told ++ lines.Value value ∷ [] ≡ open_lines 0 (xs ++ given_value value e ∷ []) ++ ups (still_open 0 (xs ++ given_value value e ∷ []) - count)
value_told xs e count told value long is =
    let new = given_value value e in
    let none : still_open 0 (xs ++ e ∷ []) - count ≡ 0 = omega (arith, still_more 0 xs e, long) in
    let none_now : still_open 0 (xs ++ new ∷ []) - count ≡ 0 = omega (arith, still_more 0 xs new, long) in
    let front = open_lines 0 xs in
    let closed = ups (still_open 0 xs - length e.0) in
    let values = map value_stands e.1.values in
    ap (λ (t : List Line). t ++ lines.Value value ∷ []) (is ∙ ap (λ (t : List Line). open_lines 0 (xs ++ e ∷ []) ++ t) (no_ups (still_open 0 (xs ++ e ∷ []) - count) none) ∙ append-nil (open_lines 0 (xs ++ e ∷ [])) ∙ open_more 0 xs e)
    ∙ sym (behind_all front closed (key_begins e.1) values (lines.Value value))
    ∙ ap (λ (t : List Line). front ++ (closed ++ (key_begins e.1 ∷ t))) (sym (map-append value_stands e.1.values (value_entry value ∷ [])))
    ∙ sym (open_more 0 xs new)
    ∙ sym (append-nil (open_lines 0 (xs ++ new ∷ [])))
    ∙ ap (λ (t : List Line). open_lines 0 (xs ++ new ∷ []) ++ t) (sym (no_ups (still_open 0 (xs ++ new ∷ []) - count) none_now))
  where
    behind_all : (a b : List Line) (k : Line) (v : List Line) (x : Line) → a ++ (b ++ (k ∷ (v ++ x ∷ []))) ≡ (a ++ (b ++ (k ∷ v))) ++ x ∷ []
    behind_all a b k v x = simp append_assoc

-- ---- how far reading came

pub at_first : (cap : ℕ) → Stands cap nothing_named []
unfolding ups
at_first cap = record { few = omega arith; told_is = refl; within = refl }

path_long : (path : List (List ℕ)) (count : ℕ) (part : List ℕ) → 0 < count → count ≤ length path + 1 → length (below (take (count - 1) path) part) ≡ count
path_long path count part some few =
    let front : length (take (count - 1) path) ≡ count - 1 = length-take-le (count - 1) path (omega (arith, few)) in
    omega (arith, front, some, length-append (take (count - 1) path) (folded part ∷ []))

module _ (cap : ℕ) (told : List Line) where
  key_behind : (before : Keys) (last : Option Entry) (count : ℕ) (part : List ℕ) (birth written : ℕ)
      → Stands cap (record { before = before; last = last; open_keys = count }) told
      → Follows cap (record { before = before; last = last; open_keys = count }) (lines.Key part birth written)
      → Stands cap (behind (lines.Key part birth written) (record { before = before; last = last; open_keys = count })) (told ++ lines.Key part birth written ∷ [])
  key_behind [] None count part birth written stands may =
      let few = stands.few in
      let none : 0 ≡ count = omega (arith, few) in
      record {
        few = omega (arith, few);
        told_is = key_told [] count told few stands.told_is ([], begun_key part birth written) none refl;
        within = (one_key (begun_key part birth written) may.0.limits, may.1);
      }
  key_behind (x ∷ xs) None count part birth written stands may = absurd (let is = stands.within in cc)
  key_behind before (Some e) count part birth written stands may =
      let few : count ≤ still_open 0 (before ++ e ∷ []) = stands.few in
      let long = path_long e.0 count part may.0.place (omega (arith, few, still_more 0 before e)) in
      let new : Entry = (below (take (count - 1) e.0) part, begun_key part birth written) in
      record {
        few = omega (arith, still_more 0 (before ++ e ∷ []) new, long);
        told_is = key_told (before ++ e ∷ []) count told few stands.told_is new long refl;
        within = (one_more before e (count - 1) part (begun_key part birth written) stands.within.0 may.0.limits may.0.above, may.1);
      }

  value_behind : (before : Keys) (last : Option Entry) (count : ℕ) (value : Value)
      → Stands cap (record { before = before; last = last; open_keys = count }) told
      → Follows cap (record { before = before; last = last; open_keys = count }) (lines.Value value)
      → Stands cap (behind (lines.Value value) (record { before = before; last = last; open_keys = count })) (told ++ lines.Value value ∷ [])
  value_behind before None count value stands may = absurd may.0
  value_behind before (Some e) count value stands may =
      let hold = may.0 in
      let new = given_value value e in
      let is = last_key before e stands.within.0 in
      let values = one_more_value e.1.values (value_data value) is.values hold.limits hold.above in
      let now : IsKey e.0 new.1 = record { named = same_name e.0 e.1 new.1 refl refl is.named; under_name = is.under_name; short = is.short; written = is.written; values = values } in
      record {
        few = omega (arith, still_more 0 before new, hold.place);
        told_is = value_told before e count told value hold.place stands.told_is;
        within = (last_changed before e.0 e.1 new.1 stands.within.0 now, may.1);
      }

pub stands_behind : (cap : ℕ) (s : Standing) (told : List Line) (line : Line) → Stands cap s told → Follows cap s line → Stands cap (behind line s) (told ++ line ∷ [])
stands_behind cap s told (lines.Key part birth written) stands may = key_behind cap told s.before s.last s.open_keys part birth written stands may
stands_behind cap s told (lines.Value value) stands may = value_behind cap told s.before s.last s.open_keys value stands may
stands_behind cap s told lines.Up stands may =
    let few = stands.few in
    record {
      few = omega (arith, few);
      told_is = up_told (named s) s.open_keys told stands.few stands.told_is may.0;
      within = stands.within;
    }

-- ---- they are the front of a registry's lines

module _ (cap : ℕ) (told : List Line) (large : 16 ≤ cap) where
  stand_at : (before : Keys) (last : Option Entry) (count : ℕ) → Stands cap (record { before = before; last = last; open_keys = count }) told → MayStand cap told
  stand_at [] None count stands =
      let few = stands.few in
      let none : 0 - count ≡ 0 = omega (arith, few) in
      let empty : told ≡ [] = stands.told_is ∙ no_ups (0 - count) none in
      record { behind = lines_of 0 root_alone; all = record { keys = root_alone; registry = root_registry; fits = large; are = ap (λ (t : List Line). t ++ lines_of 0 root_alone) empty } }
  stand_at (x ∷ xs) None count stands = absurd (let is = stands.within in cc)
  stand_at before (Some e) count stands =
      let keys = before ++ e ∷ [] in
      record { behind = ups count; all = record { keys = keys; registry = stands.within.0; fits = stands.within.1; are = closed_told keys count told stands.few stands.told_is } }

  pub may_stand : (s : Standing) → Stands cap s told → MayStand cap told
  may_stand s stands = stand_at s.before s.last s.open_keys stands

pub are_all : (cap : ℕ) (told : List Line) (before : Keys) (e : Entry) → Stands cap (record { before = before; last = Some e; open_keys = 0 }) told → told ≡ lines_of 0 (before ++ e ∷ [])
unfolding ups
are_all cap told before e stands = sym (append-nil told) ∙ closed_told (before ++ e ∷ []) 0 told stands.few stands.told_is
