-- The lines of a registry may stand behind one another.
use Rattle.std.proofs.Common.{◌≡◌, ℕ, zero, suc, ◌+◌, ◌-◌, ◌≤◌, List, [], ◌∷◌, ◌++◌, length, map, Option, None, refl, sym, ap, subst, ◌∙◌, append_assoc, arith}
use Rattle.std.specs.List.{AllByRecursion}
use Rattle.std.specs.declared.cmp.Ordering.TheVariants.{Less}
use Rattle.std.proofs.lemmas.List.{append-nil}
use Rattle.clus_names.specs.Folding.{folded, name_cmp, path_cmp}
use Rattle.registry_defs.specs.Keys.{ValueData, Values, KeyData, Keys}
use Rattle.registry_defs.specs.Limits.{IsKey, IsRegistry, IsValue}
use Rattle.registry_defs.specs.Rising.{Rising}
use Rattle.registry_defs.specs.Sizes.{key_size, part_size, size, total, value_size, written_size}
use Rattle.registry_defs.proofs.Orders.{rising_from_sorted}
use Rattle.registry_tree.specs.declared.value.Value.{Value}
use Rattle.registry_tree.specs.Values.{value_entry}
use Rattle.registry_tree.proofs.Subkeys.{each_back}
use Rattle.hive_text.specs.Standings.{Entry, FitsIn, Follows, HasPlace, IsBehind, Run, Standing, all_behind, begun_key, behind, listed, named, next_path, nothing_named, some_entry}
use Rattle.hive_text.specs.TextLines.{key_begins, lines_of, ups, value_stands}
use Rattle.hive_text.specs.declared.line.Line.{Line}
use Rattle.hive_text.specs.declared.line.Line.TheVariants as lines
use Rattle.hive_text.proofs.Fronts.{below_last, last_lower, rising_of, rising_split, root_first, same_name, total_append}

abbrev standing : Keys → Option Entry → ℕ → Standing
standing before last count = record { before = before; last = last; open_keys = count }

-- ---- lines in a row

pub run_append : (cap : ℕ) (xs ys : List Line) (s : Standing) → Run cap s xs → Run cap (all_behind xs s) ys → Run cap s (xs ++ ys)
unfolding Run all_behind
run_append cap [] ys s h k = k
run_append cap (x ∷ xs) ys s h k = (h.0, run_append cap xs ys (behind x s) h.1 k)

pub behind_append : (xs ys : List Line) (s : Standing) → all_behind (xs ++ ys) s ≡ all_behind ys (all_behind xs s)
unfolding all_behind
behind_append [] ys s = refl
behind_append (x ∷ xs) ys s = behind_append xs ys (behind x s)

pub run_front : (cap : ℕ) (xs ys : List Line) (s : Standing) → Run cap s (xs ++ ys) → Run cap s xs
unfolding Run
run_front cap [] ys s h = tt
run_front cap (x ∷ xs) ys s h = (h.0, run_front cap xs ys (behind x s) h.1)

pub run_back : (cap : ℕ) (xs ys : List Line) (s : Standing) → Run cap s (xs ++ ys) → Run cap (all_behind xs s) ys
unfolding Run all_behind
run_back cap [] ys s h = h
run_back cap (x ∷ xs) ys s h = run_back cap xs ys (behind x s) h.1

pub next_follows : (cap : ℕ) (line : Line) (s : Standing) → Run cap s (line ∷ []) → Follows cap s line
unfolding Run
next_follows cap line s h = h.0

pub run_more : (cap : ℕ) (xs : List Line) (line : Line) (s : Standing) → Run cap s xs → Follows cap (all_behind xs s) line → Run cap s (xs ++ line ∷ [])
unfolding Run
run_more cap xs line s h k = run_append cap xs (line ∷ []) s h (k, tt)

pub behind_more : (xs : List Line) (line : Line) (s : Standing) → all_behind (xs ++ line ∷ []) s ≡ behind line (all_behind xs s)
unfolding all_behind
behind_more xs line s = behind_append xs (line ∷ []) s

-- lines run to a standing
record Leads (cap : ℕ) (s : Standing) (told : List Line) (t : Standing) : Type 0 where
  pub run : Run cap s told
  pub is : all_behind told s ≡ t

joined : (cap : ℕ) (s t u : Standing) (xs ys : List Line) → Leads cap s xs t → Leads cap t ys u → Leads cap s (xs ++ ys) u
joined cap s t u xs ys first second = record {
  run = run_append cap xs ys s first.run (subst (λ (v : Standing). Run cap v ys) (sym first.is) second.run);
  is = behind_append xs ys s ∙ ap (all_behind ys) first.is ∙ second.is;
}

step : (cap : ℕ) (s : Standing) (line : Line) → Follows cap s line → Leads cap s (line ∷ []) (behind line s)
unfolding Run all_behind
step cap s line may = record { run = (may, tt); is = refl }

nothing : (cap : ℕ) (s : Standing) → Leads cap s [] s
unfolding Run all_behind
nothing cap s = record { run = tt; is = refl }

-- ---- keys that end

ups_lead : (cap : ℕ) (before : Keys) (last : Option Entry) (count n : ℕ) → n ≤ count → size (before ++ listed last) ≤ cap → Leads cap (standing before last count) (ups n) (standing before last (count - n))
unfolding ups
ups_lead cap before last count zero few fits =
    let same : count - 0 ≡ count = omega arith in
    subst (λ k. Leads cap (standing before last count) [] (standing before last k)) (sym same) (nothing cap (standing before last count))
ups_lead cap before last count (suc n) few fits =
    let less : count - 1 - n ≡ count - suc n = omega (arith, few) in
    let rest = ups_lead cap before last (count - 1) n (omega (arith, few)) fits in
    subst (λ k. Leads cap (standing before last count) (lines.Up ∷ ups n) (standing before last k)) less
    (joined cap (standing before last count) (standing before last (count - 1)) (standing before last (count - 1 - n)) (lines.Up ∷ []) (ups n)
    (step cap (standing before last count) lines.Up ((omega (arith, few)), fits)) rest)

-- ---- the values of a key

abbrev with_values : KeyData → Values → KeyData
with_values key values = record { part = key.part; birth = key.birth; written = key.written; values = values }

size_of_key : (path : List (List ℕ)) (key : KeyData) → key_size path key ≡ part_size path key.part + written_size key.written + total value_size key.values
size_of_key path key = refl

smaller : (xs : Keys) (path : List (List ℕ)) (key : KeyData) (front more : Values) (cap : ℕ) → key.values ≡ front ++ more → size (xs ++ (path, key) ∷ []) ≤ cap → size (xs ++ (path, with_values key front) ∷ []) ≤ cap
smaller xs path key front more cap are fits =
    let all = total_append key_size xs ((path, key) ∷ []) in
    let less = total_append key_size xs ((path, with_values key front) ∷ []) in
    let values : total value_size key.values ≡ total value_size front + total value_size more = ap (total value_size) are ∙ total_append value_size front more in
    omega (arith, all, less, values, fits)

values_lead : (cap : ℕ) (xs : Keys) (path : List (List ℕ)) (key : KeyData) (count : ℕ) (front more : Values) → count ≡ length path + 1 → key.values ≡ front ++ more
    → Rising name_cmp (λ e. e.0) (front ++ more) → AllByRecursion (λ e. e.0 ≡ folded e.1.name) (front ++ more) → AllByRecursion (λ e. IsValue e.1) (front ++ more) → size (xs ++ (path, key) ∷ []) ≤ cap
    → Leads cap (standing xs (some_entry (path, with_values key front)) count) (map value_stands more) (standing xs (some_entry (path, key)) count)
values_lead cap xs path key count front [] long are up under limits fits =
    let same : with_values key front ≡ key = ap (with_values key) (sym (are ∙ append-nil front)) in
    subst (λ (k : KeyData). Leads cap (standing xs (some_entry (path, with_values key front)) count) [] (standing xs (some_entry (path, k)) count)) same
    (nothing cap (standing xs (some_entry (path, with_values key front)) count))
values_lead cap xs path key count front (v ∷ vs) long are up under limits fits =
    let regroup : front ++ v ∷ vs ≡ (front ++ v ∷ []) ++ vs = sym (append_assoc front (v ∷ []) vs) in
    let s = standing xs (some_entry (path, with_values key front)) count in
    let value : Value = record { name = v.1.name; kind = v.1.kind; bytes = v.1.bytes } in
    let own : IsValue v.1 = (each_back (λ (e : List ℕ × ValueData). IsValue e.1) front (v ∷ vs) limits).0 in
    let name : v.0 ≡ folded v.1.name = (each_back (λ (e : List ℕ × ValueData). e.0 ≡ folded e.1.name) front (v ∷ vs) under).0 in
    let entry : value_entry value ≡ v = ap (λ n. (n, v.1)) (sym name) in
    let next = standing xs (some_entry (path, with_values key (front ++ v ∷ []))) count in
    let made : behind (lines.Value value) s ≡ next = ap (λ (e : List ℕ × ValueData). standing xs (some_entry (path, with_values key (front ++ e ∷ []))) count) entry in
    let small = smaller xs path key (front ++ v ∷ []) vs cap (are ∙ regroup) fits in
    let may : Follows cap s (lines.Value value) =
    (record { place = long; limits = own; above = last_lower front v vs up under }, subst (λ (t : Standing). FitsIn cap t) (sym made) small) in
    let rest = values_lead cap xs path key count (front ++ v ∷ []) vs long (are ∙ regroup)
    (subst (λ (l : Values). Rising name_cmp (λ e. e.0) l) regroup up) (subst (λ (l : Values). AllByRecursion (λ e. e.0 ≡ folded e.1.name) l) regroup under)
    (subst (λ (l : Values). AllByRecursion (λ e. IsValue e.1) l) regroup limits) fits in
    joined cap s next (standing xs (some_entry (path, key)) count) (lines.Value value ∷ []) (map value_stands vs)
    (subst (λ (t : Standing). Leads cap s (lines.Value value ∷ []) t) made (step cap s (lines.Value value) may)) rest

-- ---- a key with its values

entry_leads : (cap : ℕ) (before : Keys) (last : Option Entry) (count : ℕ) (e : Entry) → HasPlace last count → next_path (standing before last count) e.1.part ≡ e.0 → IsBehind last e.0 → count ≡ length e.0 → IsKey e.0 e.1
    → size ((before ++ listed last) ++ e ∷ []) ≤ cap
    → Leads cap (standing before last count) (key_begins e.1 ∷ map value_stands e.1.values) (standing (before ++ listed last) (some_entry e) (length e.0 + 1))
entry_leads cap before last count e place path above long is fits =
    let s = standing before last count in
    let now = before ++ listed last in
    let begun = begun_key e.1.part e.1.birth e.1.written in
    let key : IsKey e.0 begun = record { named = same_name e.0 e.1 begun refl refl is.named; under_name = is.under_name; short = is.short; written = is.written; values = record { rising = refl; under_names = tt; limits = tt } } in
    let next = standing now (some_entry (e.0, begun)) (length e.0 + 1) in
    let made : behind (key_begins e.1) s ≡ next = ap (λ (p : List (List ℕ)). standing now (some_entry (p, begun)) (count + 1)) path ∙ ap (λ n. standing now (some_entry (e.0, begun)) (n + 1)) long in
    let small : FitsIn cap next = smaller now e.0 e.1 [] e.1.values cap refl fits in
    let may : Follows cap s (key_begins e.1) = (
      record { place = place; limits = subst (λ (p : List (List ℕ)). IsKey p begun) (sym path) key; above = subst (λ (p : List (List ℕ)). IsBehind last p) (sym path) above },
      subst (λ (t : Standing). FitsIn cap t) (sym made) small,
    ) in
    joined cap s next (standing now (some_entry e) (length e.0 + 1)) (key_begins e.1 ∷ []) (map value_stands e.1.values)
    (subst (λ (t : Standing). Leads cap s (key_begins e.1 ∷ []) t) made (step cap s (key_begins e.1) may))
    (values_lead cap now e.0 e.1 (length e.0 + 1) [] e.1.values refl refl (rising_from_sorted name_cmp e.1.values is.values.rising) is.values.under_names is.values.limits fits)

-- ---- all keys

-- all was named, and no key is open
pub record IsDone (s : Standing) (keys : Keys) : Type 0 where
  pub none_open : s.open_keys ≡ 0
  pub all_named : named s ≡ keys

pub record Ends (cap : ℕ) (s : Standing) (told : List Line) (keys : Keys) : Type 0 where
  pub run : Run cap s told
  pub done : IsDone (all_behind told s) keys

then_ends : (cap : ℕ) (s t : Standing) (xs ys : List Line) (keys : Keys) → Leads cap s xs t → Ends cap t ys keys → Ends cap s (xs ++ ys) keys
then_ends cap s t xs ys keys first rest = record {
  run = run_append cap xs ys s first.run (subst (λ (v : Standing). Run cap v ys) (sym first.is) rest.run);
  done = subst (λ (v : Standing). IsDone v keys) (sym (behind_append xs ys s ∙ ap (all_behind ys) first.is)) rest.done;
}

fits_front : (cap : ℕ) (xs ys : Keys) → size (xs ++ ys) ≤ cap → size xs ≤ cap
fits_front cap xs ys fits = omega (arith, fits, total_append key_size xs ys)

forward : (cap : ℕ) (xs : Keys) (l : Entry) (es : Keys) → IsRegistry ((xs ++ l ∷ []) ++ es) → size ((xs ++ l ∷ []) ++ es) ≤ cap
    → Ends cap (standing xs (some_entry l) (length l.0 + 1)) (lines_of (length l.0 + 1) es) ((xs ++ l ∷ []) ++ es)
unfolding lines_of
forward cap xs l [] registry fits =
    let count = length l.0 + 1 in
    let all = ups_lead cap xs (some_entry l) count count (omega arith) (fits_front cap (xs ++ l ∷ []) [] fits) in
    record {
      run = all.run;
      done = subst (λ (v : Standing). IsDone v ((xs ++ l ∷ []) ++ [])) (sym all.is) (record { none_open = omega arith; all_named = sym (append-nil (xs ++ l ∷ [])) });
    }
forward cap xs l (e ∷ es) registry fits =
    let front = xs ++ l ∷ [] in
    let count = length l.0 + 1 in
    let regroup : front ++ e ∷ es ≡ (front ++ e ∷ []) ++ es = sym (append_assoc front (e ∷ []) es) in
    let low = below_last xs l e es registry in
    let key = (each_back (λ (x : Entry). IsKey x.0 x.1) front (e ∷ es) registry.limits).0 in
    let over = (each_back (λ (x : Entry). path_cmp x.0 e.0 ≡ Less) xs (l ∷ []) (rising_split front e es (rising_of (front ++ e ∷ es) registry))).0 in
    let few = low.few in
    let some = low.some in
    let left : count - (count - length e.0) ≡ length e.0 = omega (arith, few) in
    let within = subst (λ (k : Keys). size k ≤ cap) regroup fits in
    let closed = subst (λ n. Leads cap (standing xs (some_entry l) count) (ups (count - length e.0)) (standing xs (some_entry l) n)) left
    (ups_lead cap xs (some_entry l) count (count - length e.0) (omega arith) (fits_front cap front (e ∷ es) fits)) in
    let own = entry_leads cap xs (some_entry l) (length e.0) e some low.is over refl key (fits_front cap (front ++ e ∷ []) es within) in
    let rest = forward cap front e es (subst IsRegistry regroup registry) within in
    let lines_behind = key_begins e.1 ∷ map value_stands e.1.values in
    let last = then_ends cap (standing xs (some_entry l) (length e.0)) (standing front (some_entry e) (length e.0 + 1)) lines_behind (lines_of (length e.0 + 1) es) ((front ++ e ∷ []) ++ es) own rest in
    subst (λ (k : Keys). Ends cap (standing xs (some_entry l) count) (ups (count - length e.0) ++ (lines_behind ++ lines_of (length e.0 + 1) es)) k) (sym regroup)
    (then_ends cap (standing xs (some_entry l) count) (standing xs (some_entry l) (length e.0)) (ups (count - length e.0)) (lines_behind ++ lines_of (length e.0 + 1) es) ((front ++ e ∷ []) ++ es) closed last)

from_root : (cap : ℕ) (key : KeyData) (es : Keys) → IsRegistry (([], key) ∷ es) → size (([], key) ∷ es) ≤ cap → Ends cap nothing_named (lines_of 0 (([], key) ∷ es)) (([], key) ∷ es)
unfolding lines_of ups
from_root cap key es registry fits =
    let is = registry.limits.0 in
    let own = entry_leads cap [] None 0 ([], key) tt refl tt refl is (fits_front cap (([], key) ∷ []) es fits) in
    then_ends cap nothing_named (standing [] (some_entry ([], key)) 1) (key_begins key ∷ map value_stands key.values) (lines_of 1 es) (([], key) ∷ es) own (forward cap [] ([], key) es registry fits)

pub all_run : (cap : ℕ) (keys : Keys) → IsRegistry keys → size keys ≤ cap → Ends cap nothing_named (lines_of 0 keys) keys
all_run cap [] registry fits = absurd (let root = registry.root in cc)
all_run cap ((path, key) ∷ es) registry fits =
    let top : path ≡ [] = root_first (path, key) es registry in
    let P : List (List ℕ) → Type 0 = λ p. IsRegistry ((p, key) ∷ es) → size ((p, key) ∷ es) ≤ cap → Ends cap nothing_named (lines_of 0 ((p, key) ∷ es)) ((p, key) ∷ es) in
    subst P (sym top) (from_root cap key es) registry fits

-- ---- different registries have different lines

pub same_keys : (keys others : Keys) → IsRegistry keys → IsRegistry others → lines_of 0 keys ≡ lines_of 0 others → keys ≡ others
same_keys keys others registry other is =
    let one = all_run (size keys) keys registry (omega arith) in
    let two = all_run (size others) others other (omega arith) in
    sym one.done.all_named ∙ ap (λ (t : List Line). named (all_behind t nothing_named)) is ∙ two.done.all_named

-- ---- what may stand behind lines may follow them

pub follows_if : (cap : ℕ) (told : List Line) (line : Line) (more : List Line) (keys : Keys) → IsRegistry keys → size keys ≤ cap → (told ++ line ∷ []) ++ more ≡ lines_of 0 keys → Follows cap (all_behind told nothing_named) line
follows_if cap told line more keys registry fits is =
    let run = subst (λ (t : List Line). Run cap nothing_named t) (sym is) (all_run cap keys registry fits).run in
    next_follows cap line (all_behind told nothing_named) (run_back cap told (line ∷ []) nothing_named (run_front cap (told ++ line ∷ []) more nothing_named run))

pub done_if : (cap : ℕ) (told : List Line) (keys : Keys) → IsRegistry keys → size keys ≤ cap → told ≡ lines_of 0 keys → IsDone (all_behind told nothing_named) keys
done_if cap told keys registry fits is =
    subst (λ (t : List Line). IsDone (all_behind t nothing_named) keys) (sym is) (all_run cap keys registry fits).done
