-- What stands before a key in the order of paths, and a registry with one more key or value.
use Rattle.std.proofs.Common.{◌≡◌, ℕ, zero, suc, ◌+◌, ◌-◌, ◌<◌, ◌≤◌, ◌^◌, true, List, [], ◌∷◌, ◌++◌, length, take, Option, None, refl, sym, ap, subst, ◌∙◌, append_assoc, length-append, arith}
use Rattle.std.specs.Prelude.{IsSome, is_some, option_map}
use Rattle.std.specs.FinMap.{find, put}
use Rattle.std.specs.FinMap.Entries.{by_order}
use Rattle.std.specs.List.{AllByRecursion, last_or}
use Rattle.std.specs.declared.cmp.Ordering.{Ordering}
use Rattle.std.specs.declared.cmp.Ordering.TheVariants.{Less, Equal, Greater}
use Rattle.std.specs.Ordering.{is_lt, ordering_reverse, ordering_then}
use Rattle.std.proofs.lemmas.List.{append-nil}
use Rattle.clus_names.specs.Folding.{folded, name_cmp, path_cmp}
use Rattle.clus_names.specs.Limits.{IsPart}
use Rattle.registry_defs.specs.Keys.{ValueData, Values, KeyData, Keys, below, key_at}
use Rattle.registry_defs.specs.Limits.{AreValues, EndsIn, IsKey, IsNamed, IsRegistry, IsValue}
use Rattle.registry_defs.specs.Rising.{Rising, RisingKeys}
use Rattle.registry_defs.specs.Sections.{parent_of}
use Rattle.registry_defs.specs.Sizes.{total}
use Rattle.registry_defs.specs.StateGrammar.{is_above}
use Rattle.registry_defs.proofs.Keeping.{registry_put, tree_of}
use Rattle.registry_defs.proofs.Maps.{each_put, found_itself, not_none, sorted_put}
use Rattle.registry_defs.proofs.Orders.{name_exact, name_itself, name_total, path_exact, path_itself, path_total, rising_from_sorted}
use Rattle.registry_defs.proofs.Paths.{has_parent, parent_below}
use Rattle.registry_defs.proofs.Runs as runs
use Rattle.registry_defs.proofs.Trees.{IsTree}
use Rattle.registry_tree.proofs.Subkeys.{each_back, rising_back, rising_front}
use Rattle.registry_tree.proofs.Under.{each_append}

-- ---- orders

pub flipped : (p q : List (List ℕ)) → path_cmp p q ≡ Less → path_cmp q p ≡ Greater
flipped p q is = path_total.antisymm q p ∙ ap ordering_reverse is

name_flipped : (p q : List ℕ) → name_cmp p q ≡ Less → name_cmp q p ≡ Greater
name_flipped p q is = name_total.antisymm q p ∙ ap ordering_reverse is

-- a path between another one and one right below that begins with it
abbrev IsFront : List (List ℕ) → List (List ℕ) → Type 0
IsFront q l = (take (length q) l ≡ q) × (length q ≤ length l)

between_by : (a b : List ℕ) (q l : List (List ℕ)) (x : List ℕ) (r : Ordering) → name_cmp a b ≡ r → ((path_cmp q l ≡ Greater → ⊥) → path_cmp l (q ++ x ∷ []) ≡ Less → IsFront q l)
    → (path_cmp (a ∷ q) (b ∷ l) ≡ Greater → ⊥) → path_cmp (b ∷ l) ((a ∷ q) ++ x ∷ []) ≡ Less → IsFront (a ∷ q) (b ∷ l)
between_by a b q l x Less is rest low high =
    let up = name_flipped a b is in
    let end : Greater ≡ Less = sym (ap (λ r. ordering_then r (path_cmp l (q ++ x ∷ []))) up) ∙ high in
    absurd cc
between_by a b q l x Greater is rest low high = absurd (low (ap (λ r. ordering_then r (path_cmp q l)) is))
between_by a b q l x Equal is rest low high =
    let same : a ≡ b = name_exact a b is in
    let inner_low : path_cmp q l ≡ Greater → ⊥ = λ e. low (ap (λ r. ordering_then r (path_cmp q l)) is ∙ e) in
    let tied : name_cmp b a ≡ Equal = ap (λ z. name_cmp b z) same ∙ name_itself b in
    let inner_high : path_cmp l (q ++ x ∷ []) ≡ Less = sym (ap (λ r. ordering_then r (path_cmp l (q ++ x ∷ []))) tied) ∙ high in
    let found = rest inner_low inner_high in
    (ap (λ t. b ∷ t) found.0 ∙ ap (λ z. z ∷ q) (sym same), omega (arith, found.1))

pub between : (q l : List (List ℕ)) (x : List ℕ) → (path_cmp q l ≡ Greater → ⊥) → path_cmp l (q ++ x ∷ []) ≡ Less → (take (length q) l ≡ q) × (length q ≤ length l)
between [] l x low high = (refl, omega arith)
between (a ∷ q) [] x low high = absurd (low refl)
between (a ∷ q) (b ∷ l) x low high = between_by a b q l x (name_cmp a b) refl (between q l x) low high

-- ---- all before the last

pub rising_split : (xs : Keys) (e : List (List ℕ) × KeyData) (ys : Keys) → RisingKeys (xs ++ e ∷ ys) → AllByRecursion (λ x. path_cmp x.0 e.0 ≡ Less) xs
rising_split [] e ys h = tt
rising_split (x ∷ xs) e ys h = ((each_back (λ y. path_cmp x.0 y.0 ≡ Less) xs (e ∷ ys) h.0).0, rising_split xs e ys h.1)

-- what is above the last is above all
pub below_all : (xs : Keys) (e : List (List ℕ) × KeyData) (p : List (List ℕ)) → RisingKeys (xs ++ e ∷ []) → path_cmp e.0 p ≡ Less → runs.IsAbove path_cmp p (xs ++ e ∷ [])
below_all xs e p up is =
    each_append (λ x. path_cmp p x.0 ≡ Greater) xs (e ∷ []) (all xs (rising_split xs e [] up)) (flipped e.0 p is, tt)
  where
    all : (xs : Keys) → AllByRecursion (λ x. path_cmp x.0 e.0 ≡ Less) xs → AllByRecursion (λ x. path_cmp p x.0 ≡ Greater) xs
    all [] h = tt
    all (x ∷ xs) h = (flipped x.0 p (path_total.trans x.0 e.0 p h.0 is), all xs h.1)

pub above_last : (xs : Keys) (e : List (List ℕ) × KeyData) → RisingKeys (xs ++ e ∷ []) → runs.IsAbove path_cmp e.0 xs
above_last xs e up = all xs (rising_split xs e [] up)
  where
    all : (xs : Keys) → AllByRecursion (λ x. path_cmp x.0 e.0 ≡ Less) xs → AllByRecursion (λ x. path_cmp e.0 x.0 ≡ Greater) xs
    all [] h = tt
    all (x ∷ xs) h = (flipped x.0 e.0 h.0, all xs h.1)

-- ---- one more key

pub rising_of : (keys : Keys) → IsRegistry keys → RisingKeys keys
rising_of keys registry = rising_from_sorted path_cmp keys registry.rising

pub one_key : (key : KeyData) → IsKey [] key → IsRegistry (([], key) ∷ [])
one_key key is = record { rising = refl; limits = (is, tt); root = refl; parents = (refl, tt) }

-- fronts of a path that is there are there
front_there : (q r : List (List ℕ)) (keys : Keys) → IsTree keys → IsSome (key_at (q ++ r) keys) → IsSome (key_at q keys)
front_there q [] keys tree there = subst (λ l. IsSome (key_at l keys)) (append-nil q) there
front_there q (p ∷ ps) keys tree there =
    let next = front_there (q ++ p ∷ []) ps keys tree (subst (λ l. IsSome (key_at l keys)) (sym (append_assoc q (p ∷ []) ps)) there) in
    subst (λ l. IsSome (key_at l keys)) (parent_below q p) (tree.closed (q ++ p ∷ []) next)

take_and_rest : (n : ℕ) (path : List (List ℕ)) → (rest : List (List ℕ)) × (path ≡ take n path ++ rest)
take_and_rest zero path = (path, refl)
take_and_rest (suc n) [] = ([], refl)
take_and_rest (suc n) (p ∷ ps) = let more = take_and_rest n ps in (more.0, ap (λ l. p ∷ l) more.1)

last_there : (xs : Keys) (e : List (List ℕ) × KeyData) → RisingKeys (xs ++ e ∷ []) → IsSome (key_at e.0 (xs ++ e ∷ []))
last_there xs e up = ap is_some (runs.find_behind path_cmp e.0 xs (e ∷ []) (above_last xs e up) ∙ found_itself path_cmp path_total path_exact e [])

pub one_more : (xs : Keys) (e : List (List ℕ) × KeyData) (n : ℕ) (part : List ℕ) (key : KeyData) → IsRegistry (xs ++ e ∷ [])
    → IsKey (below (take n e.0) part) key → path_cmp e.0 (below (take n e.0) part) ≡ Less
    → IsRegistry ((xs ++ e ∷ []) ++ (below (take n e.0) part, key) ∷ [])
one_more xs e n part key registry is above =
    let keys = xs ++ e ∷ [] in
    let p = below (take n e.0) part in
    let up = rising_of keys registry in
    let rest = take_and_rest n e.0 in
    let there = front_there (take n e.0) rest.0 keys (tree_of keys registry) (subst (λ l. IsSome (key_at l keys)) rest.1 (last_there xs e up)) in
    let parent = subst (λ l. IsSome (key_at l keys)) (sym (parent_below (take n e.0) (folded part))) there in
    let made = registry_put p key keys registry is parent in
    let same : put path_cmp p key keys ≡ keys ++ (p, key) ∷ [] =
    ap (put path_cmp p key) (sym (append-nil keys)) ∙ runs.put_behind path_cmp p key keys [] (below_all xs e p up above) in
    subst IsRegistry same made

-- ---- another key in place of the last

pub last_changed : (xs : Keys) (path : List (List ℕ)) (old new : KeyData) → IsRegistry (xs ++ (path, old) ∷ []) → IsKey path new → IsRegistry (xs ++ (path, new) ∷ [])
last_changed xs path old new registry is =
    let keys = xs ++ (path, old) ∷ [] in
    let up = rising_of keys registry in
    let there = last_there xs (path, old) up in
    let made = registry_put path new keys registry is ((tree_of keys registry).closed path there) in
    let same : put path_cmp path new keys ≡ xs ++ (path, new) ∷ [] =
    runs.put_behind path_cmp path new xs ((path, old) ∷ []) (above_last xs (path, old) up)
    ∙ ap (λ r. xs ++ by_order r ((path, new) ∷ (path, old) ∷ []) ((path, new) ∷ []) ((path, old) ∷ put path_cmp path new [])) (path_itself path) in
    subst IsRegistry same made

-- ---- one more value

values_above : (values : Values) (name : List ℕ) → Rising name_cmp (λ e. e.0) values → AllByRecursion (λ entry. entry.0 ≡ folded entry.1.name) values
    → is_above (option_map (λ entry. entry.1.name) (last_or None values)) name ≡ true → runs.IsAbove name_cmp (folded name) values
values_above [] name up under above = tt
values_above (v ∷ []) name up under above =
    let is : name_cmp v.0 (folded name) ≡ Less = ap (λ n. name_cmp n (folded name)) under.0 ∙ lt_less (name_cmp (folded v.1.name) (folded name)) above in
    (name_flipped v.0 (folded name) is, tt)
  where
    lt_less : (r : Ordering) → is_lt r ≡ true → r ≡ Less
    lt_less Less e = refl
    lt_less Equal e = absurd (cc)
    lt_less Greater e = absurd (cc)
values_above (v ∷ w ∷ vs) name up under above =
    let rest = values_above (w ∷ vs) name up.1 under.1 above in
    let low : name_cmp w.0 (folded name) ≡ Less = name_total.antisymm w.0 (folded name) ∙ ap ordering_reverse rest.0 in
    (name_flipped v.0 (folded name) (name_total.trans v.0 w.0 (folded name) up.0.0 low), rest)

pub one_more_value : (values : Values) (value : ValueData) → AreValues values → IsValue value → is_above (option_map (λ entry. entry.1.name) (last_or None values)) value.name ≡ true
    → AreValues (values ++ (folded value.name, value) ∷ [])
one_more_value values value are is above =
    let n = folded value.name in
    let over = values_above values value.name (rising_from_sorted name_cmp values are.rising) are.under_names above in
    let same : put name_cmp n value values ≡ values ++ (n, value) ∷ [] =
    ap (put name_cmp n value) (sym (append-nil values)) ∙ runs.put_behind name_cmp n value values [] over in
    subst AreValues same (record {
      rising = sorted_put name_cmp name_total name_exact n value values are.rising;
      under_names = each_put name_cmp name_total name_exact (λ m (v : ValueData). m ≡ folded v.name) n value values refl are.under_names;
      limits = each_put name_cmp name_total name_exact (λ m (v : ValueData). IsValue v) n value values is are.limits;
    })

-- ---- what a registry's keys have

pub last_key : (xs : Keys) (e : List (List ℕ) × KeyData) → IsRegistry (xs ++ e ∷ []) → IsKey e.0 e.1
last_key xs e registry = (each_back (λ (x : List (List ℕ) × KeyData). IsKey x.0 x.1) xs (e ∷ []) registry.limits).0

pub same_name : (path : List (List ℕ)) (old new : KeyData) → old.part ≡ new.part → old.birth ≡ new.birth → IsNamed path old → IsNamed path new
same_name [] old new part birth is = (sym part ∙ is.0, sym birth ∙ is.1)
same_name (p ∷ ps) old new part birth is = (subst IsPart part is.0, subst (λ n. 0 < n) birth is.1, subst (λ n. n < 2 ^ 63) birth is.2)

-- the first key is the root
pub root_first : (e : List (List ℕ) × KeyData) (es : Keys) → IsRegistry (e ∷ es) → e.0 ≡ []
root_first ([], key) es registry = refl
root_first (p ∷ ps, key) es registry =
    let up = rising_of ((p ∷ ps, key) ∷ es) registry in
    absurd (not_none (key_at [] ((p ∷ ps, key) ∷ es)) (runs.find_none path_cmp [] ((p ∷ ps, key) ∷ es) (refl, none_less es up.0)) registry.root)
  where
    deeper : (p : List ℕ) (ps path : List (List ℕ)) → path_cmp (p ∷ ps) path ≡ Less → path_cmp [] path ≡ Less
    deeper p ps [] is = absurd cc
    deeper p ps (q ∷ qs) is = refl

    none_less : (xs : Keys) → AllByRecursion (λ x. path_cmp (p ∷ ps) x.0 ≡ Less) xs → AllByRecursion (λ x. path_cmp [] x.0 ≡ Less) xs
    none_less [] h = tt
    none_less (x ∷ xs) h = (deeper p ps x.0 h.0, none_less xs h.1)

-- the key above one is on the way to the key before it
pub record IsBelowLast (l path : List (List ℕ)) (key : KeyData) : Type 0 where
  pub some : 0 < length path
  pub few : length path ≤ length l + 1
  pub is : below (take (length path - 1) l) key.part ≡ path

ends_so : (path : List (List ℕ)) (last part : List ℕ) → EndsIn part (path ++ last ∷ []) → last ≡ folded part
ends_so [] last part h = h
ends_so (p ∷ []) last part h = h
ends_so (p ∷ q ∷ ps) last part h = ends_so (q ∷ ps) last part h

less_below : (q : List (List ℕ)) (x : List ℕ) → path_cmp q (q ++ x ∷ []) ≡ Less
less_below [] x = refl
less_below (p ∷ ps) x = ap (λ r. ordering_then r (path_cmp ps (ps ++ x ∷ []))) (name_itself p) ∙ less_below ps x

not_above : (xs : Keys) (l : List (List ℕ) × KeyData) (q : List (List ℕ)) → RisingKeys (xs ++ l ∷ []) → IsSome (key_at q (xs ++ l ∷ [])) → path_cmp q l.0 ≡ Greater → ⊥
not_above xs l q up there over =
    let low : path_cmp l.0 q ≡ Less = path_total.antisymm l.0 q ∙ ap ordering_reverse over in
    not_none (key_at q (xs ++ l ∷ []))
    (ap (find path_cmp q) (sym (append-nil (xs ++ l ∷ []))) ∙ runs.find_behind path_cmp q (xs ++ l ∷ []) [] (below_all xs l q up low)) there

all_less : (q path : List (List ℕ)) (ys : Keys) → path_cmp q path ≡ Less → AllByRecursion (λ x. path_cmp path x.0 ≡ Less) ys → AllByRecursion (λ x. path_cmp q x.0 ≡ Less) ys
all_less q path [] is h = tt
all_less q path (y ∷ ys) is h = (path_total.trans q path y.0 is h.0, all_less q path ys is h.1)

pub below_last : (xs : Keys) (l e : List (List ℕ) × KeyData) (es : Keys) → IsRegistry ((xs ++ l ∷ []) ++ e ∷ es) → IsBelowLast l.0 e.0 e.1
below_last xs l e es registry =
    let front = xs ++ l ∷ [] in
    let all = front ++ e ∷ es in
    let up = rising_of all registry in
    let behind = rising_back front (e ∷ es) up in
    let over : path_cmp l.0 e.0 ≡ Less = (each_back (λ (x : List (List ℕ) × KeyData). path_cmp x.0 e.0 ≡ Less) xs (l ∷ []) (rising_split front e es up)).0 in
    let key = (each_back (λ (x : List (List ℕ) × KeyData). IsKey x.0 x.1) front (e ∷ es) registry.limits).0 in
    let parent = (each_back (λ (x : List (List ℕ) × KeyData). IsSome (key_at (parent_of x.0) all)) front (e ∷ es) registry.parents).0 in
    by e.0 refl over key.under_name parent behind.0
  where
    by : (path : List (List ℕ)) → e.0 ≡ path → path_cmp l.0 path ≡ Less → EndsIn e.1.part path
        → IsSome (key_at (parent_of path) ((xs ++ l ∷ []) ++ e ∷ es)) → AllByRecursion (λ x. path_cmp path x.0 ≡ Less) es → IsBelowLast l.0 path e.1
    by [] is over ends parent low = absurd (nothing_less l.0 over)
      where
        nothing_less : (q : List (List ℕ)) → path_cmp q [] ≡ Less → ⊥
        nothing_less [] h = absurd cc
        nothing_less (p ∷ ps) h = absurd cc
    by (p ∷ ps) is over ends parent low =
        let path : List (List ℕ) = p ∷ ps in
        let front = xs ++ l ∷ [] in
        let up = has_parent p ps in
        let q = parent_of path in
        let less_here : path_cmp q path ≡ Less = ap (path_cmp q) up.is ∙ less_below q up.last in
        let here : path_cmp q e.0 ≡ Less = ap (path_cmp q) is ∙ less_here in
        let there : IsSome (key_at q front) = subst (λ (o : Option KeyData). IsSome o) (runs.find_before path_cmp q front (e ∷ es) (here, all_less q path es less_here low)) parent in
        let rising = rising_front front (e ∷ es) (rising_of (front ++ e ∷ es) registry) in
        let fits = between q l.0 up.last (not_above xs l q rising there) (sym (ap (path_cmp l.0) up.is) ∙ over) in
        let long : length path ≡ length q + 1 = ap (λ (t : List (List ℕ)). length t) up.is ∙ length-append q (up.last ∷ []) in
        let count : length path - 1 ≡ length q = omega (arith, long) in
        let last : folded e.1.part ≡ up.last = sym (ends_so q up.last e.1.part (subst (λ (t : List (List ℕ)). EndsIn e.1.part t) up.is ends)) in
        record {
          some = omega arith;
          few = omega (arith, long, fits.1);
          is = ap (λ n. below (take n l.0) e.1.part) count ∙ ap (λ (t : List (List ℕ)). below t e.1.part) fits.0 ∙ ap (λ (t : List ℕ). q ++ t ∷ []) last ∙ sym up.is;
        }

-- each value's name is above those before it
pub last_lower : (front : Values) (v : List ℕ × ValueData) (vs : Values) → Rising name_cmp (λ e. e.0) (front ++ v ∷ vs) → AllByRecursion (λ e. e.0 ≡ folded e.1.name) (front ++ v ∷ vs)
    → is_above (option_map (λ entry. entry.1.name) (last_or None front)) v.1.name ≡ true
last_lower [] v vs up under = refl
last_lower (x ∷ []) v vs up under =
    ap is_lt (ap (λ n. name_cmp n (folded v.1.name)) (sym under.0) ∙ ap (name_cmp x.0) (sym under.1.0) ∙ up.0.0)
last_lower (x ∷ y ∷ ys) v vs up under = last_lower (y ∷ ys) v vs up.1 under.1

-- ---- sizes

pub total_append : {K X : Type 0} (one : K → X → ℕ) (xs ys : List (K × X)) → total one (xs ++ ys) ≡ total one xs + total one ys
total_append one [] ys = omega arith
total_append one (x ∷ xs) ys = omega (arith, total_append one xs ys)
