-- The entries of all subkeys of a key: they have what each subkey's own entries have.
use Rattle.std.proofs.Common.{◌≡◌, Bool, true, false, cond, List, [], ◌∷◌, ◌++◌, Option, Some, refl, sym, ap, subst, ◌∙◌, ℕ}
use Rattle.std.specs.Prelude.{IsSome}
use Rattle.std.specs.List.{AllByRecursion}
use Rattle.std.specs.declared.cmp.Ordering.TheVariants.{Less}
use Rattle.std.specs.Ordering.{eq_by_cmp, ordering_then}
use Rattle.clus_names.specs.Folding.{name_cmp, path_cmp}
use Rattle.registry_defs.specs.Keys.{KeyData, Keys, key_at}
use Rattle.registry_defs.specs.Sections.{parent_of}
use Rattle.registry_defs.specs.Rising.{Rising, RisingKeys}
use Rattle.registry_defs.specs.Nodes.{Node, keys_of, name_of, under, spread}
use Rattle.registry_defs.proofs.Orders.{name_itself}
use Rattle.registry_tree.proofs.Places.{each_map}
use Rattle.registry_tree.proofs.Under.{each_append, find_under, below_spread}
use Rattle.registry_tree.proofs.Plug.{parent_below}

-- ---- they rise

less_below : (p : List ℕ) (q : List (List ℕ)) (es : Keys) → AllByRecursion (λ e. path_cmp q e.0 ≡ Less) es → AllByRecursion (λ e. path_cmp (p ∷ q) e.0 ≡ Less) (under p es)
less_below p q [] h = tt
less_below p q (e ∷ es) h = (ap (λ r. ordering_then r (path_cmp q e.0)) (name_itself p) ∙ h.0, less_below p q es h.1)

rising_below : (p : List ℕ) (es : Keys) → RisingKeys es → RisingKeys (under p es)
rising_below p [] h = tt
rising_below p (e ∷ es) h = (less_below p e.0 es h.0, rising_below p es h.1)

rising_append : (xs ys : Keys) → RisingKeys xs → RisingKeys ys → AllByRecursion (λ x. AllByRecursion (λ y. path_cmp x.0 y.0 ≡ Less) ys) xs → RisingKeys (xs ++ ys)
rising_append [] ys h k less = k
rising_append (x ∷ xs) ys h k less = (each_append (λ e. path_cmp x.0 e.0 ≡ Less) xs ys h.0 less.0, rising_append xs ys h.1 k less.1)

less_spread : (p : List ℕ) (es : Keys) (nodes : List Node) → AllByRecursion (λ node. name_cmp p (name_of node) ≡ Less) nodes → AllByRecursion (λ x. AllByRecursion (λ y. path_cmp x.0 y.0 ≡ Less) (spread nodes)) (under p es)
less_spread p [] nodes higher = tt
less_spread p (e ∷ es) nodes higher = (below_spread p e.0 nodes higher, less_spread p es nodes higher)

rising_spread : (nodes : List Node) → Rising name_cmp name_of nodes → AllByRecursion (λ node. RisingKeys (keys_of node)) nodes → RisingKeys (spread nodes)
rising_spread [] named own = tt
rising_spread (node ∷ nodes) named own =
    rising_append (under (name_of node) (keys_of node)) (spread nodes)
    (rising_below (name_of node) (keys_of node) own.0)
    (rising_spread nodes named.1 own.1)
    (less_spread (name_of node) (keys_of node) nodes named.0)

-- the key itself stands before them all
root_less : (p : List ℕ) (es : Keys) → AllByRecursion (λ e. path_cmp [] e.0 ≡ Less) (under p es)
root_less p [] = tt
root_less p (e ∷ es) = (refl, root_less p es)

root_first : (nodes : List Node) → AllByRecursion (λ e. path_cmp [] e.0 ≡ Less) (spread nodes)
root_first [] = tt
root_first (node ∷ nodes) = each_append (λ e. path_cmp [] e.0 ≡ Less) (under (name_of node) (keys_of node)) (spread nodes) (root_less (name_of node) (keys_of node)) (root_first nodes)

pub rising_keys : (here : KeyData) (nodes : List Node) → Rising name_cmp name_of nodes → AllByRecursion (λ node. RisingKeys (keys_of node)) nodes → RisingKeys (([], here) ∷ spread nodes)
rising_keys here nodes named own = (root_first nodes, rising_spread nodes named own)

-- ---- what holds of each subkey's entries holds of them all

each_below : (P : List (List ℕ) → KeyData → Type 0) (p : List ℕ) (es : Keys) → AllByRecursion (λ e. P (p ∷ e.0) e.1) es → AllByRecursion (λ e. P e.0 e.1) (under p es)
each_below P p [] h = tt
each_below P p (e ∷ es) h = (h.0, each_below P p es h.1)

pub each_spread : (P : List (List ℕ) → KeyData → Type 0) (nodes : List Node) → AllByRecursion (λ node. AllByRecursion (λ e. P (name_of node ∷ e.0) e.1) (keys_of node)) nodes → AllByRecursion (λ e. P e.0 e.1) (spread nodes)
each_spread P [] h = tt
each_spread P (node ∷ nodes) h =
    each_append (λ e. P e.0 e.1) (under (name_of node) (keys_of node)) (spread nodes) (each_below P (name_of node) (keys_of node) h.0) (each_spread P nodes h.1)

-- ---- their parents are there

abbrev pub HaveParents : Keys → Keys → Type 0
HaveParents all es = AllByRecursion (λ e. IsSome (key_at (parent_of e.0) all)) es

still_some : (b : Bool) (d : KeyData) (o p : Option KeyData) → (IsSome o → IsSome p) → IsSome (cond b (Some d) o) → IsSome (cond b (Some d) p)
still_some true d o p more h = refl
still_some false d o p more h = more h

some_front : (q : List (List ℕ)) (xs ys : Keys) → IsSome (key_at q xs) → IsSome (key_at q (xs ++ ys))
some_front q [] ys h = absurd cc
some_front q (x ∷ xs) ys h = still_some (eq_by_cmp path_cmp q x.0) x.1 (key_at q xs) (key_at q (xs ++ ys)) (some_front q xs ys) h

or_some : (b : Bool) (d : KeyData) (o : Option KeyData) → IsSome o → IsSome (cond b (Some d) o)
or_some true d o h = refl
or_some false d o h = h

some_back : (q : List (List ℕ)) (xs ys : Keys) → IsSome (key_at q ys) → IsSome (key_at q (xs ++ ys))
some_back q [] ys h = h
some_back q (x ∷ xs) ys h = or_some (eq_by_cmp path_cmp q x.0) x.1 (key_at q (xs ++ ys)) (some_back q xs ys h)

parents_below : (here : KeyData) (p : List ℕ) (own es back : Keys) → HaveParents own es → HaveParents (([], here) ∷ (under p own ++ back)) (under p es)
parents_below here p own [] back h = tt
parents_below here p own (([], d) ∷ es) back h = (refl, parents_below here p own es back h.1)
parents_below here p own ((x ∷ xs, d) ∷ es) back h =
    let up : List (List ℕ) = parent_of (x ∷ xs) in
    let there : IsSome (key_at (p ∷ up) (under p own ++ back)) = some_front (p ∷ up) (under p own) back (subst IsSome (sym (find_under p up own)) h.0) in
    (subst (λ q. IsSome (key_at q (([], here) ∷ (under p own ++ back)))) (sym (parent_below p x xs)) there, parents_below here p own es back h.1)

parents_spread : (here : KeyData) (nodes : List Node) → AllByRecursion (λ node. HaveParents (keys_of node) (keys_of node)) nodes → HaveParents (([], here) ∷ spread nodes) (spread nodes)
parents_spread here [] h = tt
parents_spread here (node ∷ nodes) h =
    let front = under (name_of node) (keys_of node) in
    let back = spread nodes in
    each_append (λ e. IsSome (key_at (parent_of e.0) (([], here) ∷ (front ++ back)))) front back
    (parents_below here (name_of node) (keys_of node) (keys_of node) back h.0)
    (each_map (λ e. IsSome (key_at (parent_of e.0) (([], here) ∷ back))) (λ e. IsSome (key_at (parent_of e.0) (([], here) ∷ (front ++ back))))
    (λ e some. still_some (eq_by_cmp path_cmp (parent_of e.0) []) here (key_at (parent_of e.0) back) (key_at (parent_of e.0) (front ++ back)) (some_back (parent_of e.0) front back) some)
    back (parents_spread here nodes h.1))

pub have_parents : (here : KeyData) (nodes : List Node) → AllByRecursion (λ node. HaveParents (keys_of node) (keys_of node)) nodes → HaveParents (([], here) ∷ spread nodes) (([], here) ∷ spread nodes)
have_parents here nodes h = (refl, parents_spread here nodes h)
