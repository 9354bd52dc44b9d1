-- The subkeys of a key: how they are listed, and what each has of the facts of the whole.
use Rattle.std.proofs.Common.{◌≡◌, ℕ, suc, zero, ◌<◌, ◌≤◌, true, false, cond, List, [], ◌∷◌, ◌++◌, map, length, length-append, get_or, Option, Some, None, Bor, refl, sym, ap, subst, ◌∙◌, arith}
use Rattle.std.specs.Prelude.{MatchOption, option_map, option_copied, slice_get, ◌==◌}
use Rattle.std.specs.List.{AllByRecursion}
use Rattle.std.specs.declared.cmp.Ordering.TheVariants.{Less}
use Rattle.std.specs.Ordering.{is_eq, ordering_then}
use Rattle.std.proofs.lemmas.Bool.Decides.{nat_tests}
use Rattle.std.proofs.lemmas.List.{length-map}
use Rattle.clus_names.specs.Folding.{path_cmp}
use Rattle.registry_defs.specs.Keys.{KeyData, Keys}
use Rattle.registry_defs.specs.Limits.{HasFields, HaveFields}
use Rattle.registry_defs.specs.Sections.{subkeys}
use Rattle.registry_defs.specs.Rising.{RisingKeys}
use Rattle.registry_defs.specs.Nodes.{Node, keys_of, name_of, subkey_entry, under, spread}
use Rattle.registry_defs.proofs.Orders.{name_itself}
use Rattle.registry_tree.specs.Weights.{length-under}

pub each_front : {X : Type 0} (P : X → Type 0) (xs ys : List X) → AllByRecursion P (xs ++ ys) → AllByRecursion P xs
each_front P [] ys h = tt
each_front P (x ∷ xs) ys h = (h.0, each_front P xs ys h.1)

pub each_back : {X : Type 0} (P : X → Type 0) (xs ys : List X) → AllByRecursion P (xs ++ ys) → AllByRecursion P ys
each_back P [] ys h = h
each_back P (x ∷ xs) ys h = each_back P xs ys h.1

pub rising_front : (xs ys : Keys) → RisingKeys (xs ++ ys) → RisingKeys xs
rising_front [] ys h = tt
rising_front (x ∷ xs) ys h = (each_front (λ e. path_cmp x.0 e.0 ≡ Less) xs ys h.0, rising_front xs ys h.1)

pub rising_back : (xs ys : Keys) → RisingKeys (xs ++ ys) → RisingKeys ys
rising_back [] ys h = h
rising_back (x ∷ xs) ys h = rising_back xs ys h.1

pub less_under : (p : List ℕ) (q : List (List ℕ)) (es : Keys) → AllByRecursion (λ e. path_cmp (p ∷ q) e.0 ≡ Less) (under p es) → AllByRecursion (λ e. path_cmp q e.0 ≡ Less) es
less_under p q [] h = tt
less_under p q (e ∷ es) h = (ap (λ r. ordering_then r (path_cmp q e.0)) (sym (name_itself p)) ∙ h.0, less_under p q es h.1)

pub rising_under : (p : List ℕ) (es : Keys) → RisingKeys (under p es) → RisingKeys es
rising_under p [] h = tt
rising_under p (e ∷ es) h = (less_under p e.0 es h.0, rising_under p es h.1)

pub each_under : (P : KeyData → Type 0) (p : List ℕ) (es : Keys) → AllByRecursion (λ e. P e.1) (under p es) → AllByRecursion (λ e. P e.1) es
each_under P p [] h = tt
each_under P p (e ∷ es) h = (h.0, each_under P p es h.1)

-- ---- what one subkey has

pub rising_kid : (nodes : List Node) (i : ℕ) (node : Node) → node ≡ get_or nodes i node → i < length nodes → RisingKeys (spread nodes) → RisingKeys (keys_of node)
rising_kid [] i node is within up = absurd (omega arith)
rising_kid (k ∷ ks) zero node is within up = subst (λ (n : Node). RisingKeys (keys_of n)) (sym is) (rising_under (name_of k) (keys_of k) (rising_front (under (name_of k) (keys_of k)) (spread ks) up))
rising_kid (k ∷ ks) (suc i) node is within up = rising_kid ks i node is (omega arith) (rising_back (under (name_of k) (keys_of k)) (spread ks) up)

pub each_kid : (P : KeyData → Type 0) (nodes : List Node) (i : ℕ) (node : Node) → node ≡ get_or nodes i node → i < length nodes → AllByRecursion (λ e. P e.1) (spread nodes) → AllByRecursion (λ e. P e.1) (keys_of node)
each_kid P [] i node is within h = absurd (omega arith)
each_kid P (k ∷ ks) zero node is within h = subst (λ (n : Node). AllByRecursion (λ e. P e.1) (keys_of n)) (sym is) (each_under P (name_of k) (keys_of k) (each_front (λ e. P e.1) (under (name_of k) (keys_of k)) (spread ks) h))
each_kid P (k ∷ ks) (suc i) node is within h = each_kid P ks i node is (omega arith) (each_back (λ e. P e.1) (under (name_of k) (keys_of k)) (spread ks) h)

pub each_here : (P : KeyData → Type 0) (nodes : List Node) → AllByRecursion (λ e. P e.1) (spread nodes) → AllByRecursion (λ node. P node.here) nodes
each_here P [] h = tt
each_here P (k ∷ ks) h = (h.0, each_here P ks (each_back (λ e. P e.1) (under (name_of k) (keys_of k)) (spread ks) h))

pub fewer_kid : (nodes : List Node) (i : ℕ) (node : Node) → node ≡ get_or nodes i node → i < length nodes → length (keys_of node) ≤ length (spread nodes)
fewer_kid [] i node is within = absurd (omega arith)
fewer_kid (k ∷ ks) zero node is within =
    subst (λ (n : Node). length (keys_of n) ≤ length (spread (k ∷ ks))) (sym is) (omega (arith, length-append (under (name_of k) (keys_of k)) (spread ks), length-under (name_of k) (keys_of k)))
fewer_kid (k ∷ ks) (suc i) node is within = omega (arith, fewer_kid ks i node is (omega arith), length-append (under (name_of k) (keys_of k)) (spread ks))

-- what the spelling of a subkey asks for
pub record IsFitKid (n node : Node) : Type 0 where
  pub lighter : length node.below < length n.below
  pub short : length node.here.part ≤ 255
  pub rising : RisingKeys (keys_of node)
  pub fields : HaveFields (keys_of node)

pub fit_kid : (n : Node) (nodes : List Node) (i : ℕ) (node : Node) → spread nodes ≡ n.below → node ≡ get_or nodes i node → i < length nodes → RisingKeys (keys_of n) → HaveFields (keys_of n) → IsFitKid n node
fit_kid n nodes i node below is within up fields =
    let fewer = fewer_kid nodes i node is within in
    let all = ap (λ (l : Keys). length l) below in
    let each = each_kid HasFields nodes i node is within (subst (λ (l : Keys). AllByRecursion (λ e. HasFields e.1) l) (sym below) fields.each.1) in
    let few = fields.few in
    record {
      lighter = omega (arith, fewer, all);
      short = each.0.part;
      rising = rising_kid nodes i node is within (subst RisingKeys (sym below) up.1);
      fields = record { few = omega (arith, fewer, all, few); each = each };
    }

pub few_kids : (nodes : List Node) → length nodes ≤ length (spread nodes)
few_kids [] = omega arith
few_kids (k ∷ ks) = omega (arith, few_kids ks, length-append (under (name_of k) (keys_of k)) (spread ks))

-- ---- the list of subkeys

none_deeper : (p : List ℕ) (es : Keys) → AllByRecursion (λ e. path_cmp [] e.0 ≡ Less) es → subkeys (under p es) ≡ []
none_deeper p [] h = refl
none_deeper p (([], d) ∷ es) h = absurd (let e = ap is_eq h.0 in cc)
none_deeper p ((x ∷ xs, d) ∷ es) h =
    let deep : (suc (suc (length xs)) == 1) ≡ false = grind (arith, nat_tests) in
    ap (λ b. cond b ((p ∷ x ∷ xs, d) ∷ subkeys (under p es)) (subkeys (under p es))) deep ∙ none_deeper p es h.1

subkeys_append : (xs ys : Keys) → subkeys (xs ++ ys) ≡ subkeys xs ++ subkeys ys
subkeys_append [] ys = refl
subkeys_append (x ∷ xs) ys =
    ap (λ (l : Keys). cond (length x.0 == 1) (x ∷ l) l) (subkeys_append xs ys)
    ∙ elim (length x.0 == 1) as (λ b. cond b (x ∷ (subkeys xs ++ subkeys ys)) (subkeys xs ++ subkeys ys) ≡ cond b (x ∷ subkeys xs) (subkeys xs) ++ subkeys ys) [ true ↦ refl | false ↦ refl ]

subkeys_spread : (nodes : List Node) → RisingKeys (spread nodes) → subkeys (spread nodes) ≡ map subkey_entry nodes
subkeys_spread [] up = refl
subkeys_spread (k ∷ ks) up =
    let own = rising_under (name_of k) (keys_of k) (rising_front (under (name_of k) (keys_of k)) (spread ks) up) in
    subkeys_append (under (name_of k) (keys_of k)) (spread ks)
    ∙ ap (λ (l : Keys). (subkey_entry k ∷ l) ++ subkeys (spread ks)) (none_deeper (name_of k) k.below own.0)
    ∙ ap (λ (l : Keys). subkey_entry k ∷ l) (subkeys_spread ks (rising_back (under (name_of k) (keys_of k)) (spread ks) up))

pub subkeys_are : (n : Node) (nodes : List Node) → n.below ≡ spread nodes → RisingKeys (keys_of n) → subkeys (keys_of n) ≡ map subkey_entry nodes
subkeys_are n nodes below up = ap subkeys below ∙ subkeys_spread nodes (subst RisingKeys below up.1)

slice_get_map : {X Y : Type 0} (f : X → Y) (xs : List X) (i : ℕ) → slice_get (map f xs) i ≡ option_map f (slice_get xs i)
slice_get_map f [] i = refl
slice_get_map f (x ∷ xs) zero = refl
slice_get_map f (x ∷ xs) (suc i) = slice_get_map f xs i

abbrev Tells : {Y : Type 0} → (Node → Y) → Option (Bor Node) → Option Y → Type 0
Tells f r o = MatchOption r (o ≡ None) (λ key. o ≡ Some (f key.now))

tells : {Y : Type 0} (f : Node → Y) (r : Option (Bor Node)) → Tells f r (option_map f (option_copied r))
tells f None = refl
tells f (Some key) = refl

pub nth_is : (n : Node) (nodes : List Node) (i : ℕ) (r : Option (Bor Node)) → n.below ≡ spread nodes → RisingKeys (keys_of n) → option_copied r ≡ slice_get nodes i
    → MatchOption r (slice_get (subkeys (keys_of n)) i ≡ None) (λ key. slice_get (subkeys (keys_of n)) i ≡ Some (subkey_entry key.now))
nth_is n nodes i r below up got =
    subst (Tells subkey_entry r) (ap (option_map subkey_entry) got ∙ sym (slice_get_map subkey_entry nodes i) ∙ ap (λ (l : Keys). slice_get l i) (sym (subkeys_are n nodes below up))) (tells subkey_entry r)

pub count_is : (n : Node) (nodes : List Node) → n.below ≡ spread nodes → RisingKeys (keys_of n) → length (subkeys (keys_of n)) ≡ length nodes
count_is n nodes below up = ap length (subkeys_are n nodes below up) ∙ length-map nodes subkey_entry
