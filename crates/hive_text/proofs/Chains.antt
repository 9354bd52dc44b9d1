-- The keys in some open keys, and what a line makes of them.
use Rattle.std.proofs.Common.{◌≡◌, ℕ, zero, suc, ◌+◌, true, List, [], ◌∷◌, ◌++◌, length, take, Option, Some, None, refl, sym, ap, subst, ◌∙◌, append_assoc, length-append, arith}
use Rattle.std.specs.Prelude.{option_map}
use Rattle.std.specs.List.{last_or}
use Rattle.std.specs.declared.cmp.Ordering.{Ordering}
use Rattle.std.specs.declared.cmp.Ordering.TheVariants.{Less, Equal, Greater}
use Rattle.std.specs.Ordering.{is_lt, ordering_then}
use Rattle.std.proofs.lemmas.Grind.{flat_map-append}
use Rattle.std.proofs.lemmas.List.{append-nil, map-append}
use Rattle.clus_names.specs.Folding.{folded, name_cmp, path_cmp}
use Rattle.clus_names.specs.Parts.{separator, text_of}
use Rattle.registry_defs.specs.Keys.{KeyData, Keys}
use Rattle.registry_defs.specs.Nodes.{Node, keys_of, name_of, spread, under}
use Rattle.registry_defs.specs.StateGrammar.{is_above}
use Rattle.registry_defs.proofs.Orders.{cmp_behind}
use Rattle.hive_text.specs.Standings.{Entry}
use Rattle.hive_text.specs.Walks.{path_of, prefixed, used_by}
use Rattle.hive_text.specs.declared.walk.Level.{Level}

-- ---- prefixes

prefixed_append : (path : List (List ℕ)) (a b : Keys) → prefixed path (a ++ b) ≡ prefixed path a ++ prefixed path b
prefixed_append path [] b = refl
prefixed_append path (x ∷ a) b = ap (λ (l : Keys). (path ++ x.0, x.1) ∷ l) (prefixed_append path a b)

prefixed_under : (path : List (List ℕ)) (name : List ℕ) (keys : Keys) → prefixed path (under name keys) ≡ prefixed (path ++ name ∷ []) keys
prefixed_under path name [] = refl
prefixed_under path name (x ∷ xs) =
    ap (λ (p : List (List ℕ)). (p, x.1) ∷ prefixed path (under name xs)) (sym (append_assoc path (name ∷ []) x.0))
    ∙ ap (λ (l : Keys). ((path ++ name ∷ []) ++ x.0, x.1) ∷ l) (prefixed_under path name xs)

-- ---- a key that ends

pub ended_same : (above : Keys) (path : List (List ℕ)) (key : KeyData) (below_it : Keys) (node : Node)
    → (above ++ prefixed path (([], key) ∷ below_it)) ++ prefixed (path ++ name_of node ∷ []) (keys_of node) ≡ above ++ prefixed path (([], key) ∷ (below_it ++ under (name_of node) (keys_of node)))
ended_same above path key below_it node =
    append_assoc above (prefixed path (([], key) ∷ below_it)) (prefixed (path ++ name_of node ∷ []) (keys_of node))
    ∙ ap (λ (l : Keys). above ++ (prefixed path (([], key) ∷ below_it) ++ l)) (sym (prefixed_under path (name_of node) (keys_of node)))
    ∙ ap (λ (l : Keys). above ++ l) (sym (prefixed_append path (([], key) ∷ below_it) (under (name_of node) (keys_of node))))

-- ---- the last of a list

pub record IsSnoc {X : Type 0} (xs : List X) : Type 0 where
  pub front : List X
  pub last : X
  pub is : xs ≡ front ++ last ∷ []

pub snoc : {X : Type 0} (x : X) (xs : List X) → IsSnoc (x ∷ xs)
snoc x [] = record { front = []; last = x; is = refl }
snoc x (y ∷ ys) = let rest = snoc y ys in record { front = x ∷ rest.front; last = rest.last; is = ap (λ l. x ∷ l) rest.is }

never_empty : {X : Type 0} (l : List X) (z : X) → l ++ z ∷ [] ≡ [] → ⊥
never_empty [] z e = absurd cc
never_empty (w ∷ l) z e = absurd cc

pub one_snoc : {X : Type 0} (a b : List X) (x y : X) → a ++ x ∷ [] ≡ b ++ y ∷ [] → (a ≡ b) × (x ≡ y)
one_snoc [] [] x y e = (refl, cc)
one_snoc [] (b ∷ bs) x y e = absurd (never_empty bs y (let rest : bs ++ y ∷ [] ≡ [] = cc in rest))
one_snoc (a ∷ more) [] x y e = absurd (never_empty more x (let rest : more ++ x ∷ [] ≡ [] = cc in rest))
one_snoc (a ∷ more) (b ∷ bs) x y e =
    let head : a ≡ b = cc in
    let tail : more ++ x ∷ [] ≡ bs ++ y ∷ [] = cc in
    let rest = one_snoc more bs x y tail in
    (ap (λ z. z ∷ more) head ∙ ap (λ l. b ∷ l) rest.0, rest.1)

-- ---- the last key of all

-- What stands behind the path of the innermost open key: nothing where it has no subkeys, else the last one's name first.
abbrev pub RestIs : Option Node → List (List ℕ) → KeyData → KeyData → Type 0
RestIs None rest key here = (rest ≡ []) × (key ≡ here)
RestIs (Some node) rest key here = (more : List (List ℕ)) × (rest ≡ name_of node ∷ more)

pub record LastIs (last : Entry) (path : List (List ℕ)) (here : KeyData) (subs : List Node) : Type 0 where
  pub rest : List (List ℕ)
  pub path_is : last.0 ≡ path ++ rest
  pub rest_is : RestIs (last_or None subs) rest last.1 here

last_of : {X : Type 0} (d : Option X) (xs : List X) (x : X) → last_or d (xs ++ x ∷ []) ≡ Some x
last_of d [] x = refl
last_of d (y ∷ ys) x = last_of (Some y) ys x

alone : (above : Keys) (path : List (List ℕ)) (here : KeyData) (before : Keys) (last : Entry) → before ++ last ∷ [] ≡ above ++ (path ++ [], here) ∷ [] → LastIs last path here []
alone above path here before last is =
    let one : last ≡ (path ++ [], here) = (one_snoc before above last (path ++ [], here) is).1 in
    record { rest = []; path_is = ap (λ (e : Entry). e.0) one; rest_is = (refl, ap (λ (e : Entry). e.1) one) }

some_below : (above : Keys) (path : List (List ℕ)) (here : KeyData) (before : Keys) (last : Entry) (subs front : List Node) (node : Node) → subs ≡ front ++ node ∷ []
    → before ++ last ∷ [] ≡ above ++ prefixed path (([], here) ∷ spread subs) → LastIs last path here subs
some_below above path here before last subs front node are is =
    let own = snoc ([], node.here) node.below in
    let z = own.last in
    let under_it : under (name_of node) (keys_of node) ≡ under (name_of node) own.front ++ (name_of node ∷ z.0, z.1) ∷ [] =
    ap (under (name_of node)) own.is ∙ map-append (λ (e : Entry). (name_of node ∷ e.0, e.1)) own.front (z ∷ []) in
    let below_it : spread subs ≡ (spread front ++ under (name_of node) own.front) ++ (name_of node ∷ z.0, z.1) ∷ [] =
    ap spread are ∙ flat_map-append (λ (n : Node). under (name_of n) (keys_of n)) front (node ∷ [])
    ∙ ap (λ (l : Keys). spread front ++ l) (append-nil (under (name_of node) (keys_of node)) ∙ under_it)
    ∙ sym (append_assoc (spread front) (under (name_of node) own.front) ((name_of node ∷ z.0, z.1) ∷ [])) in
    let all : prefixed path (([], here) ∷ spread subs) ≡ prefixed path (([], here) ∷ (spread front ++ under (name_of node) own.front)) ++ (path ++ name_of node ∷ z.0, z.1) ∷ [] =
    ap (λ (l : Keys). prefixed path (([], here) ∷ l)) below_it ∙ prefixed_append path (([], here) ∷ (spread front ++ under (name_of node) own.front)) ((name_of node ∷ z.0, z.1) ∷ []) in
    let one = (one_snoc before (above ++ prefixed path (([], here) ∷ (spread front ++ under (name_of node) own.front))) last (path ++ name_of node ∷ z.0, z.1)
    (is ∙ ap (λ (l : Keys). above ++ l) all ∙ sym (append_assoc above (prefixed path (([], here) ∷ (spread front ++ under (name_of node) own.front))) ((path ++ name_of node ∷ z.0, z.1) ∷ [])))).1 in
    let last_node : Some node ≡ last_or None subs = sym (ap (last_or None) are ∙ last_of None front node) in
    let rest : List (List ℕ) = name_of node ∷ z.0 in
    record {
      rest = rest;
      path_is = ap (λ (e : Entry). e.0) one;
      rest_is = subst (λ (o : Option Node). RestIs o rest last.1 here) last_node (z.0, refl);
    }

pub last_is : (above : Keys) (path : List (List ℕ)) (here : KeyData) (subs : List Node) (before : Keys) (last : Entry) → before ++ last ∷ [] ≡ above ++ prefixed path (([], here) ∷ spread subs) → LastIs last path here subs
last_is above path here [] before last is = alone above path here before last is
last_is above path here (node ∷ nodes) before last is =
    let own = snoc node nodes in
    some_below above path here before last (node ∷ nodes) own.front own.last own.is is

-- ---- the order of names

abbrev pub last_part : List Node → Option (List ℕ)
last_part subs = option_map (λ node. node.here.part) (last_or None subs)

is_less : (r : Ordering) → is_lt r ≡ true → r ≡ Less
is_less Less e = refl
is_less Equal e = absurd (cc)
is_less Greater e = absurd (cc)

first_decides : (n f : List ℕ) (more : List (List ℕ)) (r : Ordering) → name_cmp n f ≡ r → path_cmp (n ∷ more) (f ∷ []) ≡ Less → is_lt r ≡ true
first_decides n f more Less is e = refl
first_decides n f [] Equal is e = (let end : Equal ≡ Less = sym (ap (λ r. ordering_then r Equal) is) ∙ e in absurd cc)
first_decides n f (m ∷ more) Equal is e = (let end : Greater ≡ Less = sym (ap (λ r. ordering_then r Greater) is) ∙ e in absurd cc)
first_decides n f more Greater is e = (let end : Greater ≡ Less = sym (ap (λ r. ordering_then r (path_cmp more [])) is) ∙ e in absurd cc)

module _ (path : List (List ℕ)) (part : List ℕ) (rest : List (List ℕ)) (key here : KeyData) where
  pub is_behind : (o : Option Node) → RestIs o rest key here → is_above (option_map (λ node. node.here.part) o) part ≡ true → path_cmp (path ++ rest) (path ++ folded part ∷ []) ≡ Less
  is_behind None h above = cmp_behind path rest (folded part ∷ []) ∙ ap (λ (r : List (List ℕ)). path_cmp r (folded part ∷ [])) h.0
  is_behind (Some node) h above =
      cmp_behind path rest (folded part ∷ []) ∙ ap (λ (r : List (List ℕ)). path_cmp r (folded part ∷ [])) h.1
      ∙ ap (λ r. ordering_then r (path_cmp h.0 [])) (is_less (name_cmp (name_of node) (folded part)) above)

  pub is_above_if : (o : Option Node) → RestIs o rest key here → path_cmp (path ++ rest) (path ++ folded part ∷ []) ≡ Less → is_above (option_map (λ node. node.here.part) o) part ≡ true
  is_above_if None h less = refl
  is_above_if (Some node) h less =
      first_decides (name_of node) (folded part) h.0 (name_cmp (name_of node) (folded part)) refl
      (sym (cmp_behind path rest (folded part ∷ []) ∙ ap (λ (r : List (List ℕ)). path_cmp r (folded part ∷ [])) h.1) ∙ less)

-- ---- paths

pub front_path : (n : ℕ) (path rest : List (List ℕ)) → n ≡ length path → take n (path ++ rest) ≡ path
front_path zero [] rest e = refl
front_path zero (p ∷ ps) rest e = absurd (omega (arith, e))
front_path (suc n) [] rest e = absurd (omega (arith, e))
front_path (suc n) (p ∷ ps) rest e = ap (λ l. p ∷ l) (front_path n ps rest (omega (arith, e)))

pub path_length : (level : Level) (above : List Level) → length (path_of (level ∷ above)) ≡ length above
path_length level [] = refl
path_length level (next ∷ above) = omega (arith, path_length next above, length-append (path_of (next ∷ above)) (folded level.part ∷ []))

pub used_more : (path : List (List ℕ)) (name : List ℕ) → used_by (path ++ name ∷ []) ≡ used_by path + length name + 1
used_more [] name = omega arith
used_more (p ∷ ps) name = omega (arith, used_more ps name)

pub text_length : (path : List (List ℕ)) (name : List ℕ) → length (text_of (path ++ name ∷ [])) ≡ used_by path + length name
text_length [] name = omega arith
text_length (p ∷ []) name = omega (arith, length-append p (separator ∷ name))
text_length (p ∷ q ∷ ps) name = omega (arith, text_length (q ∷ ps) name, length-append p (separator ∷ text_of ((q ∷ ps) ++ name ∷ [])))
