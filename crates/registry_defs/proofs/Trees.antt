-- Maps of keys that are in order and have each key's parent, and the sizes that changes give them.
use Rattle.std.proofs.Common.{◌≡◌, ℕ, ◌+◌, ◌*◌, ◌<◌, ◌≤◌, true, false, cond, List, [], ◌∷◌, ◌++◌, length, Option, Some, None, refl, sym, ap, subst, ◌∙◌, append_assoc, arith}
use Rattle.std.specs.Prelude.{IsTrue, IsSome, is_some}
use Rattle.std.specs.FinMap.{put, is_sorted}
use Rattle.std.proofs.lemmas.Bool.{ltb-false}
use Rattle.std.proofs.lemmas.List.{append-nil}
use Rattle.clus_names.specs.Folding.{folded, path_cmp}
use Rattle.registry_defs.specs.Keys.{KeyData, Keys, key_at, below, without}
use Rattle.registry_defs.specs.Sections.{section, has_subkeys, parent_of}
use Rattle.registry_defs.specs.Sizes.{written_size, key_size, size}
use Rattle.registry_defs.specs.Changes.{put_changed, at_key, stamped, new_key, chain_made, created, key_deleted}
use Rattle.registry_defs.specs.Growth.{chain_size, creation_added, written_size_at, creation_freed}
use Rattle.registry_defs.proofs.Orders.{path_total, path_exact, rising_from_sorted}
use Rattle.registry_defs.proofs.Paths.{parent_below, longer, has_parent}
use Rattle.registry_defs.proofs.Sections.{key_in_section}
use Rattle.registry_defs.proofs.Maps.{some_of, not_none, none_unless, is_none_unless, either_put, some_put, other_put, put_is_there, sorted_put, sorted_without, found_without, not_without, found_itself}
use Rattle.registry_defs.proofs.Totals.{size_found, total_put, found_within}

pub record IsTree (es : Keys) : Type 0 where
  pub sorted : IsTrue (is_sorted path_cmp es)
  pub closed : (q : List (List ℕ)) → IsSome (key_at q es) → IsSome (key_at (parent_of q) es)

pub record IsFound (o : Option KeyData) : Type 0 where
  pub key : KeyData
  pub is : o ≡ Some key

pub the_found : (o : Option KeyData) → IsSome o → IsFound o
the_found None h = absurd (not_none {X = KeyData} None refl h)
the_found (Some d) h = record { key = d; is = refl }

-- ---- a change of one key

pub at_key_put : (f : KeyData → KeyData) (q : List (List ℕ)) (d : KeyData) (es : Keys) → key_at q es ≡ Some d → at_key f q es ≡ put path_cmp q (f d) es
at_key_put f q d es found = ap (λ o. put_changed o f q es) found

pub tree_put : (q : List (List ℕ)) (d : KeyData) (es : Keys) → IsTree es → IsSome (key_at (parent_of q) es) → IsTree (put path_cmp q d es)
tree_put q d es tree there = record {
  sorted = sorted_put path_cmp path_total path_exact q d es tree.sorted;
  closed = λ p some.
      either_put path_cmp path_total path_exact (λ k. IsSome (key_at (parent_of k) (put path_cmp q d es))) p q d es
      (some_put path_cmp path_total path_exact (parent_of q) q d es there)
      (λ h. some_put path_cmp path_total path_exact (parent_of p) q d es (tree.closed p h))
      some;
}

pub tree_at_key : (f : KeyData → KeyData) (q : List (List ℕ)) (es : Keys) → IsTree es → IsTree (at_key f q es)
tree_at_key f q es tree =
    elim (key_at q es) as (λ o. key_at q es ≡ o → IsTree (put_changed o f q es)) [
      | None ↦ λ _. tree
      | Some d ↦ λ found. tree_put q (f d) es tree (tree.closed q (ap is_some found))
    ] refl

pub there_at_key : (f : KeyData → KeyData) (q r : List (List ℕ)) (es : Keys) → IsSome (key_at r es) → IsSome (key_at r (at_key f q es))
there_at_key f q r es there =
    elim (key_at q es) as (λ o. IsSome (key_at r (put_changed o f q es))) [
      | None ↦ there
      | Some d ↦ some_put path_cmp path_total path_exact r q (f d) es there
    ]

pub other_at_key : (f : KeyData → KeyData) (q r : List (List ℕ)) (es : Keys) → (r ≡ q → ⊥) → key_at r (at_key f q es) ≡ key_at r es
other_at_key f q r es other =
    elim (key_at q es) as (λ o. key_at r (put_changed o f q es) ≡ key_at r es) [
      | None ↦ refl
      | Some d ↦ other_put path_cmp path_total path_exact r q (f d) es other
    ]

pub size_put : (q : List (List ℕ)) (d : KeyData) (es : Keys) → IsTrue (is_sorted path_cmp es) → size (put path_cmp q d es) + size_found key_size q (key_at q es) ≡ size es + key_size q d
size_put q d es sorted = total_put path_cmp path_total path_exact key_size q d es (rising_from_sorted path_cmp es sorted)

pub size_at_key : (f : KeyData → KeyData) (q : List (List ℕ)) (d : KeyData) (es : Keys) → IsTrue (is_sorted path_cmp es) → key_at q es ≡ Some d → size (at_key f q es) + key_size q d ≡ size es + key_size q (f d)
size_at_key f q d es sorted found =
    ap (λ l. size l + key_size q d) (at_key_put f q d es found)
    ∙ ap (λ o. size (put path_cmp q (f d) es) + size_found key_size q o) (sym found)
    ∙ size_put q (f d) es sorted

pub size_stamped : (stamp : ℕ) (q : List (List ℕ)) (d : KeyData) → key_size q (stamped stamp d) + written_size d.written ≡ key_size q d + written_size stamp
size_stamped stamp q d = omega arith

-- ---- new keys

new_size : (place stamp : ℕ) (path : List (List ℕ)) (part : List ℕ) → key_size (below path part) (new_key place stamp part) ≡ 18 + 2 * length part + written_size stamp
new_size place stamp [] part = omega arith
new_size place stamp (p ∷ ps) part = omega arith

size_new : (q : List (List ℕ)) (d : KeyData) (es : Keys) → IsTrue (is_sorted path_cmp es) → key_at q es ≡ None → size (put path_cmp q d es) ≡ size es + key_size q d
size_new q d es sorted free = omega (arith, size_put q d es sorted, ap (size_found key_size q) free)

pub parent_there : (path : List (List ℕ)) (part : List ℕ) (es : Keys) → IsSome (key_at path es) → IsSome (key_at (parent_of (below path part)) es)
parent_there path part es there = subst (λ q. IsSome (key_at q es)) (sym (parent_below path (folded part))) there

free_next : (path : List (List ℕ)) (part next : List ℕ) (d : KeyData) (es : Keys) → IsTree es → key_at (below path part) es ≡ None → key_at (below (below path part) next) (put path_cmp (below path part) d es) ≡ None
free_next path part next d es tree free =
    let here = below path part in
    other_put path_cmp path_total path_exact (below here next) here d es (longer here (folded next))
    ∙ none_unless (key_at (below here next) es) (λ some. not_none (key_at here es) free (subst (λ q. IsSome (key_at q es)) (parent_below here (folded next)) (tree.closed (below here next) some)))

pub there_now : (q : List (List ℕ)) (d : KeyData) (es : Keys) → IsSome (key_at q (put path_cmp q d es))
there_now q d es = ap is_some (put_is_there path_cmp path_total path_exact q d es)

chain_sum : (place stamp : ℕ) (path : List (List ℕ)) (part : List ℕ) (parts : List (List ℕ)) (es : Keys) → IsTree es → IsSome (key_at path es) → key_at (below path part) es ≡ None → size (chain_made place stamp path (part ∷ parts) es) ≡ size es + chain_size stamp (part ∷ parts)
chain_sum place stamp path part [] es tree there free = omega (arith, size_new (below path part) (new_key place stamp part) es tree.sorted free, new_size place stamp path part)
chain_sum place stamp path part (next ∷ parts) es tree there free =
    let here = below path part in
    let made = new_key place stamp part in
    let rest = chain_sum place stamp here next parts (put path_cmp here made es) (tree_put here made es tree (parent_there path part es there)) (there_now here made es) (free_next path part next made es tree free) in
    omega (arith, rest, size_new here made es tree.sorted free, new_size place stamp path part)

created_here : (place stamp : ℕ) (path : List (List ℕ)) (part : List ℕ) (parts : List (List ℕ)) (es : Keys) → IsTree es → IsSome (key_at path es) → key_at (below path part) es ≡ None
    → size (chain_made place stamp path (part ∷ parts) (at_key (stamped stamp) path es)) + written_size_at (key_at path es) ≡ size es + (written_size stamp + chain_size stamp (part ∷ parts))
created_here place stamp path part parts es tree there free =
    let found = the_found (key_at path es) there in
    let changed = at_key (stamped stamp) path es in
    let chain = chain_sum place stamp path part parts changed (tree_at_key (stamped stamp) path es tree) (there_at_key (stamped stamp) path path es there) (other_at_key (stamped stamp) path (below path part) es (longer path (folded part)) ∙ free) in
    omega (arith, chain, size_at_key (stamped stamp) path found.key es tree.sorted found.is, size_stamped stamp path found.key, ap written_size_at found.is)

pub created_sum : (place stamp : ℕ) (path : List (List ℕ)) (parts : List (List ℕ)) (es : Keys) → IsTree es → IsSome (key_at path es) → size (created place stamp path parts es) + creation_freed path parts es ≡ size es + creation_added stamp path parts es
created_sum place stamp path [] es tree there = refl
created_sum place stamp path (part ∷ parts) es tree there =
    let here = below path part in
    elim (is_some (key_at here es)) as (λ b. is_some (key_at here es) ≡ b
    → size (cond b (created place stamp here parts es) (chain_made place stamp path (part ∷ parts) (at_key (stamped stamp) path es))) + cond b (creation_freed here parts es) (written_size_at (key_at path es))
    ≡ size es + cond b (creation_added stamp here parts es) (written_size stamp + chain_size stamp (part ∷ parts))) [
      | true ↦ λ some. created_sum place stamp here parts es tree some
      | false ↦ λ none. created_here place stamp path part parts es tree there (is_none_unless (key_at here es) none)
    ] refl

-- the numbers of a key's own section are those of the whole list
below-section : (q r : List (List ℕ)) (part : List ℕ) (es : Keys) → key_at (below r part) (section q es) ≡ key_at (below (q ++ r) part) es
below-section q r part es = key_in_section q (below r part) es ∙ ap (λ l. key_at l es) (sym (append_assoc q r (folded part ∷ [])))

pub added_below : (stamp : ℕ) (q r parts : List (List ℕ)) (es : Keys) → creation_added stamp r parts (section q es) ≡ creation_added stamp (q ++ r) parts es
added_below stamp q r [] es = refl
added_below stamp q r (part ∷ parts) es =
    ap (λ o. cond (is_some o) (creation_added stamp (below r part) parts (section q es)) (written_size stamp + chain_size stamp (part ∷ parts))) (below-section q r part es)
    ∙ ap (λ n. cond (is_some (key_at (below (q ++ r) part) es)) n (written_size stamp + chain_size stamp (part ∷ parts)))
    (added_below stamp q (below r part) parts es ∙ ap (λ l. creation_added stamp l parts es) (sym (append_assoc q r (folded part ∷ []))))

pub freed_below : (q r parts : List (List ℕ)) (es : Keys) → creation_freed r parts (section q es) ≡ creation_freed (q ++ r) parts es
freed_below q r [] es = refl
freed_below q r (part ∷ parts) es =
    ap (λ o. cond (is_some o) (creation_freed (below r part) parts (section q es)) (written_size_at (key_at r (section q es)))) (below-section q r part es)
    ∙ ap (λ n. cond (is_some (key_at (below (q ++ r) part) es)) n (written_size_at (key_at r (section q es))))
    (freed_below q (below r part) parts es ∙ ap (λ l. creation_freed l parts es) (sym (append_assoc q r (folded part ∷ []))))
    ∙ ap (λ o. cond (is_some (key_at (below (q ++ r) part) es)) (creation_freed (below (q ++ r) part) parts es) (written_size_at o)) (key_in_section q r es)

-- ---- a key that goes

two_keys : (last : List ℕ) (es : Keys) → IsSome (key_at [] es) → IsSome (key_at (last ∷ []) es) → 1 < length es
two_keys last [] h k = absurd (not_none {X = KeyData} None refl h)
two_keys last (([], d) ∷ []) h k = absurd (not_none {X = KeyData} None refl k)
two_keys last ((x ∷ xs, d) ∷ []) h k = absurd (not_none {X = KeyData} None refl h)
two_keys last (e ∷ f ∷ es) h k = omega arith

pub leaf : (path : List (List ℕ)) (last : List ℕ) (es : Keys) → has_subkeys path es ≡ false → IsSome (key_at path es) → IsSome (key_at (path ++ last ∷ []) es) → ⊥
leaf path last es none there more =
    let here = some_of (sym (key_in_section path [] es ∙ ap (λ l. key_at l es) (append-nil path))) there in
    let child = some_of (sym (key_in_section path (last ∷ []) es)) more in
    let few : length (section path es) ≤ 1 = ltb-false _ _ none in
    omega (arith, few, two_keys last (section path es) here child)

other_parent : (first : List ℕ) (others : List (List ℕ)) → parent_of (first ∷ others) ≡ first ∷ others → ⊥
other_parent first others same =
    let up = has_parent first others in
    longer (first ∷ others) up.last (sym (up.is ∙ ap (λ l. l ++ up.last ∷ []) same))

not_child : (first : List ℕ) (others q : List (List ℕ)) (es : Keys) → has_subkeys (first ∷ others) es ≡ false → IsSome (key_at (first ∷ others) es) → IsSome (key_at q es) → parent_of q ≡ first ∷ others → ⊥
not_child first others [] es none there some is = absurd cc
not_child first others (p ∷ ps) es none there some is =
    let up = has_parent p ps in
    leaf (first ∷ others) up.last es none there (subst (λ l. IsSome (key_at l es)) (up.is ∙ ap (λ l. l ++ up.last ∷ []) is) some)

pub tree_without : (first : List ℕ) (others : List (List ℕ)) (es : Keys) → IsTree es → has_subkeys (first ∷ others) es ≡ false → IsSome (key_at (first ∷ others) es) → IsTree (without path_cmp (first ∷ others) es)
tree_without first others es tree none there =
    let path : List (List ℕ) = first ∷ others in
    record {
      sorted = sorted_without path_cmp path_total path_exact path es tree.sorted;
      closed = λ q some.
          let other : q ≡ path → ⊥ = λ same. not_none (key_at path (without path_cmp path es)) (not_without path_cmp path_total path_exact path es) (subst (λ l. IsSome (key_at l (without path_cmp path es))) same some) in
          let was = some_of (found_without path_cmp path_total path_exact q path es other) some in
          some_of (sym (found_without path_cmp path_total path_exact (parent_of q) path es (not_child first others q es none there was))) (tree.closed q was);
    }

pub parent_stays : (first : List ℕ) (others : List (List ℕ)) (es : Keys) → key_at (parent_of (first ∷ others)) (without path_cmp (first ∷ others) es) ≡ key_at (parent_of (first ∷ others)) es
parent_stays first others es = found_without path_cmp path_total path_exact (parent_of (first ∷ others)) (first ∷ others) es (other_parent first others)

pub deleted_sum : (stamp : ℕ) (first : List ℕ) (others : List (List ℕ)) (d above : KeyData) (es : Keys) → IsTrue (is_sorted path_cmp es) → key_at (first ∷ others) es ≡ Some d → key_at (parent_of (first ∷ others)) es ≡ Some above
    → size (key_deleted stamp (first ∷ others) es) + written_size above.written + key_size (first ∷ others) d ≡ size es + written_size stamp
deleted_sum stamp first others d above es sorted found up =
    let path : List (List ℕ) = first ∷ others in
    let left = without path_cmp path es in
    let changed = size_at_key (stamped stamp) (parent_of path) above left (sorted_without path_cmp path_total path_exact path es sorted) (parent_stays first others es ∙ up) in
    omega (arith, changed, size_stamped stamp (parent_of path) above, found_within path_cmp path_total path_exact key_size path d es (rising_from_sorted path_cmp es sorted) found)

-- ---- what isn't there has nothing below it

front_there : (q r : List (List ℕ)) (es : Keys) → IsTree es → IsSome (key_at (q ++ r) es) → IsSome (key_at q es)
front_there q [] es tree there = subst (λ l. IsSome (key_at l es)) (append-nil q) there
front_there q (p ∷ ps) es tree there =
    let next = front_there (q ++ p ∷ []) ps es tree (subst (λ l. IsSome (key_at l es)) (sym (append_assoc q (p ∷ []) ps)) there) in
    subst (λ l. IsSome (key_at l es)) (parent_below q p) (tree.closed (q ++ p ∷ []) next)

pub nothing_below : (q : List (List ℕ)) (es : Keys) → IsTree es → key_at q es ≡ None → section q es ≡ []
nothing_below q es tree none = by (section q es) refl
  where
    by : (l : Keys) → section q es ≡ l → l ≡ []
    by [] is = refl
    by (e ∷ l) is =
        let inside : IsSome (key_at e.0 (section q es)) = ap (λ l. is_some (key_at e.0 l)) is ∙ ap is_some (found_itself path_cmp path_total path_exact e l) in
        absurd (not_none (key_at q es) none (front_there q e.0 es tree (some_of (key_in_section q e.0 es) inside)))
