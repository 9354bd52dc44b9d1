-- The entries of a subkey between those that stand before and behind them: what is done to the whole list at a path
-- below the subkey is done to the subkey's entries alone.
use Rattle.std.proofs.Common.{◌≡◌, ℕ, ◌+◌, ◌-◌, suc, true, false, cond, List, [], ◌∷◌, ◌++◌, length, take, Some, None, refl, sym, ap, ◌∙◌, arith}
use Rattle.std.specs.Prelude.{is_some}
use Rattle.std.specs.List.{AllByRecursion}
use Rattle.std.specs.Ordering.{eq_by_cmp, is_eq}
use Rattle.std.specs.FinMap.{put}
use Rattle.clus_names.specs.Folding.{path_cmp}
use Rattle.registry_defs.specs.Keys.{KeyData, Keys, key_at, without, below}
use Rattle.registry_defs.specs.Sections.{path_from, at_front, section, parent_of}
use Rattle.registry_defs.specs.Changes.{put_changed, at_key, stamped, new_key, chain_made, created, key_deleted}
use Rattle.registry_defs.specs.Growth.{chain_size, creation_added, creation_freed, written_size_at}
use Rattle.registry_defs.specs.Sizes.{written_size}
use Rattle.registry_defs.specs.Nodes.{under}
use Rattle.registry_defs.proofs.Orders.{path_itself}
use Rattle.registry_defs.proofs.Runs as runs
use Rattle.registry_defs.proofs.Sections.{path_from_is}
use Rattle.registry_tree.proofs.Under.{find_under, put_under, without_under, section_under}

-- What stands before the entries of the subkey with this name, and behind them.
pub record Frame (p : List ℕ) (front back : Keys) : Type 0 where
  pub before : (q : List (List ℕ)) → runs.IsAbove path_cmp (p ∷ q) front
  pub behind : (q : List (List ℕ)) → runs.IsBelow path_cmp (p ∷ q) back

abbrev pub plug : List ℕ → Keys → Keys → Keys → Keys
plug p front back es = front ++ (under p es ++ back)

section_append : (q : List (List ℕ)) (xs ys : Keys) → section q (xs ++ ys) ≡ section q xs ++ section q ys
section_append q [] ys = refl
section_append q (x ∷ xs) ys =
    ap (at_front (path_from q x.0) x.1) (section_append q xs ys)
    ∙ elim (path_from q x.0) as (λ o. at_front o x.1 (section q xs ++ section q ys) ≡ at_front o x.1 (section q xs) ++ section q ys) [ None ↦ refl | Some y ↦ refl ]

-- no entry's path is below p
section_none : (p : List ℕ) (q : List (List ℕ)) (es : Keys) → ((r : List (List ℕ)) → AllByRecursion (λ e. eq_by_cmp path_cmp (p ∷ r) e.0 ≡ false) es) → section (p ∷ q) es ≡ []
section_none p q [] other = refl
section_none p q (e ∷ es) other =
    let rest = section_none p q es (λ r. (other r).1) in
    elim (path_from (p ∷ q) e.0) as (λ o. path_from (p ∷ q) e.0 ≡ o → at_front o e.1 (section (p ∷ q) es) ≡ []) [
      | None ↦ λ _. rest
      | Some x ↦ λ found. absurd (let is = path_from_is (p ∷ q) e.0 x found in let ties = sym (ap is_eq (path_itself (p ∷ (q ++ x)))) ∙ ap (λ a. eq_by_cmp path_cmp (p ∷ (q ++ x)) a) (sym is) ∙ (other (q ++ x)).0 in cc)
    ] refl

not_above : (q : List (List ℕ)) (es : Keys) → runs.IsAbove path_cmp q es → AllByRecursion (λ e. eq_by_cmp path_cmp q e.0 ≡ false) es
not_above q [] h = tt
not_above q (e ∷ es) h = (ap is_eq h.0, not_above q es h.1)

not_below : (q : List (List ℕ)) (es : Keys) → runs.IsBelow path_cmp q es → AllByRecursion (λ e. eq_by_cmp path_cmp q e.0 ≡ false) es
not_below q [] h = tt
not_below q (e ∷ es) h = (ap is_eq h.0, not_below q es h.1)

append_nothing : (es : Keys) → es ++ [] ≡ es
append_nothing [] = refl
append_nothing (e ∷ es) = ap (λ (l : Keys). e ∷ l) (append_nothing es)

pub parent_below : (p x : List ℕ) (xs : List (List ℕ)) → parent_of (p ∷ x ∷ xs) ≡ p ∷ parent_of (x ∷ xs)
parent_below p x xs = let e : suc (suc (length xs)) - 1 ≡ suc (suc (length xs) - 1) = omega arith in ap (λ n. take n (p ∷ x ∷ xs)) e

module _ (p : List ℕ) (front back : Keys) (frame : Frame p front back) where
  pub find_plug : (q : List (List ℕ)) (es : Keys) → key_at (p ∷ q) (plug p front back es) ≡ key_at q es
  find_plug q es =
      runs.find_behind path_cmp (p ∷ q) front (under p es ++ back) (frame.before q)
      ∙ runs.find_before path_cmp (p ∷ q) (under p es) back (frame.behind q)
      ∙ find_under p q es

  pub put_plug : (q : List (List ℕ)) (d : KeyData) (es : Keys) → put path_cmp (p ∷ q) d (plug p front back es) ≡ plug p front back (put path_cmp q d es)
  put_plug q d es =
      runs.put_behind path_cmp (p ∷ q) d front (under p es ++ back) (frame.before q)
      ∙ ap (λ (l : Keys). front ++ l) (runs.put_before path_cmp (p ∷ q) d (under p es) back (frame.behind q) ∙ ap (λ (l : Keys). l ++ back) (put_under p q d es))

  pub without_plug : (q : List (List ℕ)) (es : Keys) → without path_cmp (p ∷ q) (plug p front back es) ≡ plug p front back (without path_cmp q es)
  without_plug q es =
      runs.without_behind path_cmp (p ∷ q) front (under p es ++ back) (frame.before q)
      ∙ ap (λ (l : Keys). front ++ l) (runs.without_before path_cmp (p ∷ q) (under p es) back (frame.behind q) ∙ ap (λ (l : Keys). l ++ back) (without_under p q es))

  pub section_plug : (q : List (List ℕ)) (es : Keys) → section (p ∷ q) (plug p front back es) ≡ section q es
  section_plug q es =
      section_append (p ∷ q) front (under p es ++ back)
      ∙ ap (λ (l : Keys). l ++ section (p ∷ q) (under p es ++ back)) (section_none p q front (λ r. not_above (p ∷ r) front (frame.before r)))
      ∙ section_append (p ∷ q) (under p es) back
      ∙ ap (λ (l : Keys). section (p ∷ q) (under p es) ++ l) (section_none p q back (λ r. not_below (p ∷ r) back (frame.behind r)))
      ∙ append_nothing (section (p ∷ q) (under p es))
      ∙ section_under p q es

  pub at_key_plug : (f : KeyData → KeyData) (q : List (List ℕ)) (es : Keys) → at_key f (p ∷ q) (plug p front back es) ≡ plug p front back (at_key f q es)
  at_key_plug f q es =
      ap (λ o. put_changed o f (p ∷ q) (plug p front back es)) (find_plug q es)
      ∙ elim (key_at q es) as (λ o. put_changed o f (p ∷ q) (plug p front back es) ≡ plug p front back (put_changed o f q es)) [ None ↦ refl | Some d ↦ put_plug q (f d) es ]

  pub chain_plug : (place stamp : ℕ) (q ps : List (List ℕ)) (es : Keys) → chain_made place stamp (p ∷ q) ps (plug p front back es) ≡ plug p front back (chain_made place stamp q ps es)
  chain_plug place stamp q [] es = refl
  chain_plug place stamp q (x ∷ xs) es =
      ap (chain_made place stamp (p ∷ below q x) xs) (put_plug (below q x) (new_key place stamp x) es)
      ∙ chain_plug place stamp (below q x) xs (put path_cmp (below q x) (new_key place stamp x) es)

  pub created_plug : (place stamp : ℕ) (q ps : List (List ℕ)) (es : Keys) → created place stamp (p ∷ q) ps (plug p front back es) ≡ plug p front back (created place stamp q ps es)
  created_plug place stamp q [] es = refl
  created_plug place stamp q (x ∷ xs) es =
      let deeper = created place stamp (p ∷ below q x) xs (plug p front back es) in
      let made = chain_made place stamp (p ∷ q) (x ∷ xs) (at_key (stamped stamp) (p ∷ q) (plug p front back es)) in
      ap (λ o. cond (is_some o) deeper made) (find_plug (below q x) es)
      ∙ elim (is_some (key_at (below q x) es)) as (λ b. cond b deeper made ≡ plug p front back (cond b (created place stamp (below q x) xs es) (chain_made place stamp q (x ∷ xs) (at_key (stamped stamp) q es)))) [
        | true ↦ created_plug place stamp (below q x) xs es
        | false ↦ ap (chain_made place stamp (p ∷ q) (x ∷ xs)) (at_key_plug (stamped stamp) q es) ∙ chain_plug place stamp q (x ∷ xs) (at_key (stamped stamp) q es)
      ]

  pub added_plug : (stamp : ℕ) (q ps : List (List ℕ)) (es : Keys) → creation_added stamp (p ∷ q) ps (plug p front back es) ≡ creation_added stamp q ps es
  added_plug stamp q [] es = refl
  added_plug stamp q (x ∷ xs) es =
      let made : ℕ = written_size stamp + chain_size stamp (x ∷ xs) in
      ap (λ o. cond (is_some o) (creation_added stamp (p ∷ below q x) xs (plug p front back es)) made) (find_plug (below q x) es)
      ∙ ap (λ n. cond (is_some (key_at (below q x) es)) n made) (added_plug stamp (below q x) xs es)

  pub freed_plug : (q ps : List (List ℕ)) (es : Keys) → creation_freed (p ∷ q) ps (plug p front back es) ≡ creation_freed q ps es
  freed_plug q [] es = refl
  freed_plug q (x ∷ xs) es =
      ap (λ o. cond (is_some o) (creation_freed (p ∷ below q x) xs (plug p front back es)) (written_size_at (key_at (p ∷ q) (plug p front back es)))) (find_plug (below q x) es)
      ∙ ap (λ n. cond (is_some (key_at (below q x) es)) n (written_size_at (key_at (p ∷ q) (plug p front back es)))) (freed_plug (below q x) xs es)
      ∙ ap (λ o. cond (is_some (key_at (below q x) es)) (creation_freed (below q x) xs es) (written_size_at o)) (find_plug q es)

  pub deleted_plug : (stamp : ℕ) (x : List ℕ) (xs : List (List ℕ)) (es : Keys) → key_deleted stamp (p ∷ x ∷ xs) (plug p front back es) ≡ plug p front back (key_deleted stamp (x ∷ xs) es)
  deleted_plug stamp x xs es =
      ap (at_key (stamped stamp) (parent_of (p ∷ x ∷ xs))) (without_plug (x ∷ xs) es)
      ∙ ap (λ q. at_key (stamped stamp) q (plug p front back (without path_cmp (x ∷ xs) es))) (parent_below p x xs)
      ∙ at_key_plug (stamped stamp) (parent_of (x ∷ xs)) (without path_cmp (x ∷ xs) es)
