-- Removing a key: the subkey that is taken out at one place of the tree, and what that is in the list of all keys.
use Rattle.std.proofs.Common.{◌≡◌, ℕ, ◌<◌, suc, false, List, [], ◌∷◌, ◌++◌, length, length-append, get_or, set, drop, Option, None, refl, sym, ap, subst, ◌∙◌, arith}
use Rattle.std.specs.Prelude.{nat_lt, IsSome, option_map}
use Rattle.std.specs.List.{remove}
use Rattle.std.proofs.lemmas.Bool.Decides.{nat_tests}
use Rattle.clus_names.specs.Folding.{folded, folded_parts, path_cmp}
use Rattle.clus_names.specs.Parts.{parts_of}
use Rattle.registry_defs.specs.Keys.{KeyData, Keys, key_at, without}
use Rattle.registry_defs.specs.Sections.{section, has_subkeys, parent_of}
use Rattle.registry_defs.specs.Changes.{at_key, stamped, key_deleted}
use Rattle.registry_defs.specs.Nodes.{Node, keys_of, name_of, spread, path_of}
use Rattle.registry_tree.specs.Places.{IsAt, IsGap}
use Rattle.registry_tree.proofs.Plug.{Frame, plug, find_plug, section_plug, without_plug, deleted_plug, parent_below}
use Rattle.registry_tree.proofs.Levels.{front_of, frame_at, node_is, remove_is, read_at, changed_at, missing_at}
use Rattle.registry_tree.proofs.Descents.{path_step, section_root}

no_entries : (es : Keys) → nat_lt 1 (suc (length es)) ≡ false → es ≡ []
no_entries [] e = refl
no_entries (x ∷ xs) e = absurd (grind (arith, nat_tests))

-- ---- laws of plugs at paths that aren't empty

pub deleted_law : (stamp : ℕ) (p : List ℕ) (q : List (List ℕ)) → 0 < length q → (front back : Keys) → Frame p front back → (es : Keys) → key_deleted stamp (p ∷ q) (plug p front back es) ≡ plug p front back (key_deleted stamp q es)
deleted_law stamp p [] some front back frame es = absurd (omega (arith, some))
deleted_law stamp p (x ∷ xs) some front back frame es = deleted_plug p front back frame stamp x xs es

abbrev pub written_at : Option KeyData → Option ℕ
written_at found = option_map (λ (key : KeyData). key.written) found

pub parent_law : (p : List ℕ) (q : List (List ℕ)) → 0 < length q → (front back : Keys) → Frame p front back → (es : Keys) → written_at (key_at (parent_of (p ∷ q)) (plug p front back es)) ≡ written_at (key_at (parent_of q) es)
parent_law p [] some front back frame es = absurd (omega (arith, some))
parent_law p (x ∷ xs) some front back frame es =
    ap (λ q. written_at (key_at q (plug p front back es))) (parent_below p x xs) ∙ ap written_at (find_plug p front back frame (parent_of (x ∷ xs)) es)

pub leaf_law : (p : List ℕ) (q : List (List ℕ)) (front back : Keys) → Frame p front back → (es : Keys) → has_subkeys (p ∷ q) (plug p front back es) ≡ has_subkeys q es
leaf_law p q front back frame es = ap (λ (l : Keys). nat_lt 1 (length l)) (section_plug p front back frame q es)

-- ---- at one level

pub some_path : (text : List ℕ) → 0 < length (parts_of text) → 0 < length (path_of text)
some_path text some = some_folded (parts_of text) some
  where
    some_folded : (ps : List (List ℕ)) → 0 < length ps → 0 < length (folded_parts ps)
    some_folded [] some = omega (arith, some)
    some_folded (p ∷ ps) some = omega arith

pub some_parts : (text part rest : List ℕ) → parts_of text ≡ part ∷ parts_of rest → 0 < length (parts_of text)
some_parts text part rest step = subst (λ (ps : List (List ℕ)). 0 < length ps) (sym step) (omega arith)

pub some_joined : (q r : List (List ℕ)) → 0 < length r → 0 < length (q ++ r)
some_joined q r some = omega (arith, length-append q r, some)

pub no_key : IsSome {T = KeyData} None → ⊥
no_key h = cc

pub missing_below : (n : Node) (nodes : List Node) (text part rest : List ℕ) (r : List (List ℕ)) (i : ℕ) → n.below ≡ spread nodes → parts_of text ≡ part ∷ parts_of rest → IsGap name_of nodes (folded part) i → IsSome (key_at (path_of text ++ r) (keys_of n)) → ⊥
missing_below n nodes text part rest r i below step gap there =
    let none : key_at (path_of text ++ r) (keys_of n) ≡ None =
    ap (λ q. key_at (q ++ r) (keys_of n)) (path_step text part rest step)
    ∙ ap (λ (l : Keys). key_at (folded part ∷ (path_of rest ++ r)) (([], n.here) ∷ l)) below
    ∙ missing_at (folded part) (path_of rest ++ r) n.here nodes i gap in
    no_key (subst IsSome none there)

module _ (stamp : ℕ) (n : Node) (nodes : List Node) (text part rest : List ℕ) (i : ℕ) (node : Node)
    (below : n.below ≡ spread nodes) (step : parts_of text ≡ part ∷ parts_of rest) (at : IsAt name_of nodes (folded part) i) (is : node ≡ get_or nodes i node) where
  -- the key to be removed is a subkey of this one
  pub delete_here : parts_of rest ≡ [] → has_subkeys (path_of text) (keys_of n) ≡ false → ([], stamped stamp n.here) ∷ spread (remove nodes i) ≡ key_deleted stamp (path_of text) (keys_of n)
  delete_here end leaf =
      let p = folded part in
      let front = front_of n.here nodes i in
      let back = spread (drop (suc i) nodes) in
      let frame = frame_at n.here p nodes i at in
      let all : Keys = ([], n.here) ∷ spread nodes in
      let path : path_of text ≡ p ∷ [] = path_step text part rest step ∙ ap (λ ps. p ∷ folded_parts ps) end in
      let single : has_subkeys (p ∷ []) all ≡ nat_lt 1 (suc (length node.below)) =
      ap (λ (l : Keys). nat_lt 1 (length l)) (read_at (section (p ∷ [])) (section []) p n.here nodes i node at is (λ f b fr es. section_plug p f b fr [] es) ∙ section_root (keys_of node)) in
      let alone : node.below ≡ [] = no_entries node.below (sym single ∙ ap (λ (l : Keys). has_subkeys (p ∷ []) (([], n.here) ∷ l)) (sym below) ∙ ap (λ q. has_subkeys q (keys_of n)) (sym path) ∙ leaf) in
      let left : without path_cmp (p ∷ []) all ≡ ([], n.here) ∷ spread (remove nodes i) =
      ap (without path_cmp (p ∷ [])) (node_is n.here p nodes i node at is)
      ∙ without_plug p front back frame [] (keys_of node)
      ∙ ap (λ (l : Keys). plug p front back (without path_cmp [] (([], node.here) ∷ l))) alone
      ∙ sym (remove_is n.here p nodes i) in
      ap (at_key (stamped stamp) []) (sym left)
      ∙ ap (λ (l : Keys). key_deleted stamp (p ∷ []) (([], n.here) ∷ l)) (sym below)
      ∙ ap (λ q. key_deleted stamp q (keys_of n)) (sym path)

  pub delete_into : (changed : Node) → 0 < length (path_of rest) → changed.here.part ≡ node.here.part → keys_of changed ≡ key_deleted stamp (path_of rest) (keys_of node) → ([], n.here) ∷ spread (set nodes i changed) ≡ key_deleted stamp (path_of text) (keys_of n)
  delete_into changed some same done =
      changed_at (key_deleted stamp (folded part ∷ path_of rest)) (key_deleted stamp (path_of rest)) (folded part) n.here nodes i node changed at is (ap folded same) done (deleted_law stamp (folded part) (path_of rest) some)
      ∙ ap (λ (l : Keys). key_deleted stamp (folded part ∷ path_of rest) (([], n.here) ∷ l)) (sym below)
      ∙ ap (λ q. key_deleted stamp q (keys_of n)) (sym (path_step text part rest step))

  pub parent_into : 0 < length (path_of rest) → written_at (key_at (parent_of (path_of text)) (keys_of n)) ≡ written_at (key_at (parent_of (path_of rest)) (keys_of node))
  parent_into some =
      ap (λ q. written_at (key_at (parent_of q) (keys_of n))) (path_step text part rest step)
      ∙ ap (λ (l : Keys). written_at (key_at (parent_of (folded part ∷ path_of rest)) (([], n.here) ∷ l))) below
      ∙ read_at (λ es. written_at (key_at (parent_of (folded part ∷ path_of rest)) es)) (λ es. written_at (key_at (parent_of (path_of rest)) es)) (folded part) n.here nodes i node at is (parent_law (folded part) (path_of rest) some)
