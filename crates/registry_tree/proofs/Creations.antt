-- Making keys: the new chain at one place of the tree, and what it is in the list of all keys.
use Rattle.std.proofs.Common.{◌≡◌, ℕ, ◌+◌, cond, List, [], ◌∷◌, ◌++◌, get_or, set, drop, refl, sym, ap, ◌∙◌}
use Rattle.std.specs.Prelude.{is_some, Result, Ok, Err, IfOk}
use Rattle.std.specs.List.{insert}
use Rattle.std.specs.FinMap.{put}
use Rattle.clus_names.specs.Folding.{folded, path_cmp}
use Rattle.clus_names.specs.Parts.{parts_of}
use Rattle.registry_defs.specs.Keys.{Keys, key_at}
use Rattle.registry_defs.specs.Changes.{at_key, stamped, new_key, chain_made, created}
use Rattle.registry_defs.specs.Growth.{chain_size, creation_added, creation_freed}
use Rattle.registry_defs.specs.Sizes.{written_size}
use Rattle.registry_defs.specs.Nodes.{Node, keys_of, name_of, under, spread}
use Rattle.registry_tree.specs.Places.{IsAt, IsGap}
use Rattle.registry_tree.proofs.Plug.{Frame, plug, find_plug, put_plug, chain_plug, created_plug, added_plug, freed_plug}
use Rattle.registry_tree.proofs.Levels.{front_of, frame_gap, gap_is, insert_is, read_at, changed_at, missing_at}

-- a key with one new key below it, which has the rest of the chain
pub chain_link : (place stamp : ℕ) (part next : List ℕ) (parts : List (List ℕ)) (key : Node) → key.here.part ≡ next
    → keys_of key ≡ chain_made place stamp [] parts (([], new_key place stamp next) ∷ [])
    → ([], new_key place stamp part) ∷ spread (key ∷ []) ≡ chain_made place stamp [] (next ∷ parts) (([], new_key place stamp part) ∷ [])
chain_link place stamp part next parts key named made =
    let top : Keys = ([], new_key place stamp part) ∷ [] in
    let frame : Frame (folded next) top [] = record { before = λ q. (refl, tt); behind = λ q. tt } in
    ap (λ n. ([], new_key place stamp part) ∷ (under (folded n) (keys_of key) ++ [])) named
    ∙ ap (λ (l : Keys). ([], new_key place stamp part) ∷ (under (folded next) l ++ [])) made
    ∙ sym (chain_plug (folded next) top [] frame place stamp [] parts (([], new_key place stamp next) ∷ []))

-- the next key is there
pub create_into : (place stamp : ℕ) (n : Node) (nodes : List Node) (text part rest : List ℕ) (i : ℕ) (node changed : Node)
    → n.below ≡ spread nodes → parts_of text ≡ part ∷ parts_of rest → IsAt name_of nodes (folded part) i → node ≡ get_or nodes i node
    → changed.here.part ≡ node.here.part → keys_of changed ≡ created place stamp [] (parts_of rest) (keys_of node)
    → ([], n.here) ∷ spread (set nodes i changed) ≡ created place stamp [] (parts_of text) (keys_of n)
create_into place stamp n nodes text part rest i node changed below step at is same done =
    let p = folded part in
    let parts = parts_of rest in
    let all : Keys = ([], n.here) ∷ spread nodes in
    let made : Keys = chain_made place stamp [] (part ∷ parts) (at_key (stamped stamp) [] all) in
    let there = read_at (key_at (p ∷ [])) (key_at []) p n.here nodes i node at is (λ front back frame es. find_plug p front back frame [] es) in
    changed_at (created place stamp (p ∷ []) parts) (created place stamp [] parts) p n.here nodes i node changed at is (ap folded same) done
    (λ front back frame es. created_plug p front back frame place stamp [] parts es)
    ∙ ap (λ o. cond (is_some o) (created place stamp (p ∷ []) parts all) made) (sym there)
    ∙ ap (λ (l : Keys). created place stamp [] (part ∷ parts) (([], n.here) ∷ l)) (sym below)
    ∙ ap (λ ps. created place stamp [] ps (keys_of n)) (sym step)

-- the next key is missing: the chain is put in, and the key above it is stamped
pub create_here : (place stamp : ℕ) (n : Node) (nodes : List Node) (text part rest : List ℕ) (i : ℕ) (made : Node)
    → n.below ≡ spread nodes → parts_of text ≡ part ∷ parts_of rest → IsGap name_of nodes (folded part) i → made.here.part ≡ part
    → keys_of made ≡ chain_made place stamp [] (parts_of rest) (([], new_key place stamp part) ∷ [])
    → ([], stamped stamp n.here) ∷ spread (insert nodes i made) ≡ created place stamp [] (parts_of text) (keys_of n)
create_here place stamp n nodes text part rest i made below step gap named keys =
    let p = folded part in
    let parts = parts_of rest in
    let top = stamped stamp n.here in
    let front = front_of top nodes i in
    let back = spread (drop i nodes) in
    let frame = frame_gap top p nodes i gap in
    let new = new_key place stamp part in
    let all : Keys = ([], n.here) ∷ spread nodes in
    let put_in : put path_cmp (p ∷ []) new (([], top) ∷ spread nodes) ≡ plug p front back (([], new) ∷ []) =
    ap (put path_cmp (p ∷ []) new) (gap_is top p nodes i) ∙ put_plug p front back frame [] new [] in
    insert_is top p nodes i made (ap folded named)
    ∙ ap (plug p front back) keys
    ∙ sym (chain_plug p front back frame place stamp [] parts (([], new) ∷ []))
    ∙ ap (chain_made place stamp (p ∷ []) parts) (sym put_in)
    ∙ ap (λ o. cond (is_some o) (created place stamp (p ∷ []) parts all) (chain_made place stamp [] (part ∷ parts) (at_key (stamped stamp) [] all))) (sym (missing_at p [] n.here nodes i gap))
    ∙ ap (λ (l : Keys). created place stamp [] (part ∷ parts) (([], n.here) ∷ l)) (sym below)
    ∙ ap (λ ps. created place stamp [] ps (keys_of n)) (sym step)

-- ---- what they add to the size

module _ (n : Node) (nodes : List Node) (text part rest : List ℕ) (i : ℕ) (below : n.below ≡ spread nodes) (step : parts_of text ≡ part ∷ parts_of rest) where
  pub added_into : (stamp : ℕ) (node : Node) → IsAt name_of nodes (folded part) i → node ≡ get_or nodes i node → creation_added stamp [] (parts_of text) (keys_of n) ≡ creation_added stamp [] (parts_of rest) (keys_of node)
  added_into stamp node at is =
      let p = folded part in
      let parts = parts_of rest in
      let all : Keys = ([], n.here) ∷ spread nodes in
      let there = read_at (key_at (p ∷ [])) (key_at []) p n.here nodes i node at is (λ front back frame es. find_plug p front back frame [] es) in
      ap (λ ps. creation_added stamp [] ps (keys_of n)) step
      ∙ ap (λ (l : Keys). creation_added stamp [] (part ∷ parts) (([], n.here) ∷ l)) below
      ∙ ap (λ o. cond (is_some o) (creation_added stamp (p ∷ []) parts all) (written_size stamp + chain_size stamp (part ∷ parts))) there
      ∙ read_at (creation_added stamp (p ∷ []) parts) (creation_added stamp [] parts) p n.here nodes i node at is (λ front back frame es. added_plug p front back frame stamp [] parts es)

  pub freed_into : (node : Node) → IsAt name_of nodes (folded part) i → node ≡ get_or nodes i node → creation_freed [] (parts_of text) (keys_of n) ≡ creation_freed [] (parts_of rest) (keys_of node)
  freed_into node at is =
      let p = folded part in
      let parts = parts_of rest in
      let all : Keys = ([], n.here) ∷ spread nodes in
      let there = read_at (key_at (p ∷ [])) (key_at []) p n.here nodes i node at is (λ front back frame es. find_plug p front back frame [] es) in
      ap (λ ps. creation_freed [] ps (keys_of n)) step
      ∙ ap (λ (l : Keys). creation_freed [] (part ∷ parts) (([], n.here) ∷ l)) below
      ∙ ap (λ o. cond (is_some o) (creation_freed (p ∷ []) parts all) (written_size n.here.written)) there
      ∙ read_at (creation_freed (p ∷ []) parts) (creation_freed [] parts) p n.here nodes i node at is (λ front back frame es. freed_plug p front back frame [] parts es)

  pub added_here : (stamp : ℕ) → IsGap name_of nodes (folded part) i → creation_added stamp [] (parts_of text) (keys_of n) ≡ written_size stamp + chain_size stamp (parts_of text)
  added_here stamp gap =
      let p = folded part in
      let parts = parts_of rest in
      let all : Keys = ([], n.here) ∷ spread nodes in
      ap (λ ps. creation_added stamp [] ps (keys_of n)) step
      ∙ ap (λ (l : Keys). creation_added stamp [] (part ∷ parts) (([], n.here) ∷ l)) below
      ∙ ap (λ o. cond (is_some o) (creation_added stamp (p ∷ []) parts all) (written_size stamp + chain_size stamp (part ∷ parts))) (missing_at p [] n.here nodes i gap)
      ∙ ap (λ ps. written_size stamp + chain_size stamp ps) (sym step)

  pub freed_here : IsGap name_of nodes (folded part) i → creation_freed [] (parts_of text) (keys_of n) ≡ written_size n.here.written
  freed_here gap =
      let p = folded part in
      let parts = parts_of rest in
      let all : Keys = ([], n.here) ∷ spread nodes in
      ap (λ ps. creation_freed [] ps (keys_of n)) step
      ∙ ap (λ (l : Keys). creation_freed [] (part ∷ parts) (([], n.here) ∷ l)) below
      ∙ ap (λ o. cond (is_some o) (creation_freed (p ∷ []) parts all) (written_size n.here.written)) (missing_at p [] n.here nodes i gap)

-- ---- results

pub ok_map : {T E : Type 0} (r : Result T E) (P Q : T → Type 0) → ((x : T) → P x → Q x) → IfOk r P → IfOk r Q
ok_map (Ok x) P Q f h = f x h
ok_map (Err e) P Q f h = tt
