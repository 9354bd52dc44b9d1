-- One level of the tree: the entries of a key are those of one subkey between the others'.
use Rattle.std.proofs.Common.{◌≡◌, ℕ, suc, List, [], ◌∷◌, ◌++◌, get_or, take, drop, set, None, refl, sym, ap, ◌∙◌}
use Rattle.std.specs.List.{AllByRecursion, insert, remove}
use Rattle.std.specs.declared.cmp.Ordering.TheVariants.{Less}
use Rattle.std.proofs.lemmas.Grind.{flat_map-append}
use Rattle.clus_names.specs.Folding.{name_cmp}
use Rattle.registry_defs.specs.Keys.{KeyData, Keys, key_at}
use Rattle.registry_defs.specs.Nodes.{Node, keys_of, name_of, under, spread}
use Rattle.registry_tree.specs.Places.{IsAt, IsGap}
use Rattle.registry_tree.proofs.Lists.{get_split, set_split, take_drop}
use Rattle.registry_tree.proofs.Under.{above_spread, below_spread}
use Rattle.registry_tree.proofs.Plug.{Frame, plug, find_plug}

-- ---- the entries around a subkey

abbrev pub front_of : KeyData → List Node → ℕ → Keys
front_of here nodes i = ([], here) ∷ spread (take i nodes)

frame_of : (here : KeyData) (p : List ℕ) (nodes others : List Node) (i : ℕ) → AllByRecursion (λ node. name_cmp (name_of node) p ≡ Less) (take i nodes) → AllByRecursion (λ node. name_cmp p (name_of node) ≡ Less) others → Frame p (front_of here nodes i) (spread others)
frame_of here p nodes others i lower higher = record { before = λ q. (refl, above_spread p q (take i nodes) lower); behind = λ q. below_spread p q others higher }

pub frame_at : (here : KeyData) (p : List ℕ) (nodes : List Node) (i : ℕ) → IsAt name_of nodes p i → Frame p (front_of here nodes i) (spread (drop (suc i) nodes))
frame_at here p nodes i at = frame_of here p nodes (drop (suc i) nodes) i at.before at.after

pub frame_gap : (here : KeyData) (p : List ℕ) (nodes : List Node) (i : ℕ) → IsGap name_of nodes p i → Frame p (front_of here nodes i) (spread (drop i nodes))
frame_gap here p nodes i gap = frame_of here p nodes (drop i nodes) i gap.before gap.after

-- a subkey with the name between others
between : (here : KeyData) (p : List ℕ) (lower higher : List Node) (node : Node) → name_of node ≡ p → ([], here) ∷ spread (lower ++ node ∷ higher) ≡ plug p (([], here) ∷ spread lower) (spread higher) (keys_of node)
between here p lower higher node same =
    ap (λ (l : Keys). ([], here) ∷ l) (flat_map-append (λ node. under (name_of node) (keys_of node)) lower (node ∷ higher) ∙ ap (λ n. spread lower ++ (under n (keys_of node) ++ spread higher)) same)

-- no subkey with the name
pub gap_is : (here : KeyData) (p : List ℕ) (nodes : List Node) (i : ℕ) → ([], here) ∷ spread nodes ≡ plug p (front_of here nodes i) (spread (drop i nodes)) []
gap_is here p nodes i =
    ap (λ (l : List Node). ([], here) ∷ spread l) (sym (take_drop i nodes))
    ∙ ap (λ (l : Keys). ([], here) ∷ l) (flat_map-append (λ node. under (name_of node) (keys_of node)) (take i nodes) (drop i nodes))

module _ (here : KeyData) (p : List ℕ) (nodes : List Node) (i : ℕ) where
  pub node_is : (node : Node) → IsAt name_of nodes p i → node ≡ get_or nodes i node → ([], here) ∷ spread nodes ≡ plug p (front_of here nodes i) (spread (drop (suc i) nodes)) (keys_of node)
  node_is node at is =
      ap (λ (l : List Node). ([], here) ∷ spread l) (get_split nodes i node at.within is)
      ∙ between here p (take i nodes) (drop (suc i) nodes) node (ap name_of is ∙ at.same node)

  pub set_is : (node changed : Node) → IsAt name_of nodes p i → node ≡ get_or nodes i node → name_of changed ≡ name_of node → ([], here) ∷ spread (set nodes i changed) ≡ plug p (front_of here nodes i) (spread (drop (suc i) nodes)) (keys_of changed)
  set_is node changed at is same =
      ap (λ (l : List Node). ([], here) ∷ spread l) (set_split nodes i changed at.within)
      ∙ between here p (take i nodes) (drop (suc i) nodes) changed (same ∙ ap name_of is ∙ at.same node)

  pub insert_is : (made : Node) → name_of made ≡ p → ([], here) ∷ spread (insert nodes i made) ≡ plug p (front_of here nodes i) (spread (drop i nodes)) (keys_of made)
  insert_is made same = between here p (take i nodes) (drop i nodes) made same

  pub remove_is : ([], here) ∷ spread (remove nodes i) ≡ plug p (front_of here nodes i) (spread (drop (suc i) nodes)) []
  remove_is = ap (λ (l : Keys). ([], here) ∷ l) (flat_map-append (λ node. under (name_of node) (keys_of node)) (take i nodes) (drop (suc i) nodes))

-- what is read of the whole list is read of the subkey's entries
pub read_at : {A : Type 0} (whole part : Keys → A) (p : List ℕ) (here : KeyData) (nodes : List Node) (i : ℕ) (node : Node) → IsAt name_of nodes p i → node ≡ get_or nodes i node
    → ((front back : Keys) → Frame p front back → (es : Keys) → whole (plug p front back es) ≡ part es) → whole (([], here) ∷ spread nodes) ≡ part (keys_of node)
read_at whole part p here nodes i node at is law =
    ap whole (node_is here p nodes i node at is) ∙ law (front_of here nodes i) (spread (drop (suc i) nodes)) (frame_at here p nodes i at) (keys_of node)

-- a change of the whole list is one of the subkey's entries
pub changed_at : (whole part : Keys → Keys) (p : List ℕ) (here : KeyData) (nodes : List Node) (i : ℕ) (node changed : Node) → IsAt name_of nodes p i → node ≡ get_or nodes i node
    → name_of changed ≡ name_of node → keys_of changed ≡ part (keys_of node)
    → ((front back : Keys) → Frame p front back → (es : Keys) → whole (plug p front back es) ≡ plug p front back (part es)) → ([], here) ∷ spread (set nodes i changed) ≡ whole (([], here) ∷ spread nodes)
changed_at whole part p here nodes i node changed at is same done law =
    let front = front_of here nodes i in
    let back = spread (drop (suc i) nodes) in
    set_is here p nodes i node changed at is same
    ∙ ap (plug p front back) done
    ∙ sym (law front back (frame_at here p nodes i at) (keys_of node))
    ∙ ap whole (sym (node_is here p nodes i node at is))

-- nothing is below a name that no subkey has
pub missing_at : (p : List ℕ) (q : List (List ℕ)) (here : KeyData) (nodes : List Node) (i : ℕ) → IsGap name_of nodes p i → key_at (p ∷ q) (([], here) ∷ spread nodes) ≡ None
missing_at p q here nodes i gap =
    ap (key_at (p ∷ q)) (gap_is here p nodes i) ∙ find_plug p (front_of here nodes i) (spread (drop i nodes)) (frame_gap here p nodes i gap) q []
