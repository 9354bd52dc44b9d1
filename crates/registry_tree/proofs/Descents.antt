-- A step down the tree by the first part of a path's text.
use Rattle.std.proofs.Common.{◌≡◌, ℕ, suc, List, [], ◌∷◌, length, get_or, set, None, refl, sym, ap, ◌∙◌, arith}
use Rattle.std.specs.Prelude.{nat_lt, not, ◌==◌}
use Rattle.std.proofs.lemmas.Bool.Decides.{nat_tests}
use Rattle.clus_names.specs.Folding.{folded, folded_parts}
use Rattle.clus_names.specs.Parts.{parts_of}
use Rattle.registry_defs.specs.Keys.{KeyData, Keys, key_at}
use Rattle.registry_defs.specs.Sections.{section}
use Rattle.registry_defs.specs.Changes.{put_changed, at_key}
use Rattle.registry_defs.specs.Nodes.{Node, keys_of, name_of, spread, path_of}
use Rattle.registry_tree.specs.Places.{IsAt, IsGap}
use Rattle.registry_tree.proofs.Plug.{Frame, plug}
use Rattle.registry_tree.proofs.Levels.{read_at, changed_at, missing_at}

pub path_step : (text part rest : List ℕ) → parts_of text ≡ part ∷ parts_of rest → path_of text ≡ folded part ∷ path_of rest
path_step text part rest e = ap folded_parts e

pub path_end : (text : List ℕ) → parts_of text ≡ [] → path_of text ≡ []
path_end text e = ap folded_parts e

pub section_root : (es : Keys) → section [] es ≡ es
section_root [] = refl
section_root (e ∷ es) = ap (λ (l : Keys). e ∷ l) (section_root es)

pub has_below : (nodes : List Node) (count : ℕ) → count ≡ length nodes → not (count == 0) ≡ nat_lt 1 (suc (length (spread nodes)))
has_below [] count is = rw is refl
has_below (node ∷ nodes) count is = rw is (grind (arith, nat_tests))

-- what is read of a key at a path is read of the subkey that the path begins with, at the rest
pub read_into : {A : Type 0} (read : List (List ℕ) → Keys → A) (n : Node) (nodes : List Node) (text part rest : List ℕ) (i : ℕ) (node : Node)
    → n.below ≡ spread nodes → parts_of text ≡ part ∷ parts_of rest → IsAt name_of nodes (folded part) i → node ≡ get_or nodes i node
    → ((p : List ℕ) (q : List (List ℕ)) (front back : Keys) → Frame p front back → (es : Keys) → read (p ∷ q) (plug p front back es) ≡ read q es)
    → read (path_of text) (keys_of n) ≡ read (path_of rest) (keys_of node)
read_into read n nodes text part rest i node below step at is law =
    ap (λ q. read q (keys_of n)) (path_step text part rest step)
    ∙ ap (λ (l : Keys). read (folded part ∷ path_of rest) (([], n.here) ∷ l)) below
    ∙ read_at (read (folded part ∷ path_of rest)) (read (path_of rest)) (folded part) n.here nodes i node at is (law (folded part) (path_of rest))

pub changed_into : (change : List (List ℕ) → Keys → Keys) (n : Node) (nodes : List Node) (text part rest : List ℕ) (i : ℕ) (node changed : Node)
    → n.below ≡ spread nodes → parts_of text ≡ part ∷ parts_of rest → IsAt name_of nodes (folded part) i → node ≡ get_or nodes i node
    → changed.here.part ≡ node.here.part → keys_of changed ≡ change (path_of rest) (keys_of node)
    → ((p : List ℕ) (q : List (List ℕ)) (front back : Keys) → Frame p front back → (es : Keys) → change (p ∷ q) (plug p front back es) ≡ plug p front back (change q es))
    → ([], n.here) ∷ spread (set nodes i changed) ≡ change (path_of text) (keys_of n)
changed_into change n nodes text part rest i node changed below step at is same done law =
    changed_at (change (folded part ∷ path_of rest)) (change (path_of rest)) (folded part) n.here nodes i node changed at is (ap folded same) done (law (folded part) (path_of rest))
    ∙ ap (λ (l : Keys). change (folded part ∷ path_of rest) (([], n.here) ∷ l)) (sym below)
    ∙ ap (λ q. change q (keys_of n)) (sym (path_step text part rest step))

pub missing_into : (n : Node) (nodes : List Node) (text part rest : List ℕ) (i : ℕ) → n.below ≡ spread nodes → parts_of text ≡ part ∷ parts_of rest → IsGap name_of nodes (folded part) i → key_at (path_of text) (keys_of n) ≡ None
missing_into n nodes text part rest i below step gap =
    ap (λ q. key_at q (keys_of n)) (path_step text part rest step)
    ∙ ap (λ (l : Keys). key_at (folded part ∷ path_of rest) (([], n.here) ∷ l)) below
    ∙ missing_at (folded part) (path_of rest) n.here nodes i gap

-- nothing is changed where there is no key
pub unchanged_missing : (change : KeyData → KeyData) (q : List (List ℕ)) (es : Keys) → key_at q es ≡ None → es ≡ at_key change q es
unchanged_missing change q es none = ap (λ o. put_changed o change q es) (sym none)
