-- What each check of a change answers.
use Rattle.std.proofs.Common.{◌≡◌, ℕ, ◌<◌, ◌≤◌, Bool, true, false, cond, List, ◌++◌, Some, None, sym, ap, ◌∙◌}
use Rattle.std.specs.Prelude.{is_some, is_none}
use Rattle.std.proofs.lemmas.Bool.{le-ltb, lt-ltb}
use Rattle.clus_names.specs.Folding.{folded, folded_parts}
use Rattle.clus_names.specs.Parts.{parts_of}
use Rattle.registry_defs.specs.Keys.{KeyData, Keys, key_at, value_at}
use Rattle.registry_defs.specs.Sections.{section, has_subkeys}
use Rattle.registry_defs.specs.Sizes.{size}
use Rattle.registry_defs.specs.Changes.{at_key, without_value, created, key_deleted}
use Rattle.registry_defs.specs.Applying.{Applied, answered, refused, done, is_born, if_born, if_fits, has_value, create_found, create_applied, delete_value_applied, delete_key_applied}
use Rattle.registry_defs.specs.Nodes.{Node, IsAt, keys_of, path_of}
use Rattle.registry_defs.proofs.Paths.{folded-below}
use Rattle.registry_defs.proofs.Sections.{key_in_section, section_in_section}
use Rattle.clus_registry.specs.Found.{IsBornAt}

pub not_born : (birth : ℕ) (q : List (List ℕ)) (es : Keys) (a : Applied) → is_born birth (key_at q es) ≡ false → if_born birth (key_at q es) es a ≡ refused 1018 es
not_born birth q es a none = ap (λ b. cond b a (refused 1018 es)) none

pub born : (birth : ℕ) (q : List (List ℕ)) (es : Keys) (a : Applied) (node : Node) → IsBornAt birth q es node → if_born birth (key_at q es) es a ≡ a
born birth q es a node at = ap (λ b. cond b a (refused 1018 es)) at.born

pub fits : (most : ℕ) (es : Keys) (a : Applied) → size a.keys ≤ most → if_fits most es a ≡ a
fits most es a within = ap (λ b. cond b (refused 112 es) a) (le-ltb _ _ within)

pub too_large : (most : ℕ) (es : Keys) (a : Applied) → most < size a.keys → if_fits most es a ≡ refused 112 es
too_large most es a past = ap (λ b. cond b (refused 112 es) a) (lt-ltb _ _ past)

-- ---- the key below the one that was found

pub target_at : (key subkey : List (List ℕ)) (text : List ℕ) (es : Keys) (node : Node) → IsAt (folded_parts key) es node → parts_of text ≡ subkey → key_at (path_of text) (keys_of node) ≡ key_at (folded_parts (key ++ subkey)) es
target_at key subkey text es node at is =
    ap (λ l. key_at (path_of text) l) at.all
    ∙ key_in_section (folded_parts key) (path_of text) es
    ∙ ap (λ (l : List (List ℕ)). key_at (folded_parts key ++ folded_parts l) es) is
    ∙ ap (λ l. key_at l es) (sym (folded-below key subkey))

pub section_at : (key subkey : List (List ℕ)) (text : List ℕ) (es : Keys) (node target : Node) → IsAt (folded_parts key) es node → parts_of text ≡ subkey → keys_of target ≡ section (path_of text) (keys_of node) → keys_of target ≡ section (folded_parts (key ++ subkey)) es
section_at key subkey text es node target at is all =
    all
    ∙ ap (λ l. section (path_of text) l) at.all
    ∙ section_in_section (folded_parts key) (path_of text) es
    ∙ ap (λ (l : List (List ℕ)). section (folded_parts key ++ folded_parts l) es) is
    ∙ ap (λ l. section l es) (sym (folded-below key subkey))

-- ---- the kinds of change, at a key that was found

module _ (birth : ℕ) (key : List (List ℕ)) (es : Keys) (node : Node) (at : IsBornAt birth (folded_parts key) es node) where
  pub create_there : (most place stamp : ℕ) (subkey : List (List ℕ)) (target : KeyData) → key_at (folded_parts (key ++ subkey)) es ≡ Some target
      → if_born birth (key_at (folded_parts key) es) es (create_applied most place stamp key subkey es) ≡ answered 0 2 target.birth es
  create_there most place stamp subkey target found =
      born birth (folded_parts key) es (create_applied most place stamp key subkey es) node at ∙ ap (λ o. create_found most place stamp key subkey o es) found

  pub create_missing : (most place stamp : ℕ) (subkey : List (List ℕ)) → key_at (folded_parts (key ++ subkey)) es ≡ None
      → if_born birth (key_at (folded_parts key) es) es (create_applied most place stamp key subkey es) ≡ if_fits most es (answered 0 1 place (created place stamp (folded_parts key) subkey es))
  create_missing most place stamp subkey missing =
      born birth (folded_parts key) es (create_applied most place stamp key subkey es) node at ∙ ap (λ o. create_found most place stamp key subkey o es) missing

  has : (name : List ℕ) (b : Bool) → is_some (value_at (folded name) node.here.values) ≡ b → has_value name (key_at (folded_parts key) es) ≡ b
  has name b is = ap (has_value name) at.at.here ∙ is

  pub no_value : (stamp : ℕ) (name : List ℕ) → is_some (value_at (folded name) node.here.values) ≡ false
      → if_born birth (key_at (folded_parts key) es) es (delete_value_applied stamp key name es) ≡ refused 2 es
  no_value stamp name is =
      born birth (folded_parts key) es (delete_value_applied stamp key name es) node at
      ∙ ap (λ b. cond b (done (at_key (without_value name stamp) (folded_parts key) es)) (refused 2 es)) (has name false is)

  pub value_goes : (stamp : ℕ) (name : List ℕ) → is_some (value_at (folded name) node.here.values) ≡ true
      → if_born birth (key_at (folded_parts key) es) es (delete_value_applied stamp key name es) ≡ done (at_key (without_value name stamp) (folded_parts key) es)
  value_goes stamp name is =
      born birth (folded_parts key) es (delete_value_applied stamp key name es) node at
      ∙ ap (λ b. cond b (done (at_key (without_value name stamp) (folded_parts key) es)) (refused 2 es)) (has name true is)

  pub no_key : (stamp : ℕ) (path : List (List ℕ)) → key_at path es ≡ None
      → if_born birth (key_at (folded_parts key) es) es (delete_key_applied stamp path es) ≡ refused 2 es
  no_key stamp path missing =
      born birth (folded_parts key) es (delete_key_applied stamp path es) node at
      ∙ ap (λ o. cond (is_none o) (refused 2 es) (cond (has_subkeys path es) (refused 1020 es) (done (key_deleted stamp path es)))) missing

  found_key : (stamp : ℕ) (path : List (List ℕ)) (target : KeyData) (b : Bool) → key_at path es ≡ Some target → has_subkeys path es ≡ b
      → if_born birth (key_at (folded_parts key) es) es (delete_key_applied stamp path es) ≡ cond b (refused 1020 es) (done (key_deleted stamp path es))
  found_key stamp path target b found is =
      born birth (folded_parts key) es (delete_key_applied stamp path es) node at
      ∙ ap (λ o. cond (is_none o) (refused 2 es) (cond (has_subkeys path es) (refused 1020 es) (done (key_deleted stamp path es)))) found
      ∙ ap (λ c. cond c (refused 1020 es) (done (key_deleted stamp path es))) is

  pub key_holds : (stamp : ℕ) (path : List (List ℕ)) (target : KeyData) → key_at path es ≡ Some target → has_subkeys path es ≡ true
      → if_born birth (key_at (folded_parts key) es) es (delete_key_applied stamp path es) ≡ refused 1020 es
  key_holds stamp path target found is = found_key stamp path target true found is

  pub key_goes : (stamp : ℕ) (path : List (List ℕ)) (target : KeyData) → key_at path es ≡ Some target → has_subkeys path es ≡ false
      → if_born birth (key_at (folded_parts key) es) es (delete_key_applied stamp path es) ≡ done (key_deleted stamp path es)
  key_goes stamp path target found is = found_key stamp path target false found is
