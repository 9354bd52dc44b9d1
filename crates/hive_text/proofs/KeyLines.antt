-- The lines of a key by levels: its own lines, those of its subkeys one after the other, and its end.
use Rattle.std.proofs.Common.{◌≡◌, ℕ, zero, suc, ◌+◌, ◌-◌, ◌<◌, List, [], ◌∷◌, ◌++◌, length, get_or, refl, sym, ap, subst, ◌∙◌, append_assoc, All, arith}
use Rattle.std.specs.Prelude.{codes, flat_map}
use Rattle.std.specs.List.{AllByRecursion}
use Rattle.std.proofs.lemmas.List.Elements.{All-head, All-tail}
use Rattle.std.proofs.lemmas.Bool.{lt-ltb}
use Rattle.clus_names.specs.Limits.{LacksZero, IsPartUnit}
use Rattle.registry_defs.specs.Keys.{KeyData, Keys}
use Rattle.registry_defs.specs.Limits.{IsKey, IsNamed, IsRegistry}
use Rattle.registry_defs.specs.Nodes.{Node, keys_of, name_of, under, spread}
use Rattle.registry_tree.proofs.Subkeys.{each_kid, fewer_kid}
use Rattle.hive_text.specs.HiveText.{HaveNames, key_line, value_lines, ends, keys_lines}

-- ---- the lines

own_lines : KeyData → List ℕ
own_lines key = key_line key ++ value_lines key.values

-- a key with all that stands below it
abbrev pub node_lines : Node → List ℕ
node_lines node = keys_lines 0 (keys_of node)

-- what stands before and behind the end of one more key
ends_more : (open_keys : ℕ) → ends (open_keys + 1) ≡ ends open_keys ++ ends 1
unfolding ends
ends_more zero = refl
ends_more (suc open_keys) =
    let e : suc open_keys + 1 ≡ suc (open_keys + 1) = omega arith in
    ap ends e ∙ ap (λ t. codes "up\n" ++ t) (ends_more open_keys) ∙ sym (append_assoc (codes "up\n") (ends open_keys) (ends 1))

-- the keys below a subkey are as they are by themselves, one deeper
cut : (open_keys : ℕ) (name : List ℕ) (keys : Keys) (nodes : List Node) → keys_lines (open_keys + 1) (under name keys ++ spread nodes) ≡ keys_lines open_keys keys ++ keys_lines 1 (spread nodes)
unfolding keys_lines ends
cut open_keys name [] [] = ends_more open_keys
cut open_keys name [] (node ∷ nodes) =
    let e : open_keys + 1 - 1 ≡ open_keys = omega arith in
    ap (λ n. ends n ++ (key_line node.here ++ (value_lines node.here.values ++ keys_lines (1 + 1) (under (name_of node) node.below ++ spread nodes)))) e
cut open_keys name (entry ∷ keys) nodes =
    let more = cut (length entry.0 + 1) name keys nodes in
    let e : open_keys + 1 - (length entry.0 + 1) ≡ open_keys - length entry.0 = omega arith in
    let deeper : suc (length entry.0) ≡ length entry.0 + 1 = omega arith in
    let front = ends (open_keys - length entry.0) in
    let key = key_line entry.1 in
    let values = value_lines entry.1.values in
    let own = keys_lines (length entry.0 + 1) keys in
    let rest = keys_lines 1 (spread nodes) in
    ap (λ n. ends (open_keys + 1 - n) ++ (key ++ (values ++ keys_lines (n + 1) (under name keys ++ spread nodes)))) deeper
    ∙ ap (λ n. ends n ++ (key ++ (values ++ keys_lines (length entry.0 + 1 + 1) (under name keys ++ spread nodes)))) e
    ∙ ap (λ t. front ++ (key ++ (values ++ t))) more
    ∙ regrouped front key values own rest
  where
    regrouped : (a b c d f : List ℕ) → a ++ (b ++ (c ++ (d ++ f))) ≡ (a ++ (b ++ (c ++ d))) ++ f
    regrouped a b c d f = simp append_assoc

subkey_lines : (nodes : List Node) → keys_lines 1 (spread nodes) ≡ flat_map node_lines nodes ++ codes "up\n"
unfolding keys_lines ends
subkey_lines [] = refl
subkey_lines (node ∷ nodes) =
    let key = key_line node.here in
    let values = value_lines node.here.values in
    ap (λ t. key ++ (values ++ t)) (cut 1 (name_of node) node.below nodes)
    ∙ regrouped key values (keys_lines 1 node.below) (keys_lines 1 (spread nodes))
    ∙ ap (λ t. node_lines node ++ t) (subkey_lines nodes)
    ∙ sym (append_assoc (node_lines node) (flat_map node_lines nodes) (codes "up\n"))
  where
    regrouped : (b c d f : List ℕ) → b ++ (c ++ (d ++ f)) ≡ (b ++ (c ++ d)) ++ f
    regrouped b c d f = simp append_assoc

pub lines_of_key : (node : Node) (nodes : List Node) → spread nodes ≡ node.below → node_lines node ≡ key_line node.here ++ (value_lines node.here.values ++ (flat_map node_lines nodes ++ codes "up\n"))
unfolding keys_lines ends
lines_of_key node nodes below =
    ap (λ (keys : Keys). key_line node.here ++ (value_lines node.here.values ++ keys_lines 1 keys)) (sym below)
    ∙ ap (λ t. key_line node.here ++ (value_lines node.here.values ++ t)) (subkey_lines nodes)

-- what was printed of a key in turn
pub printed : (node : Node) (nodes : List Node) → spread nodes ≡ node.below → (before one two three : List ℕ) → one ≡ before ++ key_line node.here → two ≡ one ++ value_lines node.here.values → three ≡ two ++ flat_map node_lines nodes
    → three ++ codes "up\n" ≡ before ++ keys_lines 0 (keys_of node)
printed node nodes below before one two three own values kids =
    ap (λ t. t ++ codes "up\n") (kids ∙ ap (λ t. t ++ flat_map node_lines nodes) (values ∙ ap (λ t. t ++ value_lines node.here.values) own))
    ∙ regrouped before (key_line node.here) (value_lines node.here.values) (flat_map node_lines nodes) (codes "up\n")
    ∙ ap (λ t. before ++ t) (sym (lines_of_key node nodes below))
  where
    regrouped : (w k v d u : List ℕ) → (((w ++ k) ++ v) ++ d) ++ u ≡ w ++ (k ++ (v ++ (d ++ u)))
    regrouped w k v d u = simp append_assoc

-- ---- names

pub no_zero : (units : List ℕ) → All IsPartUnit units → LacksZero units
no_zero [] h = refl
no_zero (unit ∷ units) h =
    let first = lt-ltb 0 unit (All-head IsPartUnit unit units h).not_zero in
    rw first (no_zero units (All-tail IsPartUnit unit units h))

named : (path : List (List ℕ)) (key : KeyData) → IsNamed path key → LacksZero key.part
named [] key h = rw h.0 refl
named (first ∷ others) key h = no_zero key.part h.0.units

each_named : (keys : Keys) → AllByRecursion (λ entry. IsKey entry.0 entry.1) keys → HaveNames keys
each_named [] h = tt
each_named (entry ∷ keys) h = (named entry.0 entry.1 h.0.named, each_named keys h.1)

pub have_names : (keys : Keys) → IsRegistry keys → HaveNames keys
have_names keys h = each_named keys h.limits

-- what printing a subkey asks for
pub record IsFitKid (n node : Node) : Type 0 where
  pub lighter : length node.below < length n.below
  pub names : HaveNames (keys_of node)

pub fit_kid : (n : Node) (nodes : List Node) (i : ℕ) (node : Node) → spread nodes ≡ n.below → node ≡ get_or nodes i node → i < length nodes → HaveNames (keys_of n) → IsFitKid n node
fit_kid n nodes i node below is within names =
    let fewer = fewer_kid nodes i node is within in
    let all = ap (λ (l : Keys). length l) below in
    record {
      lighter = omega (arith, fewer, all);
      names = each_kid (λ key. LacksZero key.part) nodes i node is within (subst HaveNames (sym below) names.1);
    }
