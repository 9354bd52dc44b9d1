-- The spelling of a key by levels: the key itself, and for each subkey its name and its own spelling.
use Rattle.std.proofs.Common.{◌≡◌, ℕ, suc, ◌<◌, List, [], ◌∷◌, ◌++◌, length, get_or, refl, sym, ap, subst, ◌∙◌, append_assoc, arith}
use Rattle.std.specs.List.{AllByRecursion, flat_map}
use Rattle.std.specs.declared.cmp.Ordering.TheVariants.{Less}
use Rattle.std.specs.Ordering.{is_eq}
use Rattle.clus_names.specs.Folding.{name_cmp, path_cmp}
use Rattle.update_records.specs.Spelling.{name_text}
use Rattle.registry_defs.specs.Keys.{KeyData, Keys}
use Rattle.registry_defs.specs.Sections.{section, subkeys}
use Rattle.registry_defs.specs.Spelling.{key_text, part_text, entries_text, registry_text}
use Rattle.registry_defs.specs.Rising.{Rising, RisingKeys}
use Rattle.registry_defs.specs.Nodes.{Node, keys_of, name_of, under, spread}
use Rattle.registry_tree.proofs.Descents.{section_root}
use Rattle.registry_tree.proofs.Places.{at_index}
use Rattle.registry_tree.proofs.Plug.{section_plug}
use Rattle.registry_tree.proofs.Levels.{read_at}
use Rattle.registry_tree.proofs.Subkeys.{rising_kid}

abbrev pub subkey_text : Node → List ℕ
subkey_text node = name_text node.here.part ++ registry_text (keys_of node)

text_append : (all xs ys : Keys) → entries_text all (xs ++ ys) ≡ entries_text all xs ++ entries_text all ys
unfolding entries_text
text_append all [] ys = refl
text_append all (x ∷ xs) ys =
    let head = part_text x.0 x.1.part in
    let own = key_text x.1 (length (subkeys (section x.0 all))) in
    ap (λ t. head ++ (own ++ t)) (text_append all xs ys)
    ∙ ap (λ t. head ++ t) (sym (append_assoc own (entries_text all xs) (entries_text all ys)))
    ∙ sym (append_assoc head (own ++ entries_text all xs) (entries_text all ys))

-- below a subkey all names are spelled as in its own spelling
text_under : (p : List ℕ) (all own : Keys) → ((q : List (List ℕ)) → section (p ∷ q) all ≡ section q own) → (es : Keys) → AllByRecursion (λ e. path_cmp [] e.0 ≡ Less) es → entries_text all (under p es) ≡ entries_text own es
unfolding entries_text part_text
text_under p all own law [] deep = refl
text_under p all own law (([], d) ∷ es) deep = absurd (let e = ap is_eq deep.0 in cc)
text_under p all own law ((x ∷ xs, d) ∷ es) deep =
    ap (λ (l : Keys). name_text d.part ++ (key_text d (length (subkeys l)) ++ entries_text all (under p es))) (law (x ∷ xs))
    ∙ ap (λ t. name_text d.part ++ (key_text d (length (subkeys (section (x ∷ xs) own))) ++ t)) (text_under p all own law es deep.1)

text_subkey : (all : Keys) (node : Node) → ((q : List (List ℕ)) → section (name_of node ∷ q) all ≡ section q (keys_of node)) → RisingKeys (keys_of node) → entries_text all (under (name_of node) (keys_of node)) ≡ subkey_text node
unfolding entries_text part_text
text_subkey all node law up =
    ap (λ (l : Keys). name_text node.here.part ++ (key_text node.here (length (subkeys l)) ++ entries_text all (under (name_of node) node.below))) (law [])
    ∙ ap (λ t. name_text node.here.part ++ (key_text node.here (length (subkeys (section [] (keys_of node)))) ++ t)) (text_under (name_of node) all (keys_of node) law node.below up.0)

-- what one subkey has of the list that it stands in
pub record Stands (all : Keys) (node : Node) : Type 0 where
  pub section : (q : List (List ℕ)) → section (name_of node ∷ q) all ≡ section q (keys_of node)
  pub rising : RisingKeys (keys_of node)

text_spread : (all : Keys) (nodes : List Node) → AllByRecursion (Stands all) nodes → entries_text all (spread nodes) ≡ flat_map subkey_text nodes
unfolding entries_text
text_spread all [] h = refl
text_spread all (node ∷ nodes) h =
    text_append all (under (name_of node) (keys_of node)) (spread nodes)
    ∙ ap (λ t. t ++ entries_text all (spread nodes)) (text_subkey all node h.0.section h.0.rising)
    ∙ ap (λ t. subkey_text node ++ t) (text_spread all nodes h.1)

each_by_index : {X : Type 0} (P : X → Type 0) (xs : List X) → ((i : ℕ) (x : X) → i < length xs → x ≡ get_or xs i x → P x) → AllByRecursion P xs
each_by_index P [] h = tt
each_by_index P (x ∷ xs) h = (h 0 x (omega arith) refl, each_by_index P xs (λ i y within is. h (suc i) y (omega (arith, within)) is))

all_stand : (here : KeyData) (nodes : List Node) → Rising name_cmp name_of nodes → RisingKeys (spread nodes) → AllByRecursion (Stands (([], here) ∷ spread nodes)) nodes
all_stand here nodes named up = each_by_index (Stands (([], here) ∷ spread nodes)) nodes (λ i node within is. record {
  section = λ q. read_at (section (name_of node ∷ q)) (section q) (name_of node) here nodes i node (at_index name_of nodes named i node within is) is (λ front back frame es. section_plug (name_of node) front back frame q es);
  rising = rising_kid nodes i node is within up;
})

pub spelled : (n : Node) (nodes : List Node) → n.below ≡ spread nodes → Rising name_cmp name_of nodes → RisingKeys (keys_of n) → registry_text (keys_of n) ≡ key_text n.here (length (subkeys (keys_of n))) ++ flat_map subkey_text nodes
unfolding entries_text part_text
spelled n nodes below named up =
    let all : Keys = ([], n.here) ∷ spread nodes in
    let texts = text_spread all nodes (all_stand n.here nodes named (subst RisingKeys below up.1)) in
    ap (λ (l : Keys). registry_text (([], n.here) ∷ l)) below
    ∙ ap (λ (l : Keys). key_text n.here (length (subkeys l)) ++ entries_text all (spread nodes)) (section_root all)
    ∙ ap (λ t. key_text n.here (length (subkeys all)) ++ t) texts
    ∙ ap (λ (l : Keys). key_text n.here (length (subkeys (([], n.here) ∷ l))) ++ flat_map subkey_text nodes) (sym below)
