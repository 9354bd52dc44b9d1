-- The changes of a key by levels: its own, and those of its subkeys one after the other.
use Rattle.std.proofs.Common.{◌≡◌, ℕ, zero, suc, ◌<◌, ◌≤◌, List, [], ◌∷◌, ◌++◌, length, take, get_or, refl, sym, ap, subst, ◌∙◌, append_assoc, arith}
use Rattle.std.specs.Prelude.{Err, flat_map}
use Rattle.std.specs.List.{AllByRecursion}
use Rattle.std.specs.Ordering.{is_eq}
use Rattle.std.specs.declared.cmp.Ordering.TheVariants.{Less}
use Rattle.std.proofs.lemmas.List.{append-nil}
use Rattle.std.proofs.lemmas.List.Elements.{All-nil, All-cons}
use Rattle.clus_names.specs.Folding.{folded, folded_parts, path_cmp}
use Rattle.clus_names.specs.Faults.{GivesPath, IsTooLong}
use Rattle.clus_names.specs.Limits.{IsPart, IsPath}
use Rattle.clus_names.specs.declared.fault.NameFault.{NameFault}
use Rattle.clus_names.specs.declared.fault.NameFault.TheVariants.{TooLong, EmptyPart, PartTooLong, Memory}
use Rattle.clus_names.specs.Parts.{text_of}
use Rattle.update_records.specs.declared.change.Change.{Change}
use Rattle.registry_defs.specs.Keys.{Keys}
use Rattle.registry_defs.specs.Limits.{HaveFields, IsKey, IsRegistry}
use Rattle.registry_defs.specs.Nodes.{Node, keys_of, name_of, under, spread}
use Rattle.registry_defs.specs.Rising.{RisingKeys}
use Rattle.registry_defs.proofs.Paths.{folded-below, text_folded}
use Rattle.registry_tree.proofs.Subkeys.{each_front, each_back, rising_front, rising_back, rising_under}
use Rattle.registry_tree.proofs.Subkeys as subkeys
use Rattle.hive_text.specs.Batching.{HavePaths}
use Rattle.hive_text.specs.Changes.{changes_below, changes_from, key_changes}

-- ---- the changes

-- A subkey of the key at a path, with all that stands below it.
abbrev pub subkey_changes : List (List ℕ) → Node → List Change
subkey_changes path node = changes_from (path ++ node.here.part ∷ []) (keys_of node)

-- where subkeys begin, the path before them is forgotten
from_top : (top before : List (List ℕ)) (nodes : List Node) → changes_below top before (spread nodes) ≡ changes_below top [] (spread nodes)
unfolding changes_below
from_top top before [] = refl
from_top top before (node ∷ nodes) = refl

-- the keys below a subkey are as they are from that subkey on
nested : (top : List (List ℕ)) (part : List ℕ) (before : List (List ℕ)) (name : List ℕ) (keys : Keys) (nodes : List Node) → AllByRecursion (λ entry. path_cmp [] entry.0 ≡ Less) keys
    → changes_below top (part ∷ before) (under name keys ++ spread nodes) ≡ changes_below (top ++ part ∷ []) before keys ++ changes_below top [] (spread nodes)
unfolding changes_below
nested top part before name [] nodes h = from_top top (part ∷ before) nodes
nested top part before name (([], key) ∷ keys) nodes h = absurd (let e = ap is_eq h.0 in cc)
nested top part before name ((first ∷ others, key) ∷ keys) nodes h =
    let path = take (length others) before ++ key.part ∷ [] in
    let own = key_changes ((top ++ part ∷ []) ++ path) key in
    ap (λ (p : List (List ℕ)). key_changes p key ++ changes_below top (part ∷ path) (under name keys ++ spread nodes)) (sym (append_assoc top (part ∷ []) path))
    ∙ ap (λ (l : List Change). own ++ l) (nested top part path name keys nodes h.1)
    ∙ sym (append_assoc own (changes_below (top ++ part ∷ []) path keys) (changes_below top [] (spread nodes)))

own_front : (node : Node) (nodes : List Node) → RisingKeys (spread (node ∷ nodes)) → RisingKeys (keys_of node)
own_front node nodes up = rising_under (name_of node) (keys_of node) (rising_front (under (name_of node) (keys_of node)) (spread nodes) up)

each_subkey : (top : List (List ℕ)) (nodes : List Node) → RisingKeys (spread nodes) → changes_below top [] (spread nodes) ≡ flat_map (subkey_changes top) nodes
unfolding changes_below
each_subkey top [] up = refl
each_subkey top (node ∷ nodes) up =
    let own = own_front node nodes up in
    let path = top ++ node.here.part ∷ [] in
    let key = key_changes path node.here in
    ap (λ (l : List Change). key ++ l) (nested top node.here.part [] (name_of node) node.below nodes own.0)
    ∙ sym (append_assoc key (changes_below path [] node.below) (changes_below top [] (spread nodes)))
    ∙ ap (λ (p : List (List ℕ)). (key_changes p node.here ++ changes_below path [] node.below) ++ changes_below top [] (spread nodes)) (sym (append-nil path))
    ∙ ap (λ (l : List Change). subkey_changes top node ++ l) (each_subkey top nodes (rising_back (under (name_of node) (keys_of node)) (spread nodes) up))

pub changes_of_key : (path : List (List ℕ)) (node : Node) (nodes : List Node) → spread nodes ≡ node.below → RisingKeys (keys_of node)
    → changes_from path (keys_of node) ≡ key_changes path node.here ++ flat_map (subkey_changes path) nodes
unfolding changes_below
changes_of_key path node nodes below up =
    ap (λ (p : List (List ℕ)). key_changes p node.here ++ changes_below path [] node.below) (append-nil path)
    ∙ ap (λ (keys : Keys). key_changes path node.here ++ changes_below path [] keys) (sym below)
    ∙ ap (λ (l : List Change). key_changes path node.here ++ l) (each_subkey path nodes (subst RisingKeys (sym below) up.1))

-- ---- paths

paths_below : (path : List (List ℕ)) (part : List ℕ) (keys : Keys) → HavePaths path (under (folded part) keys) → HavePaths (path ++ part ∷ []) keys
paths_below path part [] h = tt
paths_below path part (entry ∷ keys) h =
    let same : folded_parts path ++ (folded part ∷ entry.0) ≡ folded_parts (path ++ part ∷ []) ++ entry.0 =
    sym (append_assoc (folded_parts path) (folded part ∷ []) entry.0) ∙ ap (λ (p : List (List ℕ)). p ++ entry.0) (sym (folded-below path (part ∷ []))) in
    ((h.0.0, subst (λ (p : List (List ℕ)). length (text_of p) ≤ 1023) same h.0.1), paths_below path part keys h.1)

paths_at : (path : List (List ℕ)) (nodes : List Node) (i : ℕ) (node : Node) → node ≡ get_or nodes i node → i < length nodes → HavePaths path (spread nodes) → HavePaths path (under (name_of node) (keys_of node))
paths_at path [] i node is within h = absurd (omega arith)
paths_at path (kid ∷ kids) zero node is within h =
    subst (λ (n : Node). HavePaths path (under (name_of n) (keys_of n))) (sym is)
    (each_front (λ entry. IsPart entry.1.part × (length (text_of (folded_parts path ++ entry.0)) ≤ 1023)) (under (name_of kid) (keys_of kid)) (spread kids) h)
paths_at path (kid ∷ kids) (suc i) node is within h =
    paths_at path kids i node is (omega arith)
    (each_back (λ entry. IsPart entry.1.part × (length (text_of (folded_parts path ++ entry.0)) ≤ 1023)) (under (name_of kid) (keys_of kid)) (spread kids) h)

paths_of_keys : (keys : Keys) → AllByRecursion (λ entry. path_cmp [] entry.0 ≡ Less) keys → AllByRecursion (λ entry. IsKey entry.0 entry.1) keys → HavePaths [] keys
paths_of_keys [] up h = tt
paths_of_keys (([], key) ∷ keys) up h = absurd (let e = ap is_eq up.0 in cc)
paths_of_keys ((first ∷ others, key) ∷ keys) up h = ((h.0.named.0, h.0.short), paths_of_keys keys up.1 h.1)

pub have_paths : (node : Node) (keys : Keys) → keys_of node ≡ keys → IsRegistry keys → RisingKeys (keys_of node) → HavePaths [] node.below
have_paths node keys is registry up =
    let limits = subst (λ (k : Keys). AllByRecursion (λ entry. IsKey entry.0 entry.1) k) (sym is) registry.limits in
    paths_of_keys node.below up.0 limits.1

-- ---- a subkey

pub record IsFitKid (path : List (List ℕ)) (n node : Node) : Type 0 where
  pub lighter : length node.below < length n.below
  pub part : IsPart node.here.part
  pub short : length (text_of (path ++ node.here.part ∷ [])) ≤ 1023
  pub rising : RisingKeys (keys_of node)
  pub fields : HaveFields (keys_of node)
  pub paths : HavePaths (path ++ node.here.part ∷ []) node.below

pub fit_kid : (path : List (List ℕ)) (n : Node) (nodes : List Node) (i : ℕ) (node : Node) → spread nodes ≡ n.below → node ≡ get_or nodes i node → i < length nodes → RisingKeys (keys_of n) → HaveFields (keys_of n) → HavePaths path n.below
    → IsFitKid path n node
fit_kid path n nodes i node below is within up fields paths =
    let kid = subkeys.fit_kid n nodes i node below is within up fields in
    let own = paths_at path nodes i node is within (subst (HavePaths path) (sym below) paths) in
    let part = node.here.part in
    let text : length (text_of (path ++ part ∷ [])) ≡ length (text_of (folded_parts path ++ folded part ∷ [])) =
    sym (text_folded (path ++ part ∷ [])) ∙ ap (λ (p : List (List ℕ)). length (text_of p)) (folded-below path (part ∷ [])) in
    let short = own.0.1 in
    record {
      lighter = kid.lighter;
      part = own.0.0;
      short = omega (arith, text, short);
      rising = kid.rising;
      fields = kid.fields;
      paths = paths_below path part node.below own.1;
    }

-- ---- its path

pub one_part : (part : List ℕ) → IsPart part → IsPath (part ∷ [])
one_part part h =
    let short = h.short in
    record { parts = All-cons IsPart part [] h (All-nil IsPart); short = omega (arith, short) }

pub only_memory : (fault : NameFault) (path : List (List ℕ)) → GivesPath (Err fault) path → fault ≡ Memory
only_memory Memory path gives = refl
only_memory TooLong path gives = absurd gives
only_memory EmptyPart path gives = absurd gives
only_memory PartTooLong path gives = absurd gives

pub short_enough : (count : ℕ) (fault : NameFault) → count ≤ 1023 → IsTooLong count fault → fault ≡ Memory
short_enough count Memory short long = refl
short_enough count TooLong short long = absurd (omega (arith, short, long))
short_enough count EmptyPart short long = absurd long
short_enough count PartTooLong short long = absurd long

pub not_too_long : (path : List (List ℕ)) (part : List ℕ) (below : List (List ℕ)) (fault : NameFault) → below ≡ part ∷ [] → length (text_of (path ++ part ∷ [])) ≤ 1023
    → IsTooLong (length (text_of (path ++ below))) fault → fault ≡ Memory
not_too_long path part below fault is short long =
    short_enough (length (text_of (path ++ below))) fault (subst (λ (p : List (List ℕ)). length (text_of (path ++ p)) ≤ 1023) (sym is) short) long
