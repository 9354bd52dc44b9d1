-- A registry's encoding is read level by level: a key's own fields, and the subkeys that are spelled behind them.
use Rattle.std.proofs.Common.{◌≡◌, ℕ, zero, suc, ◌+◌, ◌-◌, ◌*◌, ◌<◌, ◌≤◌, ◌^◌, Bool, true, false, cond, ◌&&◌, not, List, [], ◌∷◌, ◌++◌, length, min, Option, Some, None, Result, Ok, refl, sym, ap, ◌∙◌, subst, append_assoc, length-append, All, arith}
use Rattle.std.specs.Prelude.{◌≢◌, IsSome, is_some, nat_lt, ◌==◌, flat_map}
use Rattle.std.specs.List.{AllByRecursion, list_any}
use Rattle.std.specs.declared.cmp.Ordering.TheVariants.{Less}
use Rattle.std.specs.Ordering.{is_lt, eq_by_cmp}
use Rattle.std.proofs.lemmas.Bool.Decides.{nat_tests}
use Rattle.std.proofs.lemmas.List.{append-nil}
use Rattle.std.proofs.lemmas.List.Elements.{All-head, All-tail}
use Rattle.wire_fields.specs.declared.endian.Endian.TheVariants.{Little}
use Rattle.wire_fields.specs.Numbers.{num}
use Rattle.wire_fields.specs.Reading.{Reading}
use Rattle.wire_fields.proofs.NumberLaws.{length-num}
use Rattle.wire_fields.proofs.FieldLaws.{at}
use Rattle.clus_names.specs.Folding.{name_cmp, path_cmp}
use Rattle.clus_names.specs.Limits.{IsPartUnit, IsPart, lacks_zero}
use Rattle.update_records.specs.Spelling.{name_text}
use Rattle.update_records.proofs.Fields.{part_units, lacks_again, length-name_text}
use Rattle.registry_defs.specs.Keys.{KeyData, Keys, key_at}
use Rattle.registry_defs.specs.Limits.{IsKey, IsRegistry}
use Rattle.registry_defs.specs.Nodes.{Node, keys_of, name_of, spread}
use Rattle.registry_defs.specs.Rising.{Rising, RisingKeys}
use Rattle.registry_defs.specs.Sections.{parent_of}
use Rattle.registry_defs.specs.Sizes.{size}
use Rattle.registry_defs.specs.Spelling.{key_text, registry_text}
use Rattle.registry_defs.specs.StateFields.{Stop}
use Rattle.registry_defs.specs.StateGrammar.{is_above, lacks_separator, part_at, subkeys_at, node_at, start, state_of}
use Rattle.registry_defs.proofs.Orders.{rising_from_sorted, same_path}
use Rattle.registry_defs.proofs.Paths.{parent_below}
use Rattle.registry_tree.proofs.Spelled.{subkey_text, spelled}
use Rattle.registry_tree.proofs.Subkeys.{count_is}
use Rattle.registry_states.specs.StateLaws.{WhatIsSpelledIsRead}
use Rattle.registry_states.proofs.OnlyFields.{AreAbove, above_none, above_first, ReadsAs, done, number_field, units_read, both_hold, IsSpelledKey, alone_text, key_alone_read}
use Rattle.registry_states.proofs.OnlyLevels.{IsSubkey, IsEntry, IsBelow, IsKid, level_of}
use Rattle.registry_defs.proofs.Lengths.{length-registry}

-- ---- the name of a subkey

no_separator : (units : List ℕ) → All IsPartUnit units → list_any (λ unit. unit == 92) units ≡ false
no_separator [] h = refl
no_separator (unit ∷ units) h =
    let first : (unit == 92) ≡ false = not_equal unit (All-head IsPartUnit unit units h).not_separator in
    rw first (no_separator units (All-tail IsPartUnit unit units h))
  where
    not_equal : (n : ℕ) → n ≢ 92 → (n == 92) ≡ false
    not_equal n other = grind (arith, nat_tests)

part_read : (last : Option (List ℕ)) (used end place : ℕ) (part rest : List ℕ) → IsPart part → used + length part ≤ 1023 → is_above last part ≡ true → place + length (name_text part) ≤ end
    → ReadsAs (part_at last used end) (name_text part) part place rest
unfolding part_at
part_read last used end place part rest is short above room =
    let obeys : List ℕ → Bool = λ units. lacks_zero units && (lacks_separator units && is_above last units) in
    let parted : lacks_separator part ≡ true = ap not (no_separator part is.units) in
    let obeyed = both_hold (lacks_zero part) (lacks_separator part && is_above last part) (lacks_again part (part_units part is)) (both_hold (lacks_separator part) (is_above last part) parted above) in
    let high = min 255 (1023 - used) in
    let limit : high < 2 ^ 16 = omega arith in
    let most : length part ≤ high = omega (arith, short, is.short) in
    units_read 1 high obeys end place part rest limit (omega (arith, is.not_empty)) most obeyed (λ k d within. (is.units k d within).in_range) room

-- ---- subkeys

abbrev part_of : Node → List ℕ
part_of node = node.here.part

-- What a function that reads a key does with each of these.
abbrev ReadsKids : (List ℕ → ℕ → Reading → Result (Node × Reading) Stop) → ℕ → ℕ → Type 0
ReadsKids one used end =
    (kid : Node) (place : ℕ) (rest : List ℕ) → IsKid used kid → place + length (registry_text (keys_of kid)) ≤ end
    → ReadsAs (one kid.here.part (used + length kid.here.part + 1)) (registry_text (keys_of kid)) kid place rest

subkeys_read : (one : List ℕ → ℕ → Reading → Result (Node × Reading) Stop) (used end : ℕ) → ReadsKids one used end
    → (last : Option (List ℕ)) (place : ℕ) (nodes : List Node) (rest : List ℕ) → Rising name_cmp name_of nodes → AllByRecursion (IsKid used) nodes → AreAbove part_of last nodes → place + length (flat_map subkey_text nodes) ≤ end
    → ReadsAs (subkeys_at one (length nodes) last used end) (flat_map subkey_text nodes) nodes place rest
unfolding subkeys_at
subkeys_read one used end reads last place [] rest named each above room = ap (λ p. Ok ([], at Little p rest)) (omega arith)
subkeys_read one used end reads last place (node ∷ nodes) rest named each above room =
    let part = node.here.part in
    let name = name_text part in
    let own = registry_text (keys_of node) in
    let back = flat_map subkey_text nodes in
    let long : length ((name ++ own) ++ back) ≡ length name + length own + length back = omega (arith, length-append (name ++ own) back, length-append name own) in
    let parts : ((name ++ own) ++ back) ++ rest ≡ name ++ (own ++ (back ++ rest)) = simp append_assoc in
    let first = part_read last used end place part (own ++ (back ++ rest)) each.0.subkey.part each.0.short above.0 (omega (arith, long, room)) in
    let second = reads node (place + length name) (back ++ rest) each.0 (omega (arith, long, room)) in
    let others = subkeys_read one used end reads (Some part) (place + length name + length own) nodes rest named.1 each.1 (above_first part_of part nodes named.0) (omega (arith, long, room)) in
    rw (parts, first, second, others) (ap (λ p. Ok (node ∷ nodes, at Little p rest)) (omega (arith, long)))

-- each subkey's name has at least one byte
few_nodes : (nodes : List Node) → length nodes ≤ length (flat_map subkey_text nodes)
few_nodes [] = omega arith
few_nodes (node ∷ nodes) =
    let name = name_text node.here.part in
    let own = registry_text (keys_of node) in
    omega (arith, few_nodes nodes, length-append (name ++ own) (flat_map subkey_text nodes), length-append name own, length-name_text node.here.part)

-- ---- a key with all below it

deep_below : (used : ℕ) (keys : Keys) → AllByRecursion (λ entry. IsEntry used entry.0 entry.1) keys → AllByRecursion (λ entry. path_cmp [] entry.0 ≡ Less) keys
deep_below used [] h = tt
deep_below used (([], key) ∷ keys) h = absurd (omega (arith, h.0.deep))
deep_below used ((first ∷ others, key) ∷ keys) h = (refl, deep_below used keys h.1)

spelled_subkey : (key : KeyData) → IsSubkey key → IsSpelledKey key
spelled_subkey key h =
    let named : (length key.part == 0) ≡ false = grind (arith, nat_tests, h.part.not_empty) in
    let born : nat_lt 0 key.birth ≡ true = grind (arith, nat_tests, h.birth) in
    record { born = rw named born; birth = h.birth_small; written = h.written; values = h.values }

whole_read : (depth used end place : ℕ) (node : Node) (nodes : List Node) (rest : List ℕ)
    → IsSpelledKey node.here → RisingKeys (keys_of node) → node.below ≡ spread nodes → Rising name_cmp name_of nodes → AllByRecursion (IsKid used) nodes → ReadsKids (node_at depth end) used end
    → end < 2 ^ 32 → place + length (registry_text (keys_of node)) ≤ end → ReadsAs (node_at (suc depth) end node.here.part used) (registry_text (keys_of node)) node place rest
unfolding node_at key_text
whole_read depth used end place node nodes rest is up below named each reads limit room =
    let count = length nodes in
    let own = alone_text node.here in
    let many = num Little 4 count in
    let back = flat_map subkey_text nodes in
    let text : registry_text (keys_of node) ≡ own ++ many ++ back =
    spelled node nodes below named up ∙ ap (λ n. key_text node.here n ++ back) (count_is node nodes below up) in
    let long : length (registry_text (keys_of node)) ≡ length own + 4 + length back = ap (λ t. length t) text ∙ omega (arith, length-append (own ++ many) back, length-append own many, length-num Little 4 count) in
    let parts : registry_text (keys_of node) ++ rest ≡ own ++ (many ++ (back ++ rest)) = ap (λ t. t ++ rest) text ∙ simp append_assoc in
    let first = key_alone_read end place node.here (many ++ (back ++ rest)) is limit (omega (arith, long, room)) in
    let few : count < 256 ^ 4 = omega (arith, few_nodes nodes, long, room, limit) in
    let second = number_field 4 end (place + length own) count (λ count. true) (back ++ rest) few (omega (arith, long, room)) refl in
    let third = subkeys_read (node_at depth end) used end reads None (place + length own + 4) nodes rest named each (above_none part_of nodes) (omega (arith, long, room)) in
    let made : Keys → Node = λ keys. record { here = node.here; below = keys } in
    let behind = at Little (place + length own + 4 + length back) rest in
    let same : done (made (spread nodes)) behind ≡ done node behind = ap (λ (keys : Keys). done (made keys) behind) (sym below) in
    rw (parts, first, second, third) (same ∙ ap (λ p. Ok (node, at Little p rest)) (omega (arith, long)))

-- below a key at any depth
key_read : (depth used end place : ℕ) (node : Node) (rest : List ℕ) → IsSpelledKey node.here → IsBelow used node.below → ReadsKids (node_at depth end) used end → end < 2 ^ 32 → place + length (registry_text (keys_of node)) ≤ end
    → ReadsAs (node_at (suc depth) end node.here.part used) (registry_text (keys_of node)) node place rest
key_read depth used end place node rest is below reads limit room =
    let same : length node.below ≤ length node.below = omega arith in
    let level = level_of (length node.below) used node.below same below in
    let up : RisingKeys (keys_of node) = (deep_below used node.below below.entries, below.rising) in
    whole_read depth used end place node level.nodes rest is up level.are level.named level.each reads limit room

-- Each level takes at least two units of the path's text, a name and the separator behind it.
kids_read : (depth used end : ℕ) → 1024 ≤ used + 2 * depth → end < 2 ^ 32 → ReadsKids (node_at depth end) used end
kids_read zero used end deep limit kid place rest is room = absurd (omega (arith, deep, is.short, is.subkey.part.not_empty))
kids_read (suc depth) used end deep limit kid place rest is room =
    let further = used + length kid.here.part + 1 in
    let reads = kids_read depth further end (omega (arith, deep, is.subkey.part.not_empty)) limit in
    key_read depth further end place kid rest (spelled_subkey kid.here is.subkey) is.below reads limit room

-- ---- the whole registry

entry_of : (path : List (List ℕ)) (key : KeyData) → 0 < length path → IsKey path key → IsEntry 0 path key
entry_of [] key deep h = absurd (omega (arith, deep))
entry_of (first ∷ others) key deep h = record {
  deep = deep;
  subkey = record { part = h.named.0; birth = h.named.1; birth_small = h.named.2; written = h.written; values = h.values };
  under_name = h.under_name;
  short = omega (arith, h.short);
}

not_root : (path : List (List ℕ)) → path_cmp [] path ≡ Less → 0 < length path
not_root [] less = absurd (let h = ap is_lt less in cc)
not_root (first ∷ others) less = omega arith

entries_of : (keys : Keys) → AllByRecursion (λ entry. path_cmp [] entry.0 ≡ Less) keys → AllByRecursion (λ entry. IsKey entry.0 entry.1) keys → AllByRecursion (λ entry. IsEntry 0 entry.0 entry.1) keys
entries_of [] less h = tt
entries_of (entry ∷ entries) less h = (entry_of entry.0 entry.1 (not_root entry.0 less.0) h.0, entries_of entries less.1 h.1)

not_none : (o : Option KeyData) → o ≡ None → IsSome o → ⊥
not_none o e some = let none = ap is_some e in cc

found_has : (P : List (List ℕ) → Type 0) (path : List (List ℕ)) (keys : Keys) → AllByRecursion (λ entry. P entry.0) keys → IsSome (key_at path keys) → P path
found_has P path [] h some = absurd (not_none None refl some)
found_has P path (entry ∷ entries) h some =
    elim (eq_by_cmp path_cmp path entry.0) as (λ b. eq_by_cmp path_cmp path entry.0 ≡ b → IsSome (cond b (Some entry.1) (key_at path entries)) → P path) [
      | true ↦ λ same _. subst P (sym (same_path path entry.0 same)) h.0
      | false ↦ λ _ there. found_has P path entries h.1 there
    ] refl some

below_root : (root : Node) → IsRegistry (keys_of root) → IsBelow 0 root.below
below_root root registry =
    let up = rising_from_sorted path_cmp (keys_of root) registry.rising in
    record {
      rising = up.1;
      entries = entries_of root.below up.0 registry.limits.1;
      closed = λ first others last some.
          let path : List (List ℕ) = first ∷ (others ++ last ∷ []) in
          subst (λ l. IsSome (key_at l (keys_of root))) (parent_below (first ∷ others) last) (found_has (λ path. IsSome (key_at (parent_of path) (keys_of root))) path (keys_of root) registry.parents some);
    }

spelled_root : (key : KeyData) → IsKey [] key → IsSpelledKey key
spelled_root key h = record {
  born = rw (h.named.0, h.named.1) refl;
  birth = omega (arith, h.named.1);
  written = h.written;
  values = h.values;
}

root_read : (end : ℕ) (root : Node) → end ≤ 16777216 → IsRegistry (keys_of root) → size (keys_of root) ≤ end → state_of end (registry_text (keys_of root)) ≡ Ok root
unfolding state_of
root_read end root most registry fits =
    let text = registry_text (keys_of root) in
    let key = registry.limits.0 in
    let room : 0 + length text ≤ end = omega (arith, length-registry (keys_of root), fits) in
    let limit : end < 2 ^ 32 = omega (arith, most) in
    let reads = kids_read 512 0 end (omega arith) limit in
    let read = key_read 512 0 end 0 root [] (spelled_root root.here key) (below_root root registry) reads limit room in
    let whole : node_at 513 end [] 0 (start text) ≡ Ok (root, at Little (0 + length text) []) =
    ap (λ part. node_at 513 end part 0 (start text)) (sym key.named.0) ∙ ap (λ t. node_at 513 end root.here.part 0 (start t)) (sym (append-nil text)) ∙ read in
    rw whole refl

-- nothing stands before the root
no_root : (first : List ℕ) (others : List (List ℕ)) (keys : Keys) → AllByRecursion (λ entry. path_cmp (first ∷ others) entry.0 ≡ Less) keys → key_at [] keys ≡ None
no_root first others [] less = refl
no_root first others (([], key) ∷ keys) less = absurd (let h = ap is_lt less.0 in cc)
no_root first others ((next ∷ nexts, key) ∷ keys) less = no_root first others keys less.1

pub spelled_is_read : WhatIsSpelledIsRead
spelled_is_read end [] most registry fits = absurd (not_none None refl registry.root)
spelled_is_read end (([], key) ∷ keys) most registry fits = let root : Node = record { here = key; below = keys } in (root, refl, root_read end root most registry fits)
spelled_is_read end ((first ∷ others, key) ∷ keys) most registry fits =
    let all : Keys = (first ∷ others, key) ∷ keys in
    absurd (not_none (key_at [] all) (no_root first others keys (rising_from_sorted path_cmp all registry.rising).0) registry.root)
