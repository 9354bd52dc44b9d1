-- A key with all below it that was read: it is spelled so, and its entries are those of a registry below the key's path.
use Rattle.std.proofs.Common.{◌≡◌, ℕ, zero, suc, ◌+◌, ◌≤◌, true, List, [], ◌∷◌, ◌++◌, length, Option, Some, None, Result, Ok, refl, sym, ap, subst, ◌∙◌, append_assoc, length-append, arith}
use Rattle.std.specs.List.{AllByRecursion, flat_map}
use Rattle.std.specs.declared.cmp.Ordering.TheVariants.{Less}
use Rattle.std.proofs.lemmas.List.{append-nil}
use Rattle.std.proofs.lemmas.List.Concat.{flat_map-cons}
use Rattle.wire_fields.specs.declared.endian.Endian.TheVariants.{Little}
use Rattle.wire_fields.specs.Numbers.{num}
use Rattle.wire_fields.specs.Reading.{Reading, number_at}
use Rattle.wire_fields.proofs.FieldLaws.{Took, took_none, took_then}
use Rattle.clus_names.specs.Folding.{folded, name_cmp}
use Rattle.clus_names.specs.Parts.{separator, text_of}
use Rattle.clus_names.specs.Limits.{IsPart}
use Rattle.clus_names.proofs.Texts.{between}
use Rattle.update_records.specs.Spelling.{name_text}
use Rattle.update_records.proofs.Fields.{IsInput}
use Rattle.registry_defs.specs.Keys.{KeyData, below}
use Rattle.registry_defs.specs.Limits.{IsNamed, EndsIn, IsKey}
use Rattle.registry_defs.specs.Nodes.{Node, keys_of, name_of, spread}
use Rattle.registry_defs.specs.Rising.{Rising, RisingKeys}
use Rattle.registry_defs.specs.Sections.{subkeys}
use Rattle.registry_defs.specs.Spelling.{birth_text, values_text, key_text, registry_text}
use Rattle.registry_defs.specs.StateFields.{Stop, ◌>>=◌, field_at}
use Rattle.registry_defs.specs.StateGrammar.{key_alone_at, part_at, subkeys_at, node_at}
use Rattle.registry_defs.proofs.Paths.{length-folded, ends_in}
use Rattle.registry_tree.proofs.Places.{each_map}
use Rattle.registry_tree.proofs.Subkeys.{count_is}
use Rattle.registry_tree.proofs.Spelled.{subkey_text, spelled}
use Rattle.registry_states.proofs.FoundFields.{bind_ok, read_as, number_was}
use Rattle.registry_states.proofs.FoundValues.{IsAfter, after_both}
use Rattle.registry_states.proofs.FoundKeys.{FoundKey, key_found, part_found}
use Rattle.registry_states.proofs.FoundLevels.{rising_keys, each_spread, HaveParents, have_parents}

-- ---- the path of a key

-- The key's own name by its path, and how many units of a longer path's text stand before the next name.
abbrev pub IsNamedSo : List (List ℕ) → List ℕ → ℕ → Type 0
IsNamedSo [] part used = (part ≡ []) × (used ≡ 0)
IsNamedSo (first ∷ others) part used = IsPart part × (used ≡ length (text_of (first ∷ others)) + 1)

pub record IsReached (path : List (List ℕ)) (part : List ℕ) (used : ℕ) : Type 0 where
  pub named : IsNamedSo path part used
  pub under_name : EndsIn part path
  pub short : length (text_of path) ≤ 1023

pub reached_root : IsReached [] [] 0
reached_root = record { named = (refl, refl); under_name = tt; short = omega arith }

pub reached_below : (path : List (List ℕ)) (part : List ℕ) (used : ℕ) (next : List ℕ) → IsReached path part used → IsPart next → used + length next ≤ 1023 → IsReached (below path next) next (used + length next + 1)
reached_below [] part used next reached is short =
    let none = reached.named.1 in
    record {
      named = (is, omega (arith, none, length-folded next));
      under_name = refl;
      short = omega (arith, none, short, length-folded next);
    }
reached_below (first ∷ others) part used next reached is short =
    let before = reached.named.1 in
    let long : length (text_of (below (first ∷ others) next)) ≡ length (text_of (first ∷ others)) + 1 + length next =
    ap (λ t. length t) (between first others (folded next) []) ∙ omega (arith, length-append (text_of (first ∷ others)) (separator ∷ folded next), length-folded next) in
    record {
      named = (is, omega (arith, before, long));
      under_name = ends_in (first ∷ others) next;
      short = omega (arith, before, short, long);
    }

named_key : (path : List (List ℕ)) (part : List ℕ) (used end : ℕ) (s : Reading) (key : KeyData) (t : Reading) → IsNamedSo path part used → FoundKey part end s key t → IsNamed path key
named_key [] part used end s key t named found = (found.named ∙ named.0, found.none (ap (λ l. length l) named.0))
named_key (first ∷ others) part used end s key t named found = (subst IsPart (sym found.named) named.0, found.some named.0.not_empty, found.birth)

is_key : (path : List (List ℕ)) (part : List ℕ) (used end : ℕ) (s : Reading) (key : KeyData) (t : Reading) → IsReached path part used → FoundKey part end s key t → IsKey path key
is_key path part used end s key t reached found = record {
  named = named_key path part used end s key t reached.named found;
  under_name = subst (λ p. EndsIn p path) (sym found.named) reached.under_name;
  short = reached.short;
  written = found.written;
  values = found.values;
}

-- ---- what was read

pub record FoundNode (path : List (List ℕ)) (part : List ℕ) (end : ℕ) (s : Reading) (node : Node) (t : Reading) : Type 0 where
  pub took : Took s (registry_text (keys_of node)) t
  pub input : IsInput t
  pub named : node.here.part ≡ part
  pub rising : RisingKeys (keys_of node)
  pub limits : AllByRecursion (λ e. IsKey (path ++ e.0) e.1) (keys_of node)
  pub parents : HaveParents (keys_of node) (keys_of node)
  pub within : t.place ≤ end

abbrev Obeys : List (List ℕ) → Node → Type 0
Obeys path node = AllByRecursion (λ e. IsKey (path ++ name_of node ∷ e.0) e.1) (keys_of node)

pub record FoundNodes (count : ℕ) (path : List (List ℕ)) (last : Option (List ℕ)) (end : ℕ) (s : Reading) (nodes : List Node) (t : Reading) : Type 0 where
  pub took : Took s (flat_map subkey_text nodes) t
  pub input : IsInput t
  pub many : length nodes ≡ count
  pub above : AllByRecursion (λ node. IsAfter last (name_of node)) nodes
  pub named : Rising name_cmp name_of nodes
  pub rising : AllByRecursion (λ node. RisingKeys (keys_of node)) nodes
  pub limits : AllByRecursion (Obeys path) nodes
  pub parents : AllByRecursion (λ node. HaveParents (keys_of node) (keys_of node)) nodes
  pub within : t.place ≤ end

abbrev Reader : Type 0
Reader = List ℕ → ℕ → Reading → Result (Node × Reading) Stop

-- What the function reads is a key with its text.
abbrev Finds : ℕ → Reader → Type 0
Finds end one = (path : List (List ℕ)) (part : List ℕ) (used : ℕ) (s : Reading) (x : Node × Reading) → IsReached path part used → IsInput s → one part used s ≡ Ok x → FoundNode path part end s x.0 x.1

-- ---- subkeys

obeys_here : (path : List (List ℕ)) (part : List ℕ) (node : Node) → node.here.part ≡ part → AllByRecursion (λ e. IsKey (below path part ++ e.0) e.1) (keys_of node) → Obeys path node
obeys_here path part node named h =
    subst (λ n. AllByRecursion (λ e. IsKey (path ++ n ∷ e.0) e.1) (keys_of node)) (sym (ap folded named))
    (each_map (λ (e : List (List ℕ) × KeyData). IsKey (below path part ++ e.0) e.1) (λ (e : List (List ℕ) × KeyData). IsKey (path ++ folded part ∷ e.0) e.1)
    (λ e is. subst (λ q. IsKey q e.1) (append_assoc path (folded part ∷ []) e.0) is) (keys_of node) h)

subkeys_found : (end : ℕ) (one : Reader) → Finds end one → (count : ℕ) (path : List (List ℕ)) (part : List ℕ) (last : Option (List ℕ)) (used : ℕ) (s : Reading) (x : List Node × Reading)
    → IsReached path part used → IsInput s → s.place ≤ end → subkeys_at one count last used end s ≡ Ok x → FoundNodes count path last end s x.0 x.1
unfolding subkeys_at
subkeys_found end one finds zero path part last used s x reached input room e =
    let none : FoundNodes 0 path last end s [] s = record {
      took = took_none s input.bytes;
      input = input;
      many = refl;
      above = tt;
      named = tt;
      rising = tt;
      limits = tt;
      parents = tt;
      within = room;
    } in
    read_as (FoundNodes 0 path last end s) ([], s) x e none
subkeys_found end one finds (suc count) path part last used s x reached input room e =
    let a = bind_ok (part_at last used end s) (λ part. one part.0 (used + length part.0 + 1) part.1 >>= λ first. subkeys_at one count (Some part.0) used end first.1 >>= λ others. Ok (first.0 ∷ others.0, others.1)) x e in
    let b = bind_ok (one a.0.0 (used + length a.0.0 + 1) a.0.1) (λ first. subkeys_at one count (Some a.0.0) used end first.1 >>= λ others. Ok (first.0 ∷ others.0, others.1)) x a.2 in
    let c = bind_ok (subkeys_at one count (Some a.0.0) used end b.0.1) (λ others. Ok (b.0.0 ∷ others.0, others.1)) x b.2 in
    let name = part_found last used end s a.0 input a.1 in
    let first = finds (below path a.0.0) a.0.0 (used + length a.0.0 + 1) a.0.1 b.0 (reached_below path part used a.0.0 reached name.is_part name.short) name.input b.1 in
    let others = subkeys_found end one finds count path part (Some a.0.0) used b.0.1 c.0 reached first.input first.within c.1 in
    let named : folded a.0.0 ≡ name_of b.0.0 = ap folded (sym first.named) in
    let after : IsAfter last (name_of b.0.0) = subst (IsAfter last) named name.above in
    let lower : AllByRecursion (λ node. name_cmp (name_of b.0.0) (name_of node) ≡ Less) c.0.0 = subst (λ n. AllByRecursion (λ node. name_cmp n (name_of node) ≡ Less) c.0.0) named others.above in
    let front : Took s (name_text b.0.0.here.part) a.0.1 = subst (λ p. Took s (name_text p) a.0.1) (sym first.named) name.took in
    let whole : FoundNodes (suc count) path last end s (b.0.0 ∷ c.0.0) c.0.1 = record {
      took = rw (flat_map-cons subkey_text b.0.0 c.0.0)
          (took_then s b.0.1 c.0.1 (subkey_text b.0.0) (flat_map subkey_text c.0.0) (took_then s a.0.1 b.0.1 (name_text b.0.0.here.part) (registry_text (keys_of b.0.0)) front first.took) others.took);
      input = others.input;
      many = omega (arith, others.many);
      above = (after, each_map (λ (node : Node). name_cmp (name_of b.0.0) (name_of node) ≡ Less) (λ (node : Node). IsAfter last (name_of node)) (λ node less. after_both last (name_of b.0.0) (name_of node) after less) c.0.0 lower);
      named = (lower, others.named);
      rising = (first.rising, others.rising);
      limits = (obeys_here path a.0.0 b.0.0 first.named first.limits, others.limits);
      parents = (first.parents, others.parents);
      within = others.within;
    } in
    read_as (FoundNodes (suc count) path last end s) (b.0.0 ∷ c.0.0, c.0.1) x c.2 whole

-- ---- a key with its subkeys

abbrev node_of : KeyData → List Node → Node
node_of key nodes = record { here = key; below = spread nodes }

subkeys_counted : (key : KeyData) (nodes : List Node) (count : ℕ) → length nodes ≡ count → RisingKeys (keys_of (node_of key nodes)) → length (subkeys (keys_of (node_of key nodes))) ≡ count
subkeys_counted key nodes count many up = count_is (node_of key nodes) nodes refl up ∙ many

text_took : (s t u v : Reading) (key : KeyData) (nodes : List Node) (count : ℕ) → Took s (birth_text key.birth key.written ++ num Little 4 (length key.values) ++ values_text key.values) t → Took t (num Little 4 count) u → Took u (flat_map subkey_text nodes) v
    → length nodes ≡ count → Rising name_cmp name_of nodes → RisingKeys (keys_of (node_of key nodes)) → Took s (registry_text (keys_of (node_of key nodes))) v
unfolding key_text
text_took s t u v key nodes count one two three many named up =
    let own : List ℕ = birth_text key.birth key.written ++ num Little 4 (length key.values) ++ values_text key.values in
    let head : Took s (key_text key count) u = took_then s t u own (num Little 4 count) one two in
    let whole = took_then s u v (key_text key count) (flat_map subkey_text nodes) head three in
    let text : registry_text (keys_of (node_of key nodes)) ≡ key_text key count ++ flat_map subkey_text nodes =
    spelled (node_of key nodes) nodes refl named up ∙ ap (λ n. key_text key n ++ flat_map subkey_text nodes) (subkeys_counted key nodes count many up) in
    subst (λ l. Took s l v) (sym text) whole

pub node_found : (depth end : ℕ) → Finds end (node_at depth end)
unfolding node_at
node_found zero end path part used s x reached input e = absurd cc
node_found (suc depth) end path part used s x reached input e =
    let a = bind_ok (key_alone_at part end s) (λ key. field_at (number_at 4) (λ count. true) end key.1 >>= λ count. subkeys_at (node_at depth end) count.0 None used end count.1 >>= λ subkeys. Ok (node_of key.0 subkeys.0, subkeys.1)) x e in
    let b = bind_ok (field_at (number_at 4) (λ count. true) end a.0.1) (λ count. subkeys_at (node_at depth end) count.0 None used end count.1 >>= λ subkeys. Ok (node_of a.0.0 subkeys.0, subkeys.1)) x a.2 in
    let c = bind_ok (subkeys_at (node_at depth end) b.0.0 None used end b.0.1) (λ subkeys. Ok (node_of a.0.0 subkeys.0, subkeys.1)) x b.2 in
    let key = key_found part end s a.0 input a.1 in
    let count = number_was 4 (λ count. true) end a.0.1 b.0.0 b.0.1 key.input b.1 in
    let nodes = subkeys_found end (node_at depth end) (node_found depth end) b.0.0 path part None used b.0.1 c.0 reached count.input count.within c.1 in
    let up : RisingKeys (keys_of (node_of a.0.0 c.0.0)) = rising_keys a.0.0 c.0.0 nodes.named nodes.rising in
    let whole : FoundNode path part end s (node_of a.0.0 c.0.0) c.0.1 = record {
      took = text_took s a.0.1 b.0.1 c.0.1 a.0.0 c.0.0 b.0.0 key.took count.took nodes.took nodes.many nodes.named up;
      input = nodes.input;
      named = key.named;
      rising = up;
      limits = (subst (λ q. IsKey q a.0.0) (sym (append-nil path)) (is_key path part used end s a.0.0 a.0.1 reached key), each_spread (λ q d. IsKey (path ++ q) d) c.0.0 nodes.limits);
      parents = have_parents a.0.0 c.0.0 nodes.parents;
      within = nodes.within;
    } in
    read_as (FoundNode path part end s) (node_of a.0.0 c.0.0, c.0.1) x c.2 whole
