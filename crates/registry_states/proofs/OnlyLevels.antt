-- Keys in order with each key's parent are what the nodes of one level spread, each of which has such keys below it.
use Rattle.std.proofs.Common.{◌≡◌, ℕ, zero, suc, ◌+◌, ◌<◌, ◌≤◌, ◌^◌, ◌⊎◌, inl, inr, ⊎_elim, List, [], ◌∷◌, ◌++◌, length, refl, sym, ap, ◌∙◌, subst, length-append, arith}
use Rattle.std.specs.Prelude.{IsSome, is_some}
use Rattle.std.specs.List.{AllByRecursion}
use Rattle.std.specs.declared.cmp.Ordering.{Ordering}
use Rattle.std.specs.declared.cmp.Ordering.TheVariants.{Less, Equal, Greater}
use Rattle.std.specs.Ordering.{is_lt, ordering_then, ordering_reverse}
use Rattle.std.proofs.lemmas.List.{append-nil}
use Rattle.clus_names.specs.Folding.{folded, name_cmp, path_cmp}
use Rattle.clus_names.specs.Parts.{separator, text_of}
use Rattle.clus_names.specs.Limits.{IsPart}
use Rattle.registry_defs.specs.Keys.{KeyData, Keys, key_at}
use Rattle.registry_defs.specs.Limits.{AreValues, EndsIn}
use Rattle.registry_defs.specs.Nodes.{Node, keys_of, name_of, under, spread}
use Rattle.registry_defs.specs.Sections.{parent_of}
use Rattle.registry_defs.specs.Rising.{Rising, RisingKeys}
use Rattle.registry_defs.proofs.Orders.{name_total, name_exact, path_total, path_itself, cmp_behind}
use Rattle.registry_defs.proofs.Paths.{length-folded, has_parent}
use Rattle.registry_defs.proofs.Runs as runs
use Rattle.registry_tree.proofs.Under.{above_under}
use Rattle.registry_tree.proofs.Plug.{Frame, find_plug}
use Rattle.registry_tree.proofs.Subkeys.{each_front, each_back, rising_front, rising_back, rising_under}

-- A key that isn't the root.
pub record IsSubkey (key : KeyData) : Type 0 where
  pub part : IsPart key.part
  pub birth : 0 < key.birth
  pub birth_small : key.birth < 2 ^ 63
  pub written : key.written < 2 ^ 64
  pub values : AreValues key.values

-- Its path stands below one whose text has so many units, with the separator behind it.
pub record IsEntry (used : ℕ) (path : List (List ℕ)) (key : KeyData) : Type 0 where
  pub deep : 0 < length path
  pub subkey : IsSubkey key
  pub under_name : EndsIn key.part path
  pub short : used + length (text_of path) ≤ 1023

-- The keys below a key, under their paths from it.
pub record IsBelow (used : ℕ) (keys : Keys) : Type 0 where
  pub rising : RisingKeys keys
  pub entries : AllByRecursion (λ entry. IsEntry used entry.0 entry.1) keys
  pub closed : (first : List ℕ) (others : List (List ℕ)) (last : List ℕ) → IsSome (key_at (first ∷ (others ++ last ∷ [])) keys) → IsSome (key_at (first ∷ others) keys)

pub record IsKid (used : ℕ) (node : Node) : Type 0 where
  pub subkey : IsSubkey node.here
  pub short : used + length node.here.part ≤ 1023
  pub below : IsBelow (used + length node.here.part + 1) node.below

-- The nodes of one level.
pub record Level (used : ℕ) (keys : Keys) : Type 0 where
  pub nodes : List Node
  pub are : keys ≡ spread nodes
  pub named : Rising name_cmp name_of nodes
  pub each : AllByRecursion (IsKid used) nodes

-- ---- the entries below the first name, and those behind them

-- The path begins with a name above p.
abbrev IsBehind : List ℕ → List (List ℕ) → Type 0
IsBehind p [] = ⊥
IsBehind p (first ∷ others) = name_cmp p first ≡ Less

then_less : (r t : Ordering) → ordering_then r t ≡ Less → (r ≡ Less) ⊎ (r ≡ Equal)
then_less Less t e = inl refl
then_less Equal t e = inr refl
then_less Greater t e = absurd (let h = ap is_lt e in cc)

nothing_less : (path : List (List ℕ)) → path_cmp path [] ≡ Less → ⊥
nothing_less [] e = let h = ap is_lt e in cc
nothing_less (first ∷ others) e = let h = ap is_lt e in cc

behind_next : (p first : List ℕ) (others path : List (List ℕ)) → name_cmp p first ≡ Less → path_cmp (first ∷ others) path ≡ Less → IsBehind p path
behind_next p first others [] less up = nothing_less (first ∷ others) up
behind_next p first others (next ∷ nexts) less up =
    ⊎_elim
    (λ lower. name_total.trans p first next less lower)
    (λ same. subst (λ name. name_cmp p name ≡ Less) (name_exact first next same) less)
    (then_less (name_cmp first next) (path_cmp others nexts) up)

all_behind : (p first : List ℕ) (others : List (List ℕ)) (entries : Keys) → name_cmp p first ≡ Less → AllByRecursion (λ entry. path_cmp (first ∷ others) entry.0 ≡ Less) entries → AllByRecursion (λ entry. IsBehind p entry.0) entries
all_behind p first others [] less up = tt
all_behind p first others (entry ∷ entries) less up = (behind_next p first others entry.0 less up.0, all_behind p first others entries less up.1)

record Split (p : List ℕ) (entries : Keys) : Type 0 where
  own : Keys
  back : Keys
  parts : entries ≡ under p own ++ back
  apart : AllByRecursion (λ entry. IsBehind p entry.0) back

split_at : (p : List ℕ) (q : List (List ℕ)) (entries : Keys) → AllByRecursion (λ entry. path_cmp (p ∷ q) entry.0 ≡ Less) entries → RisingKeys entries → Split p entries
split_at p q [] above up = record { own = []; back = []; parts = refl; apart = tt }
split_at p q (([], key) ∷ entries) above up = absurd (nothing_less (p ∷ q) above.0)
split_at p q ((first ∷ others, key) ∷ entries) above up =
    let rest = split_at p q entries above.1 up.1 in
    ⊎_elim
    (λ lower. record { own = []; back = (first ∷ others, key) ∷ entries; parts = refl; apart = (lower, all_behind p first others entries lower up.0) })
    (λ same. record {
      own = (others, key) ∷ rest.own;
      back = rest.back;
      parts = ap (λ name. (name ∷ others, key) ∷ entries) (sym (name_exact p first same)) ∙ ap (λ (l : Keys). (p ∷ others, key) ∷ l) rest.parts;
      apart = rest.apart;
    })
    (then_less (name_cmp p first) (path_cmp q others) above.0)

-- a path that begins with the name or one below it isn't behind
below_back : (p first : List ℕ) (others : List (List ℕ)) (back : Keys) → ((name : List ℕ) → name_cmp p name ≡ Less → name_cmp first name ≡ Less) → AllByRecursion (λ entry. IsBehind p entry.0) back → runs.IsBelow path_cmp (first ∷ others) back
below_back p first others [] lower apart = tt
below_back p first others (([], key) ∷ back) lower apart = absurd apart.0
below_back p first others ((next ∷ nexts, key) ∷ back) lower apart = (ap (λ r. ordering_then r (path_cmp others nexts)) (lower next apart.0), below_back p first others back lower apart.1)

module _ (used : ℕ) (p : List ℕ) (keys back : Keys) (apart : AllByRecursion (λ entry. IsBehind p entry.0) back) (whole : IsBelow used (under p keys ++ back)) where
  found_behind : (first : List ℕ) (others : List (List ℕ)) → name_cmp p first ≡ Less → key_at (first ∷ others) (under p keys ++ back) ≡ key_at (first ∷ others) back
  found_behind first others lower = runs.find_behind path_cmp (first ∷ others) (under p keys) back (above_under first others p (name_total.antisymm first p ∙ ap ordering_reverse lower) keys)

  not_behind : (first : List ℕ) (others : List (List ℕ)) → ((name : List ℕ) → name_cmp p name ≡ Less → name_cmp first name ≡ Less) → IsSome (key_at (first ∷ others) back) → ⊥
  not_behind first others lower some = let none = ap is_some (runs.find_none path_cmp (first ∷ others) back (below_back p first others back lower apart)) in cc

  comes_behind : (first : List ℕ) (others : List (List ℕ)) → IsSome (key_at (first ∷ others) back) → name_cmp p first ≡ Less
  comes_behind first others some =
      elim (name_cmp p first) as (λ r. name_cmp p first ≡ r → r ≡ Less) [
        | Less ↦ λ _. refl
        | Equal ↦ λ same. absurd (not_behind first others (λ name lower. subst (λ n. name_cmp n name ≡ Less) (name_exact p first same) lower) some)
        | Greater ↦ λ higher. absurd (not_behind first others (λ name lower. name_total.trans first p name (name_total.antisymm first p ∙ ap ordering_reverse higher) lower) some)
      ] refl

  is_back : IsBelow used back
  is_back = record {
    rising = rising_back (under p keys) back whole.rising;
    entries = each_back (λ entry. IsEntry used entry.0 entry.1) (under p keys) back whole.entries;
    closed = λ first others last some.
        let lower = comes_behind first (others ++ last ∷ []) some in
        ap is_some (sym (found_behind first others lower)) ∙ whole.closed first others last (ap is_some (found_behind first (others ++ last ∷ []) lower) ∙ some);
  }

  frame : Frame p [] back
  frame = record { before = λ q. tt; behind = λ q. below_back p p q back (λ name lower. lower) apart }

entries_below : (used : ℕ) (p : List ℕ) (entries : Keys) → AllByRecursion (λ entry. IsEntry used entry.0 entry.1) (under p entries) → AllByRecursion (λ entry. path_cmp [] entry.0 ≡ Less) entries → AllByRecursion (λ entry. IsEntry (used + length p + 1) entry.0 entry.1) entries
entries_below used p [] h deep = tt
entries_below used p (([], key) ∷ entries) h deep = absurd (nothing_less [] deep.0)
entries_below used p ((first ∷ others, key) ∷ entries) h deep = (
  record {
    deep = omega arith;
    subkey = h.0.subkey;
    under_name = h.0.under_name;
    short = omega (arith, h.0.short, length-append p (separator ∷ text_of (first ∷ others)));
  },
  entries_below used p entries h.1 deep.1,
)

is_own : (used : ℕ) (p : List ℕ) (key : KeyData) (own back : Keys) → AllByRecursion (λ entry. IsBehind p entry.0) back → IsBelow used (under p (([], key) ∷ own) ++ back) → IsBelow (used + length p + 1) own
is_own used p key own back apart whole =
    let keys : Keys = ([], key) ∷ own in
    let up : RisingKeys keys = rising_under p keys (rising_front (under p keys) back whole.rising) in
    let found = find_plug p [] back (frame used p keys back apart whole) in
    record {
      rising = up.1;
      entries = entries_below used p own (each_front (λ entry. IsEntry used entry.0 entry.1) (under p keys) back whole.entries).1 up.0;
      closed = λ first others last some.
          ap is_some (sym (found (first ∷ others) keys)) ∙ whole.closed p (first ∷ others) last (ap is_some (found (first ∷ (others ++ last ∷ [])) keys) ∙ some);
    }

-- ---- the nodes

names_behind : (p : List ℕ) (nodes : List Node) → AllByRecursion (λ entry. IsBehind p entry.0) (spread nodes) → AllByRecursion (λ node. name_cmp p (name_of node) ≡ Less) nodes
names_behind p [] apart = tt
names_behind p (node ∷ nodes) apart = (apart.0, names_behind p nodes (each_back (λ entry. IsBehind p entry.0) (under (name_of node) (keys_of node)) (spread nodes) apart))

kid_and_others : (used : ℕ) (p : List ℕ) (key : KeyData) (entries : Keys) → IsBelow used ((p ∷ [], key) ∷ entries) → ((back : Keys) → length back ≤ length entries → IsBelow used back → Level used back) → Level used ((p ∷ [], key) ∷ entries)
kid_and_others used p key entries h level_behind =
    let split = split_at p [] entries h.rising.0 h.rising.1 in
    let keys : Keys = ([], key) ∷ split.own in
    let parts : (p ∷ [], key) ∷ entries ≡ under p keys ++ split.back = ap (λ (l : Keys). (p ∷ [], key) ∷ l) split.parts in
    let whole = subst (IsBelow used) parts h in
    let others = level_behind split.back (omega (arith, ap (λ (l : Keys). length l) split.parts, length-append (under p split.own) split.back)) (is_back used p keys split.back split.apart whole) in
    let node : Node = record { here = key; below = split.own } in
    let name_is : p ≡ folded key.part = h.entries.0.under_name in
    let units : length p ≡ length key.part = ap (λ name. length name) name_is ∙ length-folded key.part in
    record {
      nodes = node ∷ others.nodes;
      are = parts ∙ ap (λ (l : Keys). under p keys ++ l) others.are ∙ ap (λ name. under name keys ++ spread others.nodes) name_is;
      named = (
        subst (λ name. AllByRecursion (λ node. name_cmp name (name_of node) ≡ Less) others.nodes) name_is (names_behind p others.nodes (subst (λ (l : Keys). AllByRecursion (λ entry. IsBehind p entry.0) l) others.are split.apart)),
        others.named,
      );
      each = (
        record {
          subkey = h.entries.0.subkey;
          short = subst (λ n. used + n ≤ 1023) units h.entries.0.short;
          below = subst (λ n. IsBelow (used + n + 1) split.own) units (is_own used p key split.own split.back split.apart whole);
        },
        others.each,
      );
    }

-- a path of two parts or more isn't the first: its parent's stands before it
less_front : (front : List (List ℕ)) (last : List ℕ) → path_cmp front (front ++ last ∷ []) ≡ Less
less_front front last = ap (λ l. path_cmp l (front ++ last ∷ [])) (sym (append-nil front)) ∙ cmp_behind front [] (last ∷ [])

below_all : (front path : List (List ℕ)) (entries : Keys) → path_cmp front path ≡ Less → AllByRecursion (λ entry. path_cmp path entry.0 ≡ Less) entries → runs.IsBelow path_cmp front entries
below_all front path [] less up = tt
below_all front path (entry ∷ entries) less up = (path_total.trans front path entry.0 less up.0, below_all front path entries less up.1)

no_parent : (used : ℕ) (p first : List ℕ) (others : List (List ℕ)) (key : KeyData) (entries : Keys) → IsBelow used ((p ∷ first ∷ others, key) ∷ entries) → ⊥
no_parent used p first others key entries h =
    let path : List (List ℕ) = p ∷ first ∷ others in
    let all : Keys = (path, key) ∷ entries in
    let up = has_parent first others in
    let above = parent_of (first ∷ others) in
    let is : path ≡ p ∷ (above ++ up.last ∷ []) = ap (λ l. p ∷ l) up.is in
    let here : IsSome (key_at path all) = rw (path_itself path) refl in
    let there = h.closed p above up.last (subst (λ l. IsSome (key_at l all)) is here) in
    let less : path_cmp (p ∷ above) path ≡ Less = ap (path_cmp (p ∷ above)) is ∙ less_front (p ∷ above) up.last in
    let none = ap is_some (runs.find_none path_cmp (p ∷ above) all (less, below_all (p ∷ above) path entries less h.rising.0)) in
    cc

pub level_of : (most used : ℕ) (keys : Keys) → length keys ≤ most → IsBelow used keys → Level used keys
level_of most used [] few h = record { nodes = []; are = refl; named = tt; each = tt }
level_of zero used (entry ∷ entries) few h = absurd (omega arith)
level_of (suc most) used (([], key) ∷ entries) few h = absurd (omega (arith, h.entries.0.deep))
level_of (suc most) used ((p ∷ [], key) ∷ entries) few h = kid_and_others used p key entries h (λ back fewer below. level_of most used back (omega arith) below)
level_of (suc most) used ((p ∷ first ∷ others, key) ∷ entries) few h = absurd (no_parent used p first others key entries h)
