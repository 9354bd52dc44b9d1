-- The map of a registry, and the entries of its tree.
use Rattle.std.proofs.Common.{◌≡◌, ℕ, ◌<◌, ◌^◌, Bor, List, [], Option, Some, None, refl, sym, ap, subst, ◌∙◌, arith}
use Rattle.std.specs.Prelude.{MatchOption, IfSome, slice_get}
use Rattle.clus_names.specs.Folding.{folded_parts, path_cmp}
use Rattle.clus_names.specs.Parts.{parts_of}
use Rattle.registry_defs.specs.declared.outcome.Outcome.{Outcome}
use Rattle.registry_defs.specs.Keys.{KeyData, Keys, key_at}
use Rattle.registry_defs.specs.Applying.{Applied}
use Rattle.registry_defs.specs.Contents.{Contents, keys_in}
use Rattle.registry_defs.specs.Limits.{IsRegistry, HaveFields}
use Rattle.registry_defs.specs.Nodes.{Node, keys_of, path_of}
use Rattle.registry_defs.specs.Rising.{RisingKeys}
use Rattle.registry_defs.specs.Sections.{section, subkeys}
use Rattle.registry_defs.specs.Sizes.{size}
use Rattle.registry_defs.proofs.Orders.{rising_from_sorted}
use Rattle.registry_defs.proofs.Sections.{section_rising, section_each, section_shorter}
use Rattle.registry_defs.specs.Nodes.{IsAt}
use Rattle.clus_registry.specs.Outcomes.{IsApplied}
use Rattle.registry_defs.specs.Readings.{nth_subkey}
use Rattle.registry_defs.proofs.Held.{contents, entries_are}
use Rattle.registry_defs.proofs.Fields.{have_fields}
use Rattle.registry_defs.proofs.Trees.{nothing_below}
use Rattle.registry_defs.proofs.Keeping.{tree_of}

-- ---- what a change came to

abbrev pub comes_to : Keys → Outcome → Applied
comes_to keys outcome = record { keys = keys; outcome = outcome }

pub unchanged : (before : Contents) (outcome : Outcome) (a : Applied) → a ≡ comes_to (keys_in before) outcome → IsApplied outcome before before a
unchanged before outcome a is = (ap (λ (b : Applied). b.outcome) (sym is), ap (λ (b : Applied). b.keys) (sym is), refl)

pub changed : (before : Contents) (most : ℕ) (news : Keys) (outcome : Outcome) (a : Applied) → most ≡ before.cap → IsRegistry news → a ≡ comes_to news outcome → IsApplied outcome before (contents most news) a
changed before most news outcome a same registry is = (ap (λ (b : Applied). b.outcome) (sym is), entries_are news registry ∙ ap (λ (b : Applied). b.keys) (sym is), same)

-- ---- what is found

pub path_is : (text : List ℕ) (path : List (List ℕ)) → parts_of text ≡ path → path_of text ≡ folded_parts path
path_is text path is = ap folded_parts is

pub found_at : (o : Option (Bor Node)) (q r : List (List ℕ)) (es fs : Keys) → q ≡ r → fs ≡ es → MatchOption o (key_at q es ≡ None) (λ k. key_at q es ≡ Some k.now.here) → IfSome o (λ k. keys_of k.now ≡ section q es)
    → MatchOption o (key_at r fs ≡ None) (λ k. IsAt r fs k.now)
found_at None q r es fs path keys found all = ap (λ l. key_at l fs) (sym path) ∙ ap (key_at q) keys ∙ found
found_at (Some k) q r es fs path keys found all = record {
  here = ap (λ l. key_at l fs) (sym path) ∙ ap (key_at q) keys ∙ found;
  all = all ∙ ap (λ l. section l es) path ∙ ap (section r) (sym keys);
}

pub rising_at : (q : List (List ℕ)) (es : Keys) (node : Node) → IsRegistry es → IsAt q es node → RisingKeys (keys_of node)
rising_at q es node registry at = subst RisingKeys (sym at.all) (section_rising q es (rising_from_sorted path_cmp es registry.rising))

pub fields_at : (q : List (List ℕ)) (es : Keys) (node : Node) → IsRegistry es → size es < 2 ^ 32 → IsAt q es node → HaveFields (keys_of node)
fields_at q es node registry small at =
    let all = have_fields es registry small in
    let few = all.few in
    subst HaveFields (sym at.all) (record { few = omega (arith, few, section_shorter q es); each = section_each _ q es all.each })

pub rising_found : (o : Option (Bor Node)) (q : List (List ℕ)) (es : Keys) → IsRegistry es → MatchOption o (key_at q es ≡ None) (λ k. IsAt q es k.now) → IfSome o (λ k. RisingKeys (keys_of k.now))
rising_found None q es registry at = tt
rising_found (Some k) q es registry at = rising_at q es k.now registry at

pub fields_found : (o : Option (Bor Node)) (q : List (List ℕ)) (es : Keys) → IsRegistry es → size es < 2 ^ 32 → MatchOption o (key_at q es ≡ None) (λ k. IsAt q es k.now) → IfSome o (λ k. HaveFields (keys_of k.now))
fields_found None q es registry small at = tt
fields_found (Some k) q es registry small at = fields_at q es k.now registry small at

-- what isn't there has no subkeys
pub no_subkeys : (q : List (List ℕ)) (index : ℕ) (es : Keys) → IsRegistry es → key_at q es ≡ None → nth_subkey q index es ≡ None
no_subkeys q index es registry none = ap (λ l. slice_get (subkeys l) index) (nothing_below q es (tree_of es registry) none) ∙ none_of_none index
  where
    none_of_none : (n : ℕ) → slice_get {X = List (List ℕ) × KeyData} [] n ≡ None
    none_of_none n = refl
