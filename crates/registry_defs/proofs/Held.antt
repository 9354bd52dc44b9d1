-- The map that holds a registry's keys, and the empty registry.
use Rattle.std.proofs.Common.{◌≡◌, ℕ, T, [], replicate, refl, sym, ap, subst, ◌∙◌, arith}
use Rattle.std.specs.FinMap.{entries, from_sorted, entries-from_sorted}
use Rattle.wire_fields.specs.Numbers.{num}
use Rattle.clus_names.specs.Folding.{path_cmp}
use Rattle.registry_defs.specs.Contents.{Contents, keys_in}
use Rattle.registry_defs.specs.Keys.{Keys, new_root, root_alone}
use Rattle.registry_defs.specs.Limits.{AreValues, IsKey, IsRegistry}
use Rattle.registry_defs.specs.Spelling.{birth_text, key_text, part_text, entries_text, registry_text}

abbrev pub contents : ℕ → Keys → Contents
contents most es = record { cap = most; keys = from_sorted es }

pub entries_are : (es : Keys) → IsRegistry es → entries (from_sorted {R = path_cmp} es) ≡ es
entries_are es registry = entries-from_sorted path_cmp es (subst T (sym registry.rising) tt)

pub keys_are : (now : Contents) (most : ℕ) (es : Keys) → contents most es ≡ now → IsRegistry es → keys_in now ≡ es
keys_are now most es is registry = ap keys_in (sym is) ∙ entries_are es registry

pub registry_in : (now : Contents) (most : ℕ) (es : Keys) → contents most es ≡ now → IsRegistry es → IsRegistry (keys_in now)
registry_in now most es is registry = subst IsRegistry (sym (keys_are now most es is registry)) registry

-- ---- the empty registry

root_values : AreValues []
root_values = record { rising = refl; under_names = tt; limits = tt }

root_key : IsKey [] new_root
root_key = record { named = (refl, refl); under_name = tt; short = omega arith; written = omega arith; values = root_values }

pub root_registry : IsRegistry root_alone
root_registry = record { rising = refl; limits = (root_key, tt); root = refl; parents = (refl, tt) }

pub root_text : replicate 16 0 ≡ registry_text root_alone
unfolding num birth_text key_text part_text entries_text
root_text = refl
