use Rattle.std.proofs.Common.{rules}
use Rattle.std.proofs.lemmas.Fn.{always_returns_same}
use Rattle.clus_names.specs.Folding.{folded, name_cmp}
use Rattle.registry_tree.specs.Values.{value_name}
use Rattle.registry_tree.proofs.Places.{searched}
use Rattle.registry_tree.proofs.searching.search_values.Goals as goal

pub returns : goal.returns
returns c =
    let facts = c.binary_search_by.ensures in
    let by_name = facts.position (λ x. name_cmp (value_name x) (folded c.args.name.now)) (always_returns_same _ _ _ (λ a r f called. (search rules, search rules))) in
    let both = searched value_name c.args.values.now c.requires (folded c.args.name.now) c.binary_search_by.result facts.bound by_name in
    record { found = both.0; absent = both.1 }
