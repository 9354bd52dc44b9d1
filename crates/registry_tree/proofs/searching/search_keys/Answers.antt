use Rattle.std.proofs.Common.{rules}
use Rattle.std.proofs.lemmas.Fn.{always_returns_same}
use Rattle.clus_names.specs.Folding.{folded, name_cmp}
use Rattle.registry_defs.specs.Nodes.{name_of}
use Rattle.registry_tree.proofs.Places.{searched}
use Rattle.registry_tree.proofs.searching.search_keys.Goals as goal

pub returns : goal.returns
returns c =
    let facts = c.binary_search_by.ensures in
    let by_name = facts.position (λ x. name_cmp (name_of x) (folded c.args.part.now)) (always_returns_same _ _ _ (λ a r f called. (search rules, search rules))) in
    let both = searched name_of c.args.keys.now c.requires (folded c.args.part.now) c.binary_search_by.result facts.bound by_name in
    record { found = both.0; absent = both.1 }
