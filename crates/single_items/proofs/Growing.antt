-- An update behind others.
use Rattle.std.proofs.Common.{◌≡◌, List, [], ◌∷◌, ◌++◌, refl, ap}
use Rattle.update_records.specs.Entry.{Entry}
use Rattle.update_records.specs.declared.update.Update.{Update}
use Rattle.cluster_rules.specs.Machines.{Machine}
use Rattle.single_rules.specs.Rounds.{after_all, all_made}
use Rattle.single_rules.specs.Single.{Single, made, updated}

module _ {M : Machine} where
  pub after_both : (a : Single M) (us : List Update) (v : Update) → after_all a (us ++ v ∷ []) ≡ updated (after_all a us) v
  after_both a [] v = refl
  after_both a (w ∷ us) v = after_both (updated a w) us v

  pub made_both : (a : Single M) (us : List Update) (v : Update) → all_made a (us ++ v ∷ []) ≡ all_made a us ++ made (after_all a us) v ∷ []
  made_both a [] v = refl
  made_both a (w ∷ us) v = ap (λ (es : List Entry). made a w ∷ es) (made_both (updated a w) us v)
