use Rattle.std.proofs.Common.{◌≡◌, length, ap, arith}
use Rattle.clus_names.specs.Parts.{joined_text}
use Rattle.clus_names.proofs.Texts.{joined_paths}
use Rattle.clus_names.proofs.path.Path.join.Goals as goal

pub invariant_of-result : goal.invariant_of-result
invariant_of-result c =
    let above = c.self.inside.text.items in
    let below = c.below.inside.text.items in
    let j = joined_paths above below c.self.invariant c.below.invariant in
    let is : c.in_ok-joined.field-0.items ≡ joined_text above below = rw (c.deref.ensures.value, c.deref-2.ensures.value) at c.in_ok-joined.ensures in
    let counted = rw (← c.self.view_is, ← c.below.view_is) at c.joined_len.ensures in
    rw is (j.valid (omega (arith, counted, c.if-joined_len-gt-MOST_PATH_UNITS.false, ap (λ t. length t) j.is_text)))

pub returns-clause-found : goal.returns-clause-found
returns-clause-found c =
    let above = c.self.inside.text.items in
    let below = c.below.inside.text.items in
    let j = joined_paths above below c.self.invariant c.below.invariant in
    let is : c.in_ok-joined.field-0.items ≡ joined_text above below = rw (c.deref.ensures.value, c.deref-2.ensures.value) at c.in_ok-joined.ensures in
    let counted = rw (← c.self.view_is, ← c.below.view_is) at c.joined_len.ensures in
    rw (is, ← c.self.view_is, ← c.below.view_is) (j.parts, (j.valid (omega (arith, counted, c.if-joined_len-gt-MOST_PATH_UNITS.false, ap (λ t. length t) j.is_text))).path)
