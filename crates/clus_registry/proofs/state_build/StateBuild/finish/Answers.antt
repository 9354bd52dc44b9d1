use Rattle.std.proofs.Common.{◌≤◌, ◌∙◌, arith}
use Rattle.std.proofs.lemmas.Result.{err_from_is_err_and}
use Rattle.registry_defs.specs.Nodes.{keys_of}
use Rattle.clus_registry.proofs.Finishing.{counted, fails, fits, is_read, is_state, no_fault, same_keys}
use Rattle.registry_defs.proofs.Held.{entries_are}
use Rattle.clus_registry.proofs.state_build.StateBuild.finish.Goals as goal

pub invariant_of-result : goal.invariant_of-result
invariant_of-result c =
    let begun = c.self.invariant in
    let kept = c.self.inside.tree in
    let root = c.in_ok-root.root in
    let read = c.in_ok-root.ensures begun.stream begun.fed.1 in
    let size_is = c.taken-size.ensures ∙ counted kept root begun.stream begun.fed read in
    let within = fits kept root begun.stream begun.fed read in
    record {
      limits = (is_state kept root begun.stream begun.fed read).registry;
      counted = size_is;
      fits = omega (arith, size_is, within, begun.same_cap);
      range = begun.range;
    }

pub returns-clause-found : goal.returns-clause-found
returns-clause-found c =
    let begun = c.self.invariant in
    rw (← c.self.view_is) (λ stream fed. is_read c.self.inside.tree c.in_ok-root.root stream fed (c.in_ok-root.ensures stream fed.1) c.self.inside.cap begun.same_cap)

pub returns-clause-only : goal.returns-clause-only
returns-clause-only c =
    let kept = c.self.inside.tree in
    let root = c.in_ok-root.root in
    let most : kept.cap ≤ 16777216 = omega (arith, c.self.invariant.range.1, c.self.invariant.same_cap) in
    rw (← c.self.view_is)
    (λ stream fed keys is within text.
    let read = c.in_ok-root.ensures stream fed.1 in
    entries_are (keys_of root) (is_state kept root stream fed read).registry ∙ same_keys kept.cap stream keys most is within text root read)

pub returns-in_err-root-clause-only : goal.returns-in_err-root-clause-only
returns-in_err-root-clause-only c =
    let kept = c.self.inside.tree in
    let fault = c.in_err-root.field-0.0 in
    let most : kept.cap ≤ 16777216 = omega (arith, c.self.invariant.range.1, c.self.invariant.same_cap) in
    let p = err_from_is_err_and c.from_residual.result c.from_residual.ensures.1 in
    rw (p.1, p.2, ← c.self.view_is)
    (λ stream fed keys is within text. no_fault kept.cap stream keys most is within text fault (fails kept.cap stream fault (c.in_err-root.ensures stream fed.1)))
