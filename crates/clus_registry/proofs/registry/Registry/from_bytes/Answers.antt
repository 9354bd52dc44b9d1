use Rattle.std.proofs.Common.{[], ◌∙◌}
use Rattle.std.proofs.lemmas.Result.{err_from_is_err_and}
use Rattle.clus_registry.proofs.Finishing.{no_fault, refuses}
use Rattle.clus_registry.proofs.registry.Registry.from_bytes.Goals as goal

pub returns-in_err-feed-clause-only : goal.returns-in_err-feed-clause-only
returns-in_err-feed-clause-only c =
    let bytes = c.args.bytes.now in
    let fault = c.in_err-feed.field-0.0 in
    let fails = refuses c.feed.new.self c.args.cap bytes fault (c.in_err-feed.ensures.cap ∙ c.new-build.ensures.cap) (c.in_err-feed.ensures.fed [] c.new-build.ensures.fed) in
    let p = err_from_is_err_and c.from_residual.result c.from_residual.ensures.1 in
    rw (p.1, p.2) (λ keys is within text. no_fault c.args.cap bytes keys c.requires.range.1 is within text fault fails)
