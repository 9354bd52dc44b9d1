use Rattle.std.proofs.Common.{◌≡◌, ◌+◌, ◌∷◌, drop, sym, ap, ◌∙◌, arith}
use Rattle.std.proofs.lemmas.List.{drop_more, drop_all}
use Rattle.registry_defs.specs.Applying.{Applied, resolved, change_applied, changes_applied, done}
use Rattle.registry_defs.specs.Contents.{keys_in}
use Rattle.clus_registry.proofs.Batches.{goes_on, stops, ends, made, not_made}
use Rattle.clus_registry.proofs.Seen.{unchanged, comes_to}
use Rattle.clus_registry.proofs.registry.Registry.apply_all.Goals as goal

pub loop-change-preserved : goal.loop-change-preserved
loop-change-preserved c =
    let loop = c.loop-change in
    let self = c.args.self.now in
    let place = c.args.place in
    let stamp = c.args.stamp in
    let before = keys_in self in
    let es = keys_in loop.changed in
    let item = c.change-item.result in
    let others = drop (loop.change-index + 1) c.args.changes.now in
    let outcome = c.in_ok-outcome.outcome in
    let told = c.in_ok-outcome.ensures.0 ∙ ap (λ m. (change_applied m place stamp (resolved item es) es).outcome) loop.invariant.cap in
    let news = c.in_ok-outcome.ensures.1 ∙ ap (λ m. (change_applied m place stamp (resolved item es) es).keys) loop.invariant.cap in
    record {
      number = omega (arith, loop.invariant.number);
      cap = c.in_ok-outcome.ensures.2 ∙ loop.invariant.cap;
      rest = goes_on self.cap place stamp before (loop.number + 1) item others es outcome told (keys_in c.apply_change.new.self) _ (made outcome.status c.if-outcome-ne0.false) news
          (ap (λ l. changes_applied self.cap place stamp before (loop.number + 1) l es) (ap (λ x. x ∷ others) c.change-item.is ∙ sym (drop_more c.args.changes.now loop.change-index item c.loop-change-test.true)) ∙ loop.invariant.rest);
    }

pub returns-then-outcome-ne0 : goal.returns-then-outcome-ne0
returns-then-outcome-ne0 c =
    let loop = c.loop-change in
    let self = c.args.self.now in
    let place = c.args.place in
    let stamp = c.args.stamp in
    let before = keys_in self in
    let es = keys_in loop.changed in
    let item = c.change-item.result in
    let others = drop (loop.change-index + 1) c.args.changes.now in
    let outcome = c.in_ok-outcome.outcome in
    let told = c.in_ok-outcome.ensures.0 ∙ ap (λ m. (change_applied m place stamp (resolved item es) es).outcome) loop.invariant.cap in
    let total = changes_applied self.cap place stamp before 1 c.args.changes.now before in
    unchanged self c.refused_at.result total
    (sym (stops self.cap place stamp before (loop.number + 1) item others es outcome told total (not_made outcome.status c.if-outcome-ne0.true)
    (ap (λ l. changes_applied self.cap place stamp before (loop.number + 1) l es) (ap (λ x. x ∷ others) c.change-item.is ∙ sym (drop_more c.args.changes.now loop.change-index item c.loop-change-test.true)) ∙ loop.invariant.rest))
    ∙ ap (comes_to before) (sym c.refused_at.ensures))

pub returns : goal.returns
returns c =
    let loop = c.loop-change in
    let self = c.args.self.now in
    let place = c.args.place in
    let stamp = c.args.stamp in
    let before = keys_in self in
    let es = keys_in loop.changed in
    let total = changes_applied self.cap place stamp before 1 c.args.changes.now before in
    let all : done es ≡ total =
    sym (ends self.cap place stamp before (loop.number + 1) es)
    ∙ ap (λ l. changes_applied self.cap place stamp before (loop.number + 1) l es) (sym (drop_all loop.change-index c.args.changes.now c.loop-change-test.false))
    ∙ loop.invariant.rest in
    (c.done.ensures ∙ ap (λ (a : Applied). a.outcome) all, ap (λ (a : Applied). a.keys) all, loop.invariant.cap)
