use Rattle.std.proofs.Common.{rules, Ok, ◌+◌, ◌-◌, [], ◌∷◌, ◌++◌, refl, arith}
use Rattle.disk_core.specs.Calls.{Made, write, sync}
use Rattle.quorum_log.specs.Layout.{half_at, next_generation}
use Rattle.quorum_log.specs.Faults.{disk_answer}
use Rattle.quorum_log.specs.Changes.{half_text, closing}
use Rattle.quorum_log.proofs.CallLaws.{checkpoint_held, made_same}
use Rattle.quorum_log.proofs.Checkpointed.{checkpoint_valued, made_closing_answer}
use Rattle.quorum_log.proofs.log.Log.checkpoint.Goals as goal

pub returns-in_err-replace-clause-any_moment : goal.returns-in_err-replace-clause-any_moment
returns-in_err-replace-clause-any_moment g c =
    let r = c.requires in
    λ x s. (checkpoint_valued _ c.args.self _ _ _ c.args.state.now c.args.last.now c.half_at-other.result 0 0 0 _ x c.self.view_is c.half_at-other.ensures
    (rw (c.deref.ensures.value, c.put_half-count.ensures.count) c.put_half-count.ensures.text) c.in_err-replace.ensures (omega arith) r.state r.last s).0

pub returns-in_err-replace-clause-answer : goal.returns-in_err-replace-clause-answer
returns-in_err-replace-clause-answer g c =
    let log = c.args.self in
    let other = half_at log.cap (1 - log.half) in
    let made : Made (closing log.other_valid log.claim other ++ write log.claim (other + 1) (half_text (next_generation log.generation) (log.base + log.records) c.args.state.now c.args.last.now) ∷ sync log.claim ∷ write log.claim other (1 ∷ []) ∷ sync log.claim ∷ [])
    (g.D.Disk.view c.args.disk.now) (disk_answer c.from_residual.result) (g.D.Disk.view c.replace.new.disk) = search rules in
    made_closing_answer log.other_valid log.claim other _ _ _ _ made

pub returns-clause-any_moment : goal.returns-clause-any_moment
returns-clause-any_moment g c =
    let r = c.requires in
    λ x s. (checkpoint_valued _ c.args.self _ _ _ c.args.state.now c.args.last.now c.half_at-other.result 0 0 0 _ x c.self.view_is c.half_at-other.ensures
    (rw (c.deref.ensures.value, c.put_half-count.ensures.count) c.put_half-count.ensures.text) c.in_ok-replace.ensures (omega arith) r.state r.last s).0

pub returns-clause-begun : goal.returns-clause-begun
returns-clause-begun g c =
    let r = c.requires in
    λ x s. (checkpoint_valued _ c.args.self _ _ _ c.args.state.now c.args.last.now c.half_at-other.result 0 0 0 _ x c.self.view_is c.half_at-other.ensures
    (rw (c.deref.ensures.value, c.put_half-count.ensures.count) c.put_half-count.ensures.text) c.in_ok-replace.ensures (omega arith) r.state r.last s).1 refl

pub returns-clause-answer : goal.returns-clause-answer
returns-clause-answer g c =
    let log = c.args.self in
    let other = half_at log.cap (1 - log.half) in
    let made : Made (closing log.other_valid log.claim other ++ write log.claim (other + 1) (half_text (next_generation log.generation) (log.base + log.records) c.args.state.now c.args.last.now) ∷ sync log.claim ∷ write log.claim other (1 ∷ []) ∷ sync log.claim ∷ [])
    (g.D.Disk.view c.args.disk.now) (disk_answer (Ok log)) (g.D.Disk.view c.replace.new.disk) = search rules in
    made_closing_answer log.other_valid log.claim other _ _ _ _ made

pub returns-in_err-replace-clause-held : goal.returns-in_err-replace-clause-held
returns-in_err-replace-clause-held g c = checkpoint_held _ _ _ _ _ _ _ c.in_err-replace.ensures

pub returns-in_err-replace-clause-same : goal.returns-in_err-replace-clause-same
returns-in_err-replace-clause-same g c = made_same _ _ _ _ c.in_err-replace.ensures

pub returns-clause-held : goal.returns-clause-held
returns-clause-held g c = checkpoint_held _ _ _ _ _ _ _ c.in_ok-replace.ensures

pub returns-clause-same : goal.returns-clause-same
returns-clause-same g c = made_same _ _ _ _ c.in_ok-replace.ensures
