use Rattle.std.proofs.Common.{rules, Ok, ◌+◌, [], ◌∷◌, refl}
use Rattle.disk_core.specs.Calls.{Made, write, sync}
use Rattle.quorum_log.specs.Faults.{disk_answer}
use Rattle.quorum_log.specs.Changes.{framed_record}
use Rattle.quorum_log.proofs.Moments.{made_answer}
use Rattle.quorum_log.proofs.CallLaws.{append_held, made_same}
use Rattle.quorum_log.proofs.Appended.{append_valued}
use Rattle.quorum_log.proofs.log.Log.append.Goals as goal

pub returns-in_err-write_then_commit-clause-any_moment : goal.returns-in_err-write_then_commit-clause-any_moment
returns-in_err-write_then_commit-clause-any_moment g c =
    let r = c.requires in
    λ x s. (append_valued _ c.args.self _ _ _ _ _ x c.self.view_is (search rules) c.in_err-write_then_commit.ensures r.some r.most r.fits r.few s).0

pub returns-in_err-write_then_commit-clause-answer : goal.returns-in_err-write_then_commit-clause-answer
returns-in_err-write_then_commit-clause-answer g c =
    let log = c.args.self in
    let made : Made (write log.claim (log.tail + 1) (framed_record c.args.bytes.now) ∷ sync log.claim ∷ write log.claim log.tail (1 ∷ []) ∷ sync log.claim ∷ [])
    (g.D.Disk.view c.args.disk.now) (disk_answer c.from_residual.result) (g.D.Disk.view c.write_then_commit.new.disk) = search rules in
    made_answer log.claim _ _ _ _ _ (search rules) made

pub returns-clause-any_moment : goal.returns-clause-any_moment
returns-clause-any_moment g c =
    let r = c.requires in
    λ x s. (append_valued _ c.args.self _ _ _ _ _ x c.self.view_is (search rules) c.in_ok-write_then_commit.ensures r.some r.most r.fits r.few s).0

pub returns-clause-appended : goal.returns-clause-appended
returns-clause-appended g c =
    let r = c.requires in
    λ x s. (append_valued _ c.args.self _ _ _ _ _ x c.self.view_is (search rules) c.in_ok-write_then_commit.ensures r.some r.most r.fits r.few s).1 refl

pub returns-clause-answer : goal.returns-clause-answer
returns-clause-answer g c =
    let log = c.args.self in
    let made : Made (write log.claim (log.tail + 1) (framed_record c.args.bytes.now) ∷ sync log.claim ∷ write log.claim log.tail (1 ∷ []) ∷ sync log.claim ∷ [])
    (g.D.Disk.view c.args.disk.now) (disk_answer (Ok log)) (g.D.Disk.view c.write_then_commit.new.disk) = search rules in
    made_answer log.claim _ _ _ _ _ (search rules) made

pub returns-in_err-write_then_commit-clause-held : goal.returns-in_err-write_then_commit-clause-held
returns-in_err-write_then_commit-clause-held g c = append_held _ _ _ _ _ _ c.in_err-write_then_commit.ensures

pub returns-in_err-write_then_commit-clause-same : goal.returns-in_err-write_then_commit-clause-same
returns-in_err-write_then_commit-clause-same g c = made_same _ _ _ _ c.in_err-write_then_commit.ensures

pub returns-clause-held : goal.returns-clause-held
returns-clause-held g c = append_held _ _ _ _ _ _ c.in_ok-write_then_commit.ensures

pub returns-clause-same : goal.returns-clause-same
returns-clause-same g c = made_same _ _ _ _ c.in_ok-write_then_commit.ensures
