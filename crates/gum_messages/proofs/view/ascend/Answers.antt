use Rattle.std.proofs.Common.{◌≡◌, true, false, refl, arith}
use Rattle.gum_messages.proofs.Ascending.{decide_at_end, decide_next, decide_refused}
use Rattle.gum_messages.proofs.view.ascend.Goals as goal
use Rattle.gum_messages.proofs.view.ascend.Goals.{then-member-floor-via-then-member-floor, then-member-floor-via-else-member-floor+then-member-gt16, then-member-floor-via-else-member-floor+else-member-gt16+then-member-eq0}

pub returns-then-member-floor : goal.returns-then-member-floor
returns-then-member-floor c = (
  λ h. let no : false ≡ true = h in absurd (cc),
  λ h.
      let good = decide_refused _ _ _ (record { node = 0; inc = 0 }) c.loop-member-test.true c.loop-member.invariant h in
      elim c.then-member-floor.branch [
        | then-member-floor-via-then-member-floor w ↦ absurd (let low = w.if-member-floor.true in omega arith)
        | then-member-floor-via-else-member-floor+then-member-gt16 w ↦ absurd (let high = w.if-member-gt16.true in omega arith)
        | then-member-floor-via-else-member-floor+else-member-gt16+then-member-eq0 w ↦ absurd (let none = w.if-member-eq0.true in omega arith)
      ],
)

pub loop-member-preserved : goal.loop-member-preserved
loop-member-preserved c =
    decide_next _ _ _ (record { node = 0; inc = 0 }) c.loop-member-test.true (omega arith) (omega arith) (omega arith) c.loop-member.invariant

pub returns : goal.returns
returns c = (λ h. decide_at_end _ _ _ c.loop-member-test.false c.loop-member.invariant, λ h. refl)
