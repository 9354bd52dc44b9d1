use Rattle.std.proofs.Common.{◌≡◌, ◌≤◌, ◌<◌, ℕ, List, true, false, sym, subst, ap, ◌∙◌, arith}
use Rattle.hive_text.specs.Walks.{IsHeld, may_hold, size_with_value}
use Rattle.hive_text.proofs.WalkEnds.{held_step, hold_refused, too_large_value}
use Rattle.hive_text.proofs.walk.Walk.hold.Goals as goal

pub returns-then-not-may_hold : goal.returns-then-not-may_hold
returns-then-not-may_hold c = λ s is follows.
    let fails : may_hold c.args.self.now c.args.value.name ≡ false = ap (λ (p : List ℕ). may_hold c.args.self.now p) (sym c.units.ensures.units) ∙ sym c.may_hold.ensures ∙ c.if-not-may_hold.true in
    hold_refused c.args.self.now s is c.args.value fails follows

pub returns-then-self-size : goal.returns-then-self-size
returns-then-self-size c = λ s is follows.
    let ok : may_hold c.args.self.now c.args.value.name ≡ true = ap (λ (p : List ℕ). may_hold c.args.self.now p) (sym c.units.ensures.units) ∙ sym c.may_hold.ensures ∙ c.if-not-may_hold.false in
    let past : c.args.self.now.cap < c.size_with_value-size.result = c.if-self-size.true in
    let size : c.size_with_value-size.result ≡ size_with_value c.args.self.now c.args.value = c.size_with_value-size.ensures in
    too_large_value c.args.self.now c.args.value ok (omega (arith, size, past)) s is follows

pub returns : goal.returns
returns c = λ s is.
    let ok : may_hold c.args.self.now c.args.value.name ≡ true = ap (λ (p : List ℕ). may_hold c.args.self.now p) (sym c.units.ensures.units) ∙ sym c.may_hold.ensures ∙ c.if-not-may_hold.false in
    let size : c.size_with_value-size.result ≡ size_with_value c.args.self.now c.args.value = c.size_with_value-size.ensures in
    let within : c.size_with_value-size.result ≤ c.args.self.now.cap = c.if-self-size.false in
    let did = subst (λ n. IsHeld c.args.self.now c.args.value n c.add.new.self) size c.in_ok-add.ensures in
    held_step c.args.self.now c.args.value s is c.add.new.self c.requires.fits ok (omega (arith, size, within)) did
