use Rattle.std.proofs.Common.{◌≡◌, ◌≤◌, ◌<◌, ℕ, List, true, false, refl, sym, subst, ap, ◌∙◌, arith}
use Rattle.hive_text.specs.Walks.{IsBegun, may_begin, size_with_key}
use Rattle.hive_text.proofs.WalkKeys.{begin_refused, begun_step, too_large}
use Rattle.hive_text.proofs.walk.Walk.begin.Goals as goal

pub returns-then-not-may_begin : goal.returns-then-not-may_begin
returns-then-not-may_begin c = λ s is follows.
    let fails : may_begin c.args.self.now c.args.part c.args.birth ≡ false = ap (λ (p : List ℕ). may_begin c.args.self.now p c.args.birth) (sym c.as_slice.ensures) ∙ sym c.may_begin.ensures ∙ c.if-not-may_begin.true in
    begin_refused c.args.self.now s is c.args.part c.args.birth c.args.written fails follows

pub returns-then-self-size : goal.returns-then-self-size
returns-then-self-size c = λ s is follows.
    let ok : may_begin c.args.self.now c.args.part c.args.birth ≡ true = ap (λ (p : List ℕ). may_begin c.args.self.now p c.args.birth) (sym c.as_slice.ensures) ∙ sym c.may_begin.ensures ∙ c.if-not-may_begin.false in
    let size : c.size_with_key-size.result ≡ size_with_key c.args.self.now c.args.part c.args.written = c.size_with_key-size.ensures ∙ ap (λ (p : List ℕ). size_with_key c.args.self.now p c.args.written) c.as_slice-2.ensures in
    let past : c.args.self.now.cap < c.size_with_key-size.result = c.if-self-size.true in
    too_large c.args.self.now c.args.part c.args.birth c.args.written ok (omega (arith, size, past)) s is follows

pub returns : goal.returns
returns c = λ s is.
    let ok : may_begin c.args.self.now c.args.part c.args.birth ≡ true = ap (λ (p : List ℕ). may_begin c.args.self.now p c.args.birth) (sym c.as_slice.ensures) ∙ sym c.may_begin.ensures ∙ c.if-not-may_begin.false in
    let size : c.size_with_key-size.result ≡ size_with_key c.args.self.now c.args.part c.args.written = c.size_with_key-size.ensures ∙ ap (λ (p : List ℕ). size_with_key c.args.self.now p c.args.written) c.as_slice-2.ensures in
    let within : c.size_with_key-size.result ≤ c.args.self.now.cap = c.if-self-size.false in
    let did = subst (λ n. IsBegun c.args.self.now c.args.part c.args.birth c.args.written n c.open.new.self) size c.in_ok-open.ensures in
    begun_step c.args.self.now c.args.part c.args.part c.args.birth c.args.written s is c.open.new.self refl c.requires.fits ok (omega (arith, size, within)) did
