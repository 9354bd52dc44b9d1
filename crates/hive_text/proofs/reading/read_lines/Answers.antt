use Rattle.std.proofs.Common.{ℕ, List, Option, drop, subst, arith}
use Rattle.std.proofs.lemmas.List.{take_rest}
use Rattle.hive_text.specs.Turns.{Turns}
use Rattle.hive_text.proofs.TextReads.{not_ended, read_whole, stopped, turned, went_on}
use Rattle.hive_text.proofs.reading.read_lines.Goals as goal

pub lines-smaller : goal.lines-smaller
lines-smaller c =
    let turn = subst (λ (r : List ℕ). Turns (turned c.in_ok-size.field-0) c.lines.walk r c.take_next.new.walk) (take_rest c.args.text.now c.lines.place) c.in_ok-size.ensures in
    let took = subst (λ (o : Option ℕ). Turns (turned o) c.lines.walk (drop c.lines.place c.args.text.now) c.take_next.new.walk) c.in-Some.is turn in
    let step = went_on c.args.cap c.args.text.now c.requires.range c.lines.place c.lines.walk c.lines.invariant.reading c.in-Some.size c.take_next.new.walk took in
    omega (arith, step.1, step.2)

pub lines-preserved : goal.lines-preserved
lines-preserved c =
    let turn = subst (λ (r : List ℕ). Turns (turned c.in_ok-size.field-0) c.lines.walk r c.take_next.new.walk) (take_rest c.args.text.now c.lines.place) c.in_ok-size.ensures in
    let took = subst (λ (o : Option ℕ). Turns (turned o) c.lines.walk (drop c.lines.place c.args.text.now) c.take_next.new.walk) c.in-Some.is turn in
    let step = went_on c.args.cap c.args.text.now c.requires.range c.lines.place c.lines.walk c.lines.invariant.reading c.in-Some.size c.take_next.new.walk took in
    record { reading = step.0; within = step.1 }

pub returns-in-None-clause-fault : goal.returns-in-None-clause-fault
returns-in-None-clause-fault c =
    let turn = subst (λ (r : List ℕ). Turns (turned c.in_ok-size.field-0) c.lines.walk r c.take_next.new.walk) (take_rest c.args.text.now c.lines.place) c.in_ok-size.ensures in
    let none = subst (λ (o : Option ℕ). Turns (turned o) c.lines.walk (drop c.lines.place c.args.text.now) c.take_next.new.walk) c.in-None.is turn in
    stopped c.args.cap c.args.text.now c.requires.range c.lines.place c.lines.walk c.lines.invariant.reading c.take_next.new.walk c.lines-test.true none

pub returns-then-not-walk-clause-fault : goal.returns-then-not-walk-clause-fault
returns-then-not-walk-clause-fault c = not_ended c.args.cap c.args.text.now c.requires.range c.lines.place c.lines.walk c.lines.invariant.reading c.lines-test.false c.if-not-walk.true

pub returns-clause-found : goal.returns-clause-found
returns-clause-found c =
    read_whole c.args.cap c.args.text.now c.requires.range c.lines.place c.lines.walk c.lines.invariant.reading c.in_ok-finish.field-0 c.lines-test.false c.if-not-walk.false c.in_ok-finish.ensures.cap c.in_ok-finish.ensures.keys
