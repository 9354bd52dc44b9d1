use Rattle.std.proofs.Common.{ℕ, Bool, Option, inr, subst}
use Rattle.hive_text.specs.Told.{NextIs}
use Rattle.hive_text.specs.Walks.{Steps}
use Rattle.hive_text.specs.declared.line.Line.{Line}
use Rattle.hive_text.proofs.TextReads.{taken}
use Rattle.hive_text.proofs.reading.take_next.Goals as goal

pub returns-then-branch : goal.returns-then-branch
returns-then-branch c = record {
  line = c.in-Some.line;
  next = subst (λ (o : Option (Line × ℕ)). NextIs c.args.rest.now o) c.in-Some.is c.in_ok-line.ensures;
  took = subst (λ (b : Bool). Steps c.in-Some.line (taken b) c.args.walk.now c.take.new.self) c.if-branch.true c.in_ok-take-in-Some.ensures;
}

pub returns-else-branch : goal.returns-else-branch
returns-else-branch c = inr (record {
  line = c.in-Some.line;
  size = c.in-Some.size;
  next = subst (λ (o : Option (Line × ℕ)). NextIs c.args.rest.now o) c.in-Some.is c.in_ok-line.ensures;
  refused = subst (λ (b : Bool). Steps c.in-Some.line (taken b) c.args.walk.now c.take.new.self) c.if-branch.false c.in_ok-take-in-Some.ensures;
})
