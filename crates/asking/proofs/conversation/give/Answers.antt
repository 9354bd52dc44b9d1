use Rattle.std.proofs.Common.{rules}
use Rattle.asking.proofs.conversation.give.Goals as goal

pub asks-init : goal.asks-init
asks-init g c = record { opened = c.requires.opened; at = λ origin commands stream given at. (given, at); unfed = search rules; later = search rules }

pub asks-preserved : goal.asks-preserved
asks-preserved g c = record {
  opened = search rules;
  at = λ origin commands stream given at.
      let here = c.asks.invariant.at origin commands stream given at in
      (rw c.in-Ok-None.field-0-is at c.in-Ok-None.ensures.gives) origin commands stream here.0 here.1;
  unfed = search rules;
  later = search rules;
}

pub returns-in-Ok-Some-clause-gives : goal.returns-in-Ok-Some-clause-gives
returns-in-Ok-Some-clause-gives g c = λ origin commands stream given at.
    let here = c.asks.invariant.at origin commands stream given at in
    (rw c.in-Ok-Some.field-0-is at c.in-Ok-Some.ensures.gives) origin commands stream here.0 here.1

pub returns-in-Err-clause-gives : goal.returns-in-Err-clause-gives
returns-in-Err-clause-gives g c = λ origin commands stream given at.
    let here = c.asks.invariant.at origin commands stream given at in
    c.in-Err.ensures.gives origin commands stream here.0 here.1
